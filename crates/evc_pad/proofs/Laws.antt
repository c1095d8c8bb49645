-- Laws of the padded plane, for every accepted picture, both types and every buffer that is long enough: what stands at each place, and that it is
-- the padded reference picture, also through a clamped window; twice is once; equal pictures give equal planes; mirrors. Assumes nothing.
use mathlib.Core.Bool.{Bool, true, false, ◌&&◌, ◌||◌, and-false}
use mathlib.Core.List.{List, [], ◌∷◌}
use mathlib.Core.Path.{◌≡◌, refl, sym, ap, ap₂, ◌∙◌}
use Prim.Native.Nat.{ℕ, ◌+◌, ◌-◌, ◌*◌, ◌≤◌, ◌<◌, min}
use native.Mathlib.Omega.{arith}
use native.Mathlib.Nat.{le_refl}
use lib.IntN.{ℤ, pos, ◌+ℤ◌}
use lib.Dec.{T, eqb, ltb, ltb→lt}
use lib.ListN.{length, get_or}
use mir.Facts.{and_yes}
use borrow.Author.Tests.{ltb-false, le-ltb}
use Rattle.evc_int.specs.Whole.{◌⁺}
use Rattle.evc_int.proofs.Lists.{length-with_block, with_block-in, with_block-past}
use Rattle.evc_def.specs.Blocks.{bad_picture}
use Rattle.evc_def.specs.Codes.{Check, ◌when◌, first_of}
use Rattle.evc_def.proofs.Codes.{refuses}
use Rattle.std.proofs.lemmas.Bool.{or_parts}
use Rattle.evc_plane.specs.declared.PlaneType.{PlaneType}
use Rattle.evc_plane.specs.Planes.{side_of, pad_of, origin_of, stride_of, rows_of, plane_len, config_of, picture_start, stored_at, sample_at, reference, reference_of, start_at, window_start}
use Rattle.evc_plane.proofs.Reference.{reference_stored, reference_left_right, reference_top_bottom}
use Rattle.evc_plane.proofs.Sizes.{Sizes, sizes}
use Rattle.evc_plane.proofs.Starts.{start_column, window_within}
use Rattle.evc_samples.specs.Samples.{exceeds}
use Rattle.evc_samples.proofs.Samples.{exceeds_none, none_exceeds}
use Rattle.evc_pad.specs.Padding.{padded_at, padded, pad_code, pad_after}
use Rattle.evc_pad.proofs.Rows.{rows_ext}

-- the position (i, j), counted from the picture's first sample, is stored in column x of row y
pub record Stored (t : PlaneType) (W H : ℕ) (i j : ℤ) (x y : ℕ) : Type 0 where
  pub column : i +ℤ pos (origin_of t) ≡ pos x
  pub row : j +ℤ pos (pad_of t) ≡ pos y
  pub column_in : x < stride_of t W
  pub row_in : y < rows_of t H

-- the picture in u is the one in s, or its mirror
abbrev pub SamePicture : PlaneType → ℕ → ℕ → List ℕ → List ℕ → Type 0
SamePicture t W H s u = (i j : ℕ) → i < side_of t W → j < side_of t H → sample_at t W u i j ≡ sample_at t W s i j

abbrev pub LeftRight : PlaneType → ℕ → ℕ → List ℕ → List ℕ → Type 0
LeftRight t W H s u = (i i' j : ℕ) → i + i' + 1 ≡ side_of t W → j < side_of t H → sample_at t W u i j ≡ sample_at t W s i' j

abbrev pub TopBottom : PlaneType → ℕ → ℕ → List ℕ → List ℕ → Type 0
TopBottom t W H s u = (i j j' : ℕ) → i < side_of t W → j + j' + 1 ≡ side_of t H → sample_at t W u i j ≡ sample_at t W s i j'

module _ (t : PlaneType) (W H : ℕ) (good : bad_picture W H ≡ false) where
  known : Sizes (config_of t W H)
  known = sizes t W H good

  module _ (s : List ℕ) (long : plane_len t W H ≤ length s) where
    pub padded_length : length (padded t W H s) ≡ length s
    unfolding padded
    padded_length = length-with_block s 0 (stride_of t W) (stride_of t W) (rows_of t H) (padded_at t W H s)

    pub padded_stored : (x y : ℕ) → x < stride_of t W → y < rows_of t H → stored_at t W (padded t W H s) x y ≡ padded_at t W H s y x
    unfolding padded
    padded_stored x y lx ly =
        let S = stride_of t W in
        let e : y * S + x ≡ 0 + y * S + x = omega arith in
        ap (λ (i : ℕ). get_or (padded t W H s) i 0) e ∙ with_block-in 0 s 0 S S (rows_of t H) (padded_at t W H s) y x ly lx (le_refl S) (omega arith)

    -- "the excess is neither examined nor changed"
    pub padded_past : (i : ℕ) → plane_len t W H ≤ i → get_or (padded t W H s) i 0 ≡ get_or s i 0
    unfolding padded
    padded_past i b = with_block-past 0 s 0 (stride_of t W) (stride_of t W) (rows_of t H) (padded_at t W H s) i (le_refl (stride_of t W)) (omega arith)

    -- the picture stays
    pub picture_kept : SamePicture t W H s (padded t W H s)
    unfolding config_of
    picture_kept i j li lj =
        let z = known in
        let a : min (origin_of t + i - origin_of t) (side_of t W - 1) ≡ i = omega arith in
        let b : min (pad_of t + j - pad_of t) (side_of t H - 1) ≡ j = omega arith in
        padded_stored (origin_of t + i) (pad_of t + j) (omega arith) (omega arith) ∙ ap₂ (sample_at t W s) a b

    -- the bridge to demand 3: what is stored for a position, from the first column and row of the buffer to the last, is the padded reference
    -- picture's sample there
    pub reads_reference : (i j : ℤ) (x y : ℕ) → Stored t W H i j x y → stored_at t W (padded t W H s) x y ≡ reference_of t W H s i j
    reads_reference i j x y at =
        padded_stored x y at.column_in at.row_in
        ∙ sym (reference_stored (sample_at t W s) (side_of t W) (side_of t H) (origin_of t) (pad_of t) x y i j at.column at.row)

    -- the same for column c and row r of a clamped window: it reads what stands at the start before it was clamped
    pub window_reads_reference : (zx zy : ℤ) (c r : ℕ) → c < pad_of t → r < pad_of t → get_or (padded t W H s) (window_start t W H zx zy + r * stride_of t W + c) 0 ≡ reference_of t W H s (zx +ℤ pos c) (zy +ℤ pos r)
    unfolding config_of reference window_start
    window_reads_reference zx zy c r lc lr =
        let z = known in
        let w = window_within t W H good zx zy c r lc lr in
        let x = start_at (origin_of t) (side_of t W) zx in
        let y = start_at (pad_of t) (side_of t H) zy in
        let e : y * stride_of t W + x + r * stride_of t W + c ≡ (y + r) * stride_of t W + (x + c) = omega arith in
        ap (λ (i : ℕ). get_or (padded t W H s) i 0) e ∙ padded_stored (x + c) (y + r) w.0 w.1
        ∙ ap₂ (sample_at t W s) (start_column (origin_of t) (side_of t W) zx c (omega arith)) (start_column (pad_of t) (side_of t H) zy r (omega arith))

  module _ (s u : List ℕ) (long : plane_len t W H ≤ length u) where
    -- two planes that agree in the picture agree everywhere in the stored rows after it
    pub agree : plane_len t W H ≤ length s → SamePicture t W H s u → (x y : ℕ) → x < stride_of t W → y < rows_of t H → stored_at t W (padded t W H u) x y ≡ stored_at t W (padded t W H s) x y
    unfolding config_of
    agree a h x y lx ly =
        let z = known in
        padded_stored u long x y lx ly
        ∙ h (min (x - origin_of t) (side_of t W - 1)) (min (y - pad_of t) (side_of t H - 1)) (omega arith) (omega arith)
        ∙ sym (padded_stored s a x y lx ly)

    -- the mirror of a picture, padded, reads as the mirrored padded reference picture
    pub mirrored_left_right : LeftRight t W H s u → (i i' j : ℤ) (x y : ℕ) → i +ℤ i' +ℤ pos 1 ≡ pos (side_of t W) → Stored t W H i j x y → stored_at t W (padded t W H u) x y ≡ reference_of t W H s i' j
    unfolding config_of
    mirrored_left_right h i i' j x y m at =
        let z = known in
        reads_reference u long i j x y at
        ∙ reference_left_right (sample_at t W s) (side_of t W) (side_of t H) (sample_at t W u) (omega arith) (omega arith) h i i' j m

    pub mirrored_top_bottom : TopBottom t W H s u → (i j j' : ℤ) (x y : ℕ) → j +ℤ j' +ℤ pos 1 ≡ pos (side_of t H) → Stored t W H i j x y → stored_at t W (padded t W H u) x y ≡ reference_of t W H s i j'
    unfolding config_of
    mirrored_top_bottom h i j j' x y m at =
        let z = known in
        reads_reference u long i j x y at
        ∙ reference_top_bottom (sample_at t W s) (side_of t W) (side_of t H) (sample_at t W u) (omega arith) (omega arith) h i j j' m

  -- padding twice is padding once
  pub padded_twice : (s : List ℕ) → plane_len t W H ≤ length s → padded t W H (padded t W H s) ≡ padded t W H s
  padded_twice s a =
      let p = padded t W H s in
      let b : plane_len t W H ≤ length p = omega (arith, padded_length s a) in
      rows_ext (stride_of t W) (rows_of t H) (padded t W H p) p (padded_length p b) (λ y x ly lx. agree s p b a (picture_kept s a) x y lx ly) (λ i l. padded_past p b i (omega arith))

-- ---- the call

-- no check gives 0
abbrev positive : List Check → Bool
positive [] = true
positive (n when b ∷ checks) = ltb 0 n && positive checks

-- a call that gives 0 passed every check, whatever their order
passes : (k : ℕ) (checks : List Check) → T (positive checks) → first_of checks ≡ 0 → refuses k checks ≡ false
unfolding first_of
passes k [] p e = refl
passes k (n when true ∷ checks) p e = let l = ltb→lt 0 n (and_yes (ltb 0 n) (positive checks) p).0 in absurd (omega arith)
passes k (n when false ∷ checks) p e = ap₂ (λ (a b : Bool). a || b) (and-false (eqb k n)) (passes k checks (and_yes (ltb 0 n) (positive checks) p).1 e)

pub after : (t : PlaneType) (W H : ℕ) (s : List ℕ) → pad_code t W H s ≡ 0 → pad_after t W H s ≡ padded t W H s
unfolding pad_after
after t W H s done = rw done

module _ (t : PlaneType) (W H : ℕ) (s : List ℕ) (done : pad_code t W H s ≡ 0) where
  -- what an accepted call knows
  pub accepts : (bad_picture W H ≡ false) × (plane_len t W H ≤ length s) × (exceeds s (picture_start t W) (stride_of t W) (side_of t W) (side_of t H) ≡ false)
  unfolding pad_code
  accepts = (
    (or_parts (bad_picture W H) false (passes 1 _ tt done)).0,
    ltb-false (length s) (plane_len t W H) (or_parts (ltb (length s) (plane_len t W H)) false (passes 4 _ tt done)).0,
    (or_parts (exceeds s (picture_start t W) (stride_of t W) (side_of t W) (side_of t H)) false (passes 6 _ tt done)).0,
  )

  -- no sample of its picture is above 1023
  pub picture_small : (i j : ℕ) → i < side_of t W → j < side_of t H → sample_at t W s i j ≤ 1023
  picture_small i j li lj =
      let S = stride_of t W in
      let e : pad_of t * S + origin_of t + j * S + i ≡ (pad_of t + j) * S + (origin_of t + i) = omega arith in
      rw (sym e) (exceeds_none s (picture_start t W) S (side_of t W) (side_of t H) accepts.2 j i lj li)

  -- so neither is a stored sample, and no window of the padded plane is refused with 6
  pub stored_small : (x y : ℕ) → x < stride_of t W → y < rows_of t H → stored_at t W (padded t W H s) x y ≤ 1023
  unfolding config_of
  stored_small x y lx ly =
      let a = accepts in
      let z = sizes t W H a.0 in
      omega (arith, padded_stored t W H a.0 s a.1 x y lx ly, picture_small (min (x - origin_of t) (side_of t W - 1)) (min (y - pad_of t) (side_of t H - 1)) (omega arith) (omega arith))

  -- nor a sample of the padded reference picture
  pub reference_small : (i j : ℤ) → reference_of t W H s i j ≤ 1023
  unfolding config_of reference
  reference_small i j =
      let z = sizes t W H accepts.0 in
      picture_small (min (i ⁺) (side_of t W - 1)) (min (j ⁺) (side_of t H - 1)) (omega arith) (omega arith)

  -- another picture of these sides is accepted where its buffer is long enough and its samples are small
  module _ (u : List ℕ) (long : plane_len t W H ≤ length u) where
    small_accepted : ((i j : ℕ) → i < side_of t W → j < side_of t H → sample_at t W u i j ≤ 1023) → pad_code t W H u ≡ 0
    unfolding pad_code first_of
    small_accepted h =
        let S = stride_of t W in
        let small = none_exceeds u (picture_start t W) S (side_of t W) (side_of t H) (λ y x ly lx.
        let e : (pad_of t + y) * S + (origin_of t + x) ≡ pad_of t * S + origin_of t + y * S + x = omega arith in
        rw (sym e) (h x y lx ly)) in
        simp (accepts.0, le-ltb (length u) (plane_len t W H) long, small)

    -- the mirror of the picture
    pub mirrored_accepted : (LeftRight t W H s u → pad_code t W H u ≡ 0) × (TopBottom t W H s u → pad_code t W H u ≡ 0)
    mirrored_accepted = (
      (λ m. small_accepted (λ i j li lj. rw (m i (side_of t W - 1 - i) j (omega arith) lj) (picture_small (side_of t W - 1 - i) j (omega arith) lj))),
      (λ m. small_accepted (λ i j li lj. rw (m i j (side_of t H - 1 - j) li (omega arith)) (picture_small i (side_of t H - 1 - j) li (omega arith)))),
    )

  again : pad_code t W H (padded t W H s) ≡ 0
  again =
      let a = accepts in
      small_accepted (padded t W H s) (omega (arith, a.1, padded_length t W H a.0 s a.1))
      (λ i j li lj. rw (picture_kept t W H a.0 s a.1 i j li lj) (picture_small i j li lj))

  -- a plane that was padded is accepted again, and stays as it is
  pub pad_twice : (pad_code t W H (pad_after t W H s) ≡ 0) × (pad_after t W H (pad_after t W H s) ≡ pad_after t W H s)
  pad_twice =
      rw (after t W H s done)
      (again, after t W H (padded t W H s) again ∙ padded_twice t W H accepts.0 s accepts.1)
