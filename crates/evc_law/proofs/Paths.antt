-- The four paths over a padded plane are the general filter over the padded reference picture: what a path reads through its clamped window, and that a direction
-- which the path does not filter has phase 0 at the clipped place. Assumes nothing.
use mathlib.Core.Bool.{Bool, true, false}
use mathlib.Core.List.{List}
use mathlib.Core.Path.{◌≡◌, refl, sym, ap, ap₂, subst, ◌∙◌}
use Prim.Native.Nat.{ℕ, ◌+◌, ◌-◌, ◌*◌, ◌/◌, ◌≤◌, ◌<◌}
use native.Mathlib.Omega.{arith}
use native.Mathlib.Nat.{add-mul}
use lib.Dec.{eqb, lit<}
use lib.IntN.{ℤ, pos, ◌+ℤ◌, ◌*ℤ◌}
use lib.ListN.{length, get_or}
use lib.Signed.{shr_z}
use borrow.Author.Tests.{eqb-true, not-false}
use Rattle.std.proofs.lemmas.Int.{ints}
use Rattle.evc_int.specs.Whole.{−◌, ◌modulo◌}
use Rattle.evc_int.proofs.Clipping.{clip3_one}
use Rattle.evc_int.proofs.Division.{split, split_only}
use Rattle.evc_int.proofs.Expressions.{ !, ◌⊕◌, ◌⊗◌, fact}
use Rattle.evc_def.specs.Blocks.{Allowed}
use Rattle.evc_def.specs.declared.EvcBlock.{EvcBlock}
use Rattle.evc_def.specs.declared.EvcMv.{EvcMv}
use Rattle.evc_def.specs.declared.QpelPlace.{QpelPlace}
use Rattle.evc_clip.specs.Clip.{margin, clip_component, clip_mv, clipped_place}
use Rattle.evc_clip.proofs.Laws.{last_place, clipped_place_lem}
use Rattle.evc_pad.specs.Padding.{padded, pad_code, pad_after}
use Rattle.evc_plane.specs.Planes.{side_of, pad_of, stride_of, reference_of}
use Rattle.evc_plane.specs.declared.PlaneType.{PlaneType}
use Rattle.evc_plane.specs.declared.PlaneType.TheVariants.{Y, UV}
use Rattle.evc_pad.proofs.Laws.{window_reads_reference, reference_small, accepts, after}
use Rattle.evc_filter.specs.Filter.{taps, lead, reach, tap_sum, along, single_stage, first_stage, second_stage, interpolated, row_stage, interpolated_twice}
use Rattle.evc_filter.proofs.Tables.{shape}
use Rattle.evc_interp.specs.Prediction.{phase_of, pel_of, is_filtered, start_of, window_of, sample_by, predicted}
use Rattle.evc_interp.proofs.Windows.{phase_small}
use Rattle.evc_law.specs.General.{tapped, general₁, general}
use Rattle.evc_law.proofs.Phases.{tap_sum-same, tapped_is, across_alone, down_alone, sample_alone}

-- ---- the phase of a clipped place

-- 16 is a whole number of samples, in luma and in chroma
pub aligned_phase : (k : PlaneType) (z q y : ℤ) → z ≡ pos 16 *ℤ q +ℤ y → phase_of k y ≡ 0 → phase_of k z ≡ 0
unfolding phase_of
aligned_phase Y z q y e h =
    let p = shr_z y 4 in
    let s = fact (! y) (! (pos 4) ⊗ ! p ⊕ ! (pos (y modulo 4))) (split 4 y (lit< tt)) in
    let f = fact (! z) (! (pos 16) ⊗ ! q ⊕ ! y) e in
    (split_only 4 z (pos 4 *ℤ q +ℤ p) 0 (lit< tt) (omega (arith, ints))).1
aligned_phase UV z q y e h =
    let p = shr_z y 8 in
    let s = fact (! y) (! (pos 8) ⊗ ! p ⊕ ! (pos (y modulo 8))) (split 8 y (lit< tt)) in
    let f = fact (! z) (! (pos 16) ⊗ ! q ⊕ ! y) e in
    (split_only 8 z (pos 2 *ℤ q +ℤ p) 0 (lit< tt) (omega (arith, ints))).1

-- A moved component's place is a multiple of 16; an unmoved one keeps the vector's phase, since the block's place is a multiple of 4. So a vector at phase 0
-- leaves the clipped place at phase 0.
module _ (k : PlaneType) (W x w : ℕ) (mv : ℤ) (ok : Allowed W x w) where
  clipped_phase : phase_of k mv ≡ 0 → phase_of k (pos 4 *ℤ pos x +ℤ clip_component W x w mv) ≡ 0
  unfolding phase_of
  clipped_phase h =
      let zero_phase : phase_of k (pos 0) ≡ 0 = none k in
      let q = (W + margin - w) / 4 in
      subst (λ (z : ℤ). phase_of k z ≡ 0) (sym (clipped_place_lem W x w mv (omega arith)))
      (clip3_one (− 256) (last_place W w) (pos 4 *ℤ pos x +ℤ mv) (λ (z : ℤ). phase_of k z ≡ 0)
      (aligned_phase k (− 256) (− 16) (pos 0) refl zero_phase)
      (aligned_phase k (last_place W w) (pos q) (pos 0) (omega (arith, ints)) zero_phase)
      (aligned_phase k (pos 4 *ℤ pos x +ℤ mv) (pos (x / 4)) mv (omega (arith, ints)) h))
    where
      none : (k : PlaneType) → phase_of k (pos 0) ≡ 0
      none Y = refl
      none UV = refl

  pub unfiltered_phase : is_filtered k mv ≡ false → phase_of k (pos 4 *ℤ pos x +ℤ clip_component W x w mv) ≡ 0
  unfolding is_filtered
  unfiltered_phase e = clipped_phase (eqb-true (phase_of k mv) 0 (not-false (eqb (phase_of k mv) 0) e))

-- ---- what a path reads: the plane is the one that padding made of q, its window starts at the place gmv

-- a block's columns or rows, with what the filter reaches further on, are fewer than the border's
pub within_pad : (k : PlaneType) (n x : ℕ) → n ≤ 64 → x < side_of k n + reach k → x < pad_of k
within_pad Y n x a b = omega arith
within_pad UV n x a b = omega arith

-- a filtered direction starts `lead` before the place; the other at the place
start_filtered : (k : PlaneType) (z : ℤ) (c t : ℕ) → pel_of k z +ℤ pos c +ℤ − lead k +ℤ pos t ≡ start_of k true z +ℤ pos (c + t)
unfolding start_of
start_filtered k z c t =
    let p = pel_of k z in
    omega (arith, ints)

start_whole : (k : PlaneType) (z : ℤ) (c : ℕ) → pel_of k z +ℤ pos c ≡ start_of k false z +ℤ pos c
unfolding start_of
start_whole k z c = omega (arith, ints)

-- a phase's taps are as many as the filter reaches
tap_within : (k : PlaneType) (z : ℤ) (t : ℕ) → t < length (taps k (phase_of k z)) → t ≤ reach k
tap_within k z t l = omega (arith, (shape k (phase_of k z) (phase_small k z (phase_of k z) refl)).count)

module _ (k : PlaneType) (W H : ℕ) (q : List ℕ) (done : pad_code k W H q ≡ 0) (gmv : QpelPlace) where
  pub window_reads : (a b : Bool) (i j : ℤ) (c r n : ℕ) → n ≡ window_of k W H a b gmv + r * stride_of k W + c → i ≡ start_of k a gmv.x.0 +ℤ pos c → j ≡ start_of k b gmv.y.0 +ℤ pos r → c < pad_of k → r < pad_of k
      → get_or (padded k W H q) n 0 ≡ reference_of k W H q i j
  unfolding window_of
  window_reads a b i j c r n en ei ej lc lr =
      let o = accepts k W H q done in
      ap (λ (n : ℕ). get_or (padded k W H q) n 0) en
      ∙ window_reads_reference k W H o.0 q o.1 (start_of k a gmv.x.0) (start_of k b gmv.y.0) c r lc lr
      ∙ ap₂ (reference_of k W H q) (sym ei) (sym ej)

  module _ (x y : ℕ) (lx : (t : ℕ) → t ≤ reach k → x + t < pad_of k) (ly : (t : ℕ) → t ≤ reach k → y + t < pad_of k) where
    column_in : x < pad_of k
    column_in = omega (arith, lx 0 (omega arith))

    row_in : y < pad_of k
    row_in = omega (arith, ly 0 (omega arith))

    -- the taps across, over row r of the window, and the taps down, over column x
    row_reads : (b : Bool) (j : ℤ) (r n : ℕ) → n ≡ window_of k W H true b gmv + r * stride_of k W + x → j ≡ start_of k b gmv.y.0 +ℤ pos r → r < pad_of k
        → tap_sum (taps k (phase_of k gmv.x.0)) (along (padded k W H q) n 1) ≡ tapped k (λ (i : ℤ). pos (reference_of k W H q i j)) gmv.x.0 x
    row_reads b j r n en ej lr =
        tap_sum-same (taps k (phase_of k gmv.x.0)) _ _
        (λ t lt. ap pos (window_reads true b _ j (x + t) r (n + t * 1) (omega arith) (start_filtered k gmv.x.0 x t) ej (lx t (tap_within k gmv.x.0 t lt)) lr))
        ∙ sym (tapped_is k (λ (i : ℤ). pos (reference_of k W H q i j)) gmv.x.0 x)

    column_reads : (i : ℤ) → i ≡ start_of k false gmv.x.0 +ℤ pos x
        → tap_sum (taps k (phase_of k gmv.y.0)) (along (padded k W H q) (window_of k W H false true gmv + y * stride_of k W + x) (stride_of k W)) ≡ tapped k (λ (j : ℤ). pos (reference_of k W H q i j)) gmv.y.0 y
    column_reads i ei =
        tap_sum-same (taps k (phase_of k gmv.y.0)) _ _
        (λ t lt. ap pos (window_reads false true i _ x (y + t) _ (omega (arith, add-mul y t (stride_of k W))) ei (start_filtered k gmv.y.0 y t) column_in (ly t (tap_within k gmv.y.0 t lt))))
        ∙ sym (tapped_is k (λ (j : ℤ). pos (reference_of k W H q i j)) gmv.y.0 y)

    -- both: the taps down over the rows' results
    rows_read : interpolated_twice k (phase_of k gmv.x.0) (phase_of k gmv.y.0) (padded k W H q) (window_of k W H true true gmv + y * stride_of k W + x) (stride_of k W) ≡ general k (reference_of k W H q) gmv.x.0 gmv.y.0 x y
    unfolding interpolated_twice row_stage general general₁
    rows_read =
        ap second_stage
        (tap_sum-same (taps k (phase_of k gmv.y.0)) _ _
        (λ t lt. ap first_stage (row_reads true _ (y + t) _ (omega (arith, add-mul y t (stride_of k W))) (start_filtered k gmv.y.0 y t) (ly t (tap_within k gmv.y.0 t lt))))
        ∙ sym (tapped_is k (general₁ k (reference_of k W H q) gmv.x.0 x) gmv.y.0 y))

    -- a path that leaves a direction unfiltered only at phase 0
    by_path : (a b : Bool) → (a ≡ false → phase_of k gmv.x.0 ≡ 0) → (b ≡ false → phase_of k gmv.y.0 ≡ 0)
        → sample_by k a b (phase_of k gmv.x.0) (phase_of k gmv.y.0) (padded k W H q) (window_of k W H a b gmv + y * stride_of k W + x) (stride_of k W) ≡ general k (reference_of k W H q) gmv.x.0 gmv.y.0 x y
    unfolding sample_by interpolated
    by_path false false px py =
        window_reads false false _ _ x y _ refl (start_whole k gmv.x.0 x) (start_whole k gmv.y.0 y) column_in row_in
        ∙ sym (sample_alone k (reference_of k W H q) gmv.x.0 gmv.y.0 x y (px refl) (py refl) (reference_small k W H q done _ _))
    by_path true false px py =
        ap single_stage (row_reads false (pel_of k gmv.y.0 +ℤ pos y) y _ refl (start_whole k gmv.y.0 y) row_in)
        ∙ sym (across_alone k (reference_of k W H q) gmv.x.0 gmv.y.0 x y (py refl))
    by_path false true px py =
        ap single_stage (column_reads (pel_of k gmv.x.0 +ℤ pos x) (start_whole k gmv.x.0 x))
        ∙ sym (down_alone k (reference_of k W H q) gmv.x.0 gmv.y.0 x y (px refl))
    by_path true true px py = rows_read

-- ---- the four paths

module _ (k : PlaneType) (b : EvcBlock) (across : Allowed b.pic_w b.x b.w) (down : Allowed b.pic_h b.y b.h) (mv : EvcMv) where
  pub paths : (s q : List ℕ) → pad_code k b.pic_w b.pic_h q ≡ 0 → s ≡ pad_after k b.pic_w b.pic_h q → (x y : ℕ) → x < side_of k b.w → y < side_of k b.h
      → predicted k b.pic_w b.pic_h mv (clipped_place b mv) s y x ≡ general k (reference_of k b.pic_w b.pic_h q) (clipped_place b mv).x.0 (clipped_place b mv).y.0 x y
  unfolding predicted clipped_place clip_mv
  paths s q done made x y lx ly =
      let W = b.pic_w in
      let H = b.pic_h in
      ap (λ (s : List ℕ). predicted k W H mv (clipped_place b mv) s y x) (made ∙ after k W H q done)
      ∙ by_path k W H q done (clipped_place b mv) x y (λ t l. within_pad k b.w (x + t) across.side_high (omega arith)) (λ t l. within_pad k b.h (y + t) down.side_high (omega arith))
      (is_filtered k mv.x) (is_filtered k mv.y) (unfiltered_phase k W b.x b.w mv.x across) (unfiltered_phase k H b.y b.h mv.y down)
