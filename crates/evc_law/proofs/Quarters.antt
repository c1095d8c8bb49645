-- A block's quarters: the checks accept them, and the general filter at a place moved by whole samples is the filter as many samples further on. Assumes nothing.
use mathlib.Core.Bool.{Bool, true, false, not, cond, ◌&&◌}
use mathlib.Core.Path.{◌≡◌, refl, sym, ap, ap₂, ◌∙◌}
use Prim.Native.Nat.{ℕ, ◌+◌, ◌*◌, ◌/◌, ◌%◌, ◌≤◌}
use native.Mathlib.Omega.{arith}
use lib.Dec.{T}
use lib.IntN.{ℤ, pos, ◌+ℤ◌, ◌*ℤ◌}
use Rattle.std.proofs.lemmas.Int.{ints}
use Rattle.evc_int.specs.Whole.{−◌}
use Rattle.evc_int.proofs.Division.{split, split_only, modulo_lt}
use Rattle.evc_int.proofs.Expressions.{ !, ◌⊕◌, ◌⊗◌, solve, fact}
use Rattle.evc_def.specs.Blocks.{is_block_side, bad_block}
use Rattle.evc_def.specs.Codes.{first_of, block_checks}
use Rattle.evc_def.specs.declared.EvcBlock.{EvcBlock}
use Rattle.evc_def.proofs.Blocks.{by_sides, block_is, allowed_block, inside_is}
use Rattle.evc_def.proofs.Codes.{accepted, passed, none}
use Rattle.evc_plane.specs.declared.PlaneType.{PlaneType}
use Rattle.evc_plane.specs.declared.PlaneType.TheVariants.{Y, UV}
use Rattle.evc_plane.specs.Planes.{side_of}
use Rattle.evc_filter.specs.Filter.{taps, phases, lead, tap_sum, first_stage, second_stage}
use Rattle.evc_interp.specs.Prediction.{phase_of, pel_of}
use Rattle.evc_interp.proofs.Windows.{some_phase}
use Rattle.evc_mc.specs.declared.EvcList.{EvcList}
use Rattle.evc_mc.specs.Block.{Component, type_of, width_of, height_of}
use Rattle.evc_law.specs.General.{tapped, general₁, general}
use Rattle.evc_law.specs.Demand3.{Picture}
use Rattle.evc_law.specs.Invisible.{quarter_of, exact_list}
use Rattle.evc_law.proofs.Phases.{tap_sum-same, tapped_is, tapped_same}

-- ---- the checks accept a quarter

-- a side of 8 and up, halved
half_side : (n : ℕ) → T (is_block_side n) → 8 ≤ n → (is_block_side (n / 2) ≡ true) × (n % 8 ≡ 0)
half_side = by_sides (λ (n : ℕ). 8 ≤ n → (is_block_side (n / 2) ≡ true) × (n % 8 ≡ 0)) (λ h. absurd (omega arith)) (λ h. (refl, refl)) (λ h. (refl, refl)) (λ h. (refl, refl)) (λ h. (refl, refl))

-- where a half begins
half_place : (far : Bool) (side : ℕ) → side % 8 ≡ 0 → (cond far (side / 2) 0 ≤ side / 2) × (cond far (side / 2) 0 % 4 ≡ 0)
half_place true side e = (omega arith, omega arith)
half_place false side e = (omega arith, omega arith)

pub quarter_accepted : (b : EvcBlock) (right lower : Bool) → first_of (block_checks b) ≡ 0 → 8 ≤ b.w → 8 ≤ b.h → first_of (block_checks (quarter_of b right lower)) ≡ 0
unfolding bad_block
quarter_accepted b right lower e hw hh =
    let o = allowed_block b e in
    let f = accepted 1 _ _ (omega arith) e in
    let g = accepted 2 _ _ (omega arith) f.1 in
    let s = block_is b g.0 in
    let q = quarter_of b right lower in
    let w = half_side b.w s.0 hw in
    let h = half_side b.h s.1 hh in
    let across = inside_is q.pic_w q.x q.w (omega (arith, half_place right b.w w.1)) (omega (arith, half_place right b.w w.1)) in
    let down = inside_is q.pic_h q.y q.h (omega (arith, half_place lower b.h h.1)) (omega (arith, half_place lower b.h h.1)) in
    passed 1 _ _ f.0 ∙ passed 2 _ _ (all _ _ _ _ w.0 h.0 across down) ∙ none
  where
    all : (w h x y : Bool) → w ≡ true → h ≡ true → x ≡ true → y ≡ true → not (w && h && x && y) ≡ false
    all w h x y p q r s = rw (p, q, r, s) refl

-- ---- a place moved by whole samples

module _ (k : PlaneType) where
  shift : (p p' : ℤ) (d : ℕ) → p' ≡ p +ℤ pos (phases k * d) → (pel_of k p' ≡ pel_of k p +ℤ pos d) × (phase_of k p' ≡ phase_of k p)
  unfolding phase_of pel_of
  shift p p' d e =
      let m = phases k in
      let q = pel_of k p in
      let r = phase_of k p in
      let a = fact (! p) (! (pos m) ⊗ ! q ⊕ ! (pos r)) (split m p (some_phase k)) in
      let g = fact (! p') (! p ⊕ ! (pos (m * d))) e in
      split_only m p' (q +ℤ pos d) r (modulo_lt m p (some_phase k)) (solve (! p') (! (pos m) ⊗ (! q ⊕ ! (pos d)) ⊕ ! (pos r)) (omega arith))

  tapped_shift : (f : ℤ → ℤ) (p p' : ℤ) (d c : ℕ) → p' ≡ p +ℤ pos (phases k * d) → tapped k f p' c ≡ tapped k f p (d + c)
  tapped_shift f p p' d c e =
      let q = pel_of k p in
      let r = phase_of k p in
      let o = shift p p' d e in
      tapped_is k f p' c
      ∙ ap₂ (λ (n : ℕ) (z : ℤ). tap_sum (taps k n) (λ (t : ℕ). f (z +ℤ pos c +ℤ − lead k +ℤ pos t))) o.1 o.0
      ∙ tap_sum-same (taps k r) _ _
      (λ t l. ap f (omega (arith, ints)))
      ∙ sym (tapped_is k f p (d + c))

  general_shift : (s : ℤ → ℤ → ℕ) (px px' py py' : ℤ) (d e c r : ℕ) → px' ≡ px +ℤ pos (phases k * d) → py' ≡ py +ℤ pos (phases k * e) → general k s px' py' c r ≡ general k s px py (d + c) (e + r)
  unfolding general general₁
  general_shift s px px' py py' d e c r h g =
      ap second_stage
      (tapped_same k _ (general₁ k s px (d + c)) (λ j. ap first_stage (tapped_shift (λ (i : ℤ). pos (s i j)) px px' d c h)) py' r
      ∙ tapped_shift (general₁ k s px (d + c)) py py' e r g)

-- ---- a quarter's exact place: the block's, and in the right or the lower half as much further on as the half is long

-- a quarter's offset in a plane
abbrev offset : PlaneType → ℕ → Bool → ℕ
offset k side far = cond far (side_of k (side / 2)) 0

offset_phases : (k : PlaneType) (side : ℕ) (far : Bool) → side % 4 ≡ 0 → phases k * offset k side far ≡ 4 * cond far (side / 2) 0
offset_phases Y side far e = refl
offset_phases UV side true e = omega arith
offset_phases UV side false e = refl

quarter_place : (k : PlaneType) (x w : ℕ) (far : Bool) (mv : ℤ) → w % 4 ≡ 0 → pos 4 *ℤ pos (x + cond far (w / 2) 0) +ℤ mv ≡ pos 4 *ℤ pos x +ℤ mv +ℤ pos (phases k * offset k w far)
quarter_place k x w far mv e =
    omega (arith, ints, offset_phases k w far e)

-- a list's samples of a quarter at the exact place are those of the block
pub quarter_list : (b : EvcBlock) (right lower : Bool) → b.w % 4 ≡ 0 → b.h % 4 ≡ 0 → (l : EvcList) (p : Picture) (c : Component) (x y : ℕ)
    → let q = quarter_of b right lower in exact_list q l p c x y ≡ exact_list b l p c (cond right (width_of q c) 0 + x) (cond lower (height_of q c) 0 + y)
quarter_list b right lower w h l p c x y =
    let k = type_of c in
    general_shift k _ _ _ _ _ (offset k b.w right) (offset k b.h lower) x y (quarter_place k b.x b.w right l.mv.x w) (quarter_place k b.y b.h lower l.mv.y h)

-- the sides of a block are twice a quarter's, in each plane
pub twice_half : (k : PlaneType) (n : ℕ) → n % 4 ≡ 0 → side_of k n ≡ 2 * side_of k (n / 2)
twice_half Y n e = omega arith
twice_half UV n e = omega arith
