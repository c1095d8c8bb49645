-- What candidates are taken from with the flags of a slice. Assumes nothing.
use mathlib.Core.Bool.{Bool, true, false, cond, ◌&&◌, ◌||◌}
use mathlib.Core.List.{List}
use mathlib.Core.Logic.{⊎_elim}
use mathlib.Core.Path.{◌≡◌, refl, sym, ap, subst, ◌∙◌}
use Prim.Native.Nat.{ℕ, suc, ◌+◌, ◌-◌, ◌*◌, ◌<◌, ◌≤◌}
use Rattle.std.proofs.Common.{suc-mul}
use native.Mathlib.Omega.{arith}
use borrow.Author.Tests.{eqb-true}
use lib.Dec.{T, eqb}
use lib.IntN.{ℤ}
use lib.ListN.{length}
use Rattle.std.proofs.lemmas.Bool.{and_parts, or_cases}
use Rattle.evc_def.specs.Blocks.{Allowed}
use Rattle.evc_def.specs.Codes.{first_of}
use Rattle.evc_def.specs.Tables.{is_bit}
use Rattle.evc_def.specs.declared.EvcBlock.{EvcBlock}
use Rattle.evc_def.proofs.Codes.{both_accepted}
use Rattle.evc_map.specs.Maps.{units_of, word_at, mv_at, w_scu, y_scu, scup, scuw}
use Rattle.evc_avail.specs.Around.{left_of, first_column, right_of, above, first_row, has_unit, index_of, word_of}
use Rattle.evc_avail.specs.Flags.{is_inter_in, is_not_intra_in, avail_of, avail_checks}
use Rattle.evc_avail.specs.Slices.{of_slice, slice_checks, get_avail_inter_slice}
use Rattle.evc_avail.proofs.Around.{InPicture, in_picture, has_not, unit_below, first_row_lem, no_row}
use Rattle.evc_avail.proofs.Answers.{covers}
use Rattle.evc_motion.specs.Candidates.{flag_outside, candidates, get_motion}
use Rattle.evc_motion.specs.declared.EvcCandidates.{EvcCandidates}
use Rattle.evc_motion.proofs.Laws.{candidates_local}
use Rattle.evc_avail_law.specs.SliceLaws.{Inside, WithinSlice}
use Rattle.evc_avail_law.proofs.Bits.{flags_read}

module _ (counts : ℕ → Bool) (b : EvcBlock) (words : List ℕ) where
  -- ---- a unit outside is not found

  no_inter : (column row : ℕ) → has_unit b column row ≡ false → is_inter_in counts b words column row ≡ false
  unfolding is_inter_in
  no_inter column row e = rw e

  no_not_intra : (column row : ℕ) → has_unit b column row ≡ false → is_not_intra_in counts b words column row ≡ false
  unfolding is_not_intra_in
  no_not_intra column row e = rw e

  -- ---- a unit that is found counts

  abbrev Found : ℕ → Type 0
  Found index = (index < units_of b.pic_w b.pic_h) × (counts (word_at words index) ≡ true)

  found : (column row index : ℕ) → (has_unit b column row && counts (word_of b words column row)) ≡ true → (InPicture b column row → index_of b column row ≡ index) → Found index
  found column row index e f =
      let h = and_parts _ _ e in
      subst Found (f (in_picture b column row h.0)) (unit_below b column row h.0, h.1)

  found_inter : (column row index : ℕ) → is_inter_in counts b words column row ≡ true → (InPicture b column row → index_of b column row ≡ index) → Found index
  unfolding is_inter_in
  found_inter column row index e = found column row index (and_parts _ _ (and_parts _ _ e).0).0

  found_not_intra : (column row index : ℕ) → is_not_intra_in counts b words column row ≡ true → (InPicture b column row → index_of b column row ≡ index) → Found index
  unfolding is_not_intra_in
  found_not_intra column row index e = found column row index (and_parts _ _ e).0

  -- ---- the three units that candidates are taken from

  above_row : 1 ≤ above b → (above b - 1) * w_scu b + w_scu b ≡ y_scu b * w_scu b
  above_row l = let e : suc (y_scu b - 1) ≡ y_scu b = omega arith in sym (suc-mul (y_scu b - 1) (w_scu b)) ∙ ap (λ (n : ℕ). n * w_scu b) e

  left_found : is_inter_in counts b words (left_of b) (first_row b) ≡ true → Found (scup b - 1)
  left_found e = found_inter _ _ _ e (λ i. let l = i.left in omega (arith, first_row_lem b))

  up_found : is_not_intra_in counts b words (first_column b) (above b) ≡ true → Found (scup b - w_scu b)
  up_found e = found_not_intra _ _ _ e (λ i. omega (arith, above_row i.top))

  up_right_found : is_inter_in counts b words (right_of b) (above b) ≡ true → Found (scup b - w_scu b + scuw b)
  up_right_found e = found_inter _ _ _ e (λ i. omega (arith, above_row i.top))

module _ (counts : ℕ → Bool) (b : EvcBlock) (words : List ℕ) (p : Allowed b.pic_w b.x b.w) (q : Allowed b.pic_h b.y b.h) where
  -- ---- none of them lies outside

  left_inside : eqb b.x 0 ≡ true → is_inter_in counts b words (left_of b) (first_row b) ≡ false
  left_inside z = no_inter counts b words (left_of b) (first_row b) (has_not b (left_of b) (first_row b) (λ i. let l = i.left in let e = eqb-true b.x 0 z in omega arith))

  up_inside : eqb b.y 0 ≡ true → is_not_intra_in counts b words (first_column b) (above b) ≡ false
  up_inside z = no_not_intra counts b words (first_column b) (above b) (no_row b p q (first_column b) (eqb-true b.y 0 z))

  up_right_inside : (eqb b.y 0 || eqb (b.x + b.w) b.pic_w) ≡ true → is_inter_in counts b words (right_of b) (above b) ≡ false
  up_right_inside z = no_inter counts b words (right_of b) (above b) (has_not b (right_of b) (above b) (λ i. ⊎_elim
      (λ y. let l = i.top in let e = eqb-true b.y 0 y in omega arith)
      (λ x. let l = i.right in let e = eqb-true (b.x + b.w) b.pic_w x in omega arith)
      (or_cases _ _ z)))

  none_outside : flag_outside b (avail_of counts b words) ≡ false
  unfolding flag_outside
  none_outside =
      let f = flags_read counts b words in
      rw (f.left_bit, f.up_bit, f.up_right_bit)
      (apart _ _ _ _ _ _ left_inside up_inside up_right_inside)
    where
      apart : (l x u y r z : Bool) → (x ≡ true → l ≡ false) → (y ≡ true → u ≡ false) → (z ≡ true → r ≡ false) → ((l && x) || (u && y) || (r && z)) ≡ false
      apart l x u y r z f g h = rw (never l x f, never u y g, never r z h)
        where
          never : (s t : Bool) → (t ≡ true → s ≡ false) → (s && t) ≡ false
          never true true k = k refl
          never true false k = refl
          never false t k = refl

-- ---- the laws

accepted_block : (b : EvcBlock) (slice words : ℕ) → first_of (slice_checks b slice words) ≡ 0 → Allowed b.pic_w b.x b.w × Allowed b.pic_h b.y b.h
accepted_block b slice words e = (covers b words (both_accepted 0 (avail_checks b words) _ tt e).0).1

-- a statement about the flags holds where it holds of those of an accepted call, and of no flag
flags_by : (P : ℕ → Type 0) (b : EvcBlock) (slice : ℕ) (words : List ℕ) → P 0 → (first_of (slice_checks b slice (length words)) ≡ 0 → P (avail_of (of_slice slice) b words)) → P (get_avail_inter_slice b slice words).avail
unfolding get_avail_inter_slice
flags_by P b slice words z h = by_test (eqb (first_of (slice_checks b slice (length words))) 0) refl
  where
    by_test : (t : Bool) → eqb (first_of (slice_checks b slice (length words))) 0 ≡ t → P (cond t (avail_of (of_slice slice) b words) 0)
    by_test true e = h (eqb-true _ 0 e)
    by_test false e = z

pub inside : Inside
unfolding flag_outside
inside b slice words =
    flags_by (λ (avail : ℕ). flag_outside b avail ≡ false) b slice words refl
    (λ e. let k = accepted_block b slice (length words) e in none_outside (of_slice slice) b words k.0 k.1)

-- motion maps that agree where a flag leads
module _ (b : EvcBlock) (slice : ℕ) (words : List ℕ) (lidx : ℕ) (mvs mvs' : List ℤ) where
  -- in a unit, where a flag is set
  abbrev At : Bool → ℕ → Type 0
  At set unit = set ≡ true → mv_at mvs unit lidx ≡ mv_at mvs' unit lidx

  pub record Agree (avail : ℕ) : Type 0 where
    pub at_left : At (is_bit 1 avail) (scup b - 1)
    pub at_up : At (is_bit 0 avail) (scup b - w_scu b)
    pub at_up_right : At (is_bit 6 avail) (scup b - w_scu b + scuw b)

  no_flag : Agree 0
  no_flag = record { at_left = never _; at_up = never _; at_up_right = never _ }
    where
      never : (unit : ℕ) → At false unit
      never unit e = absurd (subst T (sym e) tt)

  within : ((unit : ℕ) → unit < units_of b.pic_w b.pic_h → of_slice slice (word_at words unit) ≡ true → mv_at mvs unit lidx ≡ mv_at mvs' unit lidx) → Agree (get_avail_inter_slice b slice words).avail
  within h =
      flags_by Agree b slice words no_flag (λ e.
      let f = flags_read (of_slice slice) b words in
      record {
        at_left = λ s. let u = left_found (of_slice slice) b words (sym f.left_bit ∙ s) in h _ u.0 u.1;
        at_up = λ s. let u = up_found (of_slice slice) b words (sym f.up_bit ∙ s) in h _ u.0 u.1;
        at_up_right = λ s. let u = up_right_found (of_slice slice) b words (sym f.up_right_bit ∙ s) in h _ u.0 u.1;
      })

same_motion_lem : (b : EvcBlock) (lidx avail : ℕ) (mvs mvs' : List ℤ) (has_col : Bool) (col : List ℤ) (old : EvcCandidates) → length mvs ≡ length mvs' → candidates b lidx avail mvs has_col col old ≡ candidates b lidx avail mvs' has_col col old → get_motion b lidx avail mvs has_col col old ≡ get_motion b lidx avail mvs' has_col col old
unfolding get_motion
same_motion_lem b lidx avail mvs mvs' has_col col old l e = rw (l, e)

pub within_slice : WithinSlice
within_slice b slice words lidx mvs mvs' has_col col old l h =
    let avail = (get_avail_inter_slice b slice words).avail in
    let a = within b slice words lidx mvs mvs' h in
    same_motion_lem b lidx avail mvs mvs' has_col col old l
    (candidates_local b lidx avail avail mvs mvs' has_col col col old refl refl refl a.at_left a.at_up a.at_up_right (λ t. refl))
