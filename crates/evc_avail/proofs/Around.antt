-- The units around an allowed block: whether the picture has them, and their indices. Assumes nothing.
use Rattle.std.proofs.Common.{◌≡◌, ℕ, ◌+◌, ◌-◌, ◌*◌, ◌<◌, ◌≤◌, Bool, true, false, not, ◌&&◌, T, eqb, ltb, leb, List, Option, Some, None, IfSome, sym, refl, ap, ◌∙◌, subst, add-mul, arith, leb→le, ltb-false, ltb-true, eqb-true, le-leb}
use Rattle.std.proofs.Math.Nat.{pos_of_ne-zero}
use Rattle.std.proofs.lemmas.Option.{none-some, same_Some}
use Rattle.std.specs.Bool.{then_some}
use borrow.Author.Tests.{eqb-false, not-true, not-false}
use mir.Facts.{and_yes}
use Rattle.evc_def.specs.Blocks.{Allowed}
use Rattle.evc_def.specs.Tables.{is_coded, is_intra}
use Rattle.evc_def.specs.declared.EvcBlock.{EvcBlock}
use Rattle.evc_def.specs.declared.Scu.{Scu}
use Rattle.evc_map.specs.Maps.{units_of, word_at, w_scu, h_scu, y_scu, scup, scuw, scuh}
use Rattle.evc_map.proofs.Units.{index_below}
use Rattle.evc_avail.specs.Around.{first_column, last_column, above, first_row, below, has_unit, index_of}
use Rattle.evc_avail.specs.Flags.{is_inter_in, is_not_intra_in}
use Rattle.evc_avail.specs.Inner.{unit_of}

-- a unit of the picture, by its column and row
pub record InPicture (b : EvcBlock) (column row : ℕ) : Type 0 where
  pub left : 1 ≤ column
  pub right : column ≤ w_scu b
  pub top : 1 ≤ row
  pub bottom : row ≤ h_scu b

module _ (b : EvcBlock) (column row : ℕ) where
  pub in_picture : has_unit b column row ≡ true → InPicture b column row
  in_picture e =
      let t = subst T (sym e) tt in
      let a = and_yes (leb 1 column && leb column (w_scu b) && leb 1 row) (leb row (h_scu b)) t in
      let d = and_yes (leb 1 column && leb column (w_scu b)) (leb 1 row) a.0 in
      let f = and_yes (leb 1 column) (leb column (w_scu b)) d.0 in
      record {
        left = leb→le 1 column f.0;
        right = leb→le column (w_scu b) f.1;
        top = leb→le 1 row d.1;
        bottom = leb→le row (h_scu b) a.1;
      }

  pub has : InPicture b column row → has_unit b column row ≡ true
  has i = simp (le-leb 1 column i.left, le-leb column (w_scu b) i.right, le-leb 1 row i.top, le-leb row (h_scu b) i.bottom)

  pub has_not : (InPicture b column row → ⊥) → has_unit b column row ≡ false
  has_not n = by_test (has_unit b column row) refl
    where
      by_test : (s : Bool) → has_unit b column row ≡ s → has_unit b column row ≡ false
      by_test true e = absurd (n (in_picture e))
      by_test false e = e

  -- a unit that the picture has is one of its units
  pub unit_below : has_unit b column row ≡ true → index_of b column row < units_of b.pic_w b.pic_h
  unit_below e = let i = in_picture e in index_below b.pic_w b.pic_h (column - 1) (row - 1) (omega arith) (omega arith)

-- two numbers that a test found to differ
pub apart : (a b : ℕ) → not (eqb a b) ≡ true → a ≤ b → a < b
apart a b t l = by_test (ltb a b) refl
  where
    by_test : (s : Bool) → ltb a b ≡ s → a < b
    by_test true e = ltb-true a b e
    by_test false e = let k = ltb-false a b e in absurd (eqb-false a b (not-true (eqb a b) t) (omega arith))

pub same : (a b : ℕ) → not (eqb a b) ≡ false → a ≡ b
same a b t = eqb-true a b (not-false (eqb a b) t)

none_then : (t : Bool) (x : Scu) → None ≡ then_some t x → t ≡ false
none_then true x e = absurd (none-some x e)
none_then false x e = refl

some_then : (t : Bool) (x y : Scu) → Some y ≡ then_some t x → (t ≡ true) × (x ≡ y)
some_then true x y e = (refl, sym (same_Some y x e))
some_then false x y e = absurd (none-some y (sym e))

module _ (b : EvcBlock) (column row : ℕ) where
  no_unit : None ≡ unit_of b column row → has_unit b column row ≡ false
  no_unit e = none_then _ _ e

  found : (scup : Scu) → Some scup ≡ unit_of b column row → (has_unit b column row ≡ true) × (index_of b column row ≡ scup.0)
  found scup e = let f = some_then _ _ scup e in (f.0, ap (λ (s : Scu). s.0) f.1)

  there : InPicture b column row → (index : ℕ) → index ≡ index_of b column row → Some (record { 0 = index }) ≡ unit_of b column row
  there i index e = rw (has b column row i, e)

  pub unit_low : (unit : Option Scu) → unit ≡ unit_of b column row → IfSome unit (λ (scup : Scu). scup.0 < units_of b.pic_w b.pic_h)
  unit_low None e = tt
  unit_low (Some scup) e = let f = found scup e in subst (λ (n : ℕ). n < units_of b.pic_w b.pic_h) f.1 (unit_below b column row f.0)

-- what the code finds in a unit is what the definitions of the flags find
module _ (counts : ℕ → Bool) (b : EvcBlock) (map : List ℕ) (column row : ℕ) where
  pub no_inter : None ≡ unit_of b column row → false ≡ is_inter_in counts b map column row
  unfolding is_inter_in
  no_inter e = rw (no_unit b column row e)

  pub inter_is : (scup : Scu) → Some scup ≡ unit_of b column row → (r : Bool) → r ≡ (counts (word_at map scup.0) && is_coded (word_at map scup.0) && not (is_intra (word_at map scup.0))) → r ≡ is_inter_in counts b map column row
  unfolding is_inter_in
  inter_is scup e r p = let u = found b column row scup e in p ∙ rw (u.0, u.1)

  pub not_intra_is : (scup : Scu) → Some scup ≡ unit_of b column row → (r : Bool) → r ≡ (counts (word_at map scup.0) && not (is_intra (word_at map scup.0))) → r ≡ is_not_intra_in counts b map column row
  unfolding is_not_intra_in
  not_intra_is scup e r p = let u = found b column row scup e in p ∙ rw (u.0, u.1)

pub first_row_lem : (b : EvcBlock) → (first_row b - 1) * w_scu b ≡ y_scu b * w_scu b
first_row_lem b = let e : first_row b - 1 ≡ y_scu b = omega arith in rw e

module _ (b : EvcBlock) (p : Allowed b.pic_w b.x b.w) (q : Allowed b.pic_h b.y b.h) where
  -- ---- the units of the block's first column

  pub first_unit : (first : Scu) → first.0 ≡ scup b → unit_of b (first_column b) (first_row b) ≡ Some first
  first_unit first e =
      sym (there b (first_column b) (first_row b) (record { left = omega arith; right = omega arith; top = omega arith; bottom = omega arith }) first.0 (omega (arith, first_row_lem b)))

  pub below_row : (below b - 1) * w_scu b ≡ y_scu b * w_scu b + scuh b * w_scu b
  below_row = let e : below b - 1 ≡ y_scu b + scuh b = omega arith in rw e (add-mul (y_scu b) (scuh b) (w_scu b))

  pub below_unit : (index : ℕ) → index ≡ scup b + scuh b * w_scu b → (t : Bool) → t ≡ not (eqb (b.y + b.h) b.pic_h) → then_some t (record { 0 = index }) ≡ unit_of b (first_column b) (below b)
  below_unit index e true t =
      let l = apart (b.y + b.h) b.pic_h (sym t) q.inside in
      there b (first_column b) (below b) (record { left = omega arith; right = omega arith; top = omega arith; bottom = omega arith }) index (omega (arith, below_row))
  below_unit index e false t = rw (has_not b (first_column b) (below b) (λ i. let h = same (b.y + b.h) b.pic_h (sym t) in let l = i.bottom in omega arith))

  -- ---- above the block

  pub no_row : (column : ℕ) → b.y ≡ 0 → has_unit b column (above b) ≡ false
  no_row column e = has_not b column (above b) (λ i. let l = i.top in omega arith)

  pub first_above : None ≡ unit_of b (first_column b) (above b) → b.y ≡ 0
  first_above e = by_test (eqb b.y 0) refl
    where
      by_test : (t : Bool) → eqb b.y 0 ≡ t → b.y ≡ 0
      by_test true t = eqb-true b.y 0 t
      by_test false t =
          let l = pos_of_ne-zero (eqb-false b.y 0 t) in
          let h = has b (first_column b) (above b) (record { left = omega arith; right = omega arith; top = omega arith; bottom = omega arith }) in
          absurd (subst T (sym h ∙ no_unit b (first_column b) (above b) e) tt)

  -- the block's last unit in the row of one of its first column
  pub last_unit : (row : ℕ) (first : Scu) → Some first ≡ unit_of b (first_column b) row → (index : ℕ) → index ≡ first.0 + scuw b - 1 → Some (record { 0 = index }) ≡ unit_of b (last_column b) row
  last_unit row first e index f =
      let u = found b (first_column b) row first e in
      let i = in_picture b (first_column b) row u.0 in
      there b (last_column b) row (record { left = omega arith; right = omega arith; top = i.top; bottom = i.bottom }) index (omega (arith, u.1))
