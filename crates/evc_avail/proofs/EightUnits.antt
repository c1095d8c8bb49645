-- The eight units around an allowed block: whether the picture has each, and its index from that of the block's first unit. Assumes nothing.
use Rattle.std.proofs.Common.{◌≡◌, ℕ, suc, ◌+◌, ◌-◌, ◌*◌, ◌<◌, ◌≤◌, Bool, true, false, not, T, eqb, sym, refl, ap, ◌∙◌, subst, suc-mul, arith}
use Rattle.std.proofs.Math.Nat.{pos_of_ne-zero}
use Rattle.std.specs.Bool.{then_some}
use borrow.Author.Tests.{eqb-false, not-true}
use Rattle.evc_def.specs.Blocks.{Allowed}
use Rattle.evc_def.specs.declared.EvcBlock.{EvcBlock}
use Rattle.evc_map.specs.Maps.{units_of, w_scu, x_scu, y_scu, scup, scuw, scuh}
use Rattle.evc_avail.specs.Around.{left_of, first_column, last_column, right_of, above, first_row, below, has_unit, index_of}
use Rattle.evc_avail.specs.Inner.{unit_of}
use Rattle.evc_avail.proofs.Around.{InPicture, has, has_not, unit_below, apart, same, first_row_lem, below_row}

-- a unit at an index, which the picture has where a test says so
pub record Unit (b : EvcBlock) (column row index : ℕ) (has : Bool) : Type 0 where
  pub exists : has_unit b column row ≡ has
  pub index_is : has ≡ true → index_of b column row ≡ index
  pub index_low : has ≡ true → index < units_of b.pic_w b.pic_h

unit : (b : EvcBlock) (column row index : ℕ) (t : Bool) → (t ≡ true → InPicture b column row) → (t ≡ false → InPicture b column row → ⊥) → (t ≡ true → index_of b column row ≡ index) → Unit b column row index t
unit b column row index true there gone at =
    let e = has b column row (there refl) in
    record { exists = e; index_is = at; index_low = λ t. subst (λ (n : ℕ). n < units_of b.pic_w b.pic_h) (at t) (unit_below b column row e) }
unit b column row index false there gone at =
    record { exists = has_not b column row (gone refl); index_is = at; index_low = λ t. absurd (subst T (sym t) tt) }

-- it is what the contracts name, `unit_of`
pub unit_is : (b : EvcBlock) (column row index : ℕ) (t : Bool) → Unit b column row index t → unit_of b column row ≡ then_some t (record { 0 = index })
unit_is b column row index true u = rw (u.exists, u.index_is refl)
unit_is b column row index false u = rw u.exists

pub apart_0 : (a : ℕ) → not (eqb a 0) ≡ true → 0 < a
apart_0 a t = pos_of_ne-zero (eqb-false a 0 (not-true (eqb a 0) t))

module _ (b : EvcBlock) (p : Allowed b.pic_w b.x b.w) (q : Allowed b.pic_h b.y b.h) where
  -- ---- beside the block

  pub left_unit : Unit b (left_of b) (first_row b) (scup b - 1) (not (eqb b.x 0))
  left_unit =
      unit b _ _ _ _
      (λ t. let l = apart_0 b.x t in record { left = omega arith; right = omega arith; top = omega arith; bottom = omega arith })
      (λ t i. let e = same b.x 0 t in let l = i.left in omega arith)
      (λ t. let l = apart_0 b.x t in omega (arith, first_row_lem b))

  pub right_unit : Unit b (right_of b) (first_row b) (scup b + scuw b) (not (eqb (b.x + b.w) b.pic_w))
  right_unit =
      unit b _ _ _ _
      (λ t. let l = apart (b.x + b.w) b.pic_w t p.inside in record { left = omega arith; right = omega arith; top = omega arith; bottom = omega arith })
      (λ t i. let e = same (b.x + b.w) b.pic_w t in let l = i.right in omega arith)
      (λ t. omega (arith, first_row_lem b))

  -- the two below these, where these are there
  pub lower_left_unit : not (eqb b.x 0) ≡ true → Unit b (left_of b) (below b) (scup b + scuh b * w_scu b - 1) (not (eqb (b.y + b.h) b.pic_h))
  lower_left_unit s =
      let k = apart_0 b.x s in
      unit b _ _ _ _
      (λ t. let l = apart (b.y + b.h) b.pic_h t q.inside in record { left = omega arith; right = omega arith; top = omega arith; bottom = omega arith })
      (λ t i. let e = same (b.y + b.h) b.pic_h t in let l = i.bottom in omega arith)
      (λ t. omega (arith, below_row b p q))

  pub lower_right_unit : not (eqb (b.x + b.w) b.pic_w) ≡ true → Unit b (right_of b) (below b) (scup b + scuw b + scuh b * w_scu b) (not (eqb (b.y + b.h) b.pic_h))
  lower_right_unit s =
      let k = apart (b.x + b.w) b.pic_w s p.inside in
      unit b _ _ _ _
      (λ t. let l = apart (b.y + b.h) b.pic_h t q.inside in record { left = omega arith; right = omega arith; top = omega arith; bottom = omega arith })
      (λ t i. let e = same (b.y + b.h) b.pic_h t in let l = i.bottom in omega arith)
      (λ t. omega (arith, below_row b p q))

  -- ---- above the block

  above_row : 0 < b.y → (above b - 1) * w_scu b + w_scu b ≡ y_scu b * w_scu b
  above_row l = let e : suc (y_scu b - 1) ≡ y_scu b = omega arith in sym (suc-mul (y_scu b - 1) (w_scu b)) ∙ ap (λ (n : ℕ). n * w_scu b) e

  module _ (l : 0 < b.y) where
    pub row_before : w_scu b + x_scu b ≤ scup b
    row_before = omega (arith, above_row l)

    pub up_unit : Unit b (first_column b) (above b) (scup b - w_scu b) true
    up_unit =
        unit b _ _ _ _
        (λ t. record { left = omega arith; right = omega arith; top = omega arith; bottom = omega arith })
        (λ t i. absurd (subst T t tt))
        (λ t. omega (arith, above_row l))

    pub right_up_unit : Unit b (last_column b) (above b) (scup b - w_scu b + scuw b - 1) true
    right_up_unit =
        unit b _ _ _ _
        (λ t. record { left = omega arith; right = omega arith; top = omega arith; bottom = omega arith })
        (λ t i. absurd (subst T t tt))
        (λ t. omega (arith, above_row l))

    pub up_left_unit : Unit b (left_of b) (above b) (scup b - w_scu b - 1) (not (eqb b.x 0))
    up_left_unit =
        unit b _ _ _ _
        (λ t. let k = apart_0 b.x t in record { left = omega arith; right = omega arith; top = omega arith; bottom = omega arith })
        (λ t i. let e = same b.x 0 t in let k = i.left in omega arith)
        (λ t. let k = apart_0 b.x t in omega (arith, above_row l))

    pub up_right_unit : Unit b (right_of b) (above b) (scup b - w_scu b + scuw b) (not (eqb (b.x + b.w) b.pic_w))
    up_right_unit =
        unit b _ _ _ _
        (λ t. let k = apart (b.x + b.w) b.pic_w t p.inside in record { left = omega arith; right = omega arith; top = omega arith; bottom = omega arith })
        (λ t i. let e = same (b.x + b.w) b.pic_w t in let k = i.right in omega arith)
        (λ t. omega (arith, above_row l))
