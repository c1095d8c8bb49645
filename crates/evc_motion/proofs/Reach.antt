-- What the checks leave for the candidates: the maps reach to the block's unit, and a flagged neighbour lies before it. Assumes nothing.
use mathlib.Core.Bool.{Bool, true, false, ◌&&◌, ◌||◌}
use mathlib.Core.List.{List}
use mathlib.Core.Path.{◌≡◌, refl, sym, subst}
use Prim.Native.Nat.{ℕ, zero, suc, ◌+◌, ◌-◌, ◌*◌, ◌/◌, ◌%◌, ◌≤◌, ◌<◌}
use native.Mathlib.Nat.{mul-le-mul_right}
use native.Mathlib.Omega.{arith}
use borrow.Author.Tests.{ltb-false, eqb-false}
use lib.Dec.{eqb}
use lib.IntN.{ℤ}
use Rattle.std.proofs.Common.{Option, IfSome}
use Rattle.std.specs.Bool.{then_some}
use Rattle.std.proofs.lemmas.Bool.{or_parts}
use Rattle.evc_int.proofs.Bools.{and_false_right}
use Rattle.evc_def.specs.Blocks.{Allowed}
use Rattle.evc_def.specs.Tables.{is_bit}
use Rattle.evc_def.specs.declared.EvcBlock.{EvcBlock}
use Rattle.evc_def.specs.declared.Scu.{Scu}
use Rattle.evc_map.specs.Maps.{units_of, mv_len, map_short, w_scu, scup}
use Rattle.evc_motion.specs.Candidates.{flag_outside, maps_short, neighbour}

module _ (b : EvcBlock) (map : ℕ) (has : Bool) (col : ℕ) (e : maps_short b map has col ≡ false) where
  pub map_reaches : (n : ℕ) → n < units_of b.pic_w b.pic_h → mv_len * n + mv_len ≤ map
  unfolding maps_short
  map_reaches n below =
      let f = (or_parts (map_short b.pic_w b.pic_h map) (has && map_short b.pic_w b.pic_h col) e).0 in
      let l = ltb-false map _ f in
      omega arith

  pub col_reaches : (n : ℕ) → n < units_of b.pic_w b.pic_h → has ≡ true → mv_len * n + mv_len ≤ col
  unfolding maps_short
  col_reaches n below t =
      let f = (or_parts (map_short b.pic_w b.pic_h map) (has && map_short b.pic_w b.pic_h col) e).1 in
      let l = ltb-false col _ (and_false_right has (map_short b.pic_w b.pic_h col) f t) in
      omega arith

  pub no_col_short : (has && map_short b.pic_w b.pic_h col) ≡ false
  unfolding maps_short
  no_col_short = (or_parts (map_short b.pic_w b.pic_h map) (has && map_short b.pic_w b.pic_h col) e).1

-- a place that is not 0 is at least one unit in
one_unit : (size place side : ℕ) → Allowed size place side → (place ≡ 0 → ⊥) → 1 ≤ place / 4
one_unit size place side p n = go place p.place_fours n
  where
    go : (place : ℕ) → place % 4 ≡ 0 → (place ≡ 0 → ⊥) → 1 ≤ place / 4
    go zero e n = absurd (n refl)
    go (suc k) e n = omega arith

module _ (b : EvcBlock) (avail : ℕ) (p : Allowed b.pic_w b.x b.w) (q : Allowed b.pic_h b.y b.h) (e : flag_outside b avail ≡ false) where
  cases : ((is_bit 1 avail && eqb b.x 0) ≡ false) × ((is_bit 0 avail && eqb b.y 0) ≡ false) × ((is_bit 6 avail && (eqb b.y 0 || eqb (b.x + b.w) b.pic_w)) ≡ false)
  unfolding flag_outside
  cases =
      let f = or_parts ((is_bit 1 avail && eqb b.x 0) || (is_bit 0 avail && eqb b.y 0)) (is_bit 6 avail && (eqb b.y 0 || eqb (b.x + b.w) b.pic_w)) e in
      let g = or_parts (is_bit 1 avail && eqb b.x 0) (is_bit 0 avail && eqb b.y 0) f.0 in
      (g.0, g.1, f.1)

  pub left_before : is_bit 1 avail ≡ true → 1 ≤ scup b
  left_before t =
      let n = one_unit b.pic_w b.x b.w p (eqb-false b.x 0 (and_false_right (is_bit 1 avail) (eqb b.x 0) cases.0 t)) in
      omega arith

  row_before : eqb b.y 0 ≡ false → w_scu b ≤ scup b
  row_before f =
      let n = one_unit b.pic_h b.y b.h q (eqb-false b.y 0 f) in
      omega (arith, mul-le-mul_right (w_scu b) n)

  pub up_before : is_bit 0 avail ≡ true → w_scu b ≤ scup b
  up_before t = row_before (and_false_right (is_bit 0 avail) (eqb b.y 0) cases.1 t)

  pub up_right_before : is_bit 6 avail ≡ true → w_scu b ≤ scup b
  up_right_before t =
      row_before (or_parts (eqb b.y 0) (eqb (b.x + b.w) b.pic_w) (and_false_right (is_bit 6 avail) (eqb b.y 0 || eqb (b.x + b.w) b.pic_w) cases.2 t)).0

-- the unit matters only where the flag is set
pub same_neighbour : (map : List ℤ) (lidx : ℕ) (flagged : Bool) (m n : ℕ) → (flagged ≡ true → m ≡ n) → neighbour map lidx flagged m ≡ neighbour map lidx flagged n
same_neighbour map lidx true m n h = rw (h refl)
same_neighbour map lidx false m n h = refl

-- a unit before one that the map reaches
pub in_map : (map first back : ℕ) (flagged : Bool) (unit : Option Scu) → mv_len * first + mv_len ≤ map → unit ≡ then_some flagged (record { 0 = first - back })
    → IfSome unit (λ (scup : Scu). mv_len * scup.0 + mv_len ≤ map)
in_map map first back true unit l e = subst (λ (u : Option Scu). IfSome u (λ (scup : Scu). mv_len * scup.0 + mv_len ≤ map)) (sym e) (omega arith)
in_map map first back false unit l e = subst (λ (u : Option Scu). IfSome u (λ (scup : Scu). mv_len * scup.0 + mv_len ≤ map)) (sym e) tt
