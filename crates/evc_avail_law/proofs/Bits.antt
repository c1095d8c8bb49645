-- The three flags that candidates read, as the tests of their units. Assumes nothing.
use mathlib.Core.Bool.{Bool, true, false, ◌&&◌}
use mathlib.Core.List.{List}
use mathlib.Core.Path.{◌≡◌}
use Prim.Native.Nat.{ℕ, ◌+◌, ◌*◌, ◌/◌, ◌%◌, ◌≤◌, ◌<◌}
use native.Mathlib.Omega.{arith}
use lib.Dec.{eqb}
use Rattle.evc_def.specs.Tables.{is_bit}
use Rattle.evc_def.specs.declared.EvcBlock.{EvcBlock}
use Rattle.evc_avail.specs.Around.{left_of, first_column, last_column, right_of, above, first_row, below}
use Rattle.evc_avail.specs.Flags.{flag, is_inter_in, is_not_intra_in, avail_left_in, avail_right_in, avail_up_in, avail_of}
use Rattle.evc_avail.proofs.Laws.{one, one_le, weight}

is_set : (set : Bool) (m : ℕ) → m ≡ one set → eqb m 1 ≡ set
is_set true m e = rw e
is_set false m e = rw e

bit_0 : (high d n : ℕ) → n ≡ 2 * high + d → d ≤ 1 → n / 1 % 2 ≡ d
bit_0 high d n e p = omega arith

bit_1 : (high d low n : ℕ) → n ≡ 4 * high + 2 * d + low → d ≤ 1 → low ≤ 1 → n / 2 % 2 ≡ d
bit_1 high d low n e p q = omega arith

bit_6 : (high d low n : ℕ) → n ≡ 128 * high + 64 * d + low → d ≤ 1 → low < 64 → n / 64 % 2 ≡ d
bit_6 high d low n e p q = omega arith

-- what the flags say of left, up and up-right
pub record Read (n : ℕ) (le up up-ri : Bool) : Type 0 where
  pub left_bit : is_bit 1 n ≡ le
  pub up_bit : is_bit 0 n ≡ up
  pub up_right_bit : is_bit 6 n ≡ up-ri

read : (le lo-le up ri-up up_le up-ri ri lo-ri : Bool) → Read ((flag 1 le + flag 7 lo-le) + (flag 0 up + flag 9 ri-up + flag 5 up_le + flag 6 up-ri) + (flag 3 ri + flag 8 lo-ri)) le up up-ri
read le lo-le up ri-up up_le up-ri ri lo-ri =
    let n = (flag 1 le + flag 7 lo-le) + (flag 0 up + flag 9 ri-up + flag 5 up_le + flag 6 up-ri) + (flag 3 ri + flag 8 lo-ri) in
    let sum : n ≡ 2 * one le + 128 * one lo-le + one up + 512 * one ri-up + 32 * one up_le + 64 * one up-ri + 8 * one ri + 256 * one lo-ri =
    omega (arith, weight 2 le, weight 128 lo-le, weight 1 up, weight 512 ri-up, weight 32 up_le, weight 64 up-ri, weight 8 ri, weight 256 lo-ri) in
    let l = one_le le in
    let u = one_le up in
    let r = one_le up-ri in
    let f = one_le up_le in
    let g = one_le ri in
    record {
      left_bit = is_set le _ (bit_1 (32 * one lo-le + 128 * one ri-up + 8 * one up_le + 16 * one up-ri + 2 * one ri + 64 * one lo-ri) (one le) (one up) n (omega (arith, sum)) l u);
      up_bit = is_set up _ (bit_0 (one le + 64 * one lo-le + 256 * one ri-up + 16 * one up_le + 32 * one up-ri + 4 * one ri + 128 * one lo-ri) (one up) n (omega (arith, sum)) u);
      up_right_bit = is_set up-ri _ (bit_6 (one lo-le + 4 * one ri-up + 2 * one lo-ri) (one up-ri) (2 * one le + one up + 32 * one up_le + 8 * one ri) n (omega (arith, sum)) r (omega arith));
    }

pub flags_read : (counts : ℕ → Bool) (b : EvcBlock) (map : List ℕ) → Read (avail_of counts b map) (is_inter_in counts b map (left_of b) (first_row b)) (is_not_intra_in counts b map (first_column b) (above b)) (is_inter_in counts b map (right_of b) (above b))
unfolding avail_of avail_left_in avail_right_in avail_up_in
flags_read counts b map =
    let left = is_inter_in counts b map (left_of b) (first_row b) in
    let right = is_inter_in counts b map (right_of b) (first_row b) in
    read left (left && is_inter_in counts b map (left_of b) (below b)) (is_not_intra_in counts b map (first_column b) (above b)) (is_not_intra_in counts b map (last_column b) (above b))
    (is_inter_in counts b map (left_of b) (above b)) (is_inter_in counts b map (right_of b) (above b)) right (right && is_inter_in counts b map (right_of b) (below b))
