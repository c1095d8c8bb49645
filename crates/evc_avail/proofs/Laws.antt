-- A law beside the contract of flags: they lie within the eight bits named, which are all but 2 and 4 of the first ten. Assumes nothing.
use Rattle.std.proofs.Common.{◌≡◌, ℕ, ◌+◌, ◌*◌, ◌/◌, ◌%◌, ◌<◌, ◌≤◌, Bool, true, false, cond, ◌&&◌, List, arith, ne_eqb}
use Rattle.evc_def.specs.Tables.{is_bit}
use Rattle.evc_def.specs.declared.EvcBlock.{EvcBlock}
use Rattle.evc_avail.specs.Around.{left_of, first_column, last_column, right_of, above, first_row, below}
use Rattle.evc_avail.specs.Flags.{flag, is_inter_in, is_not_intra_in, avail_left_in, avail_right_in, avail_up_in, avail_of, of_picture, avail_inter}

abbrev pub one : Bool → ℕ
one set = cond set 1 0

pub one_le : (set : Bool) → one set ≤ 1
one_le true = omega arith
one_le false = omega arith

pub weight : (n : ℕ) (set : Bool) → cond set n 0 ≡ n * one set
weight n true = omega arith
weight n false = omega arith

clash : {n : ℕ} → n ≡ 0 → n ≡ 1 → ⊥
clash p q = omega arith

gaps : (high ri low n : ℕ) → n ≡ 32 * high + 8 * ri + low → ri ≤ 1 → low ≤ 3 → (n / 4 % 2 ≡ 0) × (n / 16 % 2 ≡ 0)
gaps high ri low n e p q = omega arith

-- eight bits of the weights named
spread : (le lo-le up ri-up up_le up-ri ri lo-ri : ℕ) → le ≤ 1 → lo-le ≤ 1 → up ≤ 1 → ri-up ≤ 1 → up_le ≤ 1 → up-ri ≤ 1 → ri ≤ 1 → lo-ri ≤ 1 → (n : ℕ) → n ≡ 2 * le + 128 * lo-le + up + 512 * ri-up + 32 * up_le + 64 * up-ri + 8 * ri + 256 * lo-ri → (n < 1024) × (n / 4 % 2 ≡ 0) × (n / 16 % 2 ≡ 0)
spread le lo-le up ri-up up_le up-ri ri lo-ri a b c d e f g h n p =
    let k = gaps (4 * lo-le + 16 * ri-up + up_le + 2 * up-ri + 8 * lo-ri) ri (2 * le + up) n (omega arith) g (omega arith) in
    (omega arith, k.0, k.1)

eight_flags : (le lo-le up ri-up up_le up-ri ri lo-ri : Bool) → let n = (flag 1 le + flag 7 lo-le) + (flag 0 up + flag 9 ri-up + flag 5 up_le + flag 6 up-ri) + (flag 3 ri + flag 8 lo-ri) in (n < 1024) × (is_bit 2 n ≡ false) × (is_bit 4 n ≡ false)
eight_flags le lo-le up ri-up up_le up-ri ri lo-ri =
    let s =
    spread (one le) (one lo-le) (one up) (one ri-up) (one up_le) (one up-ri) (one ri) (one lo-ri)
    (one_le le) (one_le lo-le) (one_le up) (one_le ri-up) (one_le up_le) (one_le up-ri) (one_le ri) (one_le lo-ri)
    ((flag 1 le + flag 7 lo-le) + (flag 0 up + flag 9 ri-up + flag 5 up_le + flag 6 up-ri) + (flag 3 ri + flag 8 lo-ri))
    (omega (arith, weight 2 le, weight 128 lo-le, weight 1 up, weight 512 ri-up, weight 32 up_le, weight 64 up-ri, weight 8 ri, weight 256 lo-ri)) in
    (s.0, ne_eqb _ 1 (λ e. clash s.1 e), ne_eqb _ 1 (λ e. clash s.2 e))

-- whatever counts as available
pub flags_named_in : (counts : ℕ → Bool) (b : EvcBlock) (map : List ℕ) → (avail_of counts b map < 1024) × (is_bit 2 (avail_of counts b map) ≡ false) × (is_bit 4 (avail_of counts b map) ≡ false)
unfolding avail_of avail_left_in avail_right_in avail_up_in
flags_named_in counts b map =
    let left = is_inter_in counts b map (left_of b) (first_row b) in
    let right = is_inter_in counts b map (right_of b) (first_row b) in
    eight_flags left (left && is_inter_in counts b map (left_of b) (below b)) (is_not_intra_in counts b map (first_column b) (above b)) (is_not_intra_in counts b map (last_column b) (above b))
    (is_inter_in counts b map (left_of b) (above b)) (is_inter_in counts b map (right_of b) (above b)) right (right && is_inter_in counts b map (right_of b) (below b))

-- and over the whole picture
pub flags_named : (b : EvcBlock) (map : List ℕ) → (avail_inter b map < 1024) × (is_bit 2 (avail_inter b map) ≡ false) × (is_bit 4 (avail_inter b map) ≡ false)
flags_named = flags_named_in of_picture
