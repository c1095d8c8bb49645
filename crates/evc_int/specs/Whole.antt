-- Whole numbers beside the kit's ℤ: a negative numeral, the two parts of a number, its low bits, and clipping to a range.
use Rattle.std.specs.Prelude.{Bool, false, cond, ℕ, suc, ◌-◌, ◌%◌, eqb, ℤ, pos, negsuc, neg_ℤ}
use Rattle.std.specs.Int.Signed.{lt_z}

-- a negative number, as − 256
infix 80 −◌
abbrev pub −◌ : ℕ → ℤ
− n = neg_ℤ (pos n)

-- the positive part: z itself, and 0 where z is negative
infix 90 ◌⁺
abbrev pub ◌⁺ : ℤ → ℕ
pos n ⁺ = n
negsuc n ⁺ = 0

-- the negative part: -z, and 0 where z is not negative; so z is z ⁺ less z ⁻
infix 90 ◌⁻
abbrev pub ◌⁻ : ℤ → ℕ
pos n ⁻ = 0
negsuc n ⁻ = suc n

-- the remainder of z in 0 .. m - 1; at m = 2 ^ k the low k bits of z in two's complement
infix 70 ◌modulo◌
abbrev pub ◌modulo◌ : ℤ → ℕ → ℕ
pos n modulo m = n % m
negsuc n modulo m = m - suc (n % m)

-- whether two numbers are equal
abbrev pub eq_z : ℤ → ℤ → Bool
eq_z (pos a) (pos b) = eqb a b
eq_z (pos a) (negsuc b) = false
eq_z (negsuc a) (pos b) = false
eq_z (negsuc a) (negsuc b) = eqb a b

-- z clipped to lo .. hi: EVC_CLIP3 of src/util.rs; document 01 says 'held to'
unfoldable pub clip3 : ℤ → ℤ → ℤ → ℤ
clip3 lo hi z = cond (lt_z z lo) lo (cond (lt_z hi z) hi z)
