-- Laws over ℤ by omega: an expression of sums, differences, products and negations is written down once (`Ex`); `solve` proves an equation of two of
-- them from one of naturals, `fact` turns one into naturals. Where a product has a numeral in it, `omega (arith, ints)` of the library needs no expression;
-- these are for products of two variables, and where an expression has to be cut in parts. Assumes nothing.
--   solve (! x ⊕ ! y) (! y ⊕ ! x) (omega arith)
use mathlib.Core.Path.{◌≡◌, ap}
use Prim.Native.Nat.{ℕ, ◌+◌, ◌*◌}
use native.Mathlib.Omega.{arith}
use lib.IntN.{ℤ, neg_ℤ, ◌+ℤ◌, ◌-ℤ◌, ◌*ℤ◌}
use Rattle.evc_int.specs.Whole.{◌⁺, ◌⁻}
use Rattle.evc_int.proofs.Whole.{Is, of, is-+, is--, is-*, is_neg, same}

infixl 6 ◌⊕◌ ◌⊖◌
infixl 7 ◌⊗◌
pub data Ex : Type 0 where
  ! : ℤ → Ex
  ◌⊕◌ : Ex → Ex → Ex
  ◌⊖◌ : Ex → Ex → Ex
  ◌⊗◌ : Ex → Ex → Ex
  neg : Ex → Ex

abbrev pub value : Ex → ℤ
value (! z) = z
value (a ⊕ b) = value a +ℤ value b
value (a ⊖ b) = value a -ℤ value b
value (a ⊗ b) = value a *ℤ value b
value (neg a) = neg_ℤ (value a)

-- what is added and what is taken away, as naturals
abbrev mutual
  pub more : Ex → ℕ
  more (! z) = z ⁺
  more (a ⊕ b) = more a + more b
  more (a ⊖ b) = more a + less b
  more (a ⊗ b) = more a * more b + less a * less b
  more (neg a) = less a

  pub less : Ex → ℕ
  less (! z) = z ⁻
  less (a ⊕ b) = less a + less b
  less (a ⊖ b) = less a + more b
  less (a ⊗ b) = more a * less b + less a * more b
  less (neg a) = more a

pub reading : (e : Ex) → Is (value e) (more e) (less e)
reading (! z) = of z
reading (a ⊕ b) = is-+ (reading a) (reading b)
reading (a ⊖ b) = is-- (reading a) (reading b)
reading (a ⊗ b) = is-* (reading a) (reading b)
reading (neg a) = is_neg (reading a)

pub solve : (e f : Ex) → more e + less f ≡ more f + less e → value e ≡ value f
solve e f h = same (reading e) (reading f) h

pub fact : (e f : Ex) → value e ≡ value f → more e + less f ≡ more f + less e
fact e f h = let p = reading e in let q = reading f in omega (arith, ap (λ (z : ℤ). z ⁺) h, ap (λ (z : ℤ). z ⁻) h)
