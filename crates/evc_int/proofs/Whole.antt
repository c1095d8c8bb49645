-- Facts of ℤ as facts of ℕ, which omega reads: `Is z a b` says that z is a less b, for any two naturals a and b.
-- A term of ℤ is read by a tree of the lemmas `is-..`, one for each operation; what is left is a fact of naturals. Assumes nothing.
use mathlib.Core.Bool.{Bool, true, false}
use mathlib.Core.Path.{◌≡◌, refl, sym, ap, subst}
use Prim.Native.Nat.{ℕ, zero, suc, ◌+◌, ◌-◌, ◌*◌, ◌≤◌}
use native.Mathlib.Omega.{arith}
use native.Mathlib.Nat.{mul-le-mul}
use lib.IntN.{ℤ, pos, negsuc, neg_ℤ, ◌+ℤ◌, ◌-ℤ◌, ◌*ℤ◌, nat_abs}
use borrow.Author.Differences.{up, down}
use Rattle.std.proofs.lemmas.Int.{ints}
use borrow.Author.Tests.{eq-eqb}
use lib.Dec.{T, eqb→eq}
use Rattle.std.specs.Ordering.{int_eq}
use Rattle.std.specs.Cmp.{signed_Decides}
use Rattle.std.specs.Bool.{Decides}
use Rattle.evc_int.specs.Whole.{◌⁺, ◌⁻, eq_z}

-- the two parts as the library's `ints` reads a number: with them, `omega (arith, parts_are)` reads ⁺ and ⁻ too
pub positive_part : (z : ℤ) → z ⁺ ≡ up z - down z
positive_part (pos n) = omega arith
positive_part (negsuc n) = omega arith

pub negative_part : (z : ℤ) → z ⁻ ≡ down z - up z
negative_part (pos n) = omega arith
negative_part (negsuc n) = omega arith

pub ruleset parts_are = (ints, positive_part, negative_part)

pub record Is (z : ℤ) (a b : ℕ) : Type 0 where
  pub is : z ⁺ + b ≡ a + z ⁻

-- ---- leaves: any number, and a natural

pub of : (z : ℤ) → Is z (z ⁺) (z ⁻)
of z = record { is = refl }

pub nat : (n : ℕ) → Is (pos n) n 0
nat n = record { is = refl }

-- ---- the same number by another pair, and an equal number by the same pair

pub is_by : {z : ℤ} {a b c d : ℕ} → Is z a b → a + d ≡ c + b → Is z c d
is_by {z} {a} {b} {c} {d} p e = record { is = omega arith }

pub is_eq : {y z : ℤ} {a b : ℕ} → y ≡ z → Is z a b → Is y a b
is_eq {y} {z} {a} {b} e p = subst (λ (x : ℤ). Is x a b) (sym e) p

-- ---- sums, negations, differences, products

sum : (x y : ℤ) → Is (x +ℤ y) (x ⁺ + y ⁺) (x ⁻ + y ⁻)
sum x y = record { is = omega (arith, parts_are) }

pub is-+ : {x y : ℤ} {a b c d : ℕ} → Is x a b → Is y c d → Is (x +ℤ y) (a + c) (b + d)
is-+ {x} {y} {a} {b} {c} {d} p q = is_by (sum x y) (omega arith)

negation : (x : ℤ) → Is (neg_ℤ x) (x ⁻) (x ⁺)
negation x = record { is = omega (arith, parts_are) }

pub is_neg : {x : ℤ} {a b : ℕ} → Is x a b → Is (neg_ℤ x) b a
is_neg {x} {a} {b} p = is_by (negation x) (omega arith)

pub is-- : {x y : ℤ} {a b c d : ℕ} → Is x a b → Is y c d → Is (x -ℤ y) (a + d) (b + c)
is-- p q = is-+ p (is_neg q)

product : (x y : ℤ) → Is (x *ℤ y) (x ⁺ * y ⁺ + x ⁻ * y ⁻) (x ⁺ * y ⁻ + x ⁻ * y ⁺)
product (pos a) (pos b) = record { is = omega arith }
product (pos a) (negsuc b) = is_by (negation (pos (a * suc b))) (omega arith)
product (negsuc a) (pos b) = is_by (negation (pos (suc a * b))) (omega arith)
product (negsuc a) (negsuc b) = record { is = omega arith }

pub is-* : {x y : ℤ} {a b c d : ℕ} → Is x a b → Is y c d → Is (x *ℤ y) (a * c + b * d) (a * d + b * c)
is-* {x} {y} {a} {b} {c} {d} p q = is_by (product x y) (cross (x ⁺) (x ⁻) (y ⁺) (y ⁻) a b c d p.is q.is)
  where
    cross : (m n u v a b c d : ℕ) → m + b ≡ a + n → u + d ≡ c + v → m * u + n * v + (a * d + b * c) ≡ a * c + b * d + (m * v + n * u)
    cross m n u v a b c d p q =
        omega (arith, ap (λ (t : ℕ). t * u) p, ap (λ (t : ℕ). t * v) p, ap (λ (t : ℕ). a * t) q, ap (λ (t : ℕ). b * t) q)

-- times a natural number: linear where it is a numeral
pub is-k* : {y : ℤ} {c d : ℕ} (k : ℕ) → Is y c d → Is (pos k *ℤ y) (k * c) (k * d)
is-k* k q = is_by (is-* (nat k) q) (omega arith)

-- ---- equations

pub same : {x y : ℤ} {a b c d : ℕ} → Is x a b → Is y c d → a + d ≡ c + b → x ≡ y
same p q e = omega (arith, parts_are)

pub eq_z-true : (x y : ℤ) → eq_z x y ≡ true → x ≡ y
eq_z-true (pos a) (pos b) e = ap pos (eqb→eq a b (subst T (sym e) tt))
eq_z-true (pos a) (negsuc b) e = absurd (subst T (sym e) tt)
eq_z-true (negsuc a) (pos b) e = absurd (subst T (sym e) tt)
eq_z-true (negsuc a) (negsuc b) e = ap negsuc (eqb→eq a b (subst T (sym e) tt))

-- the equality that a derive makes of signed numbers is that of the definitions
pub int_eq_is : (x y : ℤ) → int_eq x y ≡ eq_z x y
int_eq_is x y = go (int_eq x y) (eq_z x y) (signed_Decides x y) (eq_z-true x y) (eq_z-same x y)
  where
    go : (s t : Bool) → Decides s (x ≡ y) → (t ≡ true → x ≡ y) → (x ≡ y → t ≡ true) → s ≡ t
    go true t d f g = sym (g (d.0 refl))
    go false true d f g = d.1 (f refl)
    go false false d f g = refl

    eq_z-same : (x y : ℤ) → x ≡ y → eq_z x y ≡ true
    eq_z-same (pos a) y e = rw (sym e) (eq-eqb a a refl)
    eq_z-same (negsuc a) y e = rw (sym e) (eq-eqb a a refl)

-- the two parts of a number, by differences that stop at 0
pub parts : {z : ℤ} {a b : ℕ} → Is z a b → (z ⁺ ≡ a - b) × (z ⁻ ≡ b - a)
parts p = omega (arith, parts_are)

-- ---- sizes, for what is not linear

pub abs_neg : (n : ℕ) → nat_abs (neg_ℤ (pos n)) ≡ n
abs_neg zero = refl
abs_neg (suc n) = refl

pub abs-* : (x y : ℤ) → nat_abs (x *ℤ y) ≡ nat_abs x * nat_abs y
abs-* (pos a) (pos b) = refl
abs-* (pos a) (negsuc b) = abs_neg (a * suc b)
abs-* (negsuc a) (pos b) = abs_neg (suc a * b)
abs-* (negsuc a) (negsuc b) = refl

pub abs_mul_le : (x y : ℤ) {m n : ℕ} → nat_abs x ≤ m → nat_abs y ≤ n → nat_abs (x *ℤ y) ≤ m * n
abs_mul_le x y h k = rw (abs-* x y) (mul-le-mul h k)
