-- Rounding down (`shr_z`), remainders (`modulo`) and quotients toward zero (`quot_z`). Assumes nothing.
use mathlib.Core.Path.{◌≡◌, refl, sym, ap, ◌∙◌}
use Prim.Native.Nat.{ℕ, suc, ◌+◌, ◌-◌, ◌*◌, ◌/◌, ◌%◌, ◌≤◌, ◌<◌}
use native.Mathlib.Omega.{arith}
use native.Mathlib.Nat.{div-eq_of_lt-le, div-add-mod, mod-lt, div-le_self, le_trans}
use lib.IntN.{ℤ, pos, negsuc, nat_abs, ◌+ℤ◌, ◌*ℤ◌}
use lib.Signed.{shr_z, quot_z}
use Rattle.evc_int.specs.Whole.{◌⁺, ◌⁻, ◌modulo◌}
use Rattle.evc_int.proofs.Whole.{Is, nat, is--, is_by, is_eq, abs_neg}
use Rattle.evc_int.proofs.Expressions.{Ex, !, ◌⊕◌, ◌⊖◌, ◌⊗◌, value, more, less, reading, solve, fact}

-- q is z / m rounded down where  m q ≤ z < m q + m  (z = a - b, q = c - d)
pub record Floor (m a b c d : ℕ) : Type 0 where
  pub low : m * c + b ≤ a + m * d
  pub high : a + m * d < m * c + b + m

floor_is : (z : ℤ) (m : ℕ) → 0 < m → Floor m (z ⁺) (z ⁻) (shr_z z m ⁺) (shr_z z m ⁻)
floor_is (pos a) m h = let e = div-add-mod a m in let l = mod-lt a h in omega arith
floor_is (negsuc a) m h = let e = div-add-mod a m in let l = mod-lt a h in omega arith

floor_only : (z q : ℤ) (m : ℕ) → Floor m (z ⁺) (z ⁻) (q ⁺) (q ⁻) → shr_z z m ≡ q
floor_only (pos a) (pos b) m h = ap pos (div-eq_of_lt-le m (omega arith) (omega arith))
floor_only (pos a) (negsuc b) m h = absurd (omega arith)
floor_only (negsuc a) (pos b) m h = absurd (omega arith)
floor_only (negsuc a) (negsuc b) m h = ap negsuc (div-eq_of_lt-le m (omega arith) (omega arith))

pub solve_shr : (m : ℕ) (e q : Ex) → Floor m (more e) (less e) (more q) (less q) → shr_z (value e) m ≡ value q
solve_shr m e q h =
    floor_only (value e) (value q) m (omega (arith, h.low, h.high, (reading e).is, ap (λ (t : ℕ). m * t) (reading q).is))

pub fact_shr : (m : ℕ) (e : Ex) → 0 < m → Floor m (more e) (less e) (shr_z (value e) m ⁺) (shr_z (value e) m ⁻)
fact_shr m e h = let f = floor_is (value e) m h in omega (arith, f.low, f.high, (reading e).is)

-- a shift read as a pair, from a pair whose subtrahend is a multiple of m
pub is_shr : {z : ℤ} {a : ℕ} (m k : ℕ) → 0 < m → Is z a (k * m) → Is (shr_z z m) (a / m) k
is_shr {z} {a} m k h p =
    is_eq (solve_shr m (! z) (! (pos (a / m)) ⊖ ! (pos k)) (omega (arith, p.is, div-add-mod a m, mod-lt a h))) (is_by (is-- (nat (a / m)) (nat k)) (omega arith))

-- ---- the remainder: z is m times its quotient rounded down, and the remainder, in one way only

pub split : (m : ℕ) (z : ℤ) → 0 < m → z ≡ pos m *ℤ shr_z z m +ℤ pos (z modulo m)
split m (pos a) h = solve (! (pos a)) (! (pos m) ⊗ ! (pos (a / m)) ⊕ ! (pos (a % m))) (omega (arith, div-add-mod a m))
split m (negsuc a) h =
    solve (! (negsuc a)) (! (pos m) ⊗ ! (negsuc (a / m)) ⊕ ! (pos (m - suc (a % m)))) (omega (arith, div-add-mod a m, mod-lt a h))

pub modulo_lt : (m : ℕ) (z : ℤ) → 0 < m → z modulo m < m
modulo_lt m (pos a) h = mod-lt a h
modulo_lt m (negsuc a) h = omega arith

pub split_only : (m : ℕ) (z q : ℤ) (r : ℕ) → r < m → z ≡ pos m *ℤ q +ℤ pos r → (shr_z z m ≡ q) × (z modulo m ≡ r)
split_only m z q r h e =
    let p : 0 < m = omega arith in
    let d : shr_z z m ≡ q = solve_shr m (! z) (! q) (omega (arith, fact (! z) (! (pos m) ⊗ ! q ⊕ ! (pos r)) e)) in
    (d, omega (arith, fact (! (pos m) ⊗ ! q ⊕ ! (pos (z modulo m))) (! (pos m) ⊗ ! q ⊕ ! (pos r)) (ap (λ (y : ℤ). pos m *ℤ y +ℤ pos (z modulo m)) (sym d) ∙ sym (split m z p) ∙ e)))

-- ---- the size of a quotient toward zero

pub abs_quot : (x y : ℤ) → nat_abs (quot_z x y) ≡ nat_abs x / nat_abs y
abs_quot (pos a) (pos b) = refl
abs_quot (pos a) (negsuc b) = abs_neg (a / suc b)
abs_quot (negsuc a) (pos b) = abs_neg (suc a / b)
abs_quot (negsuc a) (negsuc b) = refl

-- a quotient is no larger than what is divided
pub abs_quot_le : (x y : ℤ) {m : ℕ} → nat_abs x ≤ m → nat_abs (quot_z x y) ≤ m
abs_quot_le x y h = rw (abs_quot x y) (le_trans (div-le_self (nat_abs x) (nat_abs y)) h)
