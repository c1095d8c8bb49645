-- A block's side as the code tests it, by the count of its bits, and as the definition names it. Assumes nothing.
use mathlib.Core.Bool.{Bool, true, false, not, cond, ◌&&◌, and-false}
use mathlib.Core.Path.{◌≡◌, refl, subst}
use Prim.Native.Nat.{ℕ, zero, suc, ◌≤◌}
use native.Mathlib.Omega.{arith}
use lib.Count.{ones, ones_in}
use lib.Dec.{T, leb}
use borrow.Author.Tests.{leb-true, leb-false, ne_eqb}
use mir.Facts.{and_yes}
use Rattle.evc_def.specs.Blocks.{is_block_side}

abbrev tested : ℕ → Bool
tested n = leb 4 n && leb n 64 && leb (ones n) 1

-- the two agree at a number, and at every number up to one
abbrev agree : ℕ → Bool
agree n = cond (tested n) (is_block_side n) (not (is_block_side n))

abbrev agree_to : ℕ → Bool
agree_to zero = agree zero
agree_to (suc n) = agree (suc n) && agree_to n

equal : (a b : Bool) → T (cond a b (not b)) → a ≡ b
equal true true t = refl
equal false false t = refl
equal true false t = absurd t
equal false true t = absurd t

at : (k n : ℕ) → T (agree_to k) → n ≤ k → T (agree n)
at zero n t h = let e : zero ≡ n = omega arith in subst (λ (m : ℕ). T (agree m)) e t
at (suc k) n t h = let b = and_yes (agree (suc k)) (agree_to k) t in by_test (leb n k) refl b.0 (λ l. at k n b.1 l)
  where
    by_test : (s : Bool) → leb n k ≡ s → T (agree (suc k)) → (n ≤ k → T (agree n)) → T (agree n)
    by_test true e last before = before (leb-true n k e)
    by_test false e last before =
        let l = leb-false n k e in
        let p : suc k ≡ n = omega arith in
        subst (λ (m : ℕ). T (agree m)) p last

all_agree : T (agree_to 64)
unfolding ones ones_in
all_agree = tt

pub sides : (n : ℕ) → tested n ≡ is_block_side n
sides n = by_test (leb n 64) refl
  where
    by_test : (t : Bool) → leb n 64 ≡ t → tested n ≡ is_block_side n
    by_test true e = equal (tested n) (is_block_side n) (at 64 n all_agree (leb-true n 64 e))
    by_test false e =
        let l = leb-false n 64 e in
        simp (
          e,
          and-false,
          ne_eqb n 4 (λ p. omega arith),
          ne_eqb n 8 (λ p. omega arith),
          ne_eqb n 16 (λ p. omega arith),
          ne_eqb n 32 (λ p. omega arith),
          ne_eqb n 64 (λ p. omega arith),
        )
