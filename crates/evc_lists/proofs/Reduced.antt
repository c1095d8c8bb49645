-- Loops that write each element in its place. Assumes nothing.
use Rattle.std.proofs.Common.{List, [], ◌∷◌, ◌++◌, ◌≡◌, refl, ap, arith, ℕ, zero, suc, ◌+◌, ◌<◌, add-one, map, length, take, drop, set, get_or}

module _ (f : ℕ → ℕ) where
  here : (xs : List ℕ) (i : ℕ) → i < length xs → get_or (map f (take i xs) ++ drop i xs) i 0 ≡ get_or xs i 0
  here [] i h = absurd (omega (arith, h))
  here (x ∷ xs) zero h = refl
  here (x ∷ xs) (suc i) h = here xs i (omega (arith, h))

  changed : (xs ys : List ℕ) (i : ℕ) → i < length xs → i < length ys → set (map f (take i xs) ++ drop i ys) i (f (get_or xs i 0)) ≡ map f (take (suc i) xs) ++ drop (suc i) ys
  changed [] ys i h k = absurd (omega (arith, h))
  changed (x ∷ xs) [] i h k = absurd (omega (arith, k))
  changed (x ∷ xs) (y ∷ ys) zero h k = refl
  changed (x ∷ xs) (y ∷ ys) (suc i) h k = ap (λ (t : List ℕ). f x ∷ t) (changed xs ys i (omega (arith, h)) (omega (arith, k)))

  -- from a list to another
  pub one_written : (xs ys zs : List ℕ) (i z : ℕ) → i < length xs → i < length ys → zs ≡ map f (take i xs) ++ drop i ys → z ≡ f (get_or xs i 0) → set zs i z ≡ map f (take (i + 1) xs) ++ drop (i + 1) ys
  one_written xs ys zs i z h k e d = rw (add-one i, d, e) (changed xs ys i h k)

  -- in one list
  pub one_more : (xs ys : List ℕ) (i y : ℕ) → i < length xs → ys ≡ map f (take i xs) ++ drop i xs → y ≡ f (get_or ys i 0) → set ys i y ≡ map f (take (i + 1) xs) ++ drop (i + 1) xs
  one_more xs ys i y h e d = rw (add-one i, d, e, here xs i h) (changed xs xs i h h)
