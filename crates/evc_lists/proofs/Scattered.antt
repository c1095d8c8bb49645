-- A loop that writes arbitrary samples, one behind the other. Assumes nothing.
use Rattle.std.proofs.Common.{ap₂, append-nil, add-one, take_all, List, [], ◌∷◌, ◌++◌, ◌≡◌, refl, ap, ◌∙◌, sym, arith, ℕ, zero, suc, ◌+◌, ◌-◌, ◌/◌, ◌<◌, ◌≤◌, length, take, set}
use Rattle.evc_lists.specs.Arbitrary.{following, scattered}

-- the samples behind one more
written : (s t : List ℕ) (i x : ℕ) → i < length s → take (suc i) (set s i x) ++ t ≡ take i s ++ (x ∷ t)
written [] t i x h = absurd (omega (arith, h))
written (y ∷ s) t zero x h = refl
written (y ∷ s) t (suc i) x h = ap (λ (r : List ℕ). y ∷ r) (written s t i x (omega (arith, h)))

one : (z n : ℕ) → scattered z (suc n) ≡ following z / 0x8000 ∷ scattered (following z) n
unfolding scattered
one z n = refl

none : (z : ℕ) → scattered z 0 ≡ []
unfolding scattered
none z = refl

pub one_more : (z n i : ℕ) (s all : List ℕ) (x y : ℕ) → i < n → length s ≡ n → x ≡ y / 0x8000 → y ≡ following z → take i s ++ scattered z (n - i) ≡ all
    → take (i + 1) (set s i x) ++ scattered y (n - (i + 1)) ≡ all
one_more z n i s all x y h l d e inv =
    let j : n - i ≡ suc (n - suc i) = omega (arith, h) in
    rw (add-one i, d, e)
    (written s (scattered (following z) (n - suc i)) i (following z / 0x8000) (omega (arith, h, l))
    ∙ ap (λ (t : List ℕ). take i s ++ t) (sym (one z (n - suc i)) ∙ ap (scattered z) (sym j))
    ∙ inv)

pub all_written : (z n i : ℕ) (s all : List ℕ) → n ≤ i → length s ≡ n → take i s ++ scattered z (n - i) ≡ all → s ≡ all
all_written z n i s all h l inv =
    let j : n - i ≡ 0 = omega (arith, h) in
    sym (append-nil s)
    ∙ ap₂ (λ (t u : List ℕ). t ++ u) (sym (take_all i s (omega (arith, h, l)))) (sym (ap (scattered z) j ∙ none z))
    ∙ inv
