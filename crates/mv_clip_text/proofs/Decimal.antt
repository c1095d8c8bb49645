-- What the library prints of a number below 100,000 is its digits by their weights. Assumes nothing.
use Rattle.std.proofs.Common.{List, [], ◌∷◌, ◌++◌, append_assoc, ◌≡◌, refl, sym, ap, ◌∙◌, ⊎_elim, ℕ, suc, ◌+◌, ◌/◌, ◌%◌, ◌<◌, ◌≤◌, arith, ℤ, pos, negsuc, ◌-ℤ◌, ◌<ℤ◌, ◌≤ℤ◌}
use Rattle.std.proofs.lemmas.Int.{ints}
use Rattle.std.proofs.lemmas.Bool.{le-leb, lt-leb, cases_lt}
use Rattle.std.proofs.lemmas.Fmt.{decimal_by_steps}
use Rattle.std.specs.Fmt.{decimal as printed, signed_decimal as printed_signed}
use Rattle.mv_clip_text.specs.Decimal.{digit, decimal, signed_decimal}

by_computation : decimal 1234 ≡ 49 ∷ 50 ∷ 51 ∷ 52 ∷ []
unfolding decimal
by_computation = refl

no_digit : (weight n : ℕ) → n < weight → digit weight n ≡ []
no_digit weight n h = simp (lt-leb weight n h)

a_digit : (weight n : ℕ) → weight ≤ n → digit weight n ≡ (48 + n / weight % 10) ∷ []
a_digit weight n h = simp (le-leb weight n h)

-- the digits of a tenth weigh ten times as much
tenth_10 : (n : ℕ) → digit 10 (n / 10) ≡ digit 100 n
tenth_10 n =
    ⊎_elim
    (λ h. no_digit 10 (n / 10) (omega (arith, h)) ∙ sym (no_digit 100 n h))
    (λ h. let e : n / 10 / 10 % 10 ≡ n / 100 % 10 = omega arith in
    a_digit 10 (n / 10) (omega (arith, h)) ∙ ap (λ (k : ℕ). (48 + k) ∷ []) e ∙ sym (a_digit 100 n h))
    (cases_lt n 100)

tenth_100 : (n : ℕ) → digit 100 (n / 10) ≡ digit 1000 n
tenth_100 n =
    ⊎_elim
    (λ h. no_digit 100 (n / 10) (omega (arith, h)) ∙ sym (no_digit 1000 n h))
    (λ h. let e : n / 10 / 100 % 10 ≡ n / 1000 % 10 = omega arith in
    a_digit 100 (n / 10) (omega (arith, h)) ∙ ap (λ (k : ℕ). (48 + k) ∷ []) e ∙ sym (a_digit 1000 n h))
    (cases_lt n 1000)

tenth_1000 : (n : ℕ) → digit 1000 (n / 10) ≡ digit 10000 n
tenth_1000 n =
    ⊎_elim
    (λ h. no_digit 1000 (n / 10) (omega (arith, h)) ∙ sym (no_digit 10000 n h))
    (λ h. let e : n / 10 / 1000 % 10 ≡ n / 10000 % 10 = omega arith in
    a_digit 1000 (n / 10) (omega (arith, h)) ∙ ap (λ (k : ℕ). (48 + k) ∷ []) e ∙ sym (a_digit 10000 n h))
    (cases_lt n 10000)

one : (n : ℕ) → n < 10 → (48 + n) ∷ [] ≡ decimal n
unfolding decimal
one n h =
    let e : n % 10 ≡ n = omega (arith, h) in
    rw (no_digit 10000 n (omega (arith, h)), no_digit 1000 n (omega (arith, h)), no_digit 100 n (omega (arith, h)), no_digit 10 n h, e) refl

more : (n : ℕ) → 10 ≤ n → n < 100000 → decimal (n / 10) ++ ((48 + n % 10) ∷ []) ≡ decimal n
unfolding decimal
more n l h =
    rw (no_digit 10000 (n / 10) (omega (arith, h)), tenth_1000 n, tenth_100 n, tenth_10 n, a_digit 10 n l, append_assoc (digit 10000 n)) refl

-- the digits by their weights
pub decimal_printed : (n : ℕ) → n < 100000 → printed n ≡ decimal n
decimal_printed n h =
    decimal_by_steps
    (λ n ds. n < 100000 → ds ≡ decimal n)
    (λ n l _. one n l)
    (λ n ds l p h. ap (λ (t : List ℕ). t ++ ((48 + n % 10) ∷ [])) (p (omega (arith, h))) ∙ more n l h)
    n
    (omega (arith, h))
    h

pub signed_printed : (z : ℤ) → (pos 0 -ℤ pos 32768) ≤ℤ z → z <ℤ pos 32768 → printed_signed z ≡ signed_decimal z
unfolding signed_decimal
signed_printed (pos n) l h = decimal_printed n (omega (arith, ints))
signed_printed (negsuc n) l h = ap (λ (t : List ℕ). 45 ∷ t) (decimal_printed (suc n) (omega (arith, ints)))
