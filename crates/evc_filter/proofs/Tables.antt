-- The two tables of taps, tested whole: the code's sizes are theirs, each filter adds up to 64, and both are symmetric. Assumes nothing.
use mathlib.Core.List.{List, [], ◌∷◌, map, reverse}
use mathlib.Core.Path.{◌≡◌, refl, sym, ap, ◌∙◌}
use Prim.Native.Nat.{ℕ, zero, suc, ◌+◌, ◌-◌, ◌*◌, ◌<◌}
use native.Mathlib.Nat.{le_of_suc-le-suc, not-suc-le-zero}
use native.Mathlib.Omega.{arith}
use lib.IntN.{ℤ}
use lib.ListN.{length, length-map}
use Rattle.evc_int.specs.Whole.{◌⁺, ◌⁻}
use Rattle.evc_plane.specs.declared.PlaneType.{PlaneType}
use Rattle.evc_plane.specs.declared.PlaneType.TheVariants.{Y, UV}
use Rattle.evc_filter.specs.Filter.{taps, phases, reach}
use Rattle.evc_filter.specs.Inner.{taps_of, Small}
use Rattle.evc_filter.specs.declared.Taps.{Taps}

-- ---- a rule that is computed at each of n numbers

abbrev upto : {X : Type 0} → (ℕ → X) → ℕ → List X
upto f zero = []
upto f (suc n) = f 0 ∷ upto (λ (i : ℕ). f (suc i)) n

each : {X : Type 0} (f g : ℕ → X) (n : ℕ) → upto f n ≡ upto g n → (i : ℕ) → i < n → f i ≡ g i
each f g zero e i l = absurd (not-suc-le-zero l)
each f g (suc n) e zero l = cc
each f g (suc n) e (suc i) l =
    let tail : upto (λ (i : ℕ). f (suc i)) n ≡ upto (λ (i : ℕ). g (suc i)) n = cc in
    each (λ (i : ℕ). f (suc i)) (λ (i : ℕ). g (suc i)) n tail i (le_of_suc-le-suc l)

-- ---- the fixed filters are symmetric: the taps of a phase but 0 are those of the phase as far from the next sample, reversed. Demand 3's mirrors rest on this

mirrored : (t : PlaneType) → upto (λ (i : ℕ). taps t (phases t - suc i)) (phases t - 1) ≡ upto (λ (i : ℕ). reverse (taps t (suc i))) (phases t - 1)
mirrored Y = refl
mirrored UV = refl

pub symmetric : (t : PlaneType) (i : ℕ) → suc i < phases t → taps t (phases t - suc i) ≡ reverse (taps t (suc i))
symmetric t i l = each (λ (i : ℕ). taps t (phases t - suc i)) (λ (i : ℕ). reverse (taps t (suc i))) (phases t - 1) (mirrored t) i (omega arith)

-- ---- their shape

-- numbers under weights: what the taps above 0 add, and what those below 0 take away
abbrev pub weighed : List ℕ → (ℕ → ℕ) → ℕ
weighed [] m = 0
weighed (w ∷ ws) m = w * m 0 + weighed ws (λ (j : ℕ). m (suc j))

abbrev pub plus : List ℤ → (ℕ → ℕ) → ℕ
plus row m = weighed (map ◌⁺ row) m

abbrev pub minus : List ℤ → (ℕ → ℕ) → ℕ
minus row m = weighed (map ◌⁻ row) m

-- the numbers in their pairs
abbrev pub p_of : PlaneType → (ℕ → ℕ) → ℕ
p_of Y m = m 0 + m 5
p_of UV m = m 0 + m 3

abbrev pub q_of : PlaneType → (ℕ → ℕ) → ℕ
q_of Y m = m 1 + m 4
q_of UV m = m 0 + m 3

abbrev pub x_of : PlaneType → (ℕ → ℕ) → ℕ
x_of Y m = m 2
x_of UV m = m 1

abbrev pub y_of : PlaneType → (ℕ → ℕ) → ℕ
y_of Y m = m 3
y_of UV m = m 2

-- the weights of each
abbrev added : PlaneType → Taps → List ℕ
added Y taps = taps.a ∷ 0 ∷ 2 * taps.c ∷ 2 * taps.d ∷ 0 ∷ taps.a ∷ []
added UV taps = taps.a ∷ 2 * taps.c ∷ 2 * taps.d ∷ taps.a ∷ []

abbrev taken : PlaneType → Taps → List ℕ
taken Y taps = 0 ∷ taps.b ∷ 0 ∷ 0 ∷ taps.b ∷ 0 ∷ []
taken UV taps = taps.b ∷ 0 ∷ 0 ∷ taps.b ∷ []

-- by how much the sizes are too large
abbrev excess : Taps → ℕ
excess taps = (taps.a - 2) + (taps.b - 10) + (taps.c - 32) + (taps.d - 29) + (taps.c + taps.d - 40)

abbrev Row : Type 0
Row = List ℕ × List ℕ × ℕ × ℕ

abbrev found : PlaneType → ℕ → Row
found t phase = (map ◌⁺ (taps t phase), map ◌⁻ (taps t phase), (taps_of t phase).a + (taps_of t phase).c + (taps_of t phase).d, excess (taps_of t phase))

abbrev wanted : PlaneType → ℕ → Row
wanted t phase = (added t (taps_of t phase), taken t (taps_of t phase), (taps_of t phase).b + 32, 0)

tested : (t : PlaneType) → upto (found t) (phases t) ≡ upto (wanted t) (phases t)
unfolding taps_of
tested Y = refl
tested UV = refl

-- ---- the same for any sizes

adds_of : (t : PlaneType) (taps : Taps) (m : ℕ → ℕ) → weighed (added t taps) m ≡ taps.a * p_of t m + 2 * (taps.c * x_of t m) + 2 * (taps.d * y_of t m)
adds_of Y taps m = omega arith
adds_of UV taps m = omega arith

takes_of : (t : PlaneType) (taps : Taps) (m : ℕ → ℕ) → weighed (taken t taps) m ≡ taps.b * q_of t m
takes_of Y taps m = omega arith
takes_of UV taps m = omega arith

total_of : (t : PlaneType) (taps : Taps) (n : ℕ) → taps.a + taps.c + taps.d ≡ taps.b + 32
    → taps.a * p_of t (λ _. n) + 2 * (taps.c * x_of t (λ _. n)) + 2 * (taps.d * y_of t (λ _. n)) ≡ taps.b * q_of t (λ _. n) + 64 * n
total_of Y taps n e = omega (arith, ap (λ (i : ℕ). i * n) e)
total_of UV taps n e = omega (arith, ap (λ (i : ℕ). i * n) e)

count_of : (t : PlaneType) (taps : Taps) → length (added t taps) ≡ suc (reach t)
count_of Y taps = refl
count_of UV taps = refl

small_of : (taps : Taps) → excess taps ≡ 0 → Small taps
small_of taps e = omega arith

-- what holds of a filter at each phase
pub record Shape (t : PlaneType) (phase : ℕ) : Type 0 where
  pub adds : (m : ℕ → ℕ) → plus (taps t phase) m ≡ (taps_of t phase).a * p_of t m + 2 * ((taps_of t phase).c * x_of t m) + 2 * ((taps_of t phase).d * y_of t m)
  pub takes : (m : ℕ → ℕ) → minus (taps t phase) m ≡ (taps_of t phase).b * q_of t m
  pub total : (n : ℕ) → plus (taps t phase) (λ _. n) ≡ minus (taps t phase) (λ _. n) + 64 * n
  pub small : Small (taps_of t phase)
  pub count : length (taps t phase) ≡ suc (reach t)

pub shape : (t : PlaneType) (phase : ℕ) → phase < phases t → Shape t phase
shape t phase l =
    let e = each (found t) (wanted t) (phases t) (tested t) phase l in
    let sizes = taps_of t phase in
    let adds : (m : ℕ → ℕ) → plus (taps t phase) m ≡ sizes.a * p_of t m + 2 * (sizes.c * x_of t m) + 2 * (sizes.d * y_of t m) =
    λ m. ap (λ (r : Row). weighed r.0 m) e ∙ adds_of t sizes m in
    let takes : (m : ℕ → ℕ) → minus (taps t phase) m ≡ sizes.b * q_of t m = λ m. ap (λ (r : Row). weighed r.1 m) e ∙ takes_of t sizes m in
    record {
      adds = adds;
      takes = takes;
      total = λ n. omega (arith, adds (λ _. n), takes (λ _. n), total_of t sizes n (ap (λ (r : Row). r.2) e));
      small = small_of sizes (ap (λ (r : Row). r.3) e);
      count = sym (length-map (taps t phase) ◌⁺) ∙ ap (λ (r : Row). length r.0) e ∙ count_of t sizes;
    }
