-- The bridge: what the code computes in 16 bits is the filter of the definition, over ℤ. The tap sum is split once for all tap counts. Assumes nothing.
use mathlib.Core.List.{List, [], ◌∷◌}
use mathlib.Core.Path.{◌≡◌, refl, sym, ap, ◌∙◌}
use Prim.Native.Nat.{ℕ, suc, ◌+◌, ◌-◌, ◌*◌, ◌/◌, ◌%◌, ◌<◌, ◌≤◌, min, suc-le-suc, zero-le}
use native.Mathlib.Omega.{arith}
use native.Mathlib.Nat.{mul-le-mul, le_refl}
use lib.Dec.{lit<}
use lib.IntN.{ℤ, pos, ◌+ℤ◌}
use lib.ListN.{length, get_or}
use lib.Signed.{shr_z}
use Rattle.evc_int.proofs.Whole.{Is, of, nat, is_by, is-+, is-*, parts}
use Rattle.evc_int.proofs.Division.{is_shr}
use Rattle.evc_plane.specs.declared.PlaneType.{PlaneType}
use Rattle.evc_plane.specs.declared.PlaneType.TheVariants.{Y, UV}
use Rattle.evc_filter.specs.Filter.{taps, phases, reach, tap_sum, clip_sample, first_stage, along, interpolated, row_stage, interpolated_twice}
use Rattle.evc_filter.specs.Inner.{taps_of, Small, second_sum, finished, offsets_of, Ordered, Bounded, first_at, single_at, second_at}
use Rattle.evc_filter.specs.declared.Offsets.{Offsets}
use Rattle.evc_filter.specs.declared.Taps.{Taps}
use Rattle.evc_filter.proofs.Tables.{plus, minus, p_of, q_of, x_of, y_of, shape}

-- ---- the tap sum of numbers that are each `bias` too high

pub balance : (cs : List ℤ) (f : ℕ → ℤ) (m : ℕ → ℕ) (bias : ℕ) → ((j : ℕ) → j < length cs → Is (f j) (m j) bias) → Is (tap_sum cs f) (plus cs m + minus cs (λ _. bias)) (minus cs m + plus cs (λ _. bias))
balance [] f m bias h = nat 0
balance (c ∷ cs) f m bias h =
    is_by
    (is-+ (is-* (of c) (h 0 (suc-le-suc zero-le))) (balance cs (λ (j : ℕ). f (suc j)) (λ (j : ℕ). m (suc j)) bias (λ j l. h (suc j) (suc-le-suc l))))
    (omega arith)

pub taps_small : (t : PlaneType) (phase : ℕ) → phase < phases t → Small (taps_of t phase)
taps_small t phase h = (shape t phase h).small

pub offsets_ordered : (t : PlaneType) (step : ℕ) → Ordered (offsets_of t step)
offsets_ordered Y step = omega arith
offsets_ordered UV step = omega arith

-- ---- at a place of a list: the numbers under the taps

abbrev at_step : List ℕ → ℕ → ℕ → ℕ → ℕ
at_step s at step j = get_or s (at + j * step) 0

record Placed (t : PlaneType) (s : List ℕ) (at step : ℕ) : Type 0 where
  p_is : p_of t (at_step s at step) ≡ get_or s at 0 + get_or s (at + (offsets_of t step).p1) 0
  q_is : q_of t (at_step s at step) ≡ get_or s (at + (offsets_of t step).q0) 0 + get_or s (at + (offsets_of t step).q1) 0
  x_is : x_of t (at_step s at step) ≡ get_or s (at + (offsets_of t step).x) 0
  y_is : y_of t (at_step s at step) ≡ get_or s (at + (offsets_of t step).y) 0

placed : (t : PlaneType) (s : List ℕ) (at step : ℕ) → Placed t s at step
placed Y s at step =
    let z : get_or s (at + 0 * step) 0 ≡ get_or s at 0 = ap (λ (i : ℕ). get_or s i 0) (omega arith) in
    let o : get_or s (at + 1 * step) 0 ≡ get_or s (at + step) 0 = ap (λ (i : ℕ). get_or s i 0) (omega arith) in
    record { p_is = omega arith; q_is = omega arith; x_is = refl; y_is = refl }
placed UV s at step =
    let z : get_or s (at + 0 * step) 0 ≡ get_or s at 0 = ap (λ (i : ℕ). get_or s i 0) (omega arith) in
    let z' : get_or s (at + 0) 0 ≡ get_or s at 0 = ap (λ (i : ℕ). get_or s i 0) (omega arith) in
    let o : get_or s (at + 1 * step) 0 ≡ get_or s (at + step) 0 = ap (λ (i : ℕ). get_or s i 0) (omega arith) in
    record { p_is = omega arith; q_is = omega arith; x_is = o; y_is = refl }

-- ---- the sum of the numbers under the taps, each `bias` too high

module _ (t : PlaneType) (phase : ℕ) (l : phase < phases t) (s : List ℕ) (at step : ℕ) where
  sum_is : (f : ℕ → ℤ) (bias : ℕ) → ((j : ℕ) → j ≤ reach t → Is (f j) (at_step s at step j) bias)
      → Is (tap_sum (taps t phase) f)
      ((taps_of t phase).a * (get_or s at 0 + get_or s (at + (offsets_of t step).p1) 0) + 2 * ((taps_of t phase).c * get_or s (at + (offsets_of t step).x) 0) + 2 * ((taps_of t phase).d * get_or s (at + (offsets_of t step).y) 0))
      ((taps_of t phase).b * (get_or s (at + (offsets_of t step).q0) 0 + get_or s (at + (offsets_of t step).q1) 0) + 64 * bias)
  sum_is f bias h =
      let sh = shape t phase l in
      let u = placed t s at step in
      let b = balance (taps t phase) f (at_step s at step) bias (λ j m. h j (let c = sh.count in omega arith)) in
      is_by b
      (omega (
        arith,
        sh.adds (at_step s at step),
        sh.takes (at_step s at step),
        sh.total bias,
        ap (λ (n : ℕ). (taps_of t phase).a * n) u.p_is,
        ap (λ (n : ℕ). (taps_of t phase).b * n) u.q_is,
        ap (λ (n : ℕ). (taps_of t phase).c * n) u.x_is,
        ap (λ (n : ℕ). (taps_of t phase).d * n) u.y_is,
      ))

-- ---- numbers alone: a, c, e and d stand for the products of the taps with p, x, y and q

-- a quarter of the sum, in the code's order and at once
first_shape : (a c e d : ℕ) → d ≤ 20480 → ((a + 20480 - d) / 2 + c + e) / 2 ≡ (a + 2 * c + 2 * e + 20480 - d) / 4
first_shape a c e d h = omega arith

single_shape : (n : ℕ) → (n / 4 + 8) / 16 ≡ (n + 32) / 64
single_shape n = omega arith

-- a sum that is u less d, with 64 times `low` more, rounded down
rounded : (z : ℤ) (u d v m low : ℕ) → 0 < m → Is z u d → v + d ≡ u + low * m → Is (shr_z z m) (v / m) low
rounded z u d v m low h p e = is_shr m low h (is_by p (omega arith))

clipped : (z : ℤ) (v low : ℕ) → Is z v low → min (v - low) 1023 ≡ clip_sample z
clipped z v low p = ap (λ (n : ℕ). min n 1023) (sym (parts p).0)

-- ---- the first of two stages, and a single direction

pub first_most : (s : List ℕ) (at : ℕ) (o : Offsets) (taps : Taps) → Small taps → Bounded 1023 s at o → first_at s at o taps ≤ 26603
unfolding first_at
first_most s at o taps small b =
    let p : get_or s at 0 + get_or s (at + o.p1) 0 ≤ 2046 = omega (arith, b.p0_most, b.p1_most) in
    let a = mul-le-mul small.a_small p in
    let x : taps.c * get_or s (at + o.x) 0 ≤ taps.c * 1023 = mul-le-mul (le_refl taps.c) b.x_most in
    let y : taps.d * get_or s (at + o.y) 0 ≤ taps.d * 1023 = mul-le-mul (le_refl taps.d) b.y_most in
    let both = small.both_small in
    omega arith

module _ (t : PlaneType) (phase : ℕ) (l : phase < phases t) (s : List ℕ) (at step : ℕ) (b : Bounded 1023 s at (offsets_of t step)) where
  sum_of_samples : ℤ
  sum_of_samples = tap_sum (taps t phase) (along s at step)

  added : ℕ
  added = (taps_of t phase).a * (get_or s at 0 + get_or s (at + (offsets_of t step).p1) 0) + 2 * ((taps_of t phase).c * get_or s (at + (offsets_of t step).x) 0) + 2 * ((taps_of t phase).d * get_or s (at + (offsets_of t step).y) 0)

  taken : ℕ
  taken = (taps_of t phase).b * (get_or s (at + (offsets_of t step).q0) 0 + get_or s (at + (offsets_of t step).q1) 0)

  taken_small : taken ≤ 20480
  unfolding taken
  taken_small =
      let q : get_or s (at + (offsets_of t step).q0) 0 + get_or s (at + (offsets_of t step).q1) 0 ≤ 2046 = omega (arith, b.q0_most, b.q1_most) in
      omega (arith, mul-le-mul (taps_small t phase l).b_small q)

  is_sum : Is sum_of_samples added taken
  unfolding sum_of_samples added taken
  is_sum = is_by (sum_is t phase l s at step (along s at step) 0 (λ j m. nat (at_step s at step j))) (omega arith)

  first_of : first_at s at (offsets_of t step) (taps_of t phase) ≡ (added + 20480 - taken) / 4
  unfolding first_at added taken
  first_of =
      first_shape ((taps_of t phase).a * (get_or s at 0 + get_or s (at + (offsets_of t step).p1) 0)) ((taps_of t phase).c * get_or s (at + (offsets_of t step).x) 0) ((taps_of t phase).d * get_or s (at + (offsets_of t step).y) 0)
      ((taps_of t phase).b * (get_or s (at + (offsets_of t step).q0) 0 + get_or s (at + (offsets_of t step).q1) 0)) taken_small

  pub first_is : Is (first_stage (tap_sum (taps t phase) (along s at step))) (first_at s at (offsets_of t step) (taps_of t phase)) 5120
  unfolding sum_of_samples
  first_is = rw first_of (rounded sum_of_samples added taken (added + 20480 - taken) 4 5120 (lit< tt) is_sum (let h = taken_small in omega arith))

  pub single_is : single_at s at (offsets_of t step) (taps_of t phase) ≡ interpolated t phase s at step
  unfolding single_at interpolated sum_of_samples
  single_is =
      let n = added + 20480 - taken in
      let e : finished 320 (first_at s at (offsets_of t step) (taps_of t phase) + 8) ≡ min ((n + 32) / 64 - 320) 1023 =
      ap (λ (m : ℕ). finished 320 (m + 8)) first_of ∙ ap (λ (m : ℕ). min (m - 320) 1023) (single_shape n) in
      e ∙ clipped (shr_z (sum_of_samples +ℤ pos 32) 64) ((n + 32) / 64) 320
      (rounded (sum_of_samples +ℤ pos 32) (added + 32) taken (n + 32) 64 320 (lit< tt) (is_by (is-+ is_sum (nat 32)) (omega arith)) (let h = taken_small in omega arith))

-- ---- the second of two stages, over what the first has left in m

-- a product of a number that is split at 6 bits
split : (c n : ℕ) → c * (n / 64) * 64 + c * (n % 64) ≡ c * n
split c n = let e : n ≡ n / 64 * 64 + n % 64 = omega arith in omega (arith, ap (λ (i : ℕ). c * i) e)

join : (high low : ℕ) → (high + low / 64) / 16 ≡ (high * 64 + low) / 1024
join high low = omega arith

apart : (h l v w x y : ℕ) → v ≤ h → w ≤ l → h * 64 + l ≡ x + 512 → v * 64 + w ≡ y → y ≤ x → (h - v) * 64 + (l - w) ≡ x - y + 512
apart h l v w x y p q r s u = let e : h * 64 + l ≡ (h - v) * 64 + (l - w) + (v * 64 + w) = omega arith in omega arith

-- the two sums of the parts are the sum of the wholes, with 532480 and 512 more
second_sum_is : (taps : Taps) → Small taps → (p q x y : ℕ) → q ≤ 53206
    → second_sum taps p q x y / 16 ≡ (taps.a * p + 2 * (taps.c * x) + 2 * (taps.d * y) + 532480 - taps.b * q + 512) / 1024
second_sum_is taps small p q x y h =
    let q₁ : q / 64 ≤ 831 = omega arith in
    let q₀ : q % 64 ≤ 63 = omega arith in
    let d₁ = mul-le-mul small.b_small q₁ in
    let d₀ = mul-le-mul small.b_small q₀ in
    join _ _
    ∙ ap (λ (n : ℕ). n / 1024)
    (apart (taps.a * (p / 64) + 2 * (taps.c * (x / 64)) + 2 * (taps.d * (y / 64)) + 8310) (taps.a * (p % 64) + 2 * (taps.c * (x % 64)) + 2 * (taps.d * (y % 64)) + 1152)
    (taps.b * (q / 64)) (taps.b * (q % 64)) (taps.a * p + 2 * (taps.c * x) + 2 * (taps.d * y) + 532480) (taps.b * q)
    (omega arith) (omega arith) (omega (arith, split taps.a p, split taps.c x, split taps.d y)) (split taps.b q) (omega (arith, split taps.b q)))

module _ (t : PlaneType) (dx dy : ℕ) (l : dy < phases t) (s m : List ℕ) (at to stride step : ℕ) (b : Bounded 26603 m to (offsets_of t step)) where
  pub second_is : ((j : ℕ) → j ≤ reach t → Is (row_stage t dx s (at + j * stride)) (get_or m (to + j * step) 0) 5120) → second_at m to (offsets_of t step) (taps_of t dy) ≡ interpolated_twice t dx dy s at stride
  unfolding second_at interpolated_twice
  second_is h =
      let sizes = taps_of t dy in
      let small = taps_small t dy l in
      let p = get_or m to 0 + get_or m (to + (offsets_of t step).p1) 0 in
      let q = get_or m (to + (offsets_of t step).q0) 0 + get_or m (to + (offsets_of t step).q1) 0 in
      let x = get_or m (to + (offsets_of t step).x) 0 in
      let y = get_or m (to + (offsets_of t step).y) 0 in
      let added = sizes.a * p + 2 * (sizes.c * x) + 2 * (sizes.d * y) in
      let taken = sizes.b * q in
      let qh : q ≤ 53206 = omega (arith, b.q0_most, b.q1_most) in
      let bound : taken ≤ 532480 = omega (arith, mul-le-mul small.b_small qh) in
      let z = tap_sum (taps t dy) (λ (j : ℕ). row_stage t dx s (at + j * stride)) in
      let n = added + 532480 - taken + 512 in
      let sum : Is z added (taken + 64 * 5120) = sum_is t dy l m to step (λ (j : ℕ). row_stage t dx s (at + j * stride)) 5120 h in
      ap (λ (i : ℕ). min (i - 840) 1023) (second_sum_is sizes small p q x y qh)
      ∙ clipped (shr_z (z +ℤ pos 512) 1024) (n / 1024) 840
      (rounded (z +ℤ pos 512) (added + 512) (taken + 64 * 5120) n 1024 840 (lit< tt) (is_by (is-+ sum (nat 512)) (omega arith)) (omega arith))
