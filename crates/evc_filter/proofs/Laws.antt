-- Bounds of the definition, where no sample under the taps is above 1023: the Rust keeps the first stage in 16 bits and sums in 32. Assumes nothing.
use mathlib.Core.List.{List}
use Prim.Native.Nat.{ℕ, ◌+◌, ◌*◌, ◌<◌, ◌≤◌}
use native.Mathlib.Nat.{mul-le-mul}
use native.Mathlib.Omega.{arith}
use lib.IntN.{ℤ, pos, ◌+ℤ◌}
use mir.Syntax.{w16, w32}
use mir.Val.{SFits}
use Rattle.evc_int.proofs.Whole.{Is, nat, is-+}
use Rattle.evc_int.proofs.Machine.{fit}
use Rattle.evc_plane.specs.declared.PlaneType.{PlaneType}
use Rattle.evc_plane.specs.declared.PlaneType.TheVariants.{Y, UV}
use Rattle.evc_filter.specs.Filter.{taps, phases, reach, tap_sum, row_stage}
use Rattle.evc_filter.specs.Inner.{taps_of, offsets_of, Bounded, first_at}
use Rattle.evc_filter.proofs.Tables.{shape, p_of, q_of, x_of, y_of}
use Rattle.evc_filter.proofs.Sums.{balance, taps_small, first_most, first_is}

pub first_stage_fits : (t : PlaneType) (dx : ℕ) → dx < phases t → (s : List ℕ) (at : ℕ) → Bounded 1023 s at (offsets_of t 1) → SFits w16 (row_stage t dx s at)
unfolding row_stage
first_stage_fits t dx l s at b = fit (first_is t dx l s at 1 b) (omega (arith, first_most s at (offsets_of t 1) (taps_of t dx) (taps_small t dx l) b))

-- the numbers under the taps, in pairs
record Pairs (t : PlaneType) (most : ℕ) (m : ℕ → ℕ) : Type 0 where
  p_high : p_of t m ≤ most + most
  q_high : q_of t m ≤ most + most
  x_high : x_of t m ≤ most
  y_high : y_of t m ≤ most

pairs : (t : PlaneType) (most : ℕ) (m : ℕ → ℕ) → ((j : ℕ) → j ≤ reach t → m j ≤ most) → Pairs t most m
pairs Y most m h =
    let a = h 0 (omega arith) in
    let b = h 1 (omega arith) in
    let e = h 4 (omega arith) in
    let f = h 5 (omega arith) in
    record { p_high = omega arith; q_high = omega arith; x_high = h 2 (omega arith); y_high = h 3 (omega arith) }
pairs UV most m h =
    let a = h 0 (omega arith) in
    let e = h 3 (omega arith) in
    record { p_high = omega arith; q_high = omega arith; x_high = h 1 (omega arith); y_high = h 2 (omega arith) }

sum_fits : (t : PlaneType) (phase : ℕ) → phase < phases t → (f : ℕ → ℤ) (m : ℕ → ℕ) → ((j : ℕ) → j ≤ reach t → Is (f j) (m j) 5120) → ((j : ℕ) → j ≤ reach t → m j ≤ 26603) → SFits w32 (tap_sum (taps t phase) f +ℤ pos 512)
sum_fits t phase l f m h b =
    let sh = shape t phase l in
    let small = sh.small in
    let p = pairs t 26603 m b in
    let c = pairs t 5120 (λ _. 5120) (λ j i. omega arith) in
    fit
    (is-+ (balance (taps t phase) f m 5120 (λ j i. h j (let e = sh.count in omega arith))) (nat 512))
    (omega (
      arith,
      sh.adds m,
      sh.takes m,
      sh.takes (λ _. 5120),
      sh.total 5120,
      mul-le-mul small.a_small p.p_high,
      mul-le-mul small.b_small p.q_high,
      mul-le-mul small.c_small p.x_high,
      mul-le-mul small.d_small p.y_high,
      mul-le-mul small.b_small c.q_high,
    ))

pub second_stage_fits : (t : PlaneType) (dx dy : ℕ) → dx < phases t → dy < phases t → (s : List ℕ) (at stride : ℕ) → ((j : ℕ) → j ≤ reach t → Bounded 1023 s (at + j * stride) (offsets_of t 1))
    → SFits w32 (tap_sum (taps t dy) (λ (j : ℕ). row_stage t dx s (at + j * stride)) +ℤ pos 512)
unfolding row_stage
second_stage_fits t dx dy lx ly s at stride b =
    sum_fits t dy ly _ (λ (j : ℕ). first_at s (at + j * stride) (offsets_of t 1) (taps_of t dx)) (λ j i. first_is t dx lx s (at + j * stride) 1 (b j i))
    (λ j i. first_most s (at + j * stride) (offsets_of t 1) (taps_of t dx) (taps_small t dx lx) (b j i))
