-- What the code computes, in 16 bits. Both filters have the shape  a p − b q + 2 c x + 2 d y : luma's outer pair of samples is p and its inner pair q;
-- chroma's outer pair is q, and its a is 0. A bias keeps every sum from falling below 0, and is taken off at the end.
use Rattle.std.specs.Prelude.{ℕ, ◌+◌, ◌-◌, ◌*◌, ◌/◌, ◌%◌, ◌<◌, ◌≤◌, min, List, [], ℤ, pos, length, get_or}
use Rattle.evc_int.specs.Whole.{◌⁺, ◌⁻}
use Rattle.evc_plane.specs.declared.PlaneType.{PlaneType}
use Rattle.evc_plane.specs.declared.PlaneType.TheVariants.{Y, UV}
use Rattle.evc_filter.specs.Filter.{table}
use Rattle.evc_filter.specs.declared.Offsets.{Offsets}
use Rattle.evc_filter.specs.declared.Taps.{Taps}

-- the sizes of the taps in a row of the document's table: of the outer pair, of the inner pair, which is taken off, and half of each middle one
abbrev pub taps_in : PlaneType → List ℤ → Taps
taps_in Y row = record { a = get_or row 0 (pos 0) ⁺; b = get_or row 1 (pos 0) ⁻; c = get_or row 2 (pos 0) ⁺ / 2; d = get_or row 3 (pos 0) ⁺ / 2 }
taps_in UV row = record { a = 0; b = get_or row 0 (pos 0) ⁻; c = get_or row 1 (pos 0) ⁺ / 2; d = get_or row 2 (pos 0) ⁺ / 2 }

unfoldable pub taps_of : PlaneType → ℕ → Taps
taps_of t phase = taps_in t (get_or (table t) phase [])

-- taps for which no sum of 16 bits wraps
pub record Small (taps : Taps) : Type 0 where
  pub a_small : taps.a ≤ 2
  pub b_small : taps.b ≤ 10
  pub c_small : taps.c ≤ 32
  pub d_small : taps.d ≤ 29
  pub both_small : taps.c + taps.d ≤ 40

-- the first of two stages, and a single direction: a quarter of the sum, 5120 more
abbrev pub first_sum : Taps → ℕ → ℕ → ℕ → ℕ → ℕ
first_sum taps p q x y = ((taps.a * p + 20480 - taps.b * q) / 2 + taps.c * x + taps.d * y) / 2

-- the whole sum, with a bias
abbrev pub whole_sum : Taps → ℕ → ℕ → ℕ → ℕ → ℕ → ℕ
whole_sum taps p q x y bias = taps.a * p + 2 * (taps.c * x) + 2 * (taps.d * y) + bias - taps.b * q

-- the second of two stages: the sum of what lies above 6 bits of each number, and of what lies below, put together
abbrev pub second_sum : Taps → ℕ → ℕ → ℕ → ℕ → ℕ
second_sum taps p q x y =
    whole_sum taps (p / 64) (q / 64) (x / 64) (y / 64) 8310 + whole_sum taps (p % 64) (q % 64) (x % 64) (y % 64) 1152 / 64

-- rounded, the bias taken off, held to 0..1023
abbrev pub finished : ℕ → ℕ → ℕ
finished low n = min (n / 16 - low) 1023

-- ---- at a place of a list: the samples that the taps lie on. Luma's six places are 0 .. 5 steps on; chroma has four, and its p lies on the pair of q
abbrev pub offsets_of : PlaneType → ℕ → Offsets
offsets_of Y step = record { q0 = step; x = 2 * step; y = 3 * step; q1 = 4 * step; p1 = 5 * step }
offsets_of UV step = record { q0 = 0; x = step; y = 2 * step; q1 = 3 * step; p1 = 3 * step }

-- the last place is the farthest
pub record Ordered (o : Offsets) : Type 0 where
  pub q0_near : o.q0 ≤ o.p1
  pub x_near : o.x ≤ o.p1
  pub y_near : o.y ≤ o.p1
  pub q1_near : o.q1 ≤ o.p1

-- no sample under the taps is above `most`
pub record Bounded (most : ℕ) (s : List ℕ) (at : ℕ) (o : Offsets) : Type 0 where
  pub p0_most : get_or s at 0 ≤ most
  pub p1_most : get_or s (at + o.p1) 0 ≤ most
  pub q0_most : get_or s (at + o.q0) 0 ≤ most
  pub q1_most : get_or s (at + o.q1) 0 ≤ most
  pub x_most : get_or s (at + o.x) 0 ≤ most
  pub y_most : get_or s (at + o.y) 0 ≤ most

-- what a sum asks
pub record Under (most : ℕ) (s : List ℕ) (at : ℕ) (o : Offsets) (taps : Taps) : Type 0 where
  pub within : at + o.p1 < length s
  pub ordered : Ordered o
  pub small : Small taps
  pub bounded : Bounded most s at o

abbrev sum_at : (Taps → ℕ → ℕ → ℕ → ℕ → ℕ) → List ℕ → ℕ → Offsets → Taps → ℕ
sum_at sum s at o taps = sum taps (get_or s at 0 + get_or s (at + o.p1) 0) (get_or s (at + o.q0) 0 + get_or s (at + o.q1) 0) (get_or s (at + o.x) 0) (get_or s (at + o.y) 0)

-- the first of two stages, a single direction, and the second of two stages
unfoldable pub first_at : List ℕ → ℕ → Offsets → Taps → ℕ
first_at s at o taps = sum_at first_sum s at o taps

unfoldable pub single_at : List ℕ → ℕ → Offsets → Taps → ℕ
single_at s at o taps = finished 320 (first_at s at o taps + 8)

unfoldable pub second_at : List ℕ → ℕ → Offsets → Taps → ℕ
second_at s at o taps = finished 840 (sum_at second_sum s at o taps)
