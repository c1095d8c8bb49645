-- What blocks ask: the samples under the taps of each sample that is made.
use Rattle.std.specs.Prelude.{List, ℕ, ◌+◌, ◌*◌, ◌<◌, ◌≤◌, length}
use Rattle.evc_filter.specs.Inner.{Ordered, Small, Bounded}
use Rattle.evc_filter.specs.declared.Offsets.{Offsets}
use Rattle.evc_filter.specs.declared.Taps.{Taps}

-- h rows of n samples, `stride` apart
pub record Rows (most n stride h : ℕ) (s : List ℕ) (at : ℕ) (o : Offsets) (taps : Taps) : Type 0 where
  pub within : at + h * stride + n + o.p1 ≤ length s + stride
  pub ordered : Ordered o
  pub small : Small taps
  pub bounded : (y x : ℕ) → y < h → x < n → Bounded most s (at + y * stride + x) o
