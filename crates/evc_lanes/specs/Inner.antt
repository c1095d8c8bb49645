-- What lanes ask: the samples under the taps of each sample that is made.
use Rattle.std.specs.Prelude.{Bool, ◌&&◌, ◌||◌, List, ℕ, ◌+◌, ◌%◌, ◌<◌, ◌≤◌, eqb, leb, length}
use Rattle.evc_filter.specs.Inner.{Ordered, Small, Bounded}
use Rattle.evc_filter.specs.declared.Offsets.{Offsets}
use Rattle.evc_filter.specs.declared.Taps.{Taps}

-- a block that the code can do: by columns of eight, or 4 or 2 wide
abbrev pub is_row_width : ℕ → Bool
is_row_width n = eqb n 2 || eqb n 4 || (leb 8 n && eqb (n % 8) 0)

-- n samples of a row, from those that begin at `at`: all under their taps lie within the list, and none is above `most`
pub record Row (most n : ℕ) (s : List ℕ) (at : ℕ) (o : Offsets) (taps : Taps) : Type 0 where
  pub within : at + n + o.p1 ≤ length s
  pub ordered : Ordered o
  pub small : Small taps
  pub bounded : (x : ℕ) → x < n → Bounded most s (at + x) o
