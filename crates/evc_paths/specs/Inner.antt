-- The directions and paths as the code has them, and what a path asks of its window.
use Rattle.std.specs.Prelude.{Bool, true, false, List, ℕ, ◌+◌, ◌*◌, ◌<◌, ◌≤◌, length, get_or}
use Rattle.evc_plane.specs.declared.PlaneSlice.{PlaneSlice}
use Rattle.evc_paths.specs.declared.Direction.{Direction}
use Rattle.evc_paths.specs.declared.Direction.TheVariants.{Across, Down}
use Rattle.evc_paths.specs.declared.Path.{Path}
use Rattle.evc_paths.specs.declared.Path.TheVariants.{Whole, One, Both}

-- the first across, the second down
abbrev pub along : Direction → ℕ → ℕ → ℕ
along Across a b = a
along Down a b = b

-- how far apart the samples under the taps of a direction lie
abbrev pub step_of : Direction → ℕ → ℕ
step_of d stride = along d 1 stride

-- the directions that a path filters
abbrev pub is_across : Path → Bool
is_across Whole = false
is_across (One Across) = true
is_across (One Down) = false
is_across Both = true

abbrev pub is_down : Path → Bool
is_down Whole = false
is_down (One Across) = false
is_down (One Down) = true
is_down Both = true

abbrev pub filters : Path → Direction → Bool
filters p Across = is_across p
filters p Down = is_down p

-- the path that filters these
abbrev pub path_of : Bool → Bool → Path
path_of false false = Whole
path_of true false = One Across
path_of false true = One Down
path_of true true = Both

-- no sample of a window is above 1023
abbrev pub Within : List ℕ → ℕ → ℕ → ℕ → ℕ → Type 0
Within s at stride n h = (y x : ℕ) → y < h → x < n → get_or s (at + y * stride + x) 0 ≤ 1023

-- n columns and h rows of a window: they lie in its plane, and no sample of them is above 1023
abbrev pub Covers : PlaneSlice → ℕ → ℕ → Type 0
Covers window n h = (window.at + h * window.stride + n ≤ length window.plane.now + window.stride) × Within window.plane.now window.at window.stride n h
