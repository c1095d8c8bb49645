-- What the functions behind the call say of their sums.
use Rattle.std.specs.Prelude.{true, List, ◌≡◌, ℕ, ◌*◌, ◌<◌, ◌≤◌, nat_abs}
use Rattle.evc_camera.specs.declared.Sums.{Sums}
use Rattle.evc_camera.specs.Camera.{is_counted}

-- sums over at most k units
pub record Within (s : Sums) (k : ℕ) : Type 0 where
  pub few : s.units ≤ k
  pub across : nat_abs s.x ≤ 32768 * k
  pub down : nat_abs s.y ≤ 32768 * k

-- every unit from `from` to before `to` counts
abbrev pub AllCounted : List ℕ → ℕ → ℕ → Type 0
AllCounted words from to = (i : ℕ) → from ≤ i → i < to → is_counted words i ≡ true
