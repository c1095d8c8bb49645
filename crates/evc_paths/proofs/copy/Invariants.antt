-- `evc_paths::copy` meets its contract. The invariant: the first x numbers are read. Assumes nothing.
use Prim.Native.Nat.{ℕ, ◌+◌, ◌<◌, ◌≤◌}
use mathlib.Core.Path.{◌≡◌}
use lib.ListN.{length, get_or}
use Rattle.evc_paths.proofs.copy.Given as goal

abbrev pub invariant-loop-x : goal.invariant-loop-x
invariant-loop-x g l = (l.x ≤ g.row.N) × (length l.numbers ≡ g.row.N) × ((i : ℕ) → i < l.x → get_or l.numbers i 0 ≡ get_or l.s (l.at + i) 0)
