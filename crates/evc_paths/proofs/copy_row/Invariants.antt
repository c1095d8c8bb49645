-- `evc_paths::copy_row` meets its contract. The invariant: the first x samples are copied, x a multiple of 8. Assumes nothing.
use Prim.Native.Nat.{ℕ, ◌-◌, ◌%◌, ◌≤◌}
use mathlib.Core.Path.{◌≡◌}
use lib.ListN.{length, get_or}
use Rattle.evc_int.specs.Lists.{with_row}
use Rattle.evc_paths.proofs.copy_row.Given as goal

abbrev pub invariant-loop-x : goal.invariant-loop-x
invariant-loop-x l = (l.x ≤ l.n) × (l.x % 8 ≡ 0) × (length l.d ≡ length l.initial.d) × (l.d ≡ with_row l.initial.d l.to l.x (λ (i : ℕ). get_or l.s i 0))

abbrev pub decreases-loop-x : goal.decreases-loop-x
decreases-loop-x l = l.n - l.x
