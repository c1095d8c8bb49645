-- `evc_filter::multiple` meets its contract. The invariant: the sum is x, as many times as there were turns. Assumes nothing.
use Prim.Native.Nat.{◌*◌, ◌≤◌}
use mathlib.Core.Path.{◌≡◌}
use Rattle.evc_filter.proofs.multiple.Given as goal

abbrev pub invariant-loop : goal.invariant-loop
invariant-loop l = (l.counter ≤ l.n) × (l.sum ≡ l.counter * l.x)
