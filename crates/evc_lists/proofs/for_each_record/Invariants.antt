-- A turn is one of the records asked for.
use Rattle.std.proofs.Common.{◌≡◌}
use Rattle.evc_lists.proofs.for_each_record.Given as goal

abbrev pub invariant-loop : goal.invariant-loop
invariant-loop g l = goal.F-IsAlwaysCallable g l.run × (l.most ≡ 0 → l.input ≡ l.fn.input)
