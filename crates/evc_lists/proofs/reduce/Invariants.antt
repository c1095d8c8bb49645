-- The samples passed are below the limit, the others as they were.
use Rattle.std.proofs.Common.{◌≡◌, ◌++◌, map, take, drop}
use Rattle.evc_lists.specs.Arbitrary.{below}
use Rattle.evc_lists.proofs.reduce.Given as goal

abbrev pub invariant-loop-sample : goal.invariant-loop-sample
invariant-loop-sample l = l.samples ≡ map (below l.limit) (take l.sample-index l.fn.samples) ++ drop l.sample-index l.fn.samples
