-- What is still to be written completes the samples.
use Rattle.std.proofs.Common.{◌≡◌, ◌++◌, ◌-◌, length, take}
use Rattle.evc_lists.specs.Arbitrary.{scattered}
use Rattle.evc_lists.proofs.scatter.Given as goal

abbrev pub invariant-loop-sample : goal.invariant-loop-sample
invariant-loop-sample l = take l.sample-index l.samples ++ scattered l.z (length l.fn.samples - l.sample-index) ≡ scattered l.seed (length l.fn.samples)
