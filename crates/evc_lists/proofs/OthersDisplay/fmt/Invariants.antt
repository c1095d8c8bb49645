-- The samples passed are written.
use Rattle.std.proofs.Common.{take}
use Rattle.std.specs.Fmt.{HasWritten, IsPlainFormatter}
use Rattle.evc_lists.specs.Printed.{others}
use Rattle.evc_lists.proofs.OthersDisplay.fmt.Given as goal

abbrev pub invariant-loop-sample : goal.invariant-loop-sample
invariant-loop-sample g l =
    IsPlainFormatter l.fn.f → HasWritten g.W.Write.write_str_gives l.fn.f (others (take l.sample-index l.self.0.now)) l.f
