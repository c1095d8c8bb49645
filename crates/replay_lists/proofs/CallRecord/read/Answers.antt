-- A call's record: its numbers and its trace, one behind the other.
use Rattle.std.proofs.Common.{rules}
use Rattle.std.specs.Io.KnownBytes.{Consumes}
use Rattle.std.proofs.KnownBytes.{Consumes-trans}
use Rattle.replay_lists.proofs.CallRecord.read.Goals as goal

pub returns : goal.returns
returns g c =
    let numbers : Consumes (g.R.Read.remaining c.args.input.now) (g.R.Read.remaining c.read_array.new.input) c.in-Some.bytes = search rules in
    let trace : Consumes (g.R.Read.remaining c.read_array.new.input) (g.R.Read.remaining c.read_lent.new.input) c.in-Some-2.trace.items = search rules in
    (_, Consumes-trans _ _ _ _ _ numbers trace)
