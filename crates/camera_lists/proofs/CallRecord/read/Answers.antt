-- A call's record: its numbers, its states and its map, one behind the other.
use Rattle.std.proofs.Common.{rules}
use Rattle.std.specs.Io.KnownBytes.{Consumes}
use Rattle.std.proofs.KnownBytes.{Consumes-trans}
use Rattle.camera_lists.proofs.CallRecord.read.Goals as goal

pub returns : goal.returns
returns g c =
    let numbers : Consumes (g.R.Read.remaining c.args.input.now) (g.R.Read.remaining c.read_array.new.input) c.in-Some.bytes = search rules in
    let states : Consumes (g.R.Read.remaining c.read_array.new.input) (g.R.Read.remaining c.read_lent.new.input) c.in-Some-2.states.items = search rules in
    let map : Consumes (g.R.Read.remaining c.read_lent.new.input) (g.R.Read.remaining c.read_vec.new.input) c.in-Some-3.map.items = search rules in
    let both = Consumes-trans _ _ _ _ _ numbers states in
    (_, Consumes-trans _ _ _ _ _ both map)
