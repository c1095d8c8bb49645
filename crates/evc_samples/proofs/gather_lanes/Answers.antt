-- `evc_samples::gather_lanes` meets its contract. Assumes nothing.
use Rattle.evc_samples.proofs.Samples.{lanes_more}
use Rattle.evc_samples.proofs.gather_lanes.Goals as goal

pub returns : goal.returns
returns g c = lanes_more c.args.s.now c.args.o c.args.i c.args.j g.row.N c.requires.0 c.requires.1 c.requires.2
