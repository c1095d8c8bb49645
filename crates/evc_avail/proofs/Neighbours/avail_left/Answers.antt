-- `evc_avail::Neighbours::avail_left` meets its contract. Assumes nothing.
use Rattle.evc_avail.specs.Around.{left_of}
use Rattle.evc_avail.specs.Flags.{avail_left_in}
use Rattle.evc_avail.proofs.Neighbours.avail_left.Goals as goal

pub returns : goal.returns
unfolding avail_left_in
returns g c = (c.avail_beside.ensures.flags (left_of c.args.self.now.block.given) (c.left.ensures, c.lower_left.ensures), c.avail_beside.ensures.small)
