-- `evc_avail::Neighbours::avail_right` meets its contract. Assumes nothing.
use Rattle.evc_avail.specs.Around.{right_of}
use Rattle.evc_avail.specs.Flags.{avail_right_in}
use Rattle.evc_avail.proofs.Neighbours.avail_right.Goals as goal

pub returns : goal.returns
unfolding avail_right_in
returns g c = (c.avail_beside.ensures.flags (right_of c.args.self.now.block.given) (c.right.ensures, c.lower_right.ensures), c.avail_beside.ensures.small)
