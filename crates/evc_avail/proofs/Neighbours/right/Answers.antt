-- `evc_avail::Neighbours::right` meets its contract. Assumes nothing.
use Rattle.evc_avail.specs.Around.{first_row}
use Rattle.evc_avail.proofs.Around.{first_unit}
use Rattle.evc_avail.proofs.Neighbours.right.Goals as goal

pub right_of-requires : goal.right_of-requires
right_of-requires g c = let n = c.args.self.now in (first_row n.block.given, first_unit n.block.given n.block.across n.block.down n.first n.first_is)
