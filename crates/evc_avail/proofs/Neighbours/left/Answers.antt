-- `evc_avail::Neighbours::left` meets its contract. Assumes nothing.
use Rattle.evc_avail.specs.Around.{first_row}
use Rattle.evc_avail.proofs.Around.{first_unit}
use Rattle.evc_avail.proofs.Neighbours.left.Goals as goal

pub left_of-requires : goal.left_of-requires
left_of-requires g c = let n = c.args.self.now in (first_row n.block.given, first_unit n.block.given n.block.across n.block.down n.first n.first_is)
