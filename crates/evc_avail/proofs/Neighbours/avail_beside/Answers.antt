-- `evc_avail::Neighbours::avail_beside` meets its contract. Assumes nothing.
use Rattle.evc_avail.specs.Around.{below}
use Rattle.evc_avail.proofs.Around.{unit_low}
use Rattle.evc_avail.proofs.Neighbours.avail_beside.Goals as goal

pub is_inter-requires-2 : goal.is_inter-requires-2
is_inter-requires-2 g c =
    let b = c.args.self.now.block.given in
    let p = c.requires.places in
    unit_low b p.0 (below b) _ p.1.1
