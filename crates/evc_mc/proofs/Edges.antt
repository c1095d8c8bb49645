-- The lines of 'Edges to try' that are stated beside the definitions of specs/Block. Assumes nothing.
use Rattle.std.proofs.Common.{refl}
use Rattle.evc_mc.specs.Block.{AverageEdges}

pub average_edges : AverageEdges
average_edges = refl
