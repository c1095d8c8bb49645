-- The lines of 'Edges to try' that are stated beside the definitions of specs/Direct. Assumes nothing.
use Rattle.std.proofs.Common.{refl}
use Rattle.evc_int.specs.LowBits.{low16}
use Rattle.evc_direct.specs.Direct.{exact_quotients, direct_vectors, DirectEdges}

pub direct_edges : DirectEdges
unfolding direct_vectors exact_quotients low16
direct_edges = (refl, refl)
