-- The lines of 'Edges to try' that are stated beside the definitions of specs/Clip. Assumes nothing.
use Rattle.std.proofs.Common.{refl}
use Rattle.evc_clip.specs.Clip.{ClipEdges}

pub clip_edges : ClipEdges
clip_edges = (refl, refl, refl, refl)
