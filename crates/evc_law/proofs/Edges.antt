-- The fifteen lines of specs/Edges. Assumes nothing.
use Rattle.evc_filter.proofs.Edges.{filter_edges}
use Rattle.evc_clip.proofs.Edges.{clip_edges}
use Rattle.evc_direct.proofs.Edges.{direct_edges}
use Rattle.evc_avail.proofs.Edges.{flag_edges}
use Rattle.evc_mc.proofs.Edges.{average_edges}
use Rattle.evc_law.specs.Edges.{Edges}

pub edges : Edges
edges = (filter_edges, clip_edges, direct_edges, average_edges, flag_edges)
