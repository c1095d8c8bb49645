-- The lines of 'Edges to try' that are stated beside the definitions of specs/Filter. Assumes nothing.
use Rattle.std.proofs.Common.{refl}
use Rattle.evc_filter.specs.Filter.{interpolated, row_stage, FilterEdges}

pub filter_edges : FilterEdges
unfolding interpolated row_stage
filter_edges = (refl, refl, refl, refl, refl, refl)
