-- The lines of 'Edges to try' that are stated beside the definitions of specs/Flags. Assumes nothing.
use Rattle.std.proofs.Common.{refl}
use Rattle.evc_def.specs.Blocks.{bad_picture, bad_block}
use Rattle.evc_def.specs.Codes.{first_of}
use Rattle.evc_avail.specs.Flags.{is_inter_in, is_not_intra_in, avail_left_in, avail_right_in, avail_up_in, avail_of, get_avail_inter, FlagEdges}

pub flag_edges : FlagEdges
unfolding get_avail_inter avail_of avail_left_in avail_right_in avail_up_in is_inter_in is_not_intra_in first_of bad_picture bad_block
flag_edges = (refl, refl)
