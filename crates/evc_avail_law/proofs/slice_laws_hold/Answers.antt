use Rattle.evc_avail_law.proofs.SliceLaws.{slice_laws}
use Rattle.evc_avail_law.proofs.slice_laws_hold.Goals as goal

pub returns : goal.returns
returns c = slice_laws
