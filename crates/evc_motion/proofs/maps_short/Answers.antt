-- `evc_motion::maps_short` meets its contract. Assumes nothing.
use Rattle.evc_motion.specs.Candidates.{maps_short}
use Rattle.evc_motion.proofs.maps_short.Goals as goal

pub returns : goal.returns
unfolding maps_short
returns c = cc
