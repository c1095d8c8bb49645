-- `evc_camera::UnitMaps::sums` meets its contract. The invariant: the sums are those over the first k runs. Assumes nothing.
use Rattle.evc_camera.proofs.Units.{no_units}
use Rattle.evc_camera.proofs.UnitMaps.sums.Goals as goal

pub loop-k-init : goal.loop-k-init
loop-k-init c = no_units _ _ c.default-s.result c.default-s.ensures
