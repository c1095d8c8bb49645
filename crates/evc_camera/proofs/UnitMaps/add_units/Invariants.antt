-- `evc_camera::UnitMaps::add_units` meets its contract. The invariant: the sums are those over the first i units. Assumes nothing.
use mathlib.Core.Path.{◌≡◌}
use Rattle.evc_camera.specs.Camera.{sums_of}
use Rattle.evc_camera.specs.Inner.{Within}
use Rattle.evc_camera.proofs.UnitMaps.add_units.Given as goal

abbrev pub invariant-loop-i : goal.invariant-loop-i
invariant-loop-i l = (l.sums ≡ sums_of l.self.map_mv.now l.self.map_scu.now l.i) × Within l.sums l.i
