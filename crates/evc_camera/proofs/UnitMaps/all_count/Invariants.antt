-- `evc_camera::UnitMaps::all_count` meets its contract. The invariant: so far all units counted. Assumes nothing.
use mathlib.Core.Bool.{true}
use mathlib.Core.Path.{◌≡◌}
use Rattle.evc_camera.specs.Inner.{AllCounted}
use Rattle.evc_camera.proofs.UnitMaps.all_count.Given as goal

abbrev pub invariant-loop-i : goal.invariant-loop-i
invariant-loop-i l = l.all ≡ true → AllCounted l.self.map_scu.now l.from l.i
