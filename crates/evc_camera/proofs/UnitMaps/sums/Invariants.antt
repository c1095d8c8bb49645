-- `evc_camera::UnitMaps::sums` meets its contract. The invariant: the sums are those over the first k runs. Assumes nothing.
use Prim.Native.Nat.{◌*◌}
use mathlib.Core.Path.{◌≡◌}
use Rattle.evc_camera.specs.Camera.{sums_of}
use Rattle.evc_camera.specs.Inner.{Within}
use Rattle.evc_camera.proofs.UnitMaps.sums.Given as goal

abbrev pub invariant-loop-k : goal.invariant-loop-k
invariant-loop-k l = (l.s ≡ sums_of l.self.map_mv.now l.self.map_scu.now (l.k * 16)) × Within l.s (l.k * 16)
