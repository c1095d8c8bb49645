-- `evc_plane::clamp` meets its contract: held between minus the origin and the size, and counted from there. Assumes nothing.
use native.Mathlib.Omega.{arith}
use Rattle.evc_int.specs.Whole.{clip3}
use Rattle.evc_int.proofs.Whole.{parts_are}
use Rattle.evc_plane.specs.Planes.{start_at}
use Rattle.evc_plane.proofs.clamp.Goals as goal

pub returns : goal.returns
unfolding start_at clip3
returns c = grind (arith, parts_are)
