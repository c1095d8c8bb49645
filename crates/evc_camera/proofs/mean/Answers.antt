-- `evc_camera::mean` meets its contract: f64 holds both numbers whole. Assumes nothing.
use Prim.Native.Nat.{◌<◌, ◌^◌}
use native.Mathlib.Omega.{arith}
use lib.Signed.{mag}
use mir.Facts.{to_z-of_z}
use Rattle.std.proofs.lemmas.Int.{ints}
use Rattle.evc_camera.proofs.Once.{once}
use Rattle.evc_camera.proofs.mean.Goals as goal

pub returns : goal.returns
returns c =
    let size : mag c.args.sum < 2 ^ 53 = grind (arith, ints) in
    simp (to_z-of_z c.ranges.sum) (once c.args.sum c.args.units c.requires.1 size (omega arith))
