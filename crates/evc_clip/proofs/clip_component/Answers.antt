-- `evc_clip::clip_component` meets its contract: the vector is what leads to the clipped place. Assumes nothing.
use native.Mathlib.Omega.{arith}
use mir.Facts.{to_z-of_z}
use Rattle.std.proofs.lemmas.Int.{ints}
use Rattle.evc_clip.proofs.Laws.{clipped_fits}
use Rattle.evc_clip.proofs.clip_component.Goals as goal

pub mv_to-requires : goal.mv_to-requires
mv_to-requires c =
    let s = c.args.s in
    let place = simp (to_z-of_z c.ranges.mv) at c.qpel_gmv.ensures in
    omega (arith, ints, clipped_fits s.size s.place s.side c.args.mv s.allowed c.ranges.mv)
