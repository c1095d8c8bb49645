-- `evc_clip::clipped_place` meets its contract. Assumes nothing.
use native.Mathlib.Omega.{arith}
use borrow.Author.Rules.{rules}
use mir.Facts.{to_z-of_z}
use mir.Syntax.{w16}
use mir.Val.{SFits}
use Rattle.evc_clip.specs.Clip.{clip_mv, clipped_place}
use Rattle.evc_clip.proofs.clipped_place.Goals as goal

pub returns : goal.returns
unfolding clipped_place clip_mv
returns c =
    let x : SFits w16 c.args.mv.x = search rules in
    let y : SFits w16 c.args.mv.y = search rules in
    grind (arith, to_z-of_z)
