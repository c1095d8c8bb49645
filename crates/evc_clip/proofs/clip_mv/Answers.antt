-- `evc_clip::clip_mv` meets its contract. Assumes nothing.
use native.Mathlib.Omega.{arith}
use borrow.Author.Rules.{rules}
use mir.Facts.{to_z-of_z}
use mir.Syntax.{w16}
use mir.Val.{SFits}
use Rattle.evc_clip.specs.Clip.{clip_mv}
use Rattle.evc_clip.proofs.clip_mv.Goals as goal

pub returns : goal.returns
unfolding clip_mv
returns c =
    let x : SFits w16 c.args.mv.x = search rules in
    let y : SFits w16 c.args.mv.y = search rules in
    grind (arith, to_z-of_z)
