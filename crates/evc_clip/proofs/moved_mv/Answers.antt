-- `evc_clip::moved_mv` meets its contract. Assumes nothing.
use native.Mathlib.Omega.{arith}
use borrow.Author.Rules.{rules}
use mir.Facts.{to_z-of_z}
use mir.Syntax.{w16}
use mir.Val.{SFits}
use Rattle.evc_clip.specs.Clip.{moved_mv}
use Rattle.evc_clip.proofs.Numbers.{by_number}
use Rattle.evc_clip.proofs.moved_mv.Goals as goal

pub returns : goal.returns
unfolding moved_mv
returns c =
    let x : SFits w16 c.args.mv.x = search rules in
    let y : SFits w16 c.args.mv.y = search rules in
    grind (arith, to_z-of_z, by_number)
