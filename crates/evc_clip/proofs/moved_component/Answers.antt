-- `evc_clip::moved_component` meets its contract: the report follows from the exact place and the clipped one. Assumes nothing.
use mathlib.Core.Bool.{true, false}
use mathlib.Core.Path.{◌≡◌, refl}
use native.Mathlib.Omega.{arith}
use borrow.Author.Rules.{rules}
use mir.Facts.{to_z-of_z}
use mir.Syntax.{w32}
use mir.Val.{SFits}
use Rattle.std.proofs.lemmas.Int.{ints}
use Rattle.evc_clip.specs.Clip.{place_of}
use Rattle.evc_clip.proofs.Laws.{report}
use Rattle.evc_clip.proofs.moved_component.Goals as goal

pub returns-then-exact-gmv : goal.returns-then-exact-gmv
returns-then-exact-gmv c =
    let e : SFits w32 c.moved-exact.result.0 = search rules in
    let g : SFits w32 c.qpel_gmv-gmv.result.0 = search rules in
    let place : c.moved-exact.result.0 ≡ place_of c.args.s.place c.args.mv = omega (arith, ints) in
    report _ _ _ _ _ _ true _ place (simp (to_z-of_z c.ranges.mv) at c.qpel_gmv-gmv.ensures) (simp to_z-of_z at c.if-exact-gmv.true) refl

pub returns-then-exact-gmv-2 : goal.returns-then-exact-gmv-2
returns-then-exact-gmv-2 c =
    let e : SFits w32 c.moved-exact.result.0 = search rules in
    let g : SFits w32 c.qpel_gmv-gmv.result.0 = search rules in
    let place : c.moved-exact.result.0 ≡ place_of c.args.s.place c.args.mv = omega (arith, ints) in
    report _ _ _ _ _ _ false true place (simp (to_z-of_z c.ranges.mv) at c.qpel_gmv-gmv.ensures) (simp to_z-of_z at c.if-exact-gmv.false) (simp to_z-of_z at c.if-exact-gmv-2.true)

pub returns : goal.returns
returns c =
    let e : SFits w32 c.moved-exact.result.0 = search rules in
    let g : SFits w32 c.qpel_gmv-gmv.result.0 = search rules in
    let place : c.moved-exact.result.0 ≡ place_of c.args.s.place c.args.mv = omega (arith, ints) in
    report _ _ _ _ _ _ false false place (simp (to_z-of_z c.ranges.mv) at c.qpel_gmv-gmv.ensures) (simp to_z-of_z at c.if-exact-gmv.false) (simp to_z-of_z at c.if-exact-gmv-2.false)
