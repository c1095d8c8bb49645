-- `evc_camera::add_mv` meets its contract. Assumes nothing.
use mathlib.Core.Bool.{Bool, true, false, cond}
use mathlib.Core.Path.{◌≡◌}
use Prim.Native.Nat.{◌+◌}
use native.Mathlib.Nat.{add-zero}
use native.Mathlib.Omega.{arith}
use borrow.Author.Rules.{rules}
use lib.IntN.{ℤ, pos, ◌+ℤ◌}
use mir.Syntax.{w16}
use mir.Val.{SFits, bool_byte}
use Rattle.std.proofs.lemmas.Int.{ints}
use Rattle.evc_def.specs.declared.EvcMv.{EvcMv}
use Rattle.evc_camera.specs.declared.Sums.{Sums}
use Rattle.evc_camera.specs.Camera.{with_mv}
use Rattle.evc_camera.proofs.Units.{sum_fits}
use Rattle.evc_camera.proofs.add_mv.Goals as goal

-- a component that does not count adds nothing
made : (s : Sums) (counted : Bool) (mv : EvcMv) (x y : ℤ) → x ≡ s.x +ℤ cond counted mv.x (pos 0) → y ≡ s.y +ℤ cond counted mv.y (pos 0)
    → record { units = s.units + bool_byte counted; x = x; y = y } ≡ cond counted (with_mv s mv) s
made s true mv x y p q = rw (p, q)
made s false mv x y p q =
    let k : x ≡ s.x = omega (arith, ints) in
    let l : y ≡ s.y = omega (arith, ints) in
    rw (k, l, add-zero s.units)

pub returns : goal.returns
returns c =
    let s = c.args.s in
    let mv = c.args.mv in
    let f : SFits w16 mv.x = search rules in
    let g : SFits w16 mv.y = search rules in
    let sx = sum_fits s.x c.requires.across in
    let sy = sum_fits s.y c.requires.down in
    let x : c.add.result ≡ s.x +ℤ cond c.args.counted mv.x (pos 0) = grind (arith, ints) in
    let y : c.add-2.result ≡ s.y +ℤ cond c.args.counted mv.y (pos 0) = grind (arith, ints) in
    (made s c.args.counted mv _ _ (omega (arith, ints)) (omega (arith, ints)), omega (arith, ints), omega (arith, ints))
