-- `evc_camera::motion_of` meets its contract. Assumes nothing.
use Prim.Native.Nat.{suc, ◌*◌, ◌-◌, ◌^◌, ◌≤◌}
use mathlib.Core.Path.{◌≡◌, refl}
use native.Mathlib.Omega.{arith}
use borrow.Author.Tests.{ne_eqb}
use lib.Dec.{eqb}
use lib.IntN.{ℤ, pos, negsuc, nat_abs}
use mir.Syntax.{w64}
use mir.Val.{of_z}
use mir.Facts.{to_z-of_z}
use Rattle.std.proofs.lemmas.Bool.Decides.{nat_tests}
use Rattle.evc_int.specs.Whole.{eq_z}
use Rattle.evc_map.specs.Maps.{most_units}
use Rattle.evc_camera.specs.Camera.{motion_of}
use Rattle.evc_camera.proofs.Units.{sum_fits}
use Rattle.evc_camera.proofs.motion_of.Goals as goal

-- the bits are 0 where the number is
zero_bits : (z : ℤ) → nat_abs z ≤ 32768 * most_units → eqb (of_z w64 z) 0 ≡ eq_z z (pos 0)
zero_bits (pos n) h = refl
zero_bits (negsuc n) h = ne_eqb (2 ^ 64 - suc n) 0 (λ (e : 2 ^ 64 - suc n ≡ 0). omega arith)

pub returns-then-s-eq0 : goal.returns-then-s-eq0
unfolding motion_of
returns-then-s-eq0 c = grind (arith, nat_tests)

pub returns-then-s : goal.returns-then-s
unfolding motion_of
returns-then-s c = grind (arith, nat_tests, zero_bits)

pub returns : goal.returns
unfolding motion_of
returns c = grind (arith, nat_tests, zero_bits, sum_fits, to_z-of_z)
