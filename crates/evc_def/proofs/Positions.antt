-- The bits of an i32 leave the number's own remainder, for negative numbers too. Assumes nothing.
use mathlib.Core.Path.{◌≡◌, refl}
use Prim.Native.Nat.{◌%◌, ◌<◌}
use native.Mathlib.Omega.{arith}
use lib.IntN.{ℤ, pos, negsuc}
use mir.Syntax.{w32}
use mir.Val.{SFits, of_z}
use Rattle.evc_int.specs.Whole.{◌modulo◌}

pub rest_4 : (z : ℤ) → SFits w32 z → of_z w32 z % 4 ≡ z modulo 4
rest_4 (pos n) f = refl
rest_4 (negsuc n) f = let h : n < 2147483648 = f.sfits in omega arith

pub rest_8 : (z : ℤ) → SFits w32 z → of_z w32 z % 8 ≡ z modulo 8
rest_8 (pos n) f = refl
rest_8 (negsuc n) f = let h : n < 2147483648 = f.sfits in omega arith
