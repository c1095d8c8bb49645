-- Machine numbers: a signed value of width w stands in a goal as `to_z w (of_z w z)`. Its reading, what an operation asks of it (`fit`), its range and
-- its low bits. Where all is linear, `grind (arith, ints)` of the library needs none of them. Assumes nothing.
use mathlib.Core.Path.{◌≡◌, refl}
use Prim.Native.Nat.{ℕ, ◌+◌, ◌%◌, ◌^◌, ◌≤◌, ◌<◌}
use native.Mathlib.Omega.{arith}
use lib.IntN.{ℤ, pos, negsuc, nat_abs}
use lib.Signed.{mag}
use mir.Syntax.{Width, w32}
use mir.Val.{SFits, to_z, of_z, hbits}
use mir.Facts.{to_z-of_z}
use Rattle.std.proofs.lemmas.Int.{ints}
use Rattle.evc_int.specs.Whole.{◌modulo◌}
use Rattle.evc_int.proofs.Whole.{Is, parts_are}

-- a call's signed result as it is read: `.ok` of the call says that it fits
pub res : (w : Width) {z : ℤ} → mag z < 2 ^ hbits w → to_z w (of_z w z) ≡ z
res w h = to_z-of_z {w = w} (record { sfits = h })

-- ---- what an operation asks

pub fit : {w : Width} {z : ℤ} {a b : ℕ} → Is z a b → (a < b + 2 ^ hbits w) × (b ≤ a + 2 ^ hbits w) → SFits w z
fit p h = omega (arith, parts_are)

pub fit_abs : {w : Width} {z : ℤ} {m : ℕ} → nat_abs z ≤ m → m < 2 ^ hbits w → SFits w z
fit_abs h k = omega (arith, ints)

-- ---- ranges

pub rng_abs : {w : Width} {z : ℤ} → SFits w z → nat_abs z ≤ 2 ^ hbits w
rng_abs f = omega (arith, ints)

-- ---- bits

-- the low sixteen bits of an i32 are those of the number
pub bits_modulo : (z : ℤ) → SFits w32 z → of_z w32 z % 65536 ≡ z modulo 65536
bits_modulo (pos n) f = refl
bits_modulo (negsuc n) f = let h : n < 2147483648 = f.sfits in omega arith
