-- `low16 z` is the one number in -32768..32767 that differs from z by a multiple of 65536. Assumes nothing.
use mathlib.Core.Bool.{Bool, true, false, cond}
use mathlib.Core.Path.{◌≡◌, sym}
use native.Mathlib.Omega.{arith}
use lib.Dec.{lit<, ltb}
use lib.IntN.{ℤ, pos, ◌+ℤ◌, ◌-ℤ◌, ◌*ℤ◌}
use lib.Signed.{shr_z}
use mir.Syntax.{w16}
use mir.Val.{SFits}
use Rattle.std.proofs.lemmas.Int.{ints}
use Rattle.evc_int.specs.Whole.{◌modulo◌}
use Rattle.evc_int.specs.LowBits.{low16}
use Rattle.evc_int.proofs.Division.{split, modulo_lt}

pub low16_fits : (z : ℤ) → SFits w16 (low16 z)
unfolding low16
low16_fits z = grind (arith, ints, modulo_lt 65536 z (lit< tt))

-- the multiple of 65536 that is dropped
pub low16_differs : (z : ℤ) → (q : ℤ) × (z ≡ low16 z +ℤ pos 65536 *ℤ q)
unfolding low16
low16_differs z = go (ltb (z modulo 65536) 32768) (shr_z z 65536) (split 65536 z (lit< tt))
  where
    go : (t : Bool) (q : ℤ) → z ≡ pos 65536 *ℤ q +ℤ pos (z modulo 65536) → (p : ℤ) × (z ≡ cond t (pos (z modulo 65536)) (pos (z modulo 65536) -ℤ pos 65536) +ℤ pos 65536 *ℤ p)
    go true q e = (q, omega (arith, ints))
    go false q e = (q +ℤ pos 1, omega (arith, ints))

pub low16_unique : (z y q : ℤ) → SFits w16 y → z ≡ y +ℤ pos 65536 *ℤ q → y ≡ low16 z
low16_unique z y q f e =
    let d = low16_differs z in
    let g = low16_fits z in
    omega (arith, ints, d.1)

-- a number of sixteen bits is its own low bits
pub low16_same : (z : ℤ) → SFits w16 z → low16 z ≡ z
low16_same z f = sym (low16_unique z z (pos 0) f (omega (arith, ints)))
