-- `evc_filter::times` meets its contract, by the digits of t to base 4. Assumes nothing.
use Prim.Native.Nat.{ℕ, ◌+◌, ◌*◌, ◌/◌, ◌%◌, ◌≤◌}
use mathlib.Core.Path.{◌≡◌, ap}
use native.Mathlib.Nat.{mul-le-mul, mul-le-mul_left, mul-le-mul_right}
use native.Mathlib.Omega.{arith}
use lib.Bits.{bit_and, and_mask}
use Rattle.evc_filter.proofs.times.Goals as goal

-- a product by the digits of its first factor
digits : (t x : ℕ) → t * x ≡ t / 16 * x * 16 + bit_and (t / 4) 3 * x * 4 + bit_and t 3 * x
digits t x =
    let e : t ≡ t / 16 * 16 + bit_and (t / 4) 3 * 4 + bit_and t 3 = omega (arith, and_mask (t / 4) 2, and_mask t 2) in
    omega (arith, ap (λ (i : ℕ). i * x) e)

-- no shift loses a bit
joined : (t x high middle low : ℕ) → t * x ≤ 65535 → high ≡ t / 16 * x → middle ≡ bit_and (t / 4) 3 * x → low ≡ bit_and t 3 * x
    → (high * 4 % 65536 + middle) * 4 % 65536 + low ≡ t * x
joined t x high middle low h p q r =
    let d = digits t x in
    let e : high * 4 % 65536 ≡ high * 4 = omega arith in
    rw e (omega arith)

pub overflow_add-result : goal.overflow_add-result
overflow_add-result c = omega (arith, mul-le-mul c.requires.0 c.requires.1, digits c.args.t c.args.x)

pub overflow_add-result-2 : goal.overflow_add-result-2
overflow_add-result-2 c = omega (arith, mul-le-mul c.requires.0 c.requires.1, digits c.args.t c.args.x)

pub returns : goal.returns
returns c =
    let t = c.args.t in
    let x = c.args.x in
    omega (arith, digits t x, mul-le-mul c.requires.0 c.requires.1, mul-le-mul_left t c.requires.1, mul-le-mul_right x c.requires.0)
