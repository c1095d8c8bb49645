-- `evc_int::low16` meets its contract: the mask leaves the remainder, whose sign is its highest bit. Assumes nothing.
use native.Mathlib.Omega.{arith}
use lib.Bits.{and_mask}
use mir.Syntax.{w32}
use mir.Val.{of_z}
use Rattle.std.proofs.lemmas.Int.{ints}
use Rattle.evc_int.specs.LowBits.{low16}
use Rattle.evc_int.proofs.Machine.{bits_modulo}
use Rattle.evc_int.proofs.low16.Goals as goal

pub returns : goal.returns
unfolding low16
returns c = grind (arith, ints, and_mask (of_z w32 c.args.x) 16, bits_modulo c.args.x c.ranges.x)
