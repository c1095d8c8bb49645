-- `evc_def::Qpel::clip3` meets its contract. Assumes nothing.
use native.Mathlib.Omega.{arith}
use Rattle.std.proofs.lemmas.Int.{ints}
use Rattle.evc_int.specs.Whole.{clip3}
use Rattle.evc_def.proofs.Qpel.clip3.Goals as goal

pub returns-then-self-min : goal.returns-then-self-min
unfolding clip3
returns-then-self-min c = grind (arith, ints)

pub returns-then-self-max : goal.returns-then-self-max
unfolding clip3
returns-then-self-max c = grind (arith, ints)

pub returns : goal.returns
unfolding clip3
returns c = grind (arith, ints)
