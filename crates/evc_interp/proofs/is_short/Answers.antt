-- `evc_interp::is_short` meets its contract. Assumes nothing.
use mathlib.Core.Bool.{◌||◌}
use mathlib.Core.Path.{ap}
use Prim.Native.Nat.{ℕ, ◌*◌}
use lib.Dec.{ltb}
use Rattle.evc_interp.proofs.is_short.Goals as goal

pub returns : goal.returns
returns c = let a = c.args in ap (λ (n : ℕ). ltb a.plane n || ltb a.pred (a.w * a.h)) c.plane_len.ensures
