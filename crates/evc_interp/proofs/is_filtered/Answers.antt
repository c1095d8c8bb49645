-- `evc_interp::is_filtered` meets its contract. Assumes nothing.
use mathlib.Core.Bool.{not}
use mathlib.Core.Path.{ap, ◌∙◌}
use Prim.Native.Nat.{ℕ}
use lib.Dec.{eqb}
use lib.IntN.{ℤ}
use mir.Facts.{to_z-of_z}
use Rattle.evc_interp.specs.Prediction.{is_filtered, phase_of}
use Rattle.evc_interp.proofs.is_filtered.Goals as goal

pub returns : goal.returns
unfolding is_filtered
returns c =
    ap (λ (c : ℕ). not (eqb c 0)) (c.phase.ensures ∙ ap (λ (z : ℤ). phase_of c.args.t z) (c.from.ensures ∙ to_z-of_z c.ranges.mv))
