-- `evc_lanes::sample_row` meets its contract. Assumes nothing.
use mathlib.Core.Path.{◌∙◌}
use native.Mathlib.Omega.{arith}
use Rattle.evc_int.proofs.Lists.{with_row-ext}
use Rattle.evc_lanes.proofs.sample_row.Goals as goal

pub returns : goal.returns
returns g c =
    let i = c.loop-x.invariant in
    let t = c.loop-x-test.false in
    c.put.ensures ∙ with_row-ext _ _ _ _ _ (λ x l. i.2 x (omega arith))
