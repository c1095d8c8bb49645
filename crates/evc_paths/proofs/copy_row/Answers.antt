-- `evc_paths::copy_row` meets its contract. The invariant: the first x samples are copied, x a multiple of 8. Assumes nothing.
use mathlib.Core.Path.{refl, ◌∙◌}
use native.Mathlib.Omega.{arith}
use Rattle.evc_int.specs.Lists.{with_row}
use Rattle.evc_paths.proofs.Paths.{copied_more}
use Rattle.evc_paths.proofs.copy_row.Goals as goal

pub loop-x-init : goal.loop-x-init
unfolding with_row
loop-x-init c = (omega arith, omega arith, refl, refl)

pub loop-x-preserved : goal.loop-x-preserved
loop-x-preserved c =
    let i = c.loop-x.invariant in (
      (let t = c.loop-x-test.true in omega arith),
      (let m = i.1 in omega arith),
      c.copy-in-loop-x.auto.d ∙ i.2,
      copied_more _ _ _ c.args.s.now _ _ i.3 c.copy-in-loop-x.ensures,
    )
