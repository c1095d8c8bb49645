-- `evc_record::copy_block` meets its contract. The invariant: the first y rows are written. Assumes nothing.
use Prim.Native.Nat.{◌+◌, ◌*◌}
use mathlib.Core.Path.{refl, ◌∙◌}
use native.Mathlib.Omega.{arith}
use Rattle.evc_int.specs.Lists.{with_block}
use Rattle.evc_int.proofs.Lists.{block_step}
use Rattle.evc_record.proofs.Places.{row_copied}
use Rattle.evc_record.proofs.copy_block.Goals as goal

pub loop-y-init : goal.loop-y-init
unfolding with_block
loop-y-init c = (omega arith, refl, refl)

pub loop-y-preserved : goal.loop-y-preserved
loop-y-preserved c =
    let l = c.loop-y in
    let a = c.args in (
      (let t = c.loop-y-test.true in omega arith),
      c.copy_row.auto.d ∙ l.invariant.1,
      block_step _ _ _ _ _ _ _ _ l.invariant.2 (row_copied a.s.now _ l.d _ (a.at + l.y * a.w) a.w (a.to + l.y * a.stride) c.row.ensures c.copy_row.ensures),
    )
