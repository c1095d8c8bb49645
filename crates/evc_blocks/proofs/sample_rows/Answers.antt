-- `evc_blocks::sample_rows` meets its contract. The invariant: the first y rows are written. Assumes nothing.
use Rattle.evc_blocks.proofs.Rows.{none_written, one_more}
use Rattle.evc_blocks.proofs.sample_rows.Goals as goal

pub loop-y-init : goal.loop-y-init
loop-y-init g c = none_written _ _ _ _ _ _

pub loop-y-preserved : goal.loop-y-preserved
loop-y-preserved g c = one_more c.loop-y.invariant c.loop-y-test.true c.requires.2 c.sample_row.auto.d c.sample_row.ensures
