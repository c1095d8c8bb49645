-- `evc_lists::scatter`: a sample, and what the number behind it completes.
use Rattle.std.proofs.Common.{arith, refl}
use Rattle.evc_lists.proofs.Scattered.{one_more, all_written}
use Rattle.evc_lists.proofs.scatter.Goals as goal

pub loop-sample-preserved : goal.loop-sample-preserved
loop-sample-preserved c =
    let l = c.loop-sample in
    one_more l.z _ l.sample-index l.samples _ _ _ (omega (arith, c.loop-sample-test.true)) l.auto.samples refl c.following-z.ensures l.invariant

pub returns : goal.returns
returns c =
    let l = c.loop-sample in
    all_written l.z _ l.sample-index l.samples _ (omega (arith, c.loop-sample-test.false)) l.auto.samples l.invariant
