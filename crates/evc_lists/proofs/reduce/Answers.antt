-- `evc_lists::reduce`: a sample below the limit, in its place.
use Rattle.std.proofs.Common.{rules, arith, ◌≡◌, get_or}
use Rattle.evc_lists.specs.Arbitrary.{below}
use Rattle.evc_lists.proofs.Reduced.{one_more}
use Rattle.evc_lists.proofs.reduce.Goals as goal

pub loop-sample-preserved : goal.loop-sample-preserved
loop-sample-preserved c =
    let e : c.unwrap_or.result ≡ below c.args.limit (get_or c.loop-sample.samples c.loop-sample.sample-index 0) = search rules in
    one_more (below c.args.limit) c.args.samples.now _ _ _ (omega (arith, c.loop-sample-test.true)) c.loop-sample.invariant e
