-- `evc_lists::fill_words`: a state's word, in its place.
use Rattle.std.proofs.Common.{arith}
use Rattle.evc_lists.specs.Units.{word_of}
use Rattle.evc_lists.proofs.Reduced.{one_written}
use Rattle.evc_lists.proofs.fill_words.Goals as goal

pub loop-i-preserved : goal.loop-i-preserved
loop-i-preserved c =
    one_written word_of c.args.states.now c.args.words.now _ _ _ (omega (arith, c.loop-i-test.true, c.requires)) (omega (arith, c.loop-i-test.true)) c.loop-i.invariant c.word_of.ensures
