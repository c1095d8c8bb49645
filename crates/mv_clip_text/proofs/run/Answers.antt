-- `mv_clip_text::run`: the header line first, then a chunk at each turn, and none behind one that is not full.
use Rattle.mv_clip_text.proofs.Turns.{started, one_more, last}
use Rattle.mv_clip_text.proofs.run.Goals as goal

pub loop-init : goal.loop-init
loop-init g c = started _ _ _ c.in_ok-write_all.ensures.bytes

pub loop-preserved : goal.loop-preserved
loop-preserved g c = one_more _ _ _ _ _ _ _ _ c.loop.invariant c.in_ok-run_chunk.ensures c.if-not-branch.false

pub returns-then-not-branch : goal.returns-then-not-branch
returns-then-not-branch g c = last _ _ _ _ _ _ _ _ c.loop.invariant c.in_ok-run_chunk.ensures c.if-not-branch.true
