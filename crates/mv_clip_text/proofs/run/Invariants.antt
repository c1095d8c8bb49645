-- The turns before this one each took a full chunk, and wrote its text.
use Rattle.mv_clip_text.proofs.Turns.{Done}
use Rattle.mv_clip_text.proofs.run.Given as goal

abbrev pub invariant-loop : goal.invariant-loop
invariant-loop g l =
    Done (g.R.Read.remaining l.fn.input) (g.R.Read.remaining l.input) (g.W.Write.contents l.fn.out) (g.W.Write.contents l.out) l.counter
