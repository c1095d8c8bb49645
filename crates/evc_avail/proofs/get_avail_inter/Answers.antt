-- `evc_avail::get_avail_inter` meets its contract. Assumes nothing.
use Rattle.std.proofs.Common.{sym}
use Rattle.std.proofs.lemmas.Result.{err_from_is_err_and}
use Rattle.evc_avail.specs.Flags.{get_avail_inter}
use Rattle.evc_avail.proofs.Answers.{refusal, done, covers}
use Rattle.evc_avail.proofs.get_avail_inter.Goals as goal

pub returns-in_err-b : goal.returns-in_err-b
unfolding get_avail_inter
returns-in_err-b c =
    let p = err_from_is_err_and c.from_residual.result c.from_residual.ensures.1 in
    rw (p.1, p.2) (refusal _ _ _ c.in_err-b.ensures.code)

pub new-requires : goal.new-requires
new-requires c = simp (c.in_ok-b.ensures.value) (covers _ _ (sym c.in_ok-b.ensures.code)).0

pub returns : goal.returns
unfolding get_avail_inter
returns c = done _ _ _ (sym c.in_ok-b.ensures.code) (rw (c.new.ensures.0, c.new.ensures.1, c.in_ok-b.ensures.value) at c.avail_inter.ensures)
