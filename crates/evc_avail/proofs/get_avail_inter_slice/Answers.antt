-- `evc_avail::get_avail_inter_slice` meets its contract: 1, 2, 4, then 13. Assumes nothing.
use Rattle.std.proofs.Common.{sym, ◌∙◌, length}
use Rattle.std.proofs.lemmas.Result.{err_from_is_err_and}
use Rattle.evc_def.proofs.Codes.{stops, goes_on}
use Rattle.evc_def.proofs.Refusals.{not_0}
use Rattle.evc_avail.specs.Flags.{avail_checks}
use Rattle.evc_avail.specs.Slices.{get_avail_inter_slice}
use Rattle.evc_avail.proofs.Answers.{refusal, done, covers}
use Rattle.evc_avail.proofs.get_avail_inter_slice.Goals as goal

pub returns-in_err-b : goal.returns-in_err-b
unfolding get_avail_inter_slice
returns-in_err-b c =
    let a = c.args in
    let p = err_from_is_err_and c.from_residual.result c.from_residual.ensures.1 in
    let e = c.in_err-b.ensures.code in
    rw (p.1, p.2) (refusal _ _ _ (e ∙ sym (stops (avail_checks a.block (length a.map_scu.now)) _ (λ z. not_0 _ (e ∙ z)))))

pub returns-in_err-slice : goal.returns-in_err-slice
unfolding get_avail_inter_slice
returns-in_err-slice c =
    let a = c.args in
    let p = err_from_is_err_and c.from_residual-in_err-slice.result c.from_residual-in_err-slice.ensures.1 in
    rw (p.1, p.2) (refusal _ _ _ (c.in_err-slice.ensures.0 ∙ sym (goes_on 0 (avail_checks a.block (length a.map_scu.now)) _ tt (sym c.in_ok-b.ensures.code))))

pub new-requires : goal.new-requires
new-requires c = simp (c.in_ok-b.ensures.value) (covers _ _ (sym c.in_ok-b.ensures.code)).0

pub returns : goal.returns
unfolding get_avail_inter_slice
returns c =
    let a = c.args in
    done _ _ _ (goes_on 0 (avail_checks a.block (length a.map_scu.now)) _ tt (sym c.in_ok-b.ensures.code) ∙ sym c.in_ok-slice.ensures.0)
    (simp (c.in_ok-b.ensures.value, c.in_ok-slice.ensures.1, c.new.ensures.0, c.new.ensures.1, c.new.ensures.2) at c.avail_inter.ensures)
