-- `evc_avail::checked` meets its contract: 1, 2, then 4. Assumes nothing.
use Rattle.std.proofs.Common.{sym, ◌∙◌}
use Rattle.std.proofs.lemmas.Result.{err_from_is_err_and}
use Rattle.evc_def.specs.Codes.{block_checks}
use Rattle.evc_def.proofs.Codes.{refused, passed, none, stops, goes_on}
use Rattle.evc_def.proofs.Refusals.{not_0}
use Rattle.evc_avail.proofs.checked.Goals as goal

pub returns-in_err-b-clause-code : goal.returns-in_err-b-clause-code
returns-in_err-b-clause-code c =
    let p = err_from_is_err_and c.from_residual.result c.from_residual.ensures.1 in
    let e = c.in_err-b.ensures.code in
    rw (p.1, p.2) (e ∙ sym (stops (block_checks _) _ (λ z. not_0 _ (e ∙ z))))

pub returns-then-words_short-clause-code : goal.returns-then-words_short-clause-code
returns-then-words_short-clause-code c =
    let test = simp (c.sides.ensures.0, c.sides.ensures.1, c.picture.ensures.0, c.picture.ensures.1, c.in_ok-b.ensures.value) at c.words_short.ensures in
    sym (goes_on 0 (block_checks _) _ tt (sym c.in_ok-b.ensures.code) ∙ refused _ _ _ (sym test ∙ c.if-words_short.true))

pub returns-clause-code : goal.returns-clause-code
returns-clause-code c =
    let test = simp (c.sides.ensures.0, c.sides.ensures.1, c.picture.ensures.0, c.picture.ensures.1, c.in_ok-b.ensures.value) at c.words_short.ensures in
    sym (goes_on 0 (block_checks _) _ tt (sym c.in_ok-b.ensures.code) ∙ passed _ _ _ (sym test ∙ c.if-words_short.false) ∙ none)
