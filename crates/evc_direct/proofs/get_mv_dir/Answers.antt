-- `evc_direct::get_mv_dir` meets its contract: 1, 2, then 4, 5, or the vectors. Assumes nothing.
use mathlib.Core.Path.{sym, ap, ◌∙◌}
use Rattle.std.proofs.lemmas.Result.{err_from_is_err_and}
use Rattle.evc_def.specs.Codes.{block_checks}
use Rattle.evc_def.specs.declared.refusal.Refusal.TheVariants.{Buffer, OrderCount}
use Rattle.evc_def.proofs.Codes.{refused, passed, none, stops, goes_on}
use Rattle.evc_def.proofs.Refusals.{not_0}
use Rattle.evc_direct.specs.Direct.{direct_vectors}
use Rattle.evc_direct.proofs.Direct.{counts, refusal, done, collocated_is}
use Rattle.evc_direct.proofs.get_mv_dir.Goals as goal

pub returns-in_err-b : goal.returns-in_err-b
returns-in_err-b c =
    let p = err_from_is_err_and c.from_residual.result c.from_residual.ensures.1 in
    let e = c.in_err-b.ensures.code in
    rw (p.1, p.2) (refusal _ _ _ _ _ (e ∙ sym (stops (block_checks _) _ (λ z. not_0 _ (e ∙ z)))))

pub returns-then-col_short : goal.returns-then-col_short
returns-then-col_short c =
    let test = simp (c.picture.ensures.0, c.picture.ensures.1, c.in_ok-b.ensures.value) at c.col_short.ensures in
    refusal _ _ _ _ Buffer (sym (goes_on 0 (block_checks _) _ tt (sym c.in_ok-b.ensures.code) ∙ refused _ _ _ (sym test ∙ c.if-col_short.true)))

pub returns-then-poc_too_large : goal.returns-then-poc_too_large
returns-then-poc_too_large c =
    let test = simp (c.picture.ensures.0, c.picture.ensures.1, c.in_ok-b.ensures.value) at c.col_short.ensures in
    refusal _ _ _ _ OrderCount
    (sym (goes_on 0 (block_checks _) _ tt (sym c.in_ok-b.ensures.code) ∙ passed _ _ _ (sym test ∙ c.if-col_short.false) ∙ refused _ _ _ (sym c.poc_too_large.ensures ∙ c.if-poc_too_large.true)))

pub direct_vectors-requires : goal.direct_vectors-requires
direct_vectors-requires c = counts c.args.pocs (sym c.poc_too_large.ensures ∙ c.if-poc_too_large.false)

pub returns : goal.returns
returns c =
    let test = simp (c.picture.ensures.0, c.picture.ensures.1, c.in_ok-b.ensures.value) at c.col_short.ensures in
    done _ _ _ _ _
    (goes_on 0 (block_checks _) _ tt (sym c.in_ok-b.ensures.code) ∙ passed _ _ _ (sym test ∙ c.if-col_short.false) ∙ passed _ _ _ (sym c.poc_too_large.ensures ∙ c.if-poc_too_large.false) ∙ none)
    (c.direct_vectors.ensures ∙ ap (λ mv. direct_vectors c.args.pocs mv) (c.col_mv_at-mv.ensures ∙ collocated_is _ _ _ _ _ c.in_ok-b.ensures.value c.default.ensures))
