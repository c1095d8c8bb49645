-- `evc_mc::evc_mc2` meets its contract: refused and both blocks untouched, or predicted. Assumes nothing.
use mathlib.Core.Bool.{cond}
use mathlib.Core.List.{List}
use mathlib.Core.Path.{◌≡◌, refl, sym, ◌∙◌}
use Prim.Native.Nat.{ℕ}
use borrow.Author.Tests.{ne_eqb}
use Rattle.evc_def.specs.Codes.{first_of, block_checks}
use Rattle.evc_def.specs.declared.EvcBlock.{EvcBlock}
use Rattle.std.proofs.lemmas.Result.{err_from_is_err_and}
use Rattle.evc_def.specs.Refusals.{number_of}
use Rattle.evc_def.specs.declared.refusal.Refusal.{Refusal}
use Rattle.evc_def.proofs.Refusals.{not_0}
use Rattle.evc_def.proofs.Codes.{stops}
use Rattle.evc_mc.specs.Block.{RefPicList, with_samples, list_sample, first_sample, is_bi, mc2_code, mc2_first, mc2_second}
use Rattle.evc_mc.specs.Lent.{lent_list}
use Rattle.evc_mc.proofs.Answers.{silent, reports}
use Rattle.evc_mc.proofs.Checks.{accepts}
use Rattle.evc_mc.proofs.evc_mc2.Goals as goal

module _ (b : EvcBlock) (l m : RefPicList) (p q : List ℕ) where
  block_refused : (r : Refusal) → number_of r ≡ first_of (block_checks b) → number_of r ≡ mc2_code b l m p q
  unfolding mc2_code
  block_refused r e = e ∙ sym (stops (block_checks b) _ (λ z. not_0 r (e ∙ z)))

  untouched : (code : ℕ) → code ≡ mc2_code b l m p q → (code ≡ 0 → ⊥) → (p ≡ mc2_first b l m p q) × (q ≡ mc2_second b l m p q)
  unfolding mc2_first mc2_second
  untouched code e n = rw (sym e, ne_eqb code 0 n) (refl, refl)

  predicted : mc2_code b l m p q ≡ 0 → (d e : List ℕ) → d ≡ with_samples b (first_sample b l m) p → e ≡ cond (is_bi b l.list m.list) (with_samples b (list_sample b m) q) q
      → (d ≡ mc2_first b l m p q) × (e ≡ mc2_second b l m p q)
  unfolding mc2_first mc2_second
  predicted z d e f g = rw z (f, g)

pub returns-in_err-b : goal.returns-in_err-b
returns-in_err-b c =
    let a = c.args in
    let l = lent_list a.list0 in
    let m = lent_list a.list1 in
    let p = err_from_is_err_and c.from_residual.result c.from_residual.ensures.1 in
    let e = block_refused a.block l m a.pred0.now a.pred1.now _ c.in_err-b.ensures.code in
    let same = untouched a.block l m a.pred0.now a.pred1.now _ e (not_0 _) in
    rw (p.1, p.2) (record { result_value = silent a.block l.list m.list _ _ e (not_0 _) _ refl; pred0_after = same.0; pred1_after = same.1 })

pub returns-in_err-check_lists : goal.returns-in_err-check_lists
returns-in_err-check_lists c =
    let a = c.args in
    let l = lent_list a.list0 in
    let m = lent_list a.list1 in
    let x = c.block_list-l0.ensures in
    let y = c.block_list-l1.ensures in
    let p = err_from_is_err_and c.from_residual-in_err-check_lists.result c.from_residual-in_err-check_lists.ensures.1 in
    let e = simp (x.0, x.1, y.1, c.in_ok-b.ensures.value) at c.in_err-check_lists.ensures in
    let same = untouched a.block l m a.pred0.now a.pred1.now _ e (not_0 _) in
    rw (p.1, p.2) (record { result_value = silent a.block l.list m.list _ _ e (not_0 _) _ refl; pred0_after = same.0; pred1_after = same.1 })

pub predict_lists-requires-clause-accepted : goal.predict_lists-requires-clause-accepted
predict_lists-requires-clause-accepted c = accepts _ _ _ _ _ (sym c.in_ok-check_lists.ensures)

pub returns : goal.returns
returns c =
    let a = c.args in
    let l = lent_list a.list0 in
    let m = lent_list a.list1 in
    let x = c.block_list-l0.ensures in
    let y = c.block_list-l1.ensures in
    let v = c.in_ok-b.ensures.value in
    let ok = simp (x.0, x.1, y.1, v) at c.in_ok-check_lists.ensures in
    let same = predicted a.block l m a.pred0.now a.pred1.now (sym ok) _ _ (simp (x.0, x.1, y.1, v) at c.predict_lists.ensures.pred0_after) (simp (x.0, x.1, y.1, v) at c.predict_lists.ensures.pred1_after) in
    record {
      result_value = reports a.block l.list m.list _ _ ok (sym ok) _ _ (simp (x.0, x.1, v) at c.moved.ensures) (simp (y.0, y.1, v) at c.moved-2.ensures);
      pred0_after = same.0;
      pred1_after = same.1;
    }
