-- `evc_record::replay_record` meets its contract: refused and the target untouched, or the record's block put into it. Assumes nothing.
use mathlib.Core.Path.{◌≡◌, refl, sym, ap, subst}
use native.Mathlib.Omega.{arith}
use Rattle.std.proofs.lemmas.Result.{err_from_is_err_and}
use Rattle.evc_def.specs.Codes.{first_of, block_checks}
use Rattle.evc_def.specs.declared.EvcBlock.{EvcBlock}
use Rattle.evc_def.proofs.Blocks.{allowed_block}
use Rattle.evc_def.proofs.Refusals.{not_0}
use Rattle.evc_mc.specs.Block.{luma, cb, cr}
use Rattle.evc_mc.specs.declared.EvcPredicted.{EvcPredicted}
use Rattle.evc_mc.proofs.Answers.{silent}
use Rattle.evc_mc.proofs.Checks.{sides}
use Rattle.evc_record.specs.Record.{source_of, target_of}
use Rattle.evc_record.proofs.Steps.{code_form, kept, code_motion, answer_block, good_block, one_plane, all_planes}
use Rattle.evc_record.proofs.replay_record.Goals as goal

pub returns-in_err-r : goal.returns-in_err-r
returns-in_err-r c =
    let a = c.args in
    let from = source_of a.from.now in
    let s = a.s.now in
    let t = target_of a.target.now in
    let x = err_from_is_err_and c.from_residual.result c.from_residual.ensures.1 in
    let e = code_form from s _ c.in_err-r.ensures.code (not_0 _) in
    rw (x.1, x.2) (record { result_value = silent _ _ _ _ _ e (not_0 _) _ refl; target_after = kept from s t _ e (not_0 _); same_planes = record { y = refl; u = refl; v = refl } })

pub returns-in_err-m : goal.returns-in_err-m
returns-in_err-m c =
    let a = c.args in
    let from = source_of a.from.now in
    let s = a.s.now in
    let t = target_of a.target.now in
    let x = err_from_is_err_and c.from_residual-in_err-m.result c.from_residual-in_err-m.ensures.1 in
    let e = code_motion from s (sym c.in_ok-r.ensures.code) _ (sym c.in_ok-r.ensures.value) _ (sym c.in_err-m.ensures) (not_0 _) in
    rw (x.1, x.2) (record { result_value = silent _ _ _ _ _ e (not_0 _) _ refl; target_after = kept from s t _ e (not_0 _); same_planes = record { y = refl; u = refl; v = refl } })

pub returns-in_err-moved : goal.returns-in_err-moved
returns-in_err-moved c =
    let a = c.args in
    let from = source_of a.from.now in
    let s = a.s.now in
    let t = target_of a.target.now in
    let x = err_from_is_err_and c.from_residual-in_err-moved.result c.from_residual-in_err-moved.ensures.1 in
    let e = answer_block from s (sym c.in_ok-r.ensures.code) _ (sym c.in_ok-r.ensures.value) _ (sym c.in_ok-m.ensures) refl _ c.in_err-moved.ensures.result_value in
    rw (x.1, x.2) (record { result_value = e; target_after = kept from s t _ (ap (λ (p : EvcPredicted). p.code) e) (not_0 _); same_planes = record { y = refl; u = refl; v = refl } })

pub invariant_of-put_block : goal.invariant_of-put_block
invariant_of-put_block c =
    let a = c.args in
    let from = source_of a.from.now in
    let s = a.s.now in
    let e = sym (ap (λ (p : EvcPredicted). p.code) c.in_ok-moved.ensures.result_value) in
    let g = good_block from s (sym c.in_ok-r.ensures.code) _ (sym c.in_ok-r.ensures.value) _ (sym c.in_ok-m.ensures) refl e in
    let k = subst (λ (b : EvcBlock). first_of (block_checks b) ≡ 0) (sym c.block_of-given.ensures) g in
    let n = allowed_block _ k in
    record { accepted = (sides _ k).picture; checked = k; across = n.0; down = n.1 }

pub returns : goal.returns
returns c =
    let a = c.args in
    let from = source_of a.from.now in
    let s = a.s.now in
    let t = target_of a.target.now in
    let form = sym c.in_ok-r.ensures.code in
    let er = sym c.in_ok-r.ensures.value in
    let em = sym c.in_ok-m.ensures in
    let r = c.in_ok-moved.ensures.result_value in
    let e = sym (ap (λ (p : EvcPredicted). p.code) r) in
    let d = c.in_ok-moved.ensures.pred0_after refl in
    let l = c.requires.pred0_len.0 in
    let b = c.block_of-given.ensures in
    let w = c.put_block.ensures in
    record {
      result_value = answer_block from s form _ er _ em refl _ r;
      target_after = all_planes from s form _ er _ em refl e t.y t.u t.v _ _ _
          (one_plane from s form _ er _ em refl e luma t.y _ _ a.pred0.now _ b (omega (arith, l)) d w.y_after)
          (one_plane from s form _ er _ em refl e cb t.u _ _ a.pred0.now _ b (omega (arith, l)) d w.u_after)
          (one_plane from s form _ er _ em refl e cr t.v _ _ a.pred0.now _ b (omega (arith, l)) d w.v_after);
      same_planes = w.same_planes;
    }
