-- `evc_record::predict_record` meets its contract. Assumes nothing.
use mathlib.Core.Path.{◌≡◌, refl, ap, ◌∙◌}
use Rattle.std.proofs.Common.{Result, Ok, Err}
use Rattle.evc_def.specs.Refusals.{code_of}
use Rattle.evc_def.specs.declared.refusal.Refusal.{Refusal}
use Rattle.evc_mc.specs.Block.{answer_of}
use Rattle.evc_mc.specs.declared.ListsMoved.{ListsMoved}
use Rattle.evc_direct.specs.Direct.{answer_of as direct_answer}
use Rattle.evc_mc.specs.Lent.{list_of}
use Rattle.evc_record.specs.Record.{source_of, list0_of, list1_of}
use Rattle.evc_record.proofs.Steps.{predicted}
use Rattle.evc_record.proofs.predict_record.Goals as goal

code_is : (m : Result ListsMoved Refusal) → (answer_of m).code ≡ code_of m
code_is (Ok m) = refl
code_is (Err r) = refl

pub returns : goal.returns
returns c =
    let a = c.args in
    let e = source_of a.from.now in
    let direct = direct_answer (Ok a.m) in
    let k = ap list_of c.as_ref.ensures.value ∙ c.ref_pic_list-l0.ensures in
    let n = ap list_of c.as_ref-2.ensures.value ∙ c.ref_pic_list-l1.ensures in
    let parts = predicted _ _ (list0_of a.r.fields direct) (list1_of a.r.fields direct) e.ref0 e.ref1 _ _ a.pred0.now a.pred1.now _ _ c.requires.0 c.requires.1 c.block_of-block.ensures k n
    c.evc_mc2.ensures.result_value c.evc_mc2.ensures.pred0_after in
    record { result_value = parts.0; pred0_after = λ z. parts.1 (code_is _ ∙ z) }
