-- `evc_mc::predict_lists` meets its contract: list 0 alone for equal motion, one list, or two and their average. Assumes nothing.
use mathlib.Core.Bool.{Bool, ◌&&◌}
use mathlib.Core.Path.{◌≡◌, refl, sym, ap₂, ◌∙◌}
use Rattle.std.specs.Prelude.{Option, Some, None}
use Rattle.std.specs.Option.{is_some}
use Rattle.std.specs.Borrow.{Bor}
use Rattle.std.proofs.lemmas.Bool.{and_parts}
use Rattle.evc_int.proofs.Bools.{and_false_right}
use Rattle.evc_mc.specs.Lent.{lent_list}
use Rattle.evc_mc.specs.declared.RefPicList.{RefPicList as LentList}
use Rattle.evc_mc.proofs.Checks.{sides, list_examined}
use Rattle.evc_mc.proofs.Motion.{same_motion_is}
use Rattle.evc_mc.proofs.Predictions.{not_same, same, stands, single, both_small, averaged}
use Rattle.evc_mc.proofs.predict_lists.Goals as goal

-- a list is in use where there is one
used : (l : Option (Bor LentList)) → is_some l ≡ (lent_list l).list.used
used (Some l) = refl
used None = refl

both_used : (l m : Option (Bor LentList)) (p q t : Bool) → p ≡ is_some l → q ≡ is_some m → (p && q) ≡ t → ((lent_list l).list.used && (lent_list m).list.used) ≡ t
both_used l m p q t e f g = sym (ap₂ (λ (u v : Bool). u && v) (e ∙ used l) (f ∙ used m)) ∙ g

pub predict-requires-clause-list_examined : goal.predict-requires-clause-list_examined
predict-requires-clause-list_examined c =
    let s = c.args.l0.now in
    list_examined s.block.given (lent_list s.list) _ c.requires.accepted.l_short c.requires.accepted.l_exceeds s.clipped

pub predict-requires-2-clause-list_examined : goal.predict-requires-2-clause-list_examined
predict-requires-2-clause-list_examined c =
    let s = c.args.l1.now in
    let e = c.requires.same_block in
    list_examined s.block.given (lent_list s.list) _ (simp e at c.requires.accepted.m_short) (simp e at c.requires.accepted.m_exceeds) s.clipped

pub returns-then-same_motion : goal.returns-then-same_motion
returns-then-same_motion c =
    let a = c.args.l0.now in
    let b = a.block.given in
    let l = lent_list a.list in
    let m = lent_list c.args.l1.now.list in
    let t = and_parts (l.list.used && m.list.used) _ (sym c.same_motion.ensures ∙ c.if-same_motion.true) in
    let alike = sym (same_motion_is b l.list m.list _ _ _ a.clipped (simp (sym c.requires.same_block) at c.args.l1.now.clipped) refl) ∙ t.1 in
    let parts = stands b l m _ _ _ _ c.predict.ensures.pred0_after c.predict.ensures.pred1_after (and_parts _ _ t.0).0 (same _ _ _ alike) in
    record { pred0_after = parts.0; pred1_after = parts.1 }

-- one list is in use
pub returns-else-is_some : goal.returns-else-is_some
returns-else-is_some c =
    let a = c.args.l0.now in
    let n = c.args.l1.now in
    let p = c.predict.ensures in
    let e = sym c.requires.same_block in
    let parts = single a.block.given (lent_list a.list) (lent_list n.list) _ _ _ _ p.pred0_after p.pred1_after _ _ _ c.leaves_empty.ensures
    (simp e at c.predict-2.ensures.pred0_after) (simp e at c.predict-2.ensures.pred1_after) c.requires.accepted.some_used
    (both_used a.list n.list _ _ _ c.is_some.ensures c.is_some-2.ensures c.if-is_some.false) in
    record { pred0_after = parts.0; pred1_after = parts.1 }

-- two predictions
pub average_block-requires-clause-block_small : goal.average_block-requires-clause-block_small
average_block-requires-clause-block_small c =
    let a = c.args.l0.now in
    let n = c.args.l1.now in
    let g = c.requires.accepted in
    let p = c.predict.ensures in
    let e = sym c.requires.same_block in
    let t = and_parts _ _ (both_used a.list n.list _ _ _ c.is_some.ensures c.is_some-2.ensures c.if-is_some.true) in
    both_small a.block.given (lent_list a.list) (lent_list n.list) _ _ _ _ p.pred0_after p.pred1_after _ _ _ c.leaves_empty.ensures
    (simp e at c.predict-2.ensures.pred0_after) (simp e at c.predict-2.ensures.pred1_after) t.0 t.1
    (sides _ g.block) g.p_long g.q_long g.block g.l_short g.l_exceeds g.m_short g.m_exceeds

pub returns-then-is_some : goal.returns-then-is_some
returns-then-is_some c =
    let a = c.args.l0.now in
    let n = c.args.l1.now in
    let b = a.block.given in
    let l = lent_list a.list in
    let m = lent_list n.list in
    let g = c.requires.accepted in
    let p = c.predict.ensures in
    let e = sym c.requires.same_block in
    let both = both_used a.list n.list _ _ _ c.is_some.ensures c.is_some-2.ensures c.if-is_some.true in
    let t = and_parts _ _ both in
    let differs = sym (same_motion_is b l.list m.list _ _ _ a.clipped (simp e at n.clipped) refl)
    ∙ and_false_right (l.list.used && m.list.used) _ (sym c.same_motion.ensures ∙ c.if-same_motion.false) both in
    let parts = averaged b l m _ _ _ _ p.pred0_after p.pred1_after _ _ _ c.leaves_empty.ensures
    (simp e at c.predict-2.ensures.pred0_after) (simp e at c.predict-2.ensures.pred1_after) t.0 t.1
    (sides _ g.block) g.p_long g.q_long _ (not_same _ _ _ both differs) c.average_block.ensures in
    record { pred0_after = parts.0; pred1_after = parts.1 }
