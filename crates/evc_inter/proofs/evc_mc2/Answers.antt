-- `evc_inter::evc_mc2` meets its contract. Assumes nothing.
use mathlib.Core.Bool.{Bool, true, false, cond}
use mathlib.Core.Path.{◌≡◌, refl, sym, ap, ap₂, ◌∙◌}
use Rattle.std.specs.Prelude.{Option}
use Rattle.std.specs.Bool.{then_some}
use Rattle.std.specs.Borrow.{Bor}
use Rattle.evc_mc.specs.Block.{RefPicList, ref_pic_list, mc2_answer, mc2_first, mc2_second}
use Rattle.evc_mc.specs.Lent.{unused_list, lent_list, in_use}
use Rattle.evc_mc.specs.declared.EvcList.{EvcList}
use Rattle.evc_mc.specs.declared.RefPicList.{RefPicList as LentList}
use Rattle.evc_mc.proofs.Unused.{same_answer, same_first, same_second}
use Rattle.evc_inter.proofs.evc_mc2.Goals as goal

-- what is lent of a list and its planes
module _ (l : EvcList) (r : Bor LentList) (mv : r.now.mv ≡ l.mv) (poc : r.now.poc ≡ l.poc) where
  abbrev whole : RefPicList
  whole = ref_pic_list l r.now.planes.y.now r.now.planes.u.now r.now.planes.v.now

  lent : (o : Option (Bor LentList)) → o ≡ then_some l.used r → lent_list o ≡ in_use whole
  lent o e = rw e (go l.used refl)
    where
      go : (t : Bool) → l.used ≡ t → lent_list (then_some t r) ≡ cond t whole unused_list
      go true u = rw (mv, poc) (ap (λ (x : Bool). ref_pic_list (record { used = x; mv = l.mv; poc = l.poc }) r.now.planes.y.now r.now.planes.u.now r.now.planes.v.now) (sym u))
      go false u = refl

pub returns : goal.returns
returns c =
    let a = c.args in
    let b = a.block in
    let l = ref_pic_list a.list0 a.y0.now a.u0.now a.v0.now in
    let m = ref_pic_list a.list1 a.y1.now a.u1.now a.v1.now in
    let p = a.pred0.now in
    let q = a.pred1.now in
    let k = lent a.list0 _ refl refl _ c.then_some-list0.ensures in
    let n = lent a.list1 _ refl refl _ c.then_some-list1.ensures in
    let r = c.evc_mc2-predicted.ensures in
    record {
      result_value = c.from.ensures ∙ r.result_value ∙ ap₂ (λ (x y : RefPicList). mc2_answer b x y p q) k n ∙ same_answer b p q l m;
      pred0_after = r.pred0_after ∙ ap₂ (λ (x y : RefPicList). mc2_first b x y p q) k n ∙ same_first b p q l m;
      pred1_after = r.pred1_after ∙ ap₂ (λ (x y : RefPicList). mc2_second b x y p q) k n ∙ same_second b p q l m;
    }
