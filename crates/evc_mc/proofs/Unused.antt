-- Of a list that is not in use nothing is read. Assumes nothing.
use mathlib.Core.Bool.{Bool, true, false, cond, ◌||◌}
use mathlib.Core.List.{List}
use mathlib.Core.Path.{◌≡◌, refl, sym, subst, ◌∙◌}
use Prim.Native.Nat.{ℕ}
use lib.Dec.{T, eqb, eqb→eq}
use Rattle.std.proofs.lemmas.Bool.{and_right}
use Rattle.evc_def.specs.declared.EvcBlock.{EvcBlock}
use Rattle.evc_mc.specs.Block.{RefPicList, Component, first_sample, with_samples, is_bi, list_short, list_exceeds, list_moved, mc2_code, mc2_answer, mc2_first, mc2_second}
use Rattle.evc_mc.specs.Lent.{in_use, unused_list}
use Rattle.evc_mc.proofs.Checks.{accepts}
use Rattle.evc_mc.proofs.Predictions.{not_both}
use Rattle.evc_mc.proofs.Samples.{samples_ext}

-- what is the same for an unused list and for that one is the same for what is in use of a list
by : {X : Type 0} (f : RefPicList → X) (l : RefPicList) → (l.list.used ≡ false → f unused_list ≡ f l) → f (in_use l) ≡ f l
by f l h = go l.list.used refl
  where
    go : (t : Bool) → l.list.used ≡ t → f (cond t l unused_list) ≡ f l
    go true e = refl
    go false e = h e

module _ (b : EvcBlock) (p q : List ℕ) where
  code_0 : (l m : RefPicList) → l.list.used ≡ false → mc2_code b unused_list m p q ≡ mc2_code b l m p q
  unfolding mc2_code list_short list_exceeds
  code_0 l m e = rw e refl

  code_1 : (l m : RefPicList) → m.list.used ≡ false → mc2_code b l unused_list p q ≡ mc2_code b l m p q
  unfolding mc2_code list_short list_exceeds
  code_1 l m e = rw e refl

  same_code : (l m : RefPicList) → mc2_code b (in_use l) (in_use m) p q ≡ mc2_code b l m p q
  same_code l m = by (λ (k : RefPicList). mc2_code b k (in_use m) p q) l (code_0 l (in_use m)) ∙ by (λ (k : RefPicList). mc2_code b l k p q) m (code_1 l m)

  moved : (l : RefPicList) → list_moved b (in_use l).list ≡ list_moved b l.list
  unfolding list_moved
  moved l = by (λ (k : RefPicList). list_moved b k.list) l (λ e. rw e refl)

  pub same_answer : (l m : RefPicList) → mc2_answer b (in_use l) (in_use m) p q ≡ mc2_answer b l m p q
  same_answer l m = rw (same_code l m, moved l, moved m) refl

  -- a sample, where one list is in use
  module _ (l m : RefPicList) (c : Component) (y x : ℕ) where
    sample_0 : l.list.used ≡ false → first_sample b unused_list m c y x ≡ first_sample b l m c y x
    unfolding first_sample is_bi
    sample_0 e = rw e refl

    sample_1 : l.list.used ≡ true → m.list.used ≡ false → first_sample b l unused_list c y x ≡ first_sample b l m c y x
    unfolding first_sample is_bi
    sample_1 e f = rw (e, f) refl

    same_sample : (l.list.used || m.list.used) ≡ true → first_sample b (in_use l) (in_use m) c y x ≡ first_sample b l m c y x
    same_sample h = go l.list.used m.list.used refl refl h
      where
        go : (s t : Bool) → l.list.used ≡ s → m.list.used ≡ t → (s || t) ≡ true → first_sample b (cond s l unused_list) (cond t m unused_list) c y x ≡ first_sample b l m c y x
        go true true e f h = refl
        go true false e f h = sample_1 e f
        go false true e f h = sample_0 e
        go false false e f h = absurd (subst T (sym h) tt)

  pub same_first : (l m : RefPicList) → mc2_first b (in_use l) (in_use m) p q ≡ mc2_first b l m p q
  unfolding mc2_first
  same_first l m = rw (same_code l m) (go (eqb (mc2_code b l m p q) 0) refl)
    where
      go : (t : Bool) → eqb (mc2_code b l m p q) 0 ≡ t → cond t (with_samples b (first_sample b (in_use l) (in_use m)) p) p ≡ cond t (with_samples b (first_sample b l m) p) p
      go true e =
          let z = eqb→eq (mc2_code b l m p q) 0 (subst T (sym e) tt) in
          samples_ext b _ _ p (λ c y x ly lx. same_sample l m c y x (accepts b l m p q z).some_used)
      go false e = refl

  bi_0 : (l m : RefPicList) → is_bi b (in_use l).list m.list ≡ is_bi b l.list m.list
  unfolding is_bi
  bi_0 l m = by (λ (k : RefPicList). is_bi b k.list m.list) l (λ e. rw e refl)

  kept : (l m : RefPicList) → m.list.used ≡ false → mc2_second b l m p q ≡ q
  unfolding mc2_second
  kept l m e = rw (and_right (eqb (mc2_code b l m p q) 0) _ (not_both b l.list m.list (and_right l.list.used _ e))) refl

  second_0 : (l m : RefPicList) → mc2_second b (in_use l) m p q ≡ mc2_second b l m p q
  unfolding mc2_second
  second_0 l m = rw (by (λ (k : RefPicList). mc2_code b k m p q) l (code_0 l m), bi_0 l m) refl

  pub same_second : (l m : RefPicList) → mc2_second b (in_use l) (in_use m) p q ≡ mc2_second b l m p q
  same_second l m = second_0 l (in_use m) ∙ by (λ (k : RefPicList). mc2_second b l k p q) m (λ e. kept l unused_list refl ∙ sym (kept l m e))
