-- From the block prediction to a record's step: the two blocks of 6144 samples drop out. Assumes nothing.
use mathlib.Core.List.{List}
use mathlib.Core.Path.{◌≡◌, refl, sym, ap, ◌∙◌}
use Prim.Native.Nat.{ℕ, ◌≤◌}
use native.Mathlib.Omega.{arith}
use borrow.Author.Tests.{ne_eqb, ltb-false}
use lib.ListN.{length}
use Rattle.evc_def.specs.Codes.{first_of, block_checks}
use Rattle.evc_def.specs.declared.EvcBlock.{EvcBlock}
use Rattle.evc_def.proofs.Codes.{accepted}
use Rattle.evc_direct.specs.declared.EvcDirect.{EvcDirect}
use Rattle.evc_mc.specs.Block.{RefPicList, Component, luma, cb, cr, with_samples, first_sample, pred_len, mc2_code, answered, mc2_answer, mc2_first}
use Rattle.evc_mc.specs.Inner.{block_sample}
use Rattle.evc_mc.specs.declared.EvcList.{EvcList}
use Rattle.evc_mc.specs.declared.EvcPredicted.{EvcPredicted}
use Rattle.evc_mc.proofs.Checks.{accepts, sides}
use Rattle.evc_mc.specs.Lent.{in_use}
use Rattle.evc_mc.proofs.Unused.{same_answer, same_first}
use Rattle.evc_mc.proofs.Samples.{samples_at}
use Rattle.evc_trace.specs.Format.{count_len, record_of}
use Rattle.evc_trace.specs.declared.EvcTraceRecord.{EvcTraceRecord}
use Rattle.evc_record.specs.Record.{Planes, planes, Source, block_of, motion_of, list0_of, list1_of, with_planes, blank, form_code, block_code, record_code, record_answer, with_picture, plane_after, target_after}
use Rattle.evc_record.specs.Inner.{after_record}
use Rattle.evc_record.proofs.Places.{picture_ext}

module _ (b : EvcBlock) (l m : RefPicList) (p q : List ℕ) (ep : length p ≡ pred_len) (eq : length q ≡ pred_len) where
  -- the number depends on the lengths of the two blocks alone
  pub any_blocks : mc2_code b l m p q ≡ mc2_code b l m blank blank
  unfolding mc2_code
  any_blocks = rw (ep, eq)

  pub first_block : (a : EvcPredicted) (d : List ℕ) → a ≡ mc2_answer b l m p q → d ≡ mc2_first b l m p q → a.code ≡ 0 → d ≡ with_samples b (first_sample b l m) p
  unfolding mc2_first
  first_block a d e f z = let g : mc2_code b l m p q ≡ 0 = sym (ap (λ (a : EvcPredicted). a.code) e) ∙ z in rw g at f

-- the block and the lists as the code made them
pub predicted : (b b' : EvcBlock) (l m : EvcList) (s t : Planes) (k n : RefPicList) (p q d : List ℕ) (a : EvcPredicted) → length p ≡ pred_len → length q ≡ pred_len
    → b ≡ b' → k ≡ in_use (with_planes l s) → n ≡ in_use (with_planes m t) → a ≡ mc2_answer b k n p q → d ≡ mc2_first b k n p q
    → (a ≡ mc2_answer b' (with_planes l s) (with_planes m t) blank blank) × (a.code ≡ 0 → d ≡ with_samples b' (first_sample b' (with_planes l s) (with_planes m t)) p)
predicted b b' l m s t k n p q d a ep eq eb ek en e f =
    let e' : a ≡ mc2_answer b' (with_planes l s) (with_planes m t) p q = e ∙ (rw (eb, ek, en) refl) ∙ same_answer b' p q (with_planes l s) (with_planes m t) in
    let f' : d ≡ mc2_first b' (with_planes l s) (with_planes m t) p q = f ∙ (rw (eb, ek, en) refl) ∙ same_first b' p q (with_planes l s) (with_planes m t) in
    (e' ∙ ap (λ (c : ℕ). answered c b' l m) (any_blocks b' (with_planes l s) (with_planes m t) p q ep eq), first_block b' (with_planes l s) (with_planes m t) p q ep eq a d e' f')

-- ---- a record's step

module _ (e : Source) (s : List ℕ) where
  pub code_form : (c : ℕ) → c ≡ form_code s → (c ≡ 0 → ⊥) → c ≡ record_code e s
  unfolding record_code
  code_form c ec n = rw (sym ec, ne_eqb c 0 n)

  pub kept : (t : Planes) (c : ℕ) → c ≡ record_code e s → (c ≡ 0 → ⊥) → t ≡ after_record e s t
  unfolding after_record
  kept t c ec n = rw (sym ec, ne_eqb c 0 n)

  pub whole_record : form_code s ≡ 0 → 22 ≤ length s
  unfolding form_code
  whole_record z = ltb-false _ _ (accepted 11 _ _ (omega arith) z).0

  module _ (form : form_code s ≡ 0) (r : EvcTraceRecord) (er : record_of count_len s ≡ r) (m : EvcDirect) (em : motion_of e.header e.has_col e.col r ≡ m) where
    pub code_motion : (m.code ≡ 0 → ⊥) → m.code ≡ record_code e s
    unfolding record_code
    code_motion n = rw (form, er, em, ne_eqb m.code 0 n)

    module _ (direct : m.code ≡ 0) where
      abbrev first : RefPicList
      first = with_planes (list0_of r m) e.ref0

      abbrev second : RefPicList
      second = with_planes (list1_of r m) e.ref1

      pub code_block : (c : ℕ) → c ≡ mc2_code (block_of e.header r) first second blank blank → c ≡ record_code e s
      unfolding record_code block_code
      code_block c ec = rw (form, er, em, direct) ec

      pub answer_block : (a : EvcPredicted) → a ≡ mc2_answer (block_of e.header r) first second blank blank → a ≡ record_answer e s
      answer_block a ea = rw (er, em, sym (code_block (mc2_code (block_of e.header r) first second blank blank) refl)) ea

      module _ (z : mc2_code (block_of e.header r) first second blank blank ≡ 0) where
        pub good_block : first_of (block_checks (block_of e.header r)) ≡ 0
        good_block = (accepts (block_of e.header r) first second blank blank z).block

        -- a plane with the block that was predicted
        pub one_plane : (c : Component) (x k d pred : List ℕ) (b : EvcBlock) → b ≡ block_of e.header r → pred_len ≤ length pred → d ≡ with_samples (block_of e.header r) (first_sample (block_of e.header r) first second) pred
            → k ≡ with_picture b c (block_sample b d c) x → k ≡ plane_after e s c x
        unfolding plane_after
        one_plane c x k d pred b eb l ed ek =
            rw (er, em)
            (ek
            ∙ ap (λ (b : EvcBlock). with_picture b c (block_sample b d c) x) eb
            ∙ ap (λ (d : List ℕ). with_picture (block_of e.header r) c (block_sample (block_of e.header r) d c) x) ed
            ∙ picture_ext (block_of e.header r) c _ _ x (λ j i lj li. samples_at (block_of e.header r) (sides (block_of e.header r) good_block) (first_sample (block_of e.header r) first second) pred l c j i lj li))

        pub all_planes : (y u v y' u' v' : List ℕ) → y' ≡ plane_after e s luma y → u' ≡ plane_after e s cb u → v' ≡ plane_after e s cr v → planes y' u' v' ≡ after_record e s (planes y u v)
        unfolding after_record target_after
        all_planes y u v y' u' v' a b c = rw (sym (code_block 0 (sym z)), a, b, c)
