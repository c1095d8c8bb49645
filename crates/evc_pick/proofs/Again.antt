-- A `&κ mut [T]` lent again for κ', under a name of its own: the kit's `denote.Lend` has it of one value. It says nothing of the crate.
--     LentSlice       what the lender keeps
--     lends_slice_again     x ∗ [κ]_q  ⊢ ⇛ ∃ δ. x for κ' under δ ∗ LentSlice
--     slice_comes_back      [†κ'] ∗ LentSlice ∗ the loan ended as ys  ⊢ ⇛ (x at ys ∗ [κ]_q)
-- Assumes `Logic`.
use mathlib.Core.Path.{◌≡◌, refl, sym, subst}
use Prim.Native.Nat.{ℕ}
use mathlib.Core.List.{List, [], ◌∷◌}
use lib.ListN.{length}
use seplogic.Ra.Ura.{Ura}
use base.Logic.{SProp, ent, sep, ex}
use base.Stored.{Gv, coded_list}
use base.Fml.{Lft, GName, Share, Fml, fsep, flft, fdead, fobs, fauth, fres, fbor, fobor, flent}
use types.Logic.{Logic, sem}
use types.Kit.{‵, ◌$◌, ◌∵◌, !, qed, move, keep, use1, use2, rewrite, fsplit, fsplit3, fjoin, fpick, fpack, frame, updating, now, show, done}
use types.Tokens.{name_new, res_agree, bor_new, lent_back}
use types.SemTy.{SemTy, Arr, Body}
use types.Mut.{open_ref, close_ref}
use mir.Syntax.{Lifetime}
use denote.RattleType.{RattleType}
use denote.Memory.{mem}
use denote.Ref.{MutBor}
use denote.Shadow.{pure_l}
use denote.Slice.{MutSlice, Room, finally, slice_val, mut_slice_at, mut_slice_vals}
use denote.FollowSlice.{heres_id, finally-res, slice_of}

module _ {M : Type 1} {𝓤 : Ura M} (𝓛 : Logic 𝓤) (R : RattleType) (κ κ' : Lft) (q : Share) (x : MutBor (List R.Denot)) where
  open 𝓛 use {H, A}

  abbrev b : ℕ
  b = x.ref_ptr.0

  abbrev o : ℕ
  o = x.ref_ptr.1

  abbrev T : SemTy
  T = Arr (mem R) (length x.now)

  abbrev code : List R.Denot → Gv
  code = (coded_list R.coded).code

  abbrev pub LentSlice : GName → Fml
  LentSlice δ = fsep (flent κ' (Body T b o δ)) (fsep (fobor κ q (Body T b o x.ghost_name)) (fsep (fobs x.ghost_name (code x.now)) (fauth x.ghost_name (code x.now))))

  abbrev pub named_as : GName → MutBor (List R.Denot)
  named_as δ = record { ref_ptr = x.ref_ptr; ghost_name = δ; now = x.now }

  abbrev pub Lent : Lifetime → GName → SProp 𝓤
  Lent ℓ δ = sep 𝓤 (sem 𝓛 ((MutSlice ℓ κ' R).own_val (named_as δ) (mut_slice_vals x))) (sem 𝓛 (LentSlice δ))

  pub lends_slice_again : (ℓ ℓ' : Lifetime) → ent 𝓤 (sep 𝓤 (sem 𝓛 ((MutSlice ℓ κ R).own_val x (mut_slice_vals x))) (A.lft κ q)) (H.⇛ (ex 𝓤 (Lent ℓ')))
  lends_slice_again ℓ ℓ' =
      qed 𝓛 (‵ ((MutSlice ℓ κ R).own_val x (mut_slice_vals x)) ∷ ‵ (flft κ q) ∷ []) ∵ updating ! $ fsplit ! $ pure_l ! (mut_slice_at R x (mut_slice_vals x)) (λ p. fsplit ! $
      rewrite ! 0 (λ (l : List R.Denot). ‵ (fobs x.ghost_name (code l))) (heres_id R x.now) refl $ open_ref ! tt T {b = b} {o = o} $ name_new ! tt (code x.now) (λ δ.
      move ! (2 ∷ 1 ∷ []) $ fjoin ! $ fpack ! (List R.Denot) (λ ys. fsep (T.own_at ys b o) (fauth δ (code ys))) x.now $ bor_new ! tt κ' $
      -- [the borrow at κ'; the lender's right; obs of δ; the open borrow at κ; obs and auth of the slice's name]
      move ! (2 ∷ 0 ∷ []) $ use2 𝓛 (‵ ((MutSlice ℓ' κ' R).own_val (named_as δ) (mut_slice_vals x))) (slice_of 𝓛 R ℓ' κ' b o δ x.now p.1) $ now ! $ show ! (Lent ℓ') δ $ frame ! $
      move ! (2 ∷ 3 ∷ []) $ fjoin ! $ move ! (2 ∷ 0 ∷ []) $ fjoin ! $ move ! (1 ∷ 0 ∷ []) $ fjoin ! $ done !))

  abbrev pub at_end : List R.Denot → MutBor (List R.Denot)
  at_end ys = record { ref_ptr = x.ref_ptr; ghost_name = x.ghost_name; now = ys }

  pub slice_comes_back : (ℓ : Lifetime) (δ : GName) (ys : List R.Denot) → Room R (length x.now) → length ys ≡ length x.now
      → ent 𝓤 (sep 𝓤 (A.dead κ') (sep 𝓤 (sem 𝓛 (LentSlice δ)) (sem 𝓛 (finally R δ ys)))) (H.⇛ (sep 𝓤 (sem 𝓛 ((MutSlice ℓ κ R).own_val (at_end ys) (mut_slice_vals x))) (A.lft κ q)))
  slice_comes_back ℓ δ ys room l =
      qed 𝓛 (‵ (fdead κ') ∷ ‵ (LentSlice δ) ∷ ‵ (finally R δ ys) ∷ []) ∵ updating ! $ move ! (1 ∷ []) $ fsplit ! $ move ! (2 ∷ 0 ∷ []) $ lent_back ! tt $ fpick ! (λ z. fsplit ! $
      -- [z lies there; auth of δ; the open borrow with the slice's name; how the loan ended]
      move ! (3 ∷ []) $ use1 𝓛 (‵ (fres δ (code ys))) (finally-res 𝓛 R δ ys) $ move ! (0 ∷ 2 ∷ []) $ res_agree ! (coded_list R.coded) (λ e. move ! (2 ∷ 3 ∷ []) $
      rewrite ! 0 (λ (zs : List R.Denot). ‵ (T.own_at zs b o)) (sym e) refl $ move ! (1 ∷ []) $ fsplit3 ! $ move ! (3 ∷ 0 ∷ 1 ∷ 2 ∷ []) $ close_ref ! tt T ys $
      -- [obs of the slice's name; its borrow; the token]
      rewrite ! 1 (λ (n : ℕ). ‵ (fbor κ (Body (Arr (mem R) n) b o x.ghost_name))) (sym l) refl $
      use2 𝓛 (‵ ((MutSlice ℓ κ R).own_val (at_end ys) (mut_slice_vals (at_end ys)))) (slice_of 𝓛 R ℓ κ b o x.ghost_name ys (subst (Room R) (sym l) room)) $
      rewrite ! 0 (λ (n : ℕ). ‵ ((MutSlice ℓ κ R).own_val (at_end ys) (slice_val x.ref_ptr n ∷ []))) l refl $ now ! $ keep ! (0 ∷ 1 ∷ []) $ done !))
