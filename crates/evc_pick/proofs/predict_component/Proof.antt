-- `predict_component` meets its contract: a walk of its MIR, by hand. All that it knows of `pick` and `evc_interp::predict` is that each meets its contract.
-- Both blocks are lent again to `pick` for a lifetime of their own, at a half each of the token, and the part that comes back goes to `predict`. Once that has ended the part, `pick`'s clause says how both loans ended, and both blocks come back.
use mathlib.Core.Path.{◌≡◌, refl, sym, ◌∙◌, ap, subst}
use Prim.Native.Nat.{ℕ, ◌+◌, ◌*◌, ◌<◌, ◌≤◌, ◌^◌}
use native.Mathlib.Omega.{arith}
use mathlib.Core.List.{[], ◌∷◌, List, ◌++◌}
use lib.ListN.{length, take, drop as drop-list, length-drop}
use seplogic.Ra.Ura.{Ura}
use base.Fraction.{full_share}
use base.Share
use base.Logic.{SProp, ent, sep, ex, emp, id⊢, ex_e, snd∗}
use base.Fml.{Lft, GName, Share, Fml, ftrue, fsep, flft, fdead}
use mir.Syntax.{named, w64}
use mir.Val.{Val, vunit, vint, vptr}
use prog.Memory.{Memory}
use prog.Routine.{Routine}
use prog.Wp.{Calls, Loops, WpFn}
use types.Logic.{Logic, sem}
use contract.Lifetimes.{Lfts, Shares}
use contract.Monad.{Fun, fact, fact_i}
use contract.Running.{tables}
use types.Kit.{Item, ⋆, ‵, raw, some, later, ◌⊛◌, ◌$◌, ◌∵◌, !, qed, by, move, keep, drop, use0, use1, use2, use3, split, split3, join, pick, rewrite, group, fsplit, fsplit3, fjoin, feq_l, feq_i, suffices, frame, await, updating, now as at_once, show, done}
use types.Run.{stop, hop, fld, from, addr, unit_lit, of_opd, and_then, no_more, returns, enter}
use types.ByLocal.{alloc_all, pass_all, free_all, look_at, look_in_at, get, get_in, sets, lands_as}
use types.Part.{agg, whole, sub}
use types.Tokens.{lft_new, lft_end}
use sound.WpLaws.{FmC}
use denote.RattleType.{owns}
use denote.Laws.{Is, shows}
use denote.Plain.{uint_vals, uint_Tells}
use denote.Builtin.{u16, usize, unit}
use denote.Ref.{Bor, MutBor, ShrRef, shr_vals, shr_Tells, shr_Lawful}
use denote.Slice.{MutSlice, ShrSlice, Room, shr_slice_vals, mut_slice_vals, mut_slice_Tells, shr_slice_Tells, shr_slice_Lawful}
use denote.Steps.{only, peeks, heard, nothing}
use denote.Triple.Entry.{Args, Vals, on_entry}
use denote.Triple.Spec.{triple_of}
use denote.Triple.Statement.{Contract, Triple}
use denote.Triple.Call.{calls_at}
use denote.Triple.Clauses.{ensured, lasts}
use denote.Triple.Table.{framed}
use denote.Triple.Walked.{says, Stays, stay_dropped, stay_slice, walk_of, Goes-dropped, Goes-slice, ends_at}
use denote.Exit.{yes}
use denote.Signature.{plain, shr_ref_to, shr_slice_of}
use denote.Enum.Laws as EL
use Rattle.std.proofs.raw_atomic.Walks.{proved}
use Rattle.evc_int.specs.Lists.{with_block}
use Rattle.evc_int.proofs.Lists.{length-with_block, with_block-part}
use Rattle.evc_plane.specs.declared.PlaneType.{PlaneType}
use Rattle.evc_plane.specs.contracts.PlaneType as K
use Rattle.evc_plane.proofs.PlaneType.TheLaws as K'
use Rattle.evc_interp.specs.declared.Position.{Position}
use Rattle.evc_interp.specs.Inner.{Readable, sample_from}
use Rattle.evc_interp.specs.contracts.Position as P
use Rattle.evc_pick.specs.contracts.PredBlock as B
use Rattle.evc_pick.proofs.PredBlock.TheLaws as B'
use Rattle.evc_pick.specs.declared.PredBlock.{PredBlock}
use Rattle.evc_pick.specs.declared.PredBlock.TheVariants.{First, Second}
use Rattle.evc_pick.specs.Inner.{by_block, with_tail, ends_as, both_end, once_ended}
use Rattle.evc_pick.proofs.Again.{LentSlice, named_as, at_end, lends_slice_again, slice_comes_back}
use Rattle.evc_pick.proofs.Ends.{ended}
use Rattle.evc_pick.proofs.Walk.{needs_both}
use Rattle.evc_pick.specs.contracts.pick as picker
use Rattle.evc_pick.proofs.pick.Symbol.{name as #pick}
use Rattle.evc_pick.proofs.pick.Met as pick-thm
use Rattle.evc_interp.specs.contracts.predict as predict
use Rattle.evc_interp.proofs.predict.Symbol.{name as #predict}
use Rattle.evc_interp.proofs.predict.Met as predict-thm
use Rattle.evc_pick.specs.contracts.predict_component as component
use Rattle.evc_pick.proofs.predict_component.Statement.{statement}
use Rattle.evc_pick.proofs.predict_component.Code as code

abbrev stayed : Stays component.ended.signature.params component.ended.kept
stayed = (stay_dropped (plain (λ _. K.the_row)) yes, (stay_dropped (shr_ref_to (0 ∷ []) tt (plain (λ _. P.the_row))) yes, (stay_dropped (plain (λ _. usize)) yes, (stay_dropped (plain (λ _. usize)) yes, (stay_dropped (shr_slice_of (0 ∷ []) tt (plain (λ _. u16))) yes, (stay_slice (1 ∷ []) tt (plain (λ _. u16)), (stay_slice (1 ∷ []) tt (plain (λ _. u16)), (stay_dropped (plain (λ _. B.the_row)) yes, (stay_dropped (plain (λ _. usize)) yes, tt)))))))))

-- ---- the lists
-- a block predicted to the elements from k on
tail_block : (xs zs : List ℕ) (k n h : ℕ) (f : ℕ → ℕ → ℕ) → k + h * n ≤ length xs → zs ≡ with_block (drop-list k xs) 0 n n h f → with_tail xs k zs ≡ with_block xs k n n h f
tail_block xs zs k n h f le e = ap (λ (l : List ℕ). take k xs ++ l) (e ∙ sym (with_block-part (drop-list k xs) 0 n h f (omega (arith, length-drop k xs, le)))) ∙ with_block-part xs k n h f le

module _ (x y : MutBor (List ℕ)) (k n h : ℕ) (le₀ : k + h * n ≤ length x.now) (le₁ : k + h * n ≤ length y.now) where
  start : (s : PredBlock) → k ≤ length (by_block s x y).now
  start Second = omega (arith, le₁)
  start First = omega (arith, le₀)

  enough : (s : PredBlock) → h * n ≤ length (drop-list k (by_block s x y).now)
  enough Second = omega (arith, le₁, length-drop k y.now)
  enough First = omega (arith, le₀, length-drop k x.now)

  module _ (f : ℕ → ℕ → ℕ) where
    abbrev last₀ : PredBlock → List ℕ
    last₀ s = by_block s (with_block x.now k n n h f) x.now

    abbrev last₁ : PredBlock → List ℕ
    last₁ s = by_block s y.now (with_block y.now k n n h f)

    lengths : (s : PredBlock) → (length (last₀ s) ≡ length x.now) × (length (last₁ s) ≡ length y.now)
    lengths Second = (refl, length-with_block y.now k n n h f)
    lengths First = (length-with_block x.now k n n h f, refl)

    lasts_are : (s : PredBlock) (zs : List ℕ) → zs ≡ with_block (drop-list k (by_block s x y).now) 0 n n h f
        → (by_block s (with_tail x.now k zs) x.now ≡ last₀ s) × (by_block s y.now (with_tail y.now k zs) ≡ last₁ s)
    lasts_are Second zs e = (refl, tail_block y.now zs k n h f le₁ e)
    lasts_are First zs e = (tail_block x.now zs k n h f le₀ e, refl)

-- the block that is picked, under the names that both are lent by, is the one that is picked
picked_again : (x x' y y' : MutBor (List ℕ)) → x'.now ≡ x.now → y'.now ≡ y.now → (s : PredBlock) → (by_block s x' y').now ≡ (by_block s x y).now
picked_again x x' y y' e f Second = f
picked_again x x' y y' e f First = e

-- ---- the contracts that the proof cites
module _ {M : Type 1} {𝓤 : Ura M} (𝓛 : Logic 𝓤) (mem : Memory → SProp 𝓤) (run : Routine → Fun 𝓤) where
  abbrev Pick : Contract 𝓤
  Pick = triple_of 𝓛 picker.signature (picker.spec 𝓛 mem run)

  abbrev Predict : Contract 𝓤
  Predict = triple_of 𝓛 predict.signature (predict.spec 𝓛 mem run)

module _ {M : Type 1} {𝓤 : Ura M} (𝓛 : Logic 𝓤) (mem : Memory → SProp 𝓤) (run : Routine → Fun 𝓤) (κ₀ κ : Lft) (q₀ q : Share)
    (t : PlaneType) (p : Bor Position) (w h : ℕ) (plane : Bor (List ℕ)) (x y : MutBor (List ℕ)) (s : PredBlock) (k : ℕ) (room₀ : Room u16 (length x.now)) (room₁ : Room u16 (length y.now))
    (readable : Readable t p.now w h plane.now) (le₀ : k + h * w ≤ length x.now) (le₁ : k + h * w ≤ length y.now) where
  open 𝓛 use {H, A}

  -- the machine values
  abbrev vt : Val
  vt = EL.val K.the_type K'.the_laws t

  abbrev vp : Val
  vp = vptr p.ref_ptr.0 p.ref_ptr.1

  abbrev vs : Val
  vs = EL.val B.the_type B'.the_laws s

  abbrev sample : ℕ → ℕ → ℕ
  sample = sample_from t p.now plane.now

  -- a block as it is lent for a lifetime, at its value's own machine value and at any
  abbrev Held : Lft → MutBor (List ℕ) → List Val → Fml
  Held κ' r vs = (MutSlice (named 0) κ' u16).own_val r vs

  -- what numbers and the plane own
  abbrev Numbers : Item 𝓤
  Numbers = ‵ ((B.the_row).own_val s (vs ∷ [])) ⊛ ‵ (usize.own_val k (vint w64 k ∷ []))

  -- ---- both blocks are lent again, and come back
  module _ (α : ℕ) (δ : GName × GName) where
    abbrev x' : MutBor (List ℕ)
    x' = named_as 𝓛 u16 κ (α ∷ []) (Share.left q) x δ.0

    abbrev y' : MutBor (List ℕ)
    y' = named_as 𝓛 u16 κ (α ∷ []) (Share.right q) y δ.1

    abbrev Loans : Item 𝓤
    Loans = ‵ (Held (α ∷ []) x' (mut_slice_vals x)) ⊛ ‵ (Held (α ∷ []) y' (mut_slice_vals y))

    abbrev Kept : Item 𝓤
    Kept = ‵ (LentSlice 𝓛 u16 κ (α ∷ []) (Share.left q) x δ.0) ⊛ ‵ (LentSlice 𝓛 u16 κ (α ∷ []) (Share.right q) y δ.1)

  lent_again : (α : ℕ) → ent 𝓤 (⋆ 𝓛 (‵ (Held κ x (mut_slice_vals x)) ∷ ‵ (Held κ y (mut_slice_vals y)) ∷ ‵ (flft κ q) ∷ [])) (H.⇛ (ex 𝓤 (λ (δ : GName × GName). ⋆ 𝓛 (Loans α δ ∷ Kept α δ ∷ []))))
  lent_again α =
      qed 𝓛 (‵ (Held κ x (mut_slice_vals x)) ∷ ‵ (Held κ y (mut_slice_vals y)) ∷ ‵ (flft κ q) ∷ []) ∵ updating ! $ move ! (2 ∷ []) $
      use1 𝓛 (‵ (flft κ (Share.left q)) ⊛ ‵ (flft κ (Share.right q))) (𝓛.lfts.lft_split κ q) $ split ! $ move ! (2 ∷ 0 ∷ []) $
      use2 𝓛 (later (some (λ (δ : GName). ‵ (Held (α ∷ []) (named_as 𝓛 u16 κ (α ∷ []) (Share.left q) x δ) (mut_slice_vals x)) ⊛ ‵ (LentSlice 𝓛 u16 κ (α ∷ []) (Share.left q) x δ))))
      (lends_slice_again 𝓛 u16 κ (α ∷ []) (Share.left q) x (named 0) (named 0)) $ await ! tt $ pick ! (λ δ₀. split ! $
      -- [the first loan; what its lender keeps; the other half of the token; the second block]
      move ! (3 ∷ 2 ∷ []) $
      use2 𝓛 (later (some (λ (δ : GName). ‵ (Held (α ∷ []) (named_as 𝓛 u16 κ (α ∷ []) (Share.right q) y δ) (mut_slice_vals y)) ⊛ ‵ (LentSlice 𝓛 u16 κ (α ∷ []) (Share.right q) y δ))))
      (lends_slice_again 𝓛 u16 κ (α ∷ []) (Share.right q) y (named 0) (named 0)) $ await ! tt $ pick ! (λ δ₁. split ! $
      at_once ! $ show ! (λ (δ : GName × GName). ⋆ 𝓛 (Loans α δ ∷ Kept α δ ∷ [])) (δ₀, δ₁) $ move ! (3 ∷ 1 ∷ []) $ join ! $ move ! (2 ∷ 1 ∷ []) $ join ! $ done !))

  come_back : (α : ℕ) (δ : GName × GName) (z₀ z₁ : List ℕ) → length z₀ ≡ length x.now → length z₁ ≡ length y.now
      → ent 𝓤 (⋆ 𝓛 (‵ (fdead (α ∷ [])) ∷ Kept α δ ∷ ‵ (fsep (ends_as (x' α δ) z₀) (ends_as (y' α δ) z₁)) ∷ []))
      (H.⇛ (⋆ 𝓛 (‵ (Held κ (at_end 𝓛 u16 κ (α ∷ []) q x z₀) (mut_slice_vals x)) ∷ ‵ (Held κ (at_end 𝓛 u16 κ (α ∷ []) q y z₁) (mut_slice_vals y)) ∷ ‵ (flft κ q) ∷ [])))
  come_back α δ z₀ z₁ l₀ l₁ =
      qed 𝓛 (‵ (fdead (α ∷ [])) ∷ Kept α δ ∷ ‵ (fsep (ends_as (x' α δ) z₀) (ends_as (y' α δ) z₁)) ∷ []) ∵ updating ! $
      use1 𝓛 (‵ (fdead (α ∷ [])) ⊛ ‵ (fdead (α ∷ []))) (𝓛.lfts.dead_dup (α ∷ [])) $ split ! $ move ! (2 ∷ []) $ split ! $ move ! (4 ∷ []) $ fsplit ! $
      -- [how each loan ended; what each lender keeps; α is over, twice]
      move ! (4 ∷ 2 ∷ 0 ∷ []) $ use3 𝓛 (later (‵ (Held κ (at_end 𝓛 u16 κ (α ∷ []) q x z₀) (mut_slice_vals x)) ⊛ ‵ (flft κ (Share.left q))))
      (slice_comes_back 𝓛 u16 κ (α ∷ []) (Share.left q) x (named 0) δ.0 z₀ room₀ l₀) $ await ! tt $ split ! $
      move ! (4 ∷ 3 ∷ 2 ∷ []) $ use3 𝓛 (later (‵ (Held κ (at_end 𝓛 u16 κ (α ∷ []) q y z₁) (mut_slice_vals y)) ⊛ ‵ (flft κ (Share.right q))))
      (slice_comes_back 𝓛 u16 κ (α ∷ []) (Share.right q) y (named 0) δ.1 z₁ room₁ l₁) $ await ! tt $ split ! $
      move ! (3 ∷ 1 ∷ []) $ use2 𝓛 (‵ (flft κ q)) (𝓛.lfts.lft_join κ q) $ at_once ! $ move ! (2 ∷ 1 ∷ 0 ∷ []) $ done !

  -- ---- `pick`
  module _ (α : ℕ) (δ : GName × GName) where
    abbrev to_pick : (Pick 𝓛 mem run).Ghost
    to_pick = (((α ∷ [], tt), (full_share, tt), tt, (x' α δ, (y' α δ, (s, (k, tt)))), (mut_slice_vals x, (mut_slice_vals y, (vs ∷ [], (vint w64 k ∷ [], tt))))), tt)

    goes_pick : ent 𝓤 (⋆ 𝓛 (‵ (flft (α ∷ []) full_share) ∷ Loans α δ ∷ ‵ ((B.the_row).own_val s (vs ∷ [])) ∷ ‵ (usize.own_val k (vint w64 k ∷ [])) ∷ [])) ((Pick 𝓛 mem run).pre to_pick)
    goes_pick =
        qed 𝓛 (‵ (flft (α ∷ []) full_share) ∷ Loans α δ ∷ ‵ ((B.the_row).own_val s (vs ∷ [])) ∷ ‵ (usize.own_val k (vint w64 k ∷ [])) ∷ []) ∵
        says ! (start (x' α δ) (y' α δ) k w h le₀ le₁ s) $ nothing ! $ move ! (1 ∷ 0 ∷ []) $ join ! $ frame ! $ split ! $
        -- [both loans; the choice; the offset]
        nothing ! $ move ! (4 ∷ 0 ∷ []) $ fjoin ! $ move ! (3 ∷ 0 ∷ []) $ fjoin ! $ move ! (2 ∷ 0 ∷ []) $ fjoin ! $ move ! (1 ∷ 0 ∷ []) $ fjoin ! $ done !

    abbrev Both : List ℕ → Fml
    Both = both_end (x' α δ) (y' α δ) s k

    abbrev Shown : MutBor (List ℕ) → Type 0
    Shown r = r.now ≡ drop-list k (by_block s (x' α δ) (y' α δ)).now

    abbrev Told : MutBor (List ℕ) → SProp 𝓤
    Told r = ensured 𝓛 picker.ended (picker.clauses 𝓛 mem run) (α ∷ [], tt) (x' α δ, (y' α δ, (s, (k, tt)))) tt r

    told : (r : MutBor (List ℕ)) → ent 𝓤 (Told r) (sep 𝓤 (fact 𝓤 (Shown r)) (sem 𝓛 (once_ended r Both)))
    told r = ex_e 𝓤 _ (λ ws. snd∗ 𝓤 (sem 𝓛 (lasts picker.ended (α ∷ [], tt) (x' α δ, (y' α δ, (s, (k, tt)))) ws)) (sep 𝓤 (fact 𝓤 (Shown r)) (sem 𝓛 (once_ended r Both))))

    -- ---- `predict`
    abbrev κs' : Lfts 3
    κs' = (κ₀, (κ₀, (α ∷ [], tt)))

    abbrev passed : MutBor (List ℕ) → Args predict.signature κs'
    passed r = (t, (p, (w, (h, (plane, (r, tt))))))

    abbrev to_predict : MutBor (List ℕ) → (Predict 𝓛 mem run).Ghost
    to_predict r = ((κs', (Share.left q₀, (Share.right q₀, (full_share, tt))), tt, passed r, (vt ∷ [], (vp ∷ [], (vint w64 w ∷ [], (vint w64 h ∷ [], (shr_slice_vals plane, (mut_slice_vals r, tt))))))), tt)

    abbrev Passed : List (Item 𝓤)
    Passed = ‵ ((K.the_row).own_val t (vt ∷ [])) ∷ ‵ ((ShrRef (named 0) κ₀ P.the_row).own_val p (vp ∷ [])) ∷ ‵ (usize.own_val w (vint w64 w ∷ [])) ∷ ‵ (usize.own_val h (vint w64 h ∷ [])) ∷ ‵ ((ShrSlice (named 0) κ₀ u16).own_val plane (shr_slice_vals plane)) ∷ []

    goes_predict : (r : MutBor (List ℕ)) → Shown r → ent 𝓤 (⋆ 𝓛 (‵ (Held (α ∷ []) r (mut_slice_vals r)) ∷ ‵ (flft κ₀ (Share.left q₀)) ∷ ‵ (flft κ₀ (Share.right q₀)) ∷ ‵ (flft (α ∷ []) full_share) ∷ Passed)) ((Predict 𝓛 mem run).pre (to_predict r))
    goes_predict r e =
        qed 𝓛 (‵ (Held (α ∷ []) r (mut_slice_vals r)) ∷ ‵ (flft κ₀ (Share.left q₀)) ∷ ‵ (flft κ₀ (Share.right q₀)) ∷ ‵ (flft (α ∷ []) full_share) ∷ Passed) ∵
        says ! (readable, subst (λ (l : List ℕ). h * w ≤ length l) (sym e) (enough (x' α δ) (y' α δ) k w h le₀ le₁ s)) $
        nothing ! $ move ! (2 ∷ 3 ∷ 4 ∷ 0 ∷ []) $ group ! 4 $ frame ! $
        -- [the part; the type; the position; the sides; the plane]
        nothing ! $ move ! (1 ∷ 0 ∷ []) $ fjoin ! $ move ! (5 ∷ 0 ∷ []) $ fjoin ! $ move ! (4 ∷ 0 ∷ []) $ fjoin ! $ move ! (3 ∷ 0 ∷ []) $ fjoin ! $ move ! (2 ∷ 0 ∷ []) $ fjoin ! $ move ! (1 ∷ 0 ∷ []) $ fjoin ! $ done !

    abbrev Said : MutBor (List ℕ) → List ℕ → Type 0
    Said r zs = zs ≡ with_block r.now 0 w w h sample

    lasts_of : (r : MutBor (List ℕ)) (zs : List ℕ) → Shown r → Said r zs
        → (by_block s (with_tail x.now k zs) x.now ≡ last₀ x y k w h le₀ le₁ sample s) × (by_block s y.now (with_tail y.now k zs) ≡ last₁ x y k w h le₀ le₁ sample s)
    lasts_of r zs shown e = lasts_are x y k w h le₀ le₁ sample s zs (e ∙ ap (λ (l : List ℕ). with_block l 0 w w h sample) (shown ∙ ap (drop-list k) (picked_again x (x' α δ) y (y' α δ) refl refl s)))

  -- ---- the whole
  abbrev κs : Lfts 2
  κs = (κ₀, (κ, tt))

  abbrev qs : Shares 2
  qs = (q₀, (q, tt))

  abbrev a : Args component.signature κs
  a = (t, (p, (w, (h, (plane, (x, (y, (s, (k, tt)))))))))

  abbrev vals : Vals component.signature κs
  vals = (vt ∷ [], (vp ∷ [], (vint w64 w ∷ [], (vint w64 h ∷ [], (shr_slice_vals plane, (mut_slice_vals x, (mut_slice_vals y, (vs ∷ [], (vint w64 k ∷ [], tt)))))))))

  abbrev Post : Val → SProp 𝓤
  Post = (walk_of 𝓛 component.ended stayed (component.clauses 𝓛 mem run)).post ((κs, qs, tt, a, vals), tt)

  -- the exit: the last lists of both blocks, z₀ and z₁, are those of the contract
  exits : (α : ℕ) (z₀ z₁ : List ℕ) → z₀ ≡ last₀ x y k w h le₀ le₁ sample s → z₁ ≡ last₁ x y k w h le₀ le₁ sample s
      → ent 𝓤 (⋆ 𝓛 (‵ (Held κ (at_end 𝓛 u16 κ (α ∷ []) q x z₀) (mut_slice_vals x)) ∷ ‵ (Held κ (at_end 𝓛 u16 κ (α ∷ []) q y z₁) (mut_slice_vals y)) ∷ ‵ (flft κ q) ∷ ‵ (flft κ₀ q₀) ∷ [])) (Post vunit)
  exits α z₀ z₁ e₀ e₁ =
      let l = lengths x y k w h le₀ le₁ sample s in
      qed 𝓛 (‵ (Held κ (at_end 𝓛 u16 κ (α ∷ []) q x z₀) (mut_slice_vals x)) ∷ ‵ (Held κ (at_end 𝓛 u16 κ (α ∷ []) q y z₁) (mut_slice_vals y)) ∷ ‵ (flft κ q) ∷ ‵ (flft κ₀ q₀) ∷ []) ∵
      suffices ! _ (ends_at 𝓛 component.ended stayed (component.clauses 𝓛 mem run) ((κs, qs, tt, a, vals), tt) vunit tt (tt, (tt, (tt, (tt, (tt, (z₀, (z₁, (tt, (tt, tt)))))))))
      (tt, (tt, (tt, (tt, (tt, (ap length e₀ ∙ l.0, (ap length e₁ ∙ l.1, (tt, (tt, tt)))))))))) $
      nothing ! $ move ! (4 ∷ 3 ∷ 0 ∷ []) $ group ! 3 $
      -- [the tokens; both blocks]
      nothing ! $ nothing ! $ fjoin ! $ nothing ! $ fjoin ! $ move ! (3 ∷ 0 ∷ []) $ fjoin ! $ move ! (2 ∷ 0 ∷ []) $ fjoin ! $ nothing ! $ fjoin ! $ nothing ! $ fjoin ! $ nothing ! $ fjoin ! $ nothing ! $ fjoin ! $ nothing ! $ fjoin ! $
      feq_i ! (List Val) (vunit ∷ []) (vunit ∷ []) refl $ move ! (1 ∷ 0 ∷ []) $ join ! $ move ! (1 ∷ 0 ∷ []) $ join ! $ frame ! $
      use0 𝓛 (raw (fact 𝓤 (z₁ ≡ last₁ x y k w h le₀ le₁ sample s))) (fact_i 𝓤 _ (emp 𝓤) e₁) $ use0 𝓛 (raw (fact 𝓤 (z₀ ≡ last₀ x y k w h le₀ le₁ sample s))) (fact_i 𝓤 _ (emp 𝓤) e₀) $ done !

  -- the walk: local 10 is the part; 11 and 12 are pred0 lent on, 13 and 14 pred1, 16 and 17 the part
  module _ (C : Calls 𝓤 H) (Λ : Loops 𝓤 H) (fm : FmC 𝓤 H 𝓛.laws C) (known_pick : Triple 𝓤 (C #pick) (Pick 𝓛 mem run)) (known_predict : Triple 𝓤 (C #predict) (Predict 𝓛 mem run)) where
    walk : Is K.the_row t (EL.vals K.the_type K'.the_laws t) → Is (ShrRef (named 0) κ₀ P.the_row) p (shr_vals p) → w < 2 ^ 64 → h < 2 ^ 64 → Is (ShrSlice (named 0) κ₀ u16) plane (shr_slice_vals plane) → Is B.the_row s (EL.vals B.the_type B'.the_laws s) → k < 2 ^ 64
        → ent 𝓤 (on_entry 𝓛 component.signature κs qs a vals)
        (WpFn 𝓤 H C Λ code.function (vt ∷ vp ∷ vint w64 w ∷ vint w64 h ∷ only (shr_slice_vals plane) ∷ only (mut_slice_vals x) ∷ only (mut_slice_vals y) ∷ vs ∷ vint w64 k ∷ []) Post)
    walk gt gp fits_w fits_h gplane gs fits_k =
        qed 𝓛 ((‵ (flft κ₀ q₀) ⊛ ‵ (flft κ q) ⊛ ‵ ftrue) ∷ ‵ (owns (K.the_row ∷ ShrRef (named 0) κ₀ P.the_row ∷ usize ∷ usize ∷ ShrSlice (named 0) κ₀ u16 ∷ MutSlice (named 1) κ u16 ∷ MutSlice (named 1) κ u16 ∷ B.the_row ∷ usize ∷ []) a vals) ∷ []) ∵
        move ! (1 ∷ []) $ fsplit ! $ move ! (1 ∷ []) $ fsplit3 ! $ move ! (2 ∷ []) $ fsplit3 ! $ move ! (2 ∷ []) $ fsplit3 ! $ move ! (2 ∷ []) $ fsplit3 ! $ move ! (10 ∷ []) $ split3 ! $
        keep ! (12 ∷ 10 ∷ 11 ∷ 8 ∷ 9 ∷ 6 ∷ 7 ∷ 3 ∷ 4 ∷ 0 ∷ 1 ∷ []) $
        -- [the type; the position; the sides; the plane; both blocks; the choice; the offset; the plane's token; the blocks']
        enter ! C Λ code.function (vt ∷ vp ∷ vint w64 w ∷ vint w64 h ∷ only (shr_slice_vals plane) ∷ only (mut_slice_vals x) ∷ only (mut_slice_vals y) ∷ vs ∷ vint w64 k ∷ []) _ $
        alloc_all ! (λ l. pass_all ! refl (
          ((EL.lawful K.the_type K'.the_laws 𝓛 tt).typed t _ gt).0,
          (
            ((shr_Lawful 𝓛 (named 0) κ₀ P.the_row).typed p (shr_vals p) gp).0,
            (
              (tt, record { fits = fits_w }),
              (
                (tt, record { fits = fits_h }),
                (((shr_slice_Lawful 𝓛 (named 0) κ₀ u16).typed plane (shr_slice_vals plane) gplane).0, ((tt, (tt, (record { fits = room₀.0 }, tt))), ((tt, (tt, (record { fits = room₁.0 }, tt))), (((EL.lawful B.the_type B'.the_laws 𝓛 tt).typed s _ gs).0, ((tt, record { fits = fits_k }), tt))))),
              ),
            ),
          ),
        ) $
        sets ! (addr ! (from ! (fld ! refl (hop ! (look_in_at ! 6 (sub ! 0 refl (whole !))) (stop !))))) refl (tt, tt) $
        sets ! (agg ! (and_then ! (get ! refl) (and_then ! (get_in ! (fld ! refl (stop !)) (sub ! 1 refl (whole !))) (no_more !)))) refl (tt, (tt, (record { fits = room₀.0 }, tt))) $
        sets ! (addr ! (from ! (fld ! refl (hop ! (look_in_at ! 7 (sub ! 0 refl (whole !))) (stop !))))) refl (tt, tt) $
        sets ! (agg ! (and_then ! (get ! refl) (and_then ! (get_in ! (fld ! refl (stop !)) (sub ! 1 refl (whole !))) (no_more !)))) refl (tt, (tt, (record { fits = room₁.0 }, tt))) $
        lft_new ! tt (λ α. move ! (6 ∷ 7 ∷ 11 ∷ []) $ use3 𝓛 (later (some (λ (δ : GName × GName). Loans α δ ⊛ Kept α δ))) (lent_again α) $ await ! tt $ pick ! (λ δ. split ! $
        -- [both loans; what their lenders keep; α's token; the type; the position; the sides; the plane; the choice; the offset; the plane's token]
        move ! (2 ∷ 0 ∷ 8 ∷ 9 ∷ []) $ group ! 4 $ use1 𝓛 (raw ((Pick 𝓛 mem run).pre (to_pick α δ))) (goes_pick α δ) $
        calls_at ! fm (Pick 𝓛 mem run) known_pick (to_pick α δ) (and_then ! (get ! refl) (and_then ! (get ! refl) (and_then ! (get ! refl) (and_then ! (get ! refl) (no_more !))))) (λ v.
        use1 𝓛 (later (some (λ (r : MutBor (List ℕ)). ((‵ (flft (α ∷ []) full_share) ⊛ ‵ ftrue) ⊛ ‵ (Held (α ∷ []) r (v ∷ []))) ⊛ raw (Told α δ r)))) (id⊢ 𝓤 _) $ await ! tt $ pick ! (λ r.
        split ! $ move ! (1 ∷ []) $ use1 𝓛 (raw (fact 𝓤 (Shown α δ r)) ⊛ ‵ (once_ended r (Both α δ))) (told α δ r) $ split ! $ heard ! (Shown α δ r) (λ shown.
        move ! (1 ∷ []) $ split ! $ split ! $ move ! (2 ∷ []) $ peeks ! (MutSlice (named 0) (α ∷ []) u16) (Is (MutSlice (named 0) (α ∷ []) u16)) (shows 𝓛 (MutSlice (named 0) (α ∷ []) u16)) r (v ∷ []) (λ is.
        lands_as ! (ap only is.0.0) refl (tt, (tt, (record { fits = is.0.1.0 }, tt))) $ rewrite ! 0 (λ (vs : List Val). ‵ (Held (α ∷ []) r vs)) is.0.0 refl $
        sets ! (addr ! (from ! (fld ! refl (hop ! (look_in_at ! 10 (sub ! 0 refl (whole !))) (stop !))))) refl (tt, tt) $
        sets ! (agg ! (and_then ! (get ! refl) (and_then ! (get_in ! (fld ! refl (stop !)) (sub ! 1 refl (whole !))) (no_more !)))) refl (tt, (tt, (record { fits = is.0.1.0 }, tt))) $
        -- [the part; α's token; true; how the loans end; what their lenders keep; the type; the position; the sides; the plane; the plane's token]
        move ! (10 ∷ []) $ use1 𝓛 (‵ (flft κ₀ (Share.left q₀)) ⊛ ‵ (flft κ₀ (Share.right q₀))) (𝓛.lfts.lft_split κ₀ q₀) $ split ! $
        move ! (2 ∷ 0 ∷ 1 ∷ 3 ∷ 7 ∷ 8 ∷ 9 ∷ 10 ∷ 11 ∷ []) $ group ! 9 $ use1 𝓛 (raw ((Predict 𝓛 mem run).pre (to_predict α δ r))) (goes_predict α δ r shown) $
        calls_at ! fm (Predict 𝓛 mem run) known_predict (to_predict α δ r) (and_then ! (get ! refl) (and_then ! (get ! refl) (and_then ! (get ! refl) (and_then ! (get ! refl) (and_then ! (get ! refl) (and_then ! (get ! refl) (no_more !))))))) (λ u.
        use1 𝓛 (later (some (λ (r' : Unit {0}). ((‵ (flft κ₀ (Share.left q₀)) ⊛ ‵ (flft κ₀ (Share.right q₀)) ⊛ ‵ (flft (α ∷ []) full_share) ⊛ ‵ ftrue) ⊛ ‵ (unit.own_val r' (u ∷ []))) ⊛
        some (λ (ws : Unit {0} × (Unit {0} × (Unit {0} × (Unit {0} × (Unit {0} × (List ℕ × Unit {0})))))). ‵ (lasts predict.ended (κs' α δ) (passed α δ r) ws) ⊛ raw (fact 𝓤 (Said α δ r ws.1.1.1.1.1.0)))))) (id⊢ 𝓤 _) $ await ! tt $ pick ! (λ r'.
        split ! $ split ! $ split ! $ move ! (1 ∷ []) $ split3 ! $ move ! (3 ∷ 0 ∷ []) $ use2 𝓛 (‵ (flft κ₀ q₀)) (𝓛.lfts.lft_join κ₀ q₀) $ move ! (4 ∷ []) $ pick ! (λ ws. split ! $ move ! (1 ∷ []) $ heard ! (Said α δ r ws.1.1.1.1.1.0) (λ said.
        fsplit ! $ drop ! $ fsplit ! $ drop ! $ fsplit ! $ drop ! $ fsplit ! $ drop ! $ fsplit ! $ drop ! $ fsplit ! $ fsplit ! $ fsplit ! $
        -- [how the part ended; its length; its borrow; true; the plane's token; α's token; true; the result; true; how the loans end; what their lenders keep]
        move ! (7 ∷ []) $ feq_l ! (λ is_unit. lands_as ! (ap only is_unit) refl (tt, tt) $
        let e = lasts_of α δ r ws.1.1.1.1.1.0 shown said in let l' = lengths x y k w h le₀ le₁ sample s in
        move ! (0 ∷ 8 ∷ []) $ use2 𝓛 (‵ (Both α δ ws.1.1.1.1.1.0)) (ended 𝓛 r (Both α δ) ws.1.1.1.1.1.0) $ move ! (5 ∷ []) $ lft_end ! tt $ move ! (0 ∷ 8 ∷ 1 ∷ []) $
        use3 𝓛 (later (‵ (Held κ (at_end 𝓛 u16 κ (α ∷ []) q x (by_block s (with_tail x.now k ws.1.1.1.1.1.0) x.now)) (mut_slice_vals x)) ⊛ ‵ (Held κ (at_end 𝓛 u16 κ (α ∷ []) q y (by_block s y.now (with_tail y.now k ws.1.1.1.1.1.0))) (mut_slice_vals y)) ⊛ ‵ (flft κ q)))
        (come_back α δ (by_block s (with_tail x.now k ws.1.1.1.1.1.0) x.now) (by_block s y.now (with_tail y.now k ws.1.1.1.1.1.0)) (ap length e.0 ∙ l'.0) (ap length e.1 ∙ l'.1)) $ await ! tt $ split3 ! $
        sets ! (of_opd ! (unit_lit !)) refl (tt, tt) $ returns ! (look_at ! 0 refl) $ free_all ! refl $ keep ! (0 ∷ 1 ∷ 2 ∷ 6 ∷ []) $ by ! (exits α _ _ e.0 e.1)))))))))))))

pub predict_component_spec : {M : Type 1} → statement M
predict_component_spec 𝓤 𝓛 𝓜 𝓡 wired =
    let 𝓣 = tables 𝓤 𝓛.H 𝓜 𝓡 𝓡.env in
    let number = Goes-dropped 𝓛 2 (plain (λ _. usize)) yes (λ κs x f. refl) in
    let block = Goes-slice 𝓛 2 1 tt (plain (λ _. u16)) in
    proved 𝓛 component.ended stayed (component.clauses 𝓛 𝓜.mem 𝓡.returns) 𝓜 𝓡 (
      Goes-dropped 𝓛 2 (plain (λ _. K.the_row)) yes (λ κs x f. refl),
      (
        Goes-dropped 𝓛 2 (shr_ref_to (0 ∷ []) tt (plain (λ _. P.the_row))) yes (λ κs x f. refl),
        (number, (number, (Goes-dropped 𝓛 2 (shr_slice_of (0 ∷ []) tt (plain (λ _. u16))) yes (λ κs x f. refl), (block, (block, (Goes-dropped 𝓛 2 (plain (λ _. B.the_row)) yes (λ κs x f. refl), (number, tt))))))),
      ),
    )
    component.Key.name code.function (code.unfolded 𝓤 𝓛.H 𝓜 𝓡 wired)
    (λ κs. (EL.vals K.the_type K'.the_laws, (shr_vals, (uint_vals w64, (uint_vals w64, (shr_slice_vals, (mut_slice_vals, (mut_slice_vals, (EL.vals B.the_type B'.the_laws, (uint_vals w64, tt))))))))))
    (λ κs. (EL.tells K.the_type K'.the_laws, (shr_Tells (named 0) κs.0 P.the_row, (uint_Tells w64, (uint_Tells w64, (shr_slice_Tells (named 0) κs.0 u16, (mut_slice_Tells (named 1) κs.1.0 u16, (mut_slice_Tells (named 1) κs.1.0 u16, (EL.tells B.the_type B'.the_laws, (uint_Tells w64, tt))))))))))
    (λ κs qs bounds a _ are.
    let x = a.1.1.1.1.1.0 in let y = a.1.1.1.1.1.1.0 in let k = a.1.1.1.1.1.1.1.1.0 in let n = a.1.1.1.0 * a.1.1.0 in
    needs_both 𝓤 (Readable a.0 a.1.0.now a.1.1.0 a.1.1.1.0 a.1.1.1.1.0.now) ((k + n ≤ length x.now) × (k + n ≤ length y.now)) _ (λ readable le.
    walk 𝓛 𝓜.mem 𝓡.returns κs.0 κs.1.0 qs.0 qs.1.0 a.0 a.1.0 a.1.1.0 a.1.1.1.0 a.1.1.1.1.0 x y a.1.1.1.1.1.1.1.0 k are.1.1.1.1.1.0.0.1 are.1.1.1.1.1.1.0.0.1 readable le.0 le.1
    𝓣.C 𝓣.Λ (framed 𝓤 𝓛.H 𝓜 𝓣) (pick-thm.met 𝓤 𝓛 𝓜 𝓡 (code.calls-evc_pick::pick 𝓡.env wired)) (predict-thm.met 𝓤 𝓛 𝓜 𝓡 (code.calls-evc_interp::predict 𝓡.env wired))
    are.0 are.1.0 are.1.1.0.1 are.1.1.1.0.1 are.1.1.1.1.0 are.1.1.1.1.1.1.1.0 are.1.1.1.1.1.1.1.1.0.1))
