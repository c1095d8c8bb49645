-- `pick` meets its contract: a walk of its MIR, by hand. The block that is picked is cut at the offset, with a tie to the part (`Tail`), and the other one is given up as it was lent.
use mathlib.Core.Path.{◌≡◌, refl, ◌∙◌, ap}
use Prim.Native.Nat.{ℕ, ◌+◌, ◌-◌, ◌*◌, ◌<◌, ◌≤◌, ◌^◌}
use native.Mathlib.Omega.{arith}
use mathlib.Core.List.{[], ◌∷◌, List}
use lib.ListN.{length, take, drop as drop-list, length-drop}
use lib.Seq.{length-take-le}
use seplogic.Ra.Ura.{Ura}
use base.Fraction.{full_share}
use mir.Syntax.{Ty, named, mut, w16, w64, ty_int, ty_ref}
use mir.Val.{Val, vint, vnil, Fits}
use base.Logic.{SProp, ent, sep, emp, id⊢, comm∗}
use base.Fml.{Lft, Share, GName, Fml, ftrue, fsep, fat, flft}
use prog.Memory.{Memory}
use prog.Routine.{Routine}
use prog.Wp.{Calls, Loops, WpFn}
use types.Logic.{Logic, sem}
use contract.Monad.{Fun, fact, fact_i}
use types.Kit.{‵, raw, some, later, ◌⊛◌, ◌$◌, ◌∵◌, !, qed, by, move, keep, use0, use1, use2, join, split, pick, rewrite, fsplit, fjoin, suffices, frame, await, updating, done}
use types.Run.{stop, fld, from, lit, addr, of_opd, and_then, no_more, bin, returns, enter}
use types.ByLocal.{alloc_all, pass_all, free_all, look_at, set_at, get, get_in, get_tag, through, sets}
use types.Match.{live, vrt}
use types.Part.{agg, whole, sub}
use denote.RattleType.{owns}
use denote.Memory.{mem}
use denote.Plain.{uint_vals, uint_Tells}
use denote.Builtin.{u16, usize}
use denote.Ref.{MutBor}
use denote.Slice.{slice_ty, slice_val, MutSlice, Room, mut_slice_vals, mut_slice_Tells}
use denote.Steps.{nothing}
use denote.Triple.Entry.{Args, Vals, on_entry}
use denote.Triple.Walked.{needs, Stays, stay_dropped, walk_of, Goes-dropped, Goes-spent_slice, ends_at}
use denote.Exit.{yes, no}
use denote.Enum.Laws as EL
use denote.Signature.{plain, mut_slice_of}
use borrow.Table.Elements.{at, at_mul}
use Rattle.std.proofs.raw_atomic.Walks.{proved}
use denote.Laws.{Is}
use Rattle.evc_pick.specs.contracts.PredBlock as B
use Rattle.evc_pick.proofs.PredBlock.TheLaws as B'
use Rattle.evc_pick.specs.declared.PredBlock.{PredBlock}
use Rattle.evc_pick.specs.declared.PredBlock.TheVariants.{First, Second}
use Rattle.evc_pick.specs.Inner.{by_block, with_tail, ends_as, both_end, once_ended}
use Rattle.evc_pick.proofs.Ends.{gives_up, once_ended_lem}
use Rattle.evc_pick.proofs.Tail.{Tie, part, tail_out, tail_ends}
use Rattle.evc_pick.proofs.Walk.{whole_as, chooses}
use Rattle.evc_pick.specs.contracts.pick as picker
use Rattle.evc_pick.proofs.pick.Statement.{statement}
use Rattle.evc_pick.proofs.pick.Code as code

abbrev stayed : Stays picker.ended.signature.params picker.ended.kept
stayed = (stay_dropped (mut_slice_of (0 ∷ []) tt (plain (λ _. u16))) no, (stay_dropped (mut_slice_of (0 ∷ []) tt (plain (λ _. u16))) no, (stay_dropped (plain (λ _. B.the_row)) yes, (stay_dropped (plain (λ _. usize)) yes, tt))))

abbrev slice : MutBor (List ℕ) → Val
slice r = slice_val r.ref_ptr (length r.now)

-- the slice from k on, as the MIR computes it
abbrev from_k : ℕ → MutBor (List ℕ) → Val
from_k k r = slice_val (r.ref_ptr.0, k * 2 + r.ref_ptr.1) (length r.now - k)

place_is : (o k : ℕ) (xs : List ℕ) → k ≤ length xs → at o (mem u16).size (length (take k xs)) ≡ k * 2 + o
place_is o k xs le = ap (at o (mem u16).size) (length-take-le k xs le) ∙ at_mul o (mem u16).size k

-- which one is picked, by the variant's number
abbrev number : PredBlock → ℕ
number First = 0
number Second = 1

abbrev choice : PredBlock → Val
choice t = EL.val B.the_type B'.the_laws t

choice_is : (t : PredBlock) → choice t ≡ live (number t) vnil
choice_is First = refl
choice_is Second = refl

one_of_two : (t : PredBlock) → number t ≤ 1
one_of_two First = omega arith
one_of_two Second = omega arith

second_is : {X : Type 0} (t : PredBlock) (x y : X) → number t ≡ 1 → y ≡ by_block t x y
second_is First x y h = absurd (omega arith)
second_is Second x y h = refl

first_is : {X : Type 0} (t : PredBlock) (x y : X) → number t ≡ 0 → x ≡ by_block t x y
first_is First x y h = refl
first_is Second x y h = absurd (omega arith)

picked_room : (t : PredBlock) (x y : MutBor (List ℕ)) → Room u16 (length x.now) → Room u16 (length y.now) → Room u16 (length (by_block t x y).now)
picked_room First x y r s = r
picked_room Second x y r s = s

module _ {M : Type 1} {𝓤 : Ura M} (𝓛 : Logic 𝓤) (mem' : Memory → SProp 𝓤) (run : Routine → Fun 𝓤) (κ : Lft) (q : Share) (x y : MutBor (List ℕ)) (k : ℕ) (k-fits : k < 2 ^ 64) where
  open 𝓛 use {H, A}

  abbrev Lent : MutBor (List ℕ) → Val → Fml
  Lent r v = (MutSlice (named 0) κ u16).own_val r (v ∷ [])

  module _ (t : PredBlock) where
    abbrev picked : MutBor (List ℕ)
    picked = by_block t x y

    abbrev a : Args picker.signature (κ, tt)
    a = (x, (y, (t, (k, tt))))

    abbrev vals : Vals picker.signature (κ, tt)
    vals = (slice x ∷ [], (slice y ∷ [], (choice t ∷ [], (vint w64 k ∷ [], tt))))

    abbrev Entry : SProp 𝓤
    Entry = on_entry 𝓛 picker.signature (κ, tt) (q, tt) a vals

    abbrev Post : Val → SProp 𝓤
    Post = (walk_of 𝓛 picker.ended stayed (picker.clauses 𝓛 mem' run)).post (((κ, tt), (q, tt), tt, a, vals), tt)

    abbrev Both : List ℕ → Fml
    Both = both_end x y t k

    ends : (r : MutBor (List ℕ)) (v : Val) → r.now ≡ drop-list k picked.now → ent 𝓤 (sep 𝓤 (A.lft κ q) (sep 𝓤 (sem 𝓛 (Lent r v)) (sem 𝓛 (once_ended r Both)))) (Post v)
    ends r v e =
        qed 𝓛 (‵ (flft κ q) ∷ ‵ (Lent r v) ∷ ‵ (once_ended r Both) ∷ []) ∵
        suffices ! _ (ends_at 𝓛 picker.ended stayed (picker.clauses 𝓛 mem' run) (((κ, tt), (q, tt), tt, a, vals), tt) v r (tt, (tt, (tt, (tt, tt)))) (tt, (tt, (tt, (tt, tt))))) $
        nothing ! $ move ! (1 ∷ 0 ∷ []) $ join ! $ move ! (1 ∷ []) $ nothing ! $ nothing ! $ fjoin ! $ nothing ! $ fjoin ! $ nothing ! $ fjoin ! $ nothing ! $ fjoin ! $ join ! $ move ! (1 ∷ 0 ∷ []) $ join ! $ frame ! $
        use0 𝓛 (raw (fact 𝓤 (r.now ≡ drop-list k picked.now))) (fact_i 𝓤 _ (emp 𝓤) e) $ done !

    -- the block that is picked is cut at the offset. rest is what the function still has: with how the picked block ends it says how both end
    cuts : k ≤ length picked.now → (rest : Fml) → ((ws : List ℕ) → ent 𝓤 (sep 𝓤 (sem 𝓛 (ends_as picked (with_tail picked.now k ws))) (sem 𝓛 rest)) (sem 𝓛 (Both ws)))
        → ent 𝓤 (sep 𝓤 (sem 𝓛 (Lent picked (slice picked))) (sep 𝓤 (A.lft κ q) (sem 𝓛 rest))) (Post (from_k k picked))
    cuts le rest both =
        qed 𝓛 (‵ (Lent picked (slice picked)) ∷ ‵ (flft κ q) ∷ ‵ rest ∷ []) {P = Post (from_k k picked)} (updating ! $
        use2 𝓛 (later (some (λ (γ' : GName). ‵ (Lent (tail γ') (slice (tail γ'))) ⊛ ‵ (flft κ q) ⊛ ‵ (Tie 𝓛 u16 κ picked k γ')))) (tail_out 𝓛 u16 κ picked k (named 0) (named 0) q) $ await ! tt $
        pick ! (λ γ'. split ! $ rewrite ! 0 (λ (v : Val). ‵ (Lent (tail γ') v)) (λ i. slice_val (picked.ref_ptr.0, place_is picked.ref_ptr.1 k picked.now le i) (length-drop k picked.now i)) refl $
        -- [the part; the token and the tie; the rest]
        move ! (1 ∷ []) $ split ! $ move ! (3 ∷ 1 ∷ []) $ fjoin ! $ use1 𝓛 (‵ (once_ended (tail γ') Both)) (ties γ') $ move ! (1 ∷ 2 ∷ 0 ∷ []) $ by ! (ends (tail γ') _ refl)))
      where
        tail : GName → MutBor (List ℕ)
        tail = part 𝓛 u16 κ picked k

        ties : (γ' : GName) → ent 𝓤 (sep 𝓤 (sem 𝓛 rest) (sem 𝓛 (Tie 𝓛 u16 κ picked k γ'))) (sem 𝓛 (once_ended (tail γ') Both))
        ties γ' = once_ended_lem 𝓛 (tail γ') Both (fsep rest (Tie 𝓛 u16 κ picked k γ')) (λ ws.
            qed 𝓛 (‵ (ends_as (tail γ') ws) ∷ ‵ (fsep rest (Tie 𝓛 u16 κ picked k γ')) ∷ []) ∵ move ! (1 ∷ []) $ fsplit ! $ move ! (2 ∷ 1 ∷ []) $
            use2 𝓛 (‵ (ends_as picked (with_tail picked.now k ws))) (tail_ends 𝓛 u16 κ picked k (named 0) γ' ws) $ by ! (both ws))

  exits : (t : PredBlock) → k ≤ length (picked t).now → ent 𝓤 (Entry t) (Post t (from_k k (picked t)))
  exits First le =
      qed 𝓛 ((‵ (flft κ q) ⊛ ‵ ftrue) ∷ ‵ (owns (MutSlice (named 0) κ u16 ∷ MutSlice (named 0) κ u16 ∷ B.the_row ∷ usize ∷ []) (a First) (vals First)) ∷ []) ∵ split ! $ move ! (2 ∷ []) $ fsplit ! $ move ! (1 ∷ []) $ fsplit ! $
      use1 𝓛 (‵ (ends_as y y.now)) (gives_up 𝓛 (named 0) κ y (slice y ∷ [])) $
      keep ! (2 ∷ 3 ∷ 0 ∷ []) $ by ! (cuts First le (ends_as y y.now) (λ ws. id⊢ 𝓤 _))
  exits Second le =
      qed 𝓛 ((‵ (flft κ q) ⊛ ‵ ftrue) ∷ ‵ (owns (MutSlice (named 0) κ u16 ∷ MutSlice (named 0) κ u16 ∷ B.the_row ∷ usize ∷ []) (a Second) (vals Second)) ∷ []) ∵ split ! $ move ! (2 ∷ []) $ fsplit ! $
      use1 𝓛 (‵ (ends_as x x.now)) (gives_up 𝓛 (named 0) κ x (slice x ∷ [])) $ move ! (1 ∷ []) $ fsplit ! $
      keep ! (0 ∷ 3 ∷ 2 ∷ []) $ by ! (cuts Second le (ends_as x x.now) (λ ws. comm∗ 𝓤 (sem 𝓛 (ends_as y (with_tail y.now k ws))) (sem 𝓛 (ends_as x x.now))))

  -- the walk: locals 5 and 6 are the block that is picked, 7 to 10 the part
  abbrev lent : Ty
  lent = slice_ty (ty_ref (named 0) mut (ty_int w16))

  module _ (C : Calls 𝓤 H) (Λ : Loops 𝓤 H) (t : PredBlock) (le : k ≤ length (picked t).now) (room₀ : Room u16 (length x.now)) (room₁ : Room u16 (length y.now)) where
    room : Room u16 (length (picked t).now)
    room = picked_room t x y room₀ room₁

    twice : Fits w64 (k * 2)
    twice = record { fits = omega (arith, room.1, le) }

    left : Fits w64 (length (picked t).now - k)
    left = record { fits = omega (arith, room.0) }

    walk : Is B.the_row t (EL.vals B.the_type B'.the_laws t) → ent 𝓤 (Entry t) (WpFn 𝓤 H C Λ code.function (slice x ∷ slice y ∷ choice t ∷ vint w64 k ∷ []) (Post t))
    walk gt =
        qed 𝓛 (raw (Entry t) ∷ []) ∵ enter ! C Λ code.function (slice x ∷ slice y ∷ choice t ∷ vint w64 k ∷ []) _ $
        alloc_all ! (λ l. pass_all ! refl ((tt, (tt, (record { fits = room₀.0 }, tt))), ((tt, (tt, (record { fits = room₁.0 }, tt))), (((EL.lawful B.the_type B'.the_laws 𝓛 tt).typed t _ gt).0, ((tt, record { fits = k-fits }), tt)))) $
        chooses ! (get_tag ! (vrt ! refl (fld ! refl (stop !))) (whole_as ! (choice_is t))) (one_of_two t)
        (λ h. of_opd ! (get ! (ap (λ (r : MutBor (List ℕ)). ‵ (fat full_share lent (l 2) 0 (slice r))) (second_is t x y h))))
        (λ h. of_opd ! (get ! (ap (λ (r : MutBor (List ℕ)). ‵ (fat full_share lent (l 1) 0 (slice r))) (first_is t x y h)))) (from ! (stop !)) (set_at ! 6 refl (tt, (tt, (record { fits = room.0 }, tt)))) $
        sets ! (of_opd ! (get ! refl)) refl (tt, (tt, (record { fits = room.0 }, tt))) $
        sets ! (bin ! (get ! refl) (lit ! tt) twice) refl (tt, twice) $
        sets ! (bin ! (get_in ! (fld ! refl (stop !)) (sub ! 0 refl (whole !))) (get ! refl) tt) refl (tt, tt) $
        sets ! (bin ! (get_in ! (fld ! refl (stop !)) (sub ! 1 refl (whole !))) (get ! refl) le) refl (tt, left) $
        sets ! (addr ! (through ! refl (stop !))) refl (tt, tt) $
        sets ! (agg ! (and_then ! (get ! refl) (and_then ! (get ! refl) (no_more !)))) refl (tt, (tt, (left, tt))) $
        returns ! (look_at ! 0 refl) $ free_all ! refl $ by ! (exits t le))

pub pick_spec : {M : Type 1} → statement M
pick_spec 𝓤 𝓛 𝓜 𝓡 wired =
    let spent = Goes-spent_slice 𝓛 1 (0 ∷ []) tt (plain (λ _. u16)) in
    proved 𝓛 picker.ended stayed (picker.clauses 𝓛 𝓜.mem 𝓡.returns) 𝓜 𝓡
    (spent, (spent, (Goes-dropped 𝓛 1 (plain (λ _. B.the_row)) yes (λ κs x w. refl), (Goes-dropped 𝓛 1 (plain (λ _. usize)) yes (λ κs x w. refl), tt))))
    picker.Key.name code.function (code.unfolded 𝓤 𝓛.H 𝓜 𝓡 wired)
    (λ κs. (mut_slice_vals, (mut_slice_vals, (EL.vals B.the_type B'.the_laws, (uint_vals w64, tt)))))
    (λ κs. (mut_slice_Tells (named 0) κs.0 u16, (mut_slice_Tells (named 0) κs.0 u16, (EL.tells B.the_type B'.the_laws, (uint_Tells w64, tt)))))
    (λ κs qs bounds a _ are. needs 𝓤 (a.1.1.1.0 ≤ length (by_block a.1.1.0 a.0 a.1.0).now) _ (λ le.
    walk 𝓛 𝓜.mem 𝓡.returns κs.0 qs.0 a.0 a.1.0 a.1.1.1.0 are.1.1.1.0.1 _ _ a.1.1.0 le are.0.0.1 are.1.0.0.1 are.1.1.0))
