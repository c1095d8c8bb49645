-- The records of a trace one after another: a turn of the loop, a refusal, and the end. Assumes nothing.
use mathlib.Core.Bool.{Bool, true, false, cond}
use mathlib.Core.List.{List, [], ◌∷◌, ◌++◌}
use mathlib.Core.Path.{◌≡◌, refl, sym, ap, ap₂, subst, ◌∙◌}
use Prim.Native.Nat.{ℕ, zero, suc, ◌+◌, ◌-◌, ◌/◌, ◌<◌, ◌≤◌, min}
use native.Mathlib.Nat.{add-zero, add_assoc}
use native.Mathlib.Omega.{arith}
use borrow.Author.Tests.{ne_eqb}
use lib.Dec.{eqb}
use lib.ListN.{length, take, drop, length-drop}
use lib.Seq.{take_at, drop_at, drop-drop}
use Rattle.std.proofs.lemmas.List.{take_min, drop_min}
use Rattle.evc_mc.specs.Block.{luma, cb, cr}
use Rattle.evc_record.specs.Record.{Planes, Source, ◌or_else◌, form_code, record_code, step_of, plane_after, target_after, picture_short, SamePlanes}
use Rattle.evc_record.specs.declared.PlanesMut.{PlanesMut}
use Rattle.evc_record.specs.Inner.{after_record}
use Rattle.evc_replay.specs.Replay.{Answer, Replayed, records_at, records_from, applied}
use Rattle.evc_record.proofs.Places.{picture_length}
use Rattle.evc_record.proofs.Steps.{whole_record}

pub with_target : (a b : Answer) (t : Planes) → a ≡ b → ◌≡◌ {A = Replayed} (record { answer = a; target = t }) (record { answer = b; target = t })
with_target a b t e = ap (λ (a : Answer). record { answer = a; target = t }) e

pub next_record : (s : List ℕ) (at : ℕ) → at < length s → records_from s at ≡ take 22 (drop at s) ∷ records_from s (at + 22)
unfolding records_at
next_record s at h = let n : (length s - at + 21) / 22 ≡ suc ((length s - (at + 22) + 21) / 22) = omega arith in ap (records_at s at) n

pub no_more : (s : List ℕ) (at : ℕ) → length s ≤ at → records_from s at ≡ []
unfolding records_at
no_more s at h = let n : (length s - at + 21) / 22 ≡ 0 = omega arith in ap (records_at s at) n

-- ---- the library's chunks: each is what stands in front of the rest

pub records_drop : (s : List ℕ) (k j n : ℕ) → records_at s (k + j) n ≡ records_at (drop k s) j n
unfolding records_at
records_drop s k j zero = refl
records_drop s k j (suc n) = rw (drop-drop j k s, add_assoc k j 22, records_drop s k (j + 22) n)

pub left : (s : List ℕ) (at : ℕ) → records_from s at ≡ records_from (drop at s) 0
left s at =
    let n : (length (drop at s) - 0 + 21) / 22 ≡ (length s - at + 21) / 22 = omega (arith, length-drop at s) in
    ap (λ (i : ℕ). records_at s i ((length s - at + 21) / 22)) (sym (add-zero at)) ∙ records_drop s at 0 _ ∙ sym (ap (records_at (drop at s) 0) n)

pub next_chunk : (s bytes rest : List ℕ) → s ≡ bytes ++ rest → length bytes ≡ min 22 (length s) → 0 < length s → records_from s 0 ≡ bytes ∷ records_from rest 0
next_chunk s bytes rest e l more =
    let first : take 22 s ≡ bytes = sym (take_min 22 s) ∙ ap (take (min 22 (length s))) e ∙ take_at bytes rest _ l in
    let others : drop 22 s ≡ rest = sym (drop_min 22 s) ∙ ap (drop (min 22 (length s))) e ∙ drop_at bytes rest _ l in
    next_record s 0 more ∙ ap₂ (λ (r : List ℕ) (l : List (List ℕ)). r ∷ l) first (left s 22 ∙ ap (λ (r : List ℕ). records_from r 0) others)

-- ---- a record that is not refused

pub both_zero : (a b : ℕ) → a or_else b ≡ 0 → (a ≡ 0) × (b ≡ 0)
both_zero zero b e = (refl, e)
both_zero (suc a) b e = absurd (let z : suc a ≡ 0 = subst (λ (t : Bool). cond t b (suc a) ≡ 0) (ne_eqb (suc a) 0 (λ z. omega arith)) e in omega arith)

form_zero : (e : Source) (s : List ℕ) → record_code e s ≡ 0 → form_code s ≡ 0
unfolding record_code
form_zero e s z = (both_zero (form_code s) _ z).0

-- ---- one record more

module _ (e : Source) (s : List ℕ) (rest : List (List ℕ)) (k : ℕ) (t : Planes) where
  -- a record that is not refused is complete
  pub complete : record_code e s ≡ 0 → 22 ≤ length s
  complete z = whole_record e s (form_zero e s z)

  module _ (t' : Planes) (et : t' ≡ after_record e s t) where
    pub went_on : record_code e s ≡ 0 → applied e rest (k + 1) t' ≡ applied e (s ∷ rest) k t
    unfolding applied after_record
    went_on z =
        let et' : t' ≡ target_after e s t = rw z at et in
        rw (z, et')

    pub stopped : (c : ℕ) → c ≡ record_code e s → (c ≡ 0 → ⊥) → record { answer = record { code = c; index = k }; target = t' } ≡ applied e (s ∷ rest) k t
    unfolding applied after_record
    stopped c ec n =
        let et' : t' ≡ t = rw (sym ec, ne_eqb c 0 n) at et in
        rw (sym ec, ne_eqb c 0 n, et')

-- its target is as long as before
pub still_long : (e : Source) (s : List ℕ) (t : Planes) (W H : ℕ) → picture_short W H (after_record e s t) ≡ picture_short W H t
unfolding after_record target_after plane_after picture_short
still_long e s t W H = by_code (eqb (step_of e s).code 0)
  where
    by_code : (c : Bool) → picture_short W H (cond c (target_after e s t) t) ≡ picture_short W H t
    by_code true = rw (picture_length (step_of e s).block luma ((step_of e s).sample luma) t.y, picture_length (step_of e s).block cb ((step_of e s).sample cb) t.u, picture_length (step_of e s).block cr ((step_of e s).sample cr) t.v)
    by_code false = refl

pub ended : (e : Source) (s : List ℕ) (at k : ℕ) (t : Planes) → length s ≤ at → record { answer = record { code = 0; index = k }; target = t } ≡ applied e (records_from s at) k t
unfolding applied
ended e s at k t h = rw (no_more s at h)

-- ---- the planes that are lent

pub all_same : (p : PlanesMut) → SamePlanes p p
all_same p = record { y = refl; u = refl; v = refl }

pub still_same : (p q r : PlanesMut) → SamePlanes p q → SamePlanes q r → SamePlanes p r
still_same p q r e f = record { y = e.y ∙ f.y; u = e.u ∙ f.u; v = e.v ∙ f.v }
