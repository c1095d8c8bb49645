-- 11: whole records are never refused with it, and what is left of one always is. Assumes nothing.
use mathlib.Core.Bool.{Bool, true, false, cond}
use mathlib.Core.List.{List}
use mathlib.Core.Path.{◌≡◌, refl, sym, subst, ◌∙◌}
use Prim.Native.Nat.{ℕ, zero, suc, ◌+◌, ◌*◌, ◌<◌, ◌≤◌}
use native.Mathlib.Omega.{arith}
use borrow.Author.Tests.{lt-ltb, le-ltb}
use lib.Dec.{T, eqb}
use lib.IntN.{ℤ}
use lib.ListN.{length, take, drop, length-take, length-drop}
use Rattle.evc_def.specs.Codes.{Check, first_of}
use Rattle.evc_def.specs.declared.EvcBlock.{EvcBlock}
use Rattle.evc_def.specs.declared.EvcMv.{EvcMv}
use Rattle.evc_def.proofs.Codes.{refuses, returned, refused, passed}
use Rattle.evc_direct.specs.Direct.{direct_checks, collocated, direct_vectors, get_mv_dir}
use Rattle.evc_direct.specs.declared.EvcDirect.{EvcDirect}
use Rattle.evc_direct.specs.declared.Pocs.{Pocs}
use Rattle.evc_mc.specs.Block.{mc2_code}
use Rattle.evc_trace.specs.Format.{count_len, record_of}
use Rattle.evc_trace.specs.declared.TraceHeader.{TraceHeader}
use Rattle.evc_trace.specs.declared.EvcTraceRecord.{EvcTraceRecord}
use Rattle.evc_record.specs.Record.{Planes, Source, motion_of, ◌or_else◌, form_code, block_code, record_code, target_after}
use Rattle.evc_replay.specs.Replay.{Replayed, header_code, records_at, records_from, applied}
use Rattle.evc_replay.proofs.Records.{next_record}

-- ---- no check but the first of a record or header has the number 11

not_11 : (checks : List Check) → refuses 11 checks ≡ false → first_of checks ≡ 11 → ⊥
not_11 checks f e =
    subst T (subst (λ (k : ℕ). refuses k checks ≡ false) (sym e) f) (returned checks (subst (λ (k : ℕ). 0 < k) (sym e) (omega arith)))

neither_11 : (a b : ℕ) → (a ≡ 11 → ⊥) → (b ≡ 11 → ⊥) → a or_else b ≡ 11 → ⊥
neither_11 a b f g = go (eqb a 0)
  where
    go : (c : Bool) → cond c b a ≡ 11 → ⊥
    go true e = g e
    go false e = f e

form_not_11 : (s : List ℕ) → 22 ≤ length s → form_code s ≡ 11 → ⊥
unfolding form_code
form_not_11 s l z = not_11 _ refl (sym (passed 11 _ _ (le-ltb _ _ l)) ∙ z)

vectors_not_11 : (p : Pocs) (mv : EvcMv) → (direct_vectors p mv).code ≡ 11 → ⊥
unfolding direct_vectors
vectors_not_11 p mv e = absurd (let z : 0 ≡ 11 = e in omega arith)

direct_not_11 : (b : EvcBlock) (p : Pocs) (has : Bool) (col : List ℤ) → (get_mv_dir b p has col).code ≡ 11 → ⊥
unfolding get_mv_dir
direct_not_11 b p has col =
    go (eqb (first_of (direct_checks b p has (length col))) 0) _ _ (vectors_not_11 p (collocated b has col)) (not_11 (direct_checks b p has (length col)) refl)
  where
    go : (c : Bool) (x y : EvcDirect) → (x.code ≡ 11 → ⊥) → (y.code ≡ 11 → ⊥) → (cond c x y).code ≡ 11 → ⊥
    go true x y f g = f
    go false x y f g = g

motion_not_11 : (h : TraceHeader) (has : Bool) (col : List ℤ) (r : EvcTraceRecord) → (motion_of h has col r).code ≡ 11 → ⊥
unfolding motion_of
motion_not_11 h has col r = go (eqb r.kind 3) _ _ (direct_not_11 _ _ has col) refl
  where
    go : (c : Bool) (x y : EvcDirect) → (x.code ≡ 11 → ⊥) → y.code ≡ 0 → (cond c x y).code ≡ 11 → ⊥
    go true x y f g e = f e
    go false x y f g e = absurd (omega arith)

block_not_11 : (e : Source) (r : EvcTraceRecord) → block_code e r ≡ 11 → ⊥
unfolding block_code mc2_code
block_not_11 e r z = not_11 _ refl z

record_not_11 : (e : Source) (s : List ℕ) → 22 ≤ length s → record_code e s ≡ 11 → ⊥
unfolding record_code
record_not_11 e s l =
    neither_11 (form_code s) _ (form_not_11 s l) (neither_11 _ _ (motion_not_11 e.header e.has_col e.col (record_of count_len s)) (block_not_11 e (record_of count_len s)))

pub header_not_11 : (s : List ℕ) (p q : Planes) (has : Bool) (col : List ℤ) (t : Planes) → 13 ≤ length s → header_code s p q has col t ≡ 11 → ⊥
unfolding header_code
header_not_11 s p q has col t l z = not_11 _ refl (sym (passed 11 _ _ (le-ltb _ _ l)) ∙ z)

-- ---- the records of a trace

-- n whole ones
pub whole_not_11 : (e : Source) (s : List ℕ) (at n k : ℕ) (t : Planes) → at + 22 * n ≤ length s → (applied e (records_at s at n) k t).answer.code ≡ 11 → ⊥
unfolding records_at applied
whole_not_11 e s at zero k t l = λ z. absurd (omega arith)
whole_not_11 e s at (suc n) k t l =
    let r = take 22 (drop at s) in
    go (eqb (record_code e r) 0) (applied e (records_at s (at + 22) n) (k + 1) (target_after e r t)) (whole_not_11 e s (at + 22) n (k + 1) (target_after e r t) (omega arith)) (record_not_11 e r (omega (arith, length-take 22 (drop at s), length-drop at s)))
  where
    go : (c : Bool) (x : Replayed) → (x.answer.code ≡ 11 → ⊥) → (record_code e (take 22 (drop at s)) ≡ 11 → ⊥) → (cond c x (record { answer = record { code = record_code e (take 22 (drop at s)); index = k }; target = t })).answer.code ≡ 11 → ⊥
    go true x f g = f
    go false x f g = g

-- a part of one
form_11 : (s : List ℕ) → length s < 22 → form_code s ≡ 11
unfolding form_code
form_11 s l = refused 11 _ _ (lt-ltb _ _ l)

record_11 : (e : Source) (s : List ℕ) → length s < 22 → record_code e s ≡ 11
unfolding record_code
record_11 e s l = rw (form_11 s l)

pub part_11 : (e : Source) (s : List ℕ) (k : ℕ) (t : Planes) → 0 < length s → length s < 22 → (applied e (records_from s 0) k t).answer.code ≡ 11
unfolding applied
part_11 e s k t h l =
    let r : record_code e (take 22 (drop 0 s)) ≡ 11 = record_11 e (take 22 (drop 0 s)) (omega (arith, length-take 22 s)) in
    rw (next_record s 0 h, r)
