-- W2's laws of replay: counts add, a refusal ends them, and they are over the records before the index. Assumes nothing.
use mathlib.Core.Bool.{Bool, true, false, cond}
use mathlib.Core.List.{List, [], ◌∷◌, ◌++◌, append-nil}
use mathlib.Core.Path.{◌≡◌, refl, sym, ap, ap₂, subst, ◌∙◌}
use Prim.Native.Nat.{ℕ, suc, ◌+◌, ◌≤◌}
use native.Mathlib.Nat.{add-zero, zero-add}
use native.Mathlib.Omega.{arith}
use borrow.Author.Tests.{ne_eqb, eq-eqb, ltb-true, ltb-false}
use lib.Dec.{T, ltb, eqb, eqb→eq}
use lib.IntN.{ℤ}
use lib.ListN.{length, take, drop, length-append}
use Rattle.evc_counts.specs.Counts.{nothing_counted, ◌plus◌}
use Rattle.evc_counts.specs.declared.MovedCounts.{MovedCounts}
use Rattle.evc_counts.proofs.Counts.{plus_assoc, nothing_plus}
use Rattle.evc_trace.specs.declared.TraceHeader.{TraceHeader}
use Rattle.evc_record.specs.Record.{Planes, Source, source, record_code, target_after}
use Rattle.evc_replay.specs.Counts.{record_counts, finished, counted_over, replayed_counts}
use Rattle.evc_replay.specs.Replay.{header_code, Replayed, records_from, applied}
use Rattle.evc_replay.proofs.Counts.{finished_more, finished_none}
use Rattle.evc_trace_law.specs.Replays.{Whole, replay}
use Rattle.evc_trace_law.specs.Counts.{counts, CountsAdd, CountsRefused, FinishedBefore, Counts}
use Rattle.evc_trace_law.proofs.Records.{records_append}
use Rattle.evc_trace_law.proofs.Replays.{same_mark, same_header, same_code, from, begun, header_good, joined_header, joined_code, joined_records, short_header, cut, count_of, whole_part, rejoined, longer, at_the_end}

-- ---- the records of a list

counted_append : (e : Source) (a b : List (List ℕ)) → counted_over e (a ++ b) ≡ counted_over e a plus counted_over e b
unfolding counted_over
counted_append e [] b = sym (nothing_plus (counted_over e b))
counted_append e (s ∷ a) b = ap (λ (c : MovedCounts). record_counts e s plus c) (counted_append e a b) ∙ sym (plus_assoc (record_counts e s) (counted_over e a) (counted_over e b))

-- a record's number, as the applied records have it
by_number : (P : Replayed → Type 0) (e : Source) (s : List ℕ) (rest : List (List ℕ)) (k : ℕ) (t : Planes) → (record_code e s ≡ 0 → P (applied e rest (k + 1) (target_after e s t))) → ((record_code e s ≡ 0 → ⊥) → P (record { answer = record { code = record_code e s; index = k }; target = t })) → P (applied e (s ∷ rest) k t)
unfolding applied
by_number P e s rest k t f g = go (eqb (record_code e s) 0) refl
  where
    go : (c : Bool) → eqb (record_code e s) 0 ≡ c → P (cond c (applied e rest (k + 1) (target_after e s t)) (record { answer = record { code = record_code e s; index = k }; target = t }))
    go true z = f (eqb→eq _ 0 (subst T (sym z) tt))
    go false z = g (λ h. subst T (sym (eq-eqb _ 0 h) ∙ z) tt)

-- a's records are all finished where they answer 0, and then b's go on
all_finished : (e : Source) (a b : List (List ℕ)) (k : ℕ) (t : Planes) → (applied e a k t).answer.code ≡ 0 → finished e (a ++ b) ≡ a ++ finished e b
all_finished e [] b k t = λ z. refl
all_finished e (s ∷ a) b k t =
    by_number (λ (r : Replayed). r.answer.code ≡ 0 → finished e (s ∷ a ++ b) ≡ s ∷ a ++ finished e b) e s a k t
    (λ z h. finished_more e s (a ++ b) z ∙ ap (λ (l : List (List ℕ)). s ∷ l) (all_finished e a b (k + 1) (target_after e s t) h))
    (λ n h. absurd (n h))

-- and where one of them is refused, b's are not looked at
some_refused : (e : Source) (a b : List (List ℕ)) (k : ℕ) (t : Planes) → ((applied e a k t).answer.code ≡ 0 → ⊥) → finished e (a ++ b) ≡ finished e a
unfolding applied
some_refused e [] b k t = λ n. absurd (n refl)
some_refused e (s ∷ a) b k t =
    by_number (λ (r : Replayed). (r.answer.code ≡ 0 → ⊥) → finished e (s ∷ a ++ b) ≡ finished e (s ∷ a)) e s a k t
    (λ z n. finished_more e s (a ++ b) z ∙ ap (λ (l : List (List ℕ)). s ∷ l) (some_refused e a b (k + 1) (target_after e s t) n) ∙ sym (finished_more e s a z))
    (λ n h. finished_none e s (a ++ b) _ refl n ∙ sym (finished_none e s a _ refl n))

-- they are as many as the index says, and the first ones
as_many : (e : Source) (a : List (List ℕ)) (k : ℕ) (t : Planes) → (applied e a k t).answer.index ≡ k + length (finished e a)
unfolding applied finished
as_many e [] k t = sym (add-zero k)
as_many e (s ∷ a) k t =
    by_number (λ (r : Replayed). r.answer.index ≡ k + length (finished e (s ∷ a))) e s a k t
    (λ z. as_many e a (k + 1) (target_after e s t) ∙ longer_by_one (length (finished e a)) ∙ ap (λ (l : List (List ℕ)). k + length l) (sym (finished_more e s a z)))
    (λ n. sym (add-zero k) ∙ ap (λ (l : List (List ℕ)). k + length l) (sym (finished_none e s a _ refl n)))
  where
    longer_by_one : (m : ℕ) → k + 1 + m ≡ k + suc m
    longer_by_one m = omega arith

the_first : (e : Source) (a : List (List ℕ)) → finished e a ≡ take (length (finished e a)) a
unfolding finished
the_first e [] = refl
the_first e (s ∷ a) = go (eqb (record_code e s) 0) (the_first e a)
  where
    go : (c : Bool) → finished e a ≡ take (length (finished e a)) a → cond c (s ∷ finished e a) [] ≡ take (length (cond c (s ∷ finished e a) [])) (s ∷ a)
    go true h = ap (λ (l : List (List ℕ)). s ∷ l) h
    go false h = refl

-- ---- a trace

module _ (p q : Planes) (has : Bool) (col : List ℤ) (t : Planes) where
  counted : (s : List ℕ) → header_code s p q has col t ≡ 0 → counts p q has col t s ≡ counted_over (from p q has col t s) (finished (from p q has col t s) (records_from s 13))
  unfolding replayed_counts
  counted s e = rw e

  not_counted : (s : List ℕ) → (header_code s p q has col t ≡ 0 → ⊥) → counts p q has col t s ≡ nothing_counted
  unfolding replayed_counts
  not_counted s n = rw (ne_eqb (header_code s p q has col t) 0 n)

  finished_before : FinishedBefore p q has col t
  finished_before s e =
      let f = from p q has col t s in
      let n : (replay p q has col t s).answer.index ≡ length (finished f (records_from s 13)) = ap (λ (r : Replayed). r.answer.index) (begun p q has col t s e) ∙ as_many f (records_from s 13) 0 t ∙ zero-add _ in
      the_first f (records_from s 13) ∙ ap (λ (i : ℕ). take i (records_from s 13)) (sym n)

  -- the records of a, and then b's
  module _ (a b : List ℕ) (n : ℕ) (w : Whole a n) where
    longer_code : header_code (a ++ b) p q has col t ≡ header_code a p q has col t
    longer_code = let l : 13 ≤ length a = omega arith in same_code (a ++ b) a p q has col t t (omega (arith, length-append a b)) l (same_mark a b l) (same_header a b l) (λ W H. refl)

    together : header_code a p q has col t ≡ 0 → counts p q has col t (a ++ b) ≡ counted_over (from p q has col t a) (finished (from p q has col t a) (records_from a 13 ++ records_from b 0))
    together e =
        counted (a ++ b) (longer_code ∙ e)
        ∙ ap₂ (λ (h : TraceHeader) (rs : List (List ℕ)). counted_over (source h p q has col) (finished (source h p q has col) rs)) (same_header a b (omega arith)) (records_append a b 13 n (sym w))

    whole_refused : ((replay p q has col t a).answer.code ≡ 0 → ⊥) → counts p q has col t (a ++ b) ≡ counts p q has col t a
    whole_refused z = go (eqb (header_code a p q has col t) 0) refl
      where
        go : (c : Bool) → eqb (header_code a p q has col t) 0 ≡ c → counts p q has col t (a ++ b) ≡ counts p q has col t a
        go true c =
            let e : header_code a p q has col t ≡ 0 = eqb→eq _ 0 (subst T (sym c) tt) in
            let f = from p q has col t a in
            together e
            ∙ ap (counted_over f) (some_refused f (records_from a 13) (records_from b 0) 0 t (λ h. z (ap (λ (r : Replayed). r.answer.code) (begun p q has col t a e) ∙ h)))
            ∙ sym (counted a e)
        go false c =
            let no : header_code a p q has col t ≡ 0 → ⊥ = λ h. subst T (sym (eq-eqb _ 0 h) ∙ c) tt in
            not_counted (a ++ b) (λ h. no (sym longer_code ∙ h)) ∙ sym (not_counted a no)

  counts_refused : CountsRefused p q has col t
  counts_refused a b z n = go (ltb (length a) 13) refl
    where
      go : (c : Bool) → ltb (length a) 13 ≡ c → counts p q has col t (a ++ b) ≡ counts p q has col t a
      go true e = absurd (n (short_header p q has col t a (ltb-true _ _ e)))
      go false e = by_code (eqb (replay p q has col t (take (cut p q has col t a b l) a)).answer.code 0) refl
        where
          l : 13 ≤ length a
          l = ltb-false _ _ e

          by_code : (c : Bool) → eqb (replay p q has col t (take (cut p q has col t a b l) a)).answer.code 0 ≡ c → counts p q has col t (a ++ b) ≡ counts p q has col t a
          by_code true k = absurd (n (at_the_end p q has col t a b l (eqb→eq _ 0 (subst T (sym k) tt)) z))
          by_code false k =
              let m = count_of p q has col t a b l in
              let w = take (cut p q has col t a b l) a in
              let d = drop (cut p q has col t a b l) a in
              let no : (replay p q has col t w).answer.code ≡ 0 → ⊥ = λ h. subst T (sym (eq-eqb _ 0 h) ∙ k) tt in
              ap (counts p q has col t) (sym (longer p q has col t a b l))
              ∙ whole_refused w (d ++ b) m (whole_part p q has col t a b l) no
              ∙ sym (whole_refused w d m (whole_part p q has col t a b l) no)
              ∙ ap (counts p q has col t) (rejoined p q has col t a b l)

  -- b's counts, behind a's header
  rest : (a b : List ℕ) (n : ℕ) (w : Whole a n) (z : (replay p q has col t a).answer.code ≡ 0) → replayed_counts (take 13 a ++ b) p q has col (replay p q has col t a).target ≡ counted_over (from p q has col t a) (finished (from p q has col t a) (records_from b 0))
  unfolding replayed_counts
  rest a b n w z = rw (joined_code p q has col t a b n w z, joined_header p q has col t a b n w z, joined_records p q has col t a b n w z)

  counts_add : CountsAdd p q has col t
  unfolding finished
  counts_add a b n w z =
      let f = from p q has col t a in
      let e = header_good p q has col t a z in
      let ra = records_from a 13 in
      let rb = records_from b 0 in
      let done : (applied f ra 0 t).answer.code ≡ 0 = sym (ap (λ (r : Replayed). r.answer.code) (begun p q has col t a e)) ∙ z in
      let alone : finished f ra ≡ ra = ap (finished f) (sym (append-nil ra)) ∙ all_finished f ra [] 0 t done ∙ append-nil ra in
      together a b n w e
      ∙ ap (counted_over f) (all_finished f ra rb 0 t done)
      ∙ counted_append f ra (finished f rb)
      ∙ ap₂ (λ (c d : MovedCounts). c plus d) (sym (counted a e ∙ ap (counted_over f) alone)) (sym (rest a b n w z))

pub moved_counts : Counts
moved_counts p q has col t = (counts_add p q has col t, counts_refused p q has col t, finished_before p q has col t)
