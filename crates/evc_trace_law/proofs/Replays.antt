-- W1's laws of replay: the record count, one trace behind the other, a refusal, and what the target keeps. Assumes nothing.
use mathlib.Core.Bool.{Bool, true, false, cond}
use mathlib.Core.List.{List, [], ◌∷◌, ◌++◌, append_assoc}
use mathlib.Core.Path.{◌≡◌, refl, sym, ap, ap₂, subst, ◌∙◌}
use Prim.Native.Nat.{ℕ, zero, suc, ◌+◌, ◌-◌, ◌*◌, ◌/◌, ◌<◌, ◌≤◌}
use native.Mathlib.Nat.{add-zero, zero-add, add_assoc}
use native.Mathlib.Omega.{arith}
use borrow.Author.Tests.{ne_eqb, eq-eqb, le-ltb, ltb-true, ltb-false}
use lib.Dec.{T, ltb, eqb, eqb→eq}
use lib.IntN.{ℤ}
use lib.ListN.{length, get_or, take, drop, length-append, length-drop, get_or-append, take-append-drop}
use lib.Seq.{length-take-le}
use Rattle.evc_def.specs.Codes.{first_of, block_checks}
use Rattle.evc_trace.specs.Format.{version, count_len, is_trace, header_of}
use Rattle.evc_trace.specs.declared.TraceHeader.{TraceHeader}
use Rattle.evc_record.specs.Record.{Planes, Source, source, record_code, target_after, picture_short}
use Rattle.evc_replay.specs.Replay.{header_code, Replayed, records_at, records_from, applied, replayed}
use Rattle.evc_replay.proofs.Header.{code_11}
use Rattle.evc_replay.proofs.Records.{no_more, ended}
use Rattle.evc_mc.specs.Block.{luma, cb, cr}
use Rattle.evc_mc.proofs.Checks.{sides}
use Rattle.evc_trace_law.specs.Replays.{Whole, counted_from, replay, Counted, OneAfterAnother, Refused, Complete, plane_in, block_at, OutsideBlock, OutsideKept, BorderKept, ExcessKept, LengthsKept, Replays}
use Rattle.evc_trace_law.proofs.Records.{records_append, records_count}
use Rattle.evc_trace_law.proofs.Complete.{header_not_11, whole_not_11, part_11}
use Rattle.evc_trace_law.proofs.Samples.{applied_length, finished, outside_kept, accepted_block, block_inside, excess_outside}

-- ---- the records of a list

-- b over what a left, unless a was refused: its records count on from a's
unfoldable continued : Source → List (List ℕ) → Replayed → Replayed
continued e b r = cond (eqb r.answer.code 0) (applied e b r.answer.index r.target) r

goes_on : (e : Source) (b : List (List ℕ)) (r : Replayed) → r.answer.code ≡ 0 → continued e b r ≡ applied e b r.answer.index r.target
unfolding continued
goes_on e b r z = rw z

one_after_another : (e : Source) (a b : List (List ℕ)) (k : ℕ) (t : Planes) → applied e (a ++ b) k t ≡ continued e b (applied e a k t)
unfolding applied continued
one_after_another e [] b k t = refl
one_after_another e (s ∷ a) b k t = by_code (record_code e s) (applied e (a ++ b) (k + 1) (target_after e s t)) (applied e a (k + 1) (target_after e s t)) (eqb (record_code e s) 0) refl (one_after_another e a b (k + 1) (target_after e s t))
  where
    by_code : (n : ℕ) (x y : Replayed) (c : Bool) → eqb n 0 ≡ c → x ≡ continued e b y → cond c x (record { answer = record { code = n; index = k }; target = t }) ≡ continued e b (cond c y (record { answer = record { code = n; index = k }; target = t }))
    by_code n x y true z h = h
    by_code n x y false z h = rw z

-- the index of records that were not refused is their count
counted : (e : Source) (a : List (List ℕ)) (k : ℕ) (t : Planes) → (applied e a k t).answer.code ≡ 0 → (applied e a k t).answer.index ≡ k + length a
unfolding applied
counted e [] k t z = sym (add-zero k)
counted e (s ∷ a) k t z = by_code (record_code e s) (applied e a (k + 1) (target_after e s t)) (eqb (record_code e s) 0) refl (counted e a (k + 1) (target_after e s t)) z
  where
    by_code : (n : ℕ) (x : Replayed) (c : Bool) → eqb n 0 ≡ c → (x.answer.code ≡ 0 → x.answer.index ≡ k + 1 + length a)
        → (cond c x (record { answer = record { code = n; index = k }; target = t })).answer.code ≡ 0 → (cond c x (record { answer = record { code = n; index = k }; target = t })).answer.index ≡ k + suc (length a)
    by_code n x true y h z = let i = h z in omega arith
    by_code n x false y h z = absurd (subst T (subst (λ (n : ℕ). eqb n 0 ≡ false) z y) tt)

-- records that are counted from k on
counted_from_lem : (e : Source) (a : List (List ℕ)) (k j : ℕ) (t : Planes) → applied e a (k + j) t ≡ counted_from k (applied e a j t)
unfolding applied
counted_from_lem e [] k j t = refl
counted_from_lem e (s ∷ a) k j t = by_code (eqb (record_code e s) 0) (applied e a (k + j + 1) (target_after e s t)) (applied e a (j + 1) (target_after e s t)) (ap (λ (i : ℕ). applied e a i (target_after e s t)) (add_assoc k j 1) ∙ counted_from_lem e a k (j + 1) (target_after e s t))
  where
    by_code : (c : Bool) (x y : Replayed) → x ≡ counted_from k y → cond c x (record { answer = record { code = record_code e s; index = k + j }; target = t }) ≡ counted_from k (cond c y (record { answer = record { code = record_code e s; index = j }; target = t }))
    by_code true x y h = h
    by_code false x y h = refl

-- ---- the header, which a continued trace shares

module _ (a b : List ℕ) (l : 13 ≤ length a) where
  byte : (i : ℕ) → i < 13 → get_or (a ++ b) i 0 ≡ get_or a i 0
  byte i h = get_or-append a b 0 i (omega arith)

  pub same_header : header_of count_len (a ++ b) ≡ header_of count_len a
  unfolding header_of
  same_header = rw (byte 5 (omega arith), byte 6 (omega arith), byte 7 (omega arith), byte 8 (omega arith), byte 9 (omega arith), byte 10 (omega arith), byte 11 (omega arith), byte 12 (omega arith))

  pub same_mark : is_trace version (a ++ b) ≡ is_trace version a
  unfolding is_trace
  same_mark = rw (byte 0 (omega arith), byte 1 (omega arith), byte 2 (omega arith), byte 3 (omega arith), byte 4 (omega arith))

-- the header's number depends on the header, and on the lengths of what is lent
pub same_code : (s s' : List ℕ) (p q : Planes) (has : Bool) (col : List ℤ) (t t' : Planes) → 13 ≤ length s → 13 ≤ length s' → is_trace version s ≡ is_trace version s' → header_of count_len s ≡ header_of count_len s' → ((W H : ℕ) → picture_short W H t ≡ picture_short W H t')
    → header_code s p q has col t ≡ header_code s' p q has col t'
unfolding header_code
same_code s s' p q has col t t' l l' m h short = rw (le-ltb (length s) 13 l, le-ltb (length s') 13 l', m, h, short (header_of count_len s').pic_w (header_of count_len s').pic_h)

module _ (p q : Planes) (has : Bool) (col : List ℤ) (t : Planes) where
  abbrev pub from : List ℕ → Source
  from s = source (header_of count_len s) p q has col

  pub begun : (s : List ℕ) → header_code s p q has col t ≡ 0 → replay p q has col t s ≡ applied (from s) (records_from s 13) 0 t
  unfolding replayed
  begun s e = rw e

  not_begun : (s : List ℕ) → (header_code s p q has col t ≡ 0 → ⊥) → replay p q has col t s ≡ record { answer = record { code = header_code s p q has col t; index = 0 }; target = t }
  unfolding replayed
  not_begun s n = rw (ne_eqb (header_code s p q has col t) 0 n)

  -- a trace that went through has a header that is not refused
  pub header_good : (s : List ℕ) → (replay p q has col t s).answer.code ≡ 0 → header_code s p q has col t ≡ 0
  header_good s z = go (eqb (header_code s p q has col t) 0) refl
    where
      go : (c : Bool) → eqb (header_code s p q has col t) 0 ≡ c → header_code s p q has col t ≡ 0
      go true e = eqb→eq _ 0 (subst T (sym e) tt)
      go false e = sym (ap (λ (r : Replayed). r.answer.code) (not_begun s (λ h. subst T (sym (eq-eqb _ 0 h) ∙ e) tt))) ∙ z

  count : Counted p q has col t
  count s n w z =
      let h = begun s (header_good s z) in
      ap (λ (r : Replayed). r.answer.index) h ∙ counted (from s) (records_from s 13) 0 t (sym (ap (λ (r : Replayed). r.answer.code) h) ∙ z) ∙ zero-add _ ∙ records_count s 13 n (sym w)

  -- the records of a, and then b's
  together : (a b : List ℕ) (n : ℕ) → Whole a n → header_code a p q has col t ≡ 0 → replay p q has col t (a ++ b) ≡ continued (from a) (records_from b 0) (replay p q has col t a)
  together a b n w e =
      let l : 13 ≤ length a = omega arith in
      let e' = same_code (a ++ b) a p q has col t t (omega (arith, length-append a b)) l (same_mark a b l) (same_header a b l) (λ W H. refl) ∙ e in
      begun (a ++ b) e'
      ∙ ap₂ (λ (h : TraceHeader) (rs : List (List ℕ)). applied (source h p q has col) rs 0 t) (same_header a b l) (records_append a b 13 n (sym w))
      ∙ one_after_another (from a) (records_from a 13) (records_from b 0) 0 t
      ∙ ap (continued (from a) (records_from b 0)) (sym (begun a e))

  whole_refused : (a b : List ℕ) (n : ℕ) → Whole a n → ((replay p q has col t a).answer.code ≡ 0 → ⊥) → replay p q has col t (a ++ b) ≡ replay p q has col t a
  unfolding continued
  whole_refused a b n w z = go (eqb (header_code a p q has col t) 0) refl
    where
      go : (c : Bool) → eqb (header_code a p q has col t) 0 ≡ c → replay p q has col t (a ++ b) ≡ replay p q has col t a
      go true e = together a b n w (eqb→eq _ 0 (subst T (sym e) tt)) ∙ rw (ne_eqb (replay p q has col t a).answer.code 0 z)
      go false e =
          let l : 13 ≤ length a = omega arith in
          let s = same_code (a ++ b) a p q has col t t (omega (arith, length-append a b)) l (same_mark a b l) (same_header a b l) (λ W H. refl) in
          let no : header_code a p q has col t ≡ 0 → ⊥ = λ h. subst T (sym (eq-eqb _ 0 h) ∙ e) tt in
          not_begun (a ++ b) (λ h. no (sym s ∙ h)) ∙ ap (λ (c : ℕ). record { answer = record { code = c; index = 0 }; target = t }) s ∙ sym (not_begun a no)

  -- ---- what the target keeps

  -- of every trace: its records were applied, or nothing was
  by_header : (P : Replayed → Type 0) (s : List ℕ) → P (applied (from s) (records_from s 13) 0 t) → ((c : ℕ) → c ≡ header_code s p q has col t → P (record { answer = record { code = c; index = 0 }; target = t })) → P (replay p q has col t s)
  by_header P s f g = go (eqb (header_code s p q has col t) 0) refl
    where
      go : (c : Bool) → eqb (header_code s p q has col t) 0 ≡ c → P (replay p q has col t s)
      go true e = subst P (sym (begun s (eqb→eq _ 0 (subst T (sym e) tt)))) f
      go false e = subst P (sym (not_begun s (λ h. subst T (sym (eq-eqb _ 0 h) ∙ e) tt))) (g _ refl)

  lengths : (s : List ℕ) → LengthsKept p q has col t s
  lengths s c = by_header (λ (r : Replayed). length (plane_in c r.target) ≡ length (plane_in c t)) s (applied_length (from s) (records_from s 13) 0 t c) (λ k _. refl)

  outside : (s : List ℕ) → OutsideKept p q has col t s
  outside s c i =
      by_header (λ (r : Replayed). ((j : ℕ) → j < r.answer.index → OutsideBlock (block_at s j) c i) → get_or (plane_in c r.target) i 0 ≡ get_or (plane_in c t) i 0) s
      (λ o. outside_kept (from s) (records_from s 13) 0 t c i (λ j l. o j (omega arith)))
      (λ k _ o. refl)

  -- a finished record's block is accepted
  good : (s : List ℕ) (j : ℕ) → j < (replay p q has col t s).answer.index → first_of (block_checks (block_at s j)) ≡ 0
  good s j =
      by_header (λ (r : Replayed). j < r.answer.index → first_of (block_checks (block_at s j)) ≡ 0) s
      (λ l. accepted_block (from s) (get_or (records_from s 13) j []) (finished (from s) (records_from s 13) 0 t j (omega arith)))
      (λ k _ l. absurd (omega arith))

  borders : (s : List ℕ) → BorderKept p q has col t s
  borders s c i o = outside s c i (λ j l. block_inside (block_at s j) (good s j l) c i o)

  excess : (s : List ℕ) → ExcessKept p q has col t s
  excess s c i h = outside s c i (λ j l. block_inside (block_at s j) (good s j l) c i (excess_outside _ _ (sides (block_at s j) (good s j l)).picture c i h))

  short_after : (s : List ℕ) (W H : ℕ) → picture_short W H (replay p q has col t s).target ≡ picture_short W H t
  unfolding picture_short
  short_after s W H = rw (lengths s luma, lengths s cb, lengths s cr)

-- the same header, and b's records over what a left
module _ (p q : Planes) (has : Bool) (col : List ℤ) (t : Planes) where
  module _ (a b : List ℕ) (n : ℕ) (w : Whole a n) (z : (replay p q has col t a).answer.code ≡ 0) where
    abbrev header : List ℕ
    header = take 13 a

    header_length : length header ≡ 13
    header_length = length-take-le 13 a (omega arith)

    whole : header ++ drop 13 a ≡ a
    whole = take-append-drop 13 a

    pub joined_header : header_of count_len (header ++ b) ≡ header_of count_len a
    joined_header = let l = header_length in same_header header b (omega arith) ∙ sym (same_header header (drop 13 a) (omega arith)) ∙ ap (header_of count_len) whole

    pub joined_code : header_code (header ++ b) p q has col (replay p q has col t a).target ≡ 0
    joined_code =
        let l = header_length in
        let mark : is_trace version (header ++ b) ≡ is_trace version a = same_mark header b (omega arith) ∙ sym (same_mark header (drop 13 a) (omega arith)) ∙ ap (is_trace version) whole in
        same_code (header ++ b) a p q has col (replay p q has col t a).target t (omega (arith, length-append header b)) (omega arith) mark joined_header (short_after p q has col t a) ∙ header_good p q has col t a z

    pub joined_records : records_from (header ++ b) 13 ≡ records_from b 0
    joined_records = let l = header_length in records_append header b 13 0 (omega arith) ∙ ap (λ (rs : List (List ℕ)). rs ++ records_from b 0) (no_more header 13 (omega arith))

  continues : OneAfterAnother p q has col t
  unfolding continued
  continues a b n w z =
      let h = take 13 a in
      let t' = (replay p q has col t a).target in
      together p q has col t a b n w (header_good p q has col t a z)
      ∙ rw (z, count p q has col t a n w z)
      (sym (ap (λ (i : ℕ). applied (from p q has col t a) (records_from b 0) i t') (add-zero n))
      ∙ counted_from_lem (from p q has col t a) (records_from b 0) n 0 t'
      ∙ ap (counted_from n) (sym (begun p q has col t' (h ++ b) (joined_code a b n w z) ∙ ap₂ (λ (k : TraceHeader) (rs : List (List ℕ)). applied (source k p q has col) rs 0 t') (joined_header a b n w z) (joined_records a b n w z))))

-- ---- 11

module _ (p q : Planes) (has : Bool) (col : List ℤ) (t : Planes) where
  complete : Complete p q has col t
  complete s n w = by_header p q has col t (λ (r : Replayed). r.answer.code ≡ 11 → ⊥) s records header
    where
      records : (applied (from p q has col t s) (records_from s 13) 0 t).answer.code ≡ 11 → ⊥
      records = let e : (length s - 13 + 21) / 22 ≡ n = omega arith in subst (λ (m : ℕ). (applied (from p q has col t s) (records_at s 13 m) 0 t).answer.code ≡ 11 → ⊥) (sym e) (whole_not_11 (from p q has col t s) s 13 n 0 t (omega arith))

      header : (c : ℕ) → c ≡ header_code s p q has col t → c ≡ 11 → ⊥
      header c e z = header_not_11 s p q has col t (omega arith) (sym e ∙ z)

  -- a trace as its whole records and what is left
  module _ (a b : List ℕ) (l : 13 ≤ length a) where
    abbrev pub count_of : ℕ
    count_of = (length a - 13) / 22

    abbrev pub cut : ℕ
    cut = 13 + 22 * count_of

    cut_inside : cut ≤ length a
    cut_inside = omega arith

    pub whole_part : Whole (take cut a) count_of
    whole_part = length-take-le cut a cut_inside

    pub rejoined : take cut a ++ drop cut a ≡ a
    rejoined = take-append-drop cut a

    pub longer : take cut a ++ (drop cut a ++ b) ≡ a ++ b
    longer = sym (append_assoc (take cut a) (drop cut a) b) ∙ ap (λ (s : List ℕ). s ++ b) rejoined

    left_short : length (drop cut a) < 22
    left_short = omega (arith, length-drop cut a)

    -- refused among the whole records
    refused_before : ((replay p q has col t (take cut a)).answer.code ≡ 0 → ⊥) → replay p q has col t (a ++ b) ≡ replay p q has col t a
    refused_before z =
        ap (replay p q has col t) (sym longer)
        ∙ whole_refused p q has col t (take cut a) (drop cut a ++ b) count_of whole_part z
        ∙ sym (whole_refused p q has col t (take cut a) (drop cut a) count_of whole_part z)
        ∙ ap (replay p q has col t) rejoined

    -- or at what is left: with 11, or not at all
    pub at_the_end : (replay p q has col t (take cut a)).answer.code ≡ 0 → ((replay p q has col t a).answer.code ≡ 0 → ⊥) → (replay p q has col t a).answer.code ≡ 11
    at_the_end z n =
        let w = take cut a in
        let d = drop cut a in
        let e = ap (replay p q has col t) (sym rejoined) ∙ together p q has col t w d count_of whole_part (header_good p q has col t w z) in
        go (length d) refl (e ∙ goes_on (from p q has col t w) (records_from d 0) (replay p q has col t w) z)
      where
        go : (m : ℕ) → length (drop cut a) ≡ m
            → replay p q has col t a ≡ applied (from p q has col t (take cut a)) (records_from (drop cut a) 0) (replay p q has col t (take cut a)).answer.index (replay p q has col t (take cut a)).target
            → (replay p q has col t a).answer.code ≡ 11
        go zero m e = absurd (n (ap (λ (r : Replayed). r.answer.code) e ∙ sym (ap (λ (r : Replayed). r.answer.code) (ended _ (drop cut a) 0 _ _ (omega arith)))))
        go (suc k) m e = ap (λ (r : Replayed). r.answer.code) e ∙ part_11 _ (drop cut a) _ _ (omega arith) left_short

  pub short_header : (a : List ℕ) → length a < 13 → (replay p q has col t a).answer.code ≡ 11
  short_header a l =
      let h = code_11 a p q has col t l in
      ap (λ (r : Replayed). r.answer.code) (not_begun p q has col t a (λ k. let m = h ∙ k in omega arith)) ∙ sym h

  refused : Refused p q has col t
  refused a b z n = go (ltb (length a) 13) refl
    where
      go : (c : Bool) → ltb (length a) 13 ≡ c → replay p q has col t (a ++ b) ≡ replay p q has col t a
      go true e = absurd (n (short_header a (ltb-true _ _ e)))
      go false e = by_code (eqb (replay p q has col t (take (cut a b (ltb-false _ _ e)) a)).answer.code 0) refl
        where
          by_code : (c : Bool) → eqb (replay p q has col t (take (cut a b (ltb-false _ _ e)) a)).answer.code 0 ≡ c → replay p q has col t (a ++ b) ≡ replay p q has col t a
          by_code true k = absurd (n (at_the_end a b (ltb-false _ _ e) (eqb→eq _ 0 (subst T (sym k) tt)) z))
          by_code false k = refused_before a b (ltb-false _ _ e) (λ h. subst T (sym (eq-eqb _ 0 h) ∙ k) tt)

pub replays : Replays
replays p q has col t =
    (count p q has col t, continues p q has col t, refused p q has col t, complete p q has col t, λ s. (outside p q has col t s, borders p q has col t s, excess p q has col t s, lengths p q has col t s))
