-- W1's round trip: header and record, at every width of the counts, and through the calls. Assumes nothing.
use Prim.Native.Nat.{ℕ, ◌+◌, ◌*◌, ◌/◌, ◌%◌, ◌<◌, ◌≤◌}
use mathlib.Core.Bool.{true, false, not, ◌&&◌}
use mathlib.Core.List.{List, [], ◌∷◌, ◌++◌, append_assoc}
use mathlib.Core.Path.{◌≡◌, refl, sym, ap, subst, ◌∙◌}
use native.Mathlib.Omega.{arith}
use lib.Dec.{T, eqb, eqb→eq}
use lib.ListN.{length, length-append, get_or, take, drop}
use lib.Seq.{get_or_at}
use borrow.Author.Tests.{eq-eqb, le-ltb}
use Rattle.std.proofs.lemmas.Bool.{and_from, and_parts, not-false, not_from_true}
use Rattle.evc_def.specs.Blocks.{bad_picture}
use Rattle.evc_def.proofs.Codes.{accepted, passed, none}
use Rattle.evc_bytes.specs.Bytes.{bytes_of, number_at}
use Rattle.evc_trace.specs.Format.{version, count_len, mark, header_bytes, is_trace, header_of, mv_bytes, mv_of, record_bytes, record_of, last_byte, is_well_formed, overwritten, overwritten_by, write_record_code}
use Rattle.evc_trace.specs.declared.TraceHeader.{TraceHeader}
use Rattle.evc_trace.specs.declared.EvcTraceRecord.{EvcTraceRecord}
use Rattle.evc_record.specs.Record.{form_code}
use Rattle.evc_trace_law.specs.RoundTrip.{HeaderRead, RecordRead, HeaderRewritten, RecordRewritten, HeaderAccepted, RecordAccepted, RecordReturned, RoundTrip}
use Rattle.evc_trace_law.proofs.Bytes.{length_bytes, pair_read, two, component, part, all_of, join, byte_back, number_back, component_back}

-- ---- the header

-- the bytes before the counts
abbrev header_front : ℕ → TraceHeader → List ℕ
header_front v h = mark v ++ (bytes_of 2 h.pic_w ++ bytes_of 2 h.pic_h)

header_read : HeaderRead
unfolding is_trace header_of
header_read v n h rest hv f =
    let e : header_bytes v n h ++ rest ≡ header_front v h ++ (bytes_of n h.poc ++ (bytes_of n h.list_poc0 ++ rest)) = ap (λ (l : List ℕ). header_front v h ++ l) (append_assoc (bytes_of n h.poc) (bytes_of n h.list_poc0) rest) in
    let c = pair_read n h.poc h.list_poc0 (header_front v h) rest f.poc_fits f.list_fits in
    (marked v hv, rw e (simp (two _ f.w_fits, two _ f.h_fits, c.0, c.1)))
  where
    marked : (v : ℕ) → v < 65536 → eqb (v % 256 + 256 * (v / 256 % 256 + 256 * 0)) v ≡ true
    marked v h = eq-eqb _ v (two v h)

header_rewritten : HeaderRewritten
unfolding is_trace header_of
header_rewritten v n s b l m =
    let m₃ = and_parts (eqb (get_or s 0 0) 73 && eqb (get_or s 1 0) 80 && eqb (get_or s 2 0) 84) (eqb (number_at 2 s 3) v) m in
    let m₂ = and_parts (eqb (get_or s 0 0) 73 && eqb (get_or s 1 0) 80) (eqb (get_or s 2 0) 84) m₃.0 in
    let m₁ = and_parts (eqb (get_or s 0 0) 73) (eqb (get_or s 1 0) 80) m₂.0 in
    let e₅ = join s _ _ 9 n n (number_back s b n 9 (omega arith)) (number_back s b n (9 + n) (omega arith)) in
    let e₄ = join s _ _ 7 2 (n + n) (number_back s b 2 7 (omega arith)) e₅ in
    let e₃ = join s _ _ 5 2 (2 + (n + n)) (number_back s b 2 5 (omega arith)) e₄ in
    let e₂ = join s _ _ 3 2 (2 + (2 + (n + n))) (ap (bytes_of 2) (sym (same _ _ m₃.1)) ∙ number_back s b 2 3 (omega arith)) e₃ in
    let e₁ = join s _ _ 2 1 _ (byte_back s 2 84 (omega arith) (same _ _ m₂.1)) e₂ in
    let e₀ = join s _ _ 1 1 _ (byte_back s 1 80 (omega arith) (same _ _ m₁.1)) e₁ in
    join s _ _ 0 1 _ (byte_back s 0 73 (omega arith) (same _ _ m₁.0)) e₀
    ∙ all_of s (1 + (1 + (1 + (2 + (2 + (2 + (n + n))))))) (omega arith)
  where
    same : (x y : ℕ) → eqb x y ≡ true → x ≡ y
    same x y e = eqb→eq x y (subst T (sym e) tt)

-- ---- a record

abbrev record_front : EvcTraceRecord → List ℕ
record_front r =
    bytes_of 2 r.x ++ (bytes_of 2 r.y ++ (bytes_of 2 r.w ++ (bytes_of 2 r.h ++ (r.kind ∷ (mv_bytes r.mv0 ++ mv_bytes r.mv1)))))

module _ (n : ℕ) (r : EvcTraceRecord) (rest : List ℕ) where
  abbrev counts : List ℕ
  counts = bytes_of n r.poc0 ++ (bytes_of n r.poc1 ++ (0 ∷ rest))

  front_first : record_bytes n r ++ rest ≡ record_front r ++ counts
  front_first =
      ap (λ (l : List ℕ). record_front r ++ l)
      (append_assoc (bytes_of n r.poc0) (bytes_of n r.poc1 ++ (0 ∷ [])) rest ∙ ap (λ (l : List ℕ). bytes_of n r.poc0 ++ l) (append_assoc (bytes_of n r.poc1) (0 ∷ []) rest))

  last_zero : get_or (record_front r ++ counts) (17 + 2 * n) 0 ≡ 0
  last_zero =
      let before = record_front r ++ bytes_of n r.poc0 ++ bytes_of n r.poc1 in
      let e : before ++ (0 ∷ rest) ≡ record_front r ++ counts = append_assoc (record_front r ++ bytes_of n r.poc0) (bytes_of n r.poc1) (0 ∷ rest) ∙ append_assoc (record_front r) (bytes_of n r.poc0) (bytes_of n r.poc1 ++ (0 ∷ rest)) in
      let l : length before ≡ 17 + 2 * n = long in
      subst (λ (s : List ℕ). get_or s (17 + 2 * n) 0 ≡ 0) e (get_or_at before 0 rest 0 (17 + 2 * n) l)
    where
      long : length (record_front r ++ bytes_of n r.poc0 ++ bytes_of n r.poc1) ≡ 17 + 2 * n
      long = omega (arith, length-append (record_front r ++ bytes_of n r.poc0) (bytes_of n r.poc1), length-append (record_front r) (bytes_of n r.poc0), length_bytes n r.poc0, length_bytes n r.poc1)

record_read : RecordRead
unfolding record_of
record_read n r rest f =
    let c = pair_read n r.poc0 r.poc1 (record_front r) (0 ∷ rest) f.poc0_fits f.poc1_fits in (
      rw (front_first n r rest) (simp (two _ f.x_fits, two _ f.y_fits, two _ f.w_fits, two _ f.h_fits, component _ f.mv0_x, component _ f.mv0_y, component _ f.mv1_x, component _ f.mv1_y, c.0, c.1)),
      rw (front_first n r rest) (last_zero n r rest),
    )

record_rewritten : RecordRewritten
unfolding record_of
record_rewritten n s b l z =
    let e₉ = byte_back s (17 + n + n) 0 (omega arith) (subst (λ (i : ℕ). get_or s i 0 ≡ 0) (twice n) z) in
    let e₈ = join s _ _ (17 + n) n 1 (number_back s b n (17 + n) (omega arith)) e₉ in
    let e₇ = join s _ _ 17 n (n + 1) (number_back s b n 17 (omega arith)) e₈ in
    let e₆ = join s _ _ 13 4 _ (mv_back 13 (omega arith)) e₇ in
    let e₅ = join s _ _ 9 4 _ (mv_back 9 (omega arith)) e₆ in
    let e₄ = join s _ _ 8 1 _ (byte_back s 8 _ (omega arith) refl) e₅ in
    let e₃ = join s _ _ 6 2 _ (number_back s b 2 6 (omega arith)) e₄ in
    let e₂ = join s _ _ 4 2 _ (number_back s b 2 4 (omega arith)) e₃ in
    let e₁ = join s _ _ 2 2 _ (number_back s b 2 2 (omega arith)) e₂ in
    join s _ _ 0 2 _ (number_back s b 2 0 (omega arith)) e₁
    ∙ all_of s (2 + (2 + (2 + (2 + (1 + (4 + (4 + (n + (n + 1))))))))) (omega arith)
  where
    twice : (n : ℕ) → 17 + 2 * n ≡ 17 + n + n
    twice n = omega arith

    mv_back : (at : ℕ) → at + 4 ≤ length s → mv_bytes (mv_of s at) ≡ part s at 4
    mv_back at h = join s _ _ at 2 2 (component_back s b at (omega arith)) (component_back s b (at + 2) (omega arith))

-- ---- the calls

written_over : (number : ℕ) (bytes d : List ℕ) → number ≡ 0 → overwritten_by number bytes d ≡ overwritten bytes d
unfolding overwritten_by
written_over number bytes d e = rw e

begins : (number : ℕ) (bytes d : List ℕ) → number ≡ 0 → overwritten_by number bytes d ≡ bytes ++ drop (length bytes) d
unfolding overwritten
begins number bytes d e = written_over number bytes d e

header_accepted : HeaderAccepted
header_accepted h out f e =
    let w = begins _ (header_bytes version count_len h) out e in
    let r = header_read version count_len h (drop (length (header_bytes version count_len h)) out) (omega arith) f in
    (ap (is_trace version) w ∙ r.0, ap (header_of count_len) w ∙ r.1)

-- the form of a record, as the writer and as reading tests it
module _ (r : EvcTraceRecord) where
  writer_tested : (W H : ℕ) (out : List ℕ) → write_record_code W H r out ≡ 0 → is_well_formed r ≡ true
  unfolding write_record_code
  writer_tested W H out e =
      let f = accepted 1 _ _ (omega arith) e in
      let g = accepted 4 _ _ (omega arith) f.1 in
      not-false (is_well_formed r) (accepted 12 _ _ (omega arith) g.1).0

  writer_passes : (W H : ℕ) (out : List ℕ) → bad_picture W H ≡ false → 22 ≤ length out → is_well_formed r ≡ true → write_record_code W H r out ≡ 0
  unfolding write_record_code
  writer_passes W H out g l w = passed 1 _ _ g ∙ passed 4 _ _ (le-ltb _ _ l) ∙ passed 12 _ _ (ap not w) ∙ none

form_tested : (s : List ℕ) → form_code s ≡ 0 → (is_well_formed (record_of count_len s) ≡ true) × (last_byte count_len s ≡ 0)
unfolding form_code
form_tested s e =
    let f = accepted 11 _ _ (omega arith) e in
    let g = and_parts (is_well_formed (record_of count_len s)) (eqb (last_byte count_len s) 0) (not-false _ (accepted 12 _ _ (omega arith) f.1).0) in
    (g.0, eqb→eq _ 0 (subst T (sym g.1) tt))

form_passes : (s : List ℕ) → 22 ≤ length s → is_well_formed (record_of count_len s) ≡ true → last_byte count_len s ≡ 0 → form_code s ≡ 0
unfolding form_code
form_passes s l w z = passed 11 _ _ (le-ltb _ _ l) ∙ passed 12 _ _ (not_from_true _ (and_from _ _ w (eq-eqb _ 0 z))) ∙ none

record_accepted : RecordAccepted
record_accepted W H r out f e =
    let s : take 22 (overwritten_by (write_record_code W H r out) (record_bytes count_len r) out) ≡ record_bytes count_len r ++ [] = ap (take 22) (begins _ (record_bytes count_len r) out e) in
    let read = record_read count_len r [] f in
    let same = ap (record_of count_len) s ∙ read.0 in
    (same, form_passes _ (subst (λ (l : List ℕ). 22 ≤ length l) (sym s) (omega arith)) (ap is_well_formed same ∙ writer_tested r W H out e) (ap (last_byte count_len) s ∙ read.1))

record_returned : RecordReturned
record_returned W H s out b l e g o =
    let t = form_tested s e in
    let c = writer_passes (record_of count_len s) W H out g o t.0 in
    (c, written_over _ _ out c ∙ ap (λ (bytes : List ℕ). overwritten bytes out) (record_rewritten count_len s b l t.1))

pub round_trip : RoundTrip
round_trip = (header_read, record_read, header_rewritten, record_rewritten, header_accepted, record_accepted, record_returned)
