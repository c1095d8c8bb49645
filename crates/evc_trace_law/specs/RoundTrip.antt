-- Document 02, W1: "writing and reading return the same records". proofs/RoundTrip proves these statements, the first four at every width n of the
-- counts.
use Rattle.std.specs.Prelude.{true, false, List, ◌++◌, ◌≡◌, ℕ, ◌^◌, ◌<◌, ◌≤◌, length, get_or, take}
use Rattle.std.specs.Int.{w16}
use Rattle.std.proofs.Common.{SFits}
use Rattle.evc_def.specs.Blocks.{bad_picture}
use Rattle.evc_trace.specs.Format.{version, count_len, header_len, header_bytes, is_trace, header_of, record_len, record_bytes, record_of, last_byte, overwritten, write_header_code, write_header_after, write_record_code, write_record_after}
use Rattle.evc_trace.specs.declared.TraceHeader.{TraceHeader}
use Rattle.evc_trace.specs.declared.EvcTraceRecord.{EvcTraceRecord}
use Rattle.evc_record.specs.Record.{form_code}

-- fields that are as wide as their places, n bytes for a count
pub record HeaderFits (n : ℕ) (h : TraceHeader) : Type 0 where
  pub w_fits : h.pic_w < 65536
  pub h_fits : h.pic_h < 65536
  pub poc_fits : h.poc < 256 ^ n
  pub list_fits : h.list_poc0 < 256 ^ n

pub record RecordFits (n : ℕ) (r : EvcTraceRecord) : Type 0 where
  pub x_fits : r.x < 65536
  pub y_fits : r.y < 65536
  pub w_fits : r.w < 65536
  pub h_fits : r.h < 65536
  pub mv0_x : SFits w16 r.mv0.x
  pub mv0_y : SFits w16 r.mv0.y
  pub mv1_x : SFits w16 r.mv1.x
  pub mv1_y : SFits w16 r.mv1.y
  pub poc0_fits : r.poc0 < 256 ^ n
  pub poc1_fits : r.poc1 < 256 ^ n

-- every element is a byte
abbrev pub Bytes : List ℕ → Type 0
Bytes s = (i : ℕ) → get_or s i 0 < 256

-- ---- written and read, whatever follows

abbrev pub HeaderRead : Type 0
HeaderRead =
    (v n : ℕ) (h : TraceHeader) (rest : List ℕ) → v < 65536 → HeaderFits n h
    → (is_trace v (header_bytes v n h ++ rest) ≡ true) × (header_of n (header_bytes v n h ++ rest) ≡ h)

abbrev pub RecordRead : Type 0
RecordRead =
    (n : ℕ) (r : EvcTraceRecord) (rest : List ℕ) → RecordFits n r
    → (record_of n (record_bytes n r ++ rest) ≡ r) × (last_byte n (record_bytes n r ++ rest) ≡ 0)

-- ---- read and written back

abbrev pub HeaderRewritten : Type 0
HeaderRewritten = (v n : ℕ) (s : List ℕ) → Bytes s → length s ≡ header_len n → is_trace v s ≡ true → header_bytes v n (header_of n s) ≡ s

abbrev pub RecordRewritten : Type 0
RecordRewritten = (n : ℕ) (s : List ℕ) → Bytes s → length s ≡ record_len n → last_byte n s ≡ 0 → record_bytes n (record_of n s) ≡ s

-- ---- of the calls

-- what the writer accepts is read as it was, and replay finds nothing to refuse in its form
abbrev pub HeaderAccepted : Type 0
HeaderAccepted =
    (h : TraceHeader) (out : List ℕ) → HeaderFits count_len h → write_header_code h.pic_w h.pic_h out ≡ 0
    → (is_trace version (write_header_after h out) ≡ true) × (header_of count_len (write_header_after h out) ≡ h)

abbrev pub RecordAccepted : Type 0
RecordAccepted =
    (W H : ℕ) (r : EvcTraceRecord) (out : List ℕ) → RecordFits count_len r → write_record_code W H r out ≡ 0
    → let s = take (record_len count_len) (write_record_after W H r out) in (record_of count_len s ≡ r) × (form_code s ≡ 0)

-- a record that reading accepts is written to the same bytes
abbrev pub RecordReturned : Type 0
RecordReturned =
    (W H : ℕ) (s out : List ℕ) → Bytes s → length s ≡ record_len count_len → form_code s ≡ 0 → bad_picture W H ≡ false → record_len count_len ≤ length out
    → (write_record_code W H (record_of count_len s) out ≡ 0) × (write_record_after W H (record_of count_len s) out ≡ overwritten s out)

abbrev pub RoundTrip : Type 0
RoundTrip = HeaderRead × RecordRead × HeaderRewritten × RecordRewritten × HeaderAccepted × RecordAccepted × RecordReturned
