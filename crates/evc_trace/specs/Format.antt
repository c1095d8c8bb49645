-- Document 02, W1: the bytes of a trace, and the two calls that write them. The bytes n of an order count are a parameter, and with them the lengths.
use Rattle.std.specs.Prelude.{Bool, not, cond, ◌&&◌, ◌||◌, List, [], ◌∷◌, ◌++◌, ℕ, ◌+◌, ◌*◌, ltb, leb, eqb, pos, length, get_or, drop}
use Rattle.evc_int.specs.Whole.{eq_z, ◌modulo◌}
use Rattle.evc_int.specs.LowBits.{signed16}
use Rattle.evc_bytes.specs.Bytes.{bytes_of, number_at}
use Rattle.evc_def.specs.Blocks.{bad_picture}
use Rattle.evc_def.specs.Codes.{◌when◌, first_of}
use Rattle.evc_def.specs.declared.EvcMv.{EvcMv}
use Rattle.evc_trace.specs.declared.TraceHeader.{TraceHeader}
use Rattle.evc_trace.specs.declared.EvcTraceRecord.{EvcTraceRecord}

-- ---- the header: "the letters IPT, version 1 in 16 bits, then W, H, the picture's order count and the collocated reference's first listed count, 16
-- bits each, low byte first"

-- of version 1: counts are "16 bits each"
abbrev pub version : ℕ
version = 1

abbrev pub count_len : ℕ
count_len = 2

abbrev pub mark : ℕ → List ℕ
mark v = 73 ∷ 80 ∷ 84 ∷ bytes_of 2 v

abbrev pub header_bytes : ℕ → ℕ → TraceHeader → List ℕ
header_bytes v n h = mark v ++ (bytes_of 2 h.pic_w ++ (bytes_of 2 h.pic_h ++ (bytes_of n h.poc ++ bytes_of n h.list_poc0)))

-- "13 bytes"
abbrev pub header_len : ℕ → ℕ
header_len n = 9 + 2 * n

-- "mark or version"
unfoldable pub is_trace : ℕ → List ℕ → Bool
is_trace v s = eqb (get_or s 0 0) 73 && eqb (get_or s 1 0) 80 && eqb (get_or s 2 0) 84 && eqb (number_at 2 s 3) v

unfoldable pub header_of : ℕ → List ℕ → TraceHeader
header_of n s = record { pic_w = number_at 2 s 5; pic_h = number_at 2 s 7; poc = number_at n s 9; list_poc0 = number_at n s (9 + n) }

-- ---- a record: "x, y, w, h, 16 bits each; a kind byte ..; two vectors; two reference counts; a zero byte"

-- a vector: two signed numbers of 16 bits
abbrev pub mv_bytes : EvcMv → List ℕ
mv_bytes mv = bytes_of 2 (mv.x modulo 65536) ++ bytes_of 2 (mv.y modulo 65536)

abbrev pub mv_of : List ℕ → ℕ → EvcMv
mv_of s at = record { x = signed16 (number_at 2 s at); y = signed16 (number_at 2 s (at + 2)) }

abbrev pub record_bytes : ℕ → EvcTraceRecord → List ℕ
record_bytes n r =
    bytes_of 2 r.x ++ (bytes_of 2 r.y ++ (bytes_of 2 r.w ++ (bytes_of 2 r.h ++ (r.kind ∷ (mv_bytes r.mv0 ++ (mv_bytes r.mv1
    ++ (bytes_of n r.poc0 ++ (bytes_of n r.poc1 ++ (0 ∷ [])))))))))

-- "22 bytes"
abbrev pub record_len : ℕ → ℕ
record_len n = 18 + 2 * n

unfoldable pub record_of : ℕ → List ℕ → EvcTraceRecord
record_of n s =
    record {
      x = number_at 2 s 0;
      y = number_at 2 s 2;
      w = number_at 2 s 4;
      h = number_at 2 s 6;
      kind = get_or s 8 0;
      mv0 = mv_of s 9;
      mv1 = mv_of s 13;
      poc0 = number_at n s 17;
      poc1 = number_at n s (17 + n);
    }

abbrev pub last_byte : ℕ → List ℕ → ℕ
last_byte n s = get_or s (17 + 2 * n) 0

-- "a kind byte (0 list 0, 1 list 1, 2 both, 3 direct with both lists)". "Fields of an unused list are zero, and so are both vectors of kind 3."
abbrev pub is_zero_mv : EvcMv → Bool
is_zero_mv mv = eq_z mv.x (pos 0) && eq_z mv.y (pos 0)

unfoldable pub is_well_formed : EvcTraceRecord → Bool
is_well_formed r =
    leb r.kind 3
    && (not (eqb r.kind 0) || is_zero_mv r.mv1 && eqb r.poc1 0)
    && (not (eqb r.kind 1) || is_zero_mv r.mv0 && eqb r.poc0 0)
    && (not (eqb r.kind 3) || is_zero_mv r.mv0 && is_zero_mv r.mv1)

-- ---- the writers: "The writer has one call for the header and one for a record; they refuse 1, 4 and, for a record, 12, in that order."

-- a buffer that begins with these bytes: the rest of it is kept
unfoldable pub overwritten : List ℕ → List ℕ → List ℕ
overwritten bytes d = bytes ++ drop (length bytes) d

-- after a call with this number: overwritten, and as it was where the call refuses
unfoldable pub overwritten_by : ℕ → List ℕ → List ℕ → List ℕ
overwritten_by code bytes d = cond (eqb code 0) (overwritten bytes d) d

unfoldable pub write_header_code : ℕ → ℕ → List ℕ → ℕ
write_header_code W H out = first_of (1 when bad_picture W H ∷ 4 when ltb (length out) (header_len count_len) ∷ [])

abbrev pub write_header_after : TraceHeader → List ℕ → List ℕ
write_header_after h out = overwritten_by (write_header_code h.pic_w h.pic_h out) (header_bytes version count_len h) out

unfoldable pub write_record_code : ℕ → ℕ → EvcTraceRecord → List ℕ → ℕ
write_record_code W H r out = first_of (1 when bad_picture W H ∷ 4 when ltb (length out) (record_len count_len) ∷ 12 when not (is_well_formed r) ∷ [])

abbrev pub write_record_after : ℕ → ℕ → EvcTraceRecord → List ℕ → List ℕ
write_record_after W H r out = overwritten_by (write_record_code W H r out) (record_bytes count_len r) out
