-- Document 01, 'The clipping program': what it prints for the bytes that it reads, behind its header line.
use Rattle.std.specs.Prelude.{cond, List, [], ◌∷◌, ◌++◌, ℕ, zero, suc, ◌+◌, ◌*◌, ◌/◌, ◌%◌, eqb, pos, length}
use Rattle.evc_int.specs.LowBits.{signed16}
use Rattle.evc_bytes.specs.Bytes.{number_at}
use Rattle.evc_clip.specs.declared.EvcClipped.{EvcClipped}
use Rattle.evc_clip.specs.Clip.{nothing_moved, mv_clip}
use Rattle.mv_clip_text.specs.Decimal.{decimal, signed_decimal}

-- "16-byte records": field k of the record at `at`, two bytes, "low byte first"
abbrev pub field : List ℕ → ℕ → ℕ → ℕ
field s at k = number_at 2 s (at + 2 * k)

-- "x, y, W, H, w, h, mvx, mvy, each signed 16 bits". Sizes and places are taken as bit patterns: a negative one is 32,768 or more, and is refused
-- by the number that refuses a side or a place too large
unfoldable pub answer_at : List ℕ → ℕ → EvcClipped
answer_at s at =
    mv_clip
    (record { x = field s at 0; y = field s at 1; pic_w = field s at 2; pic_h = field s at 3; w = field s at 4; h = field s at 5 })
    (record { x = signed16 (field s at 6); y = signed16 (field s at 7) })

-- "per record the number returned and the clipped vector"
unfoldable pub line : EvcClipped → List ℕ
line a = decimal a.code ++ (32 ∷ []) ++ signed_decimal a.mv.x ++ (32 ∷ []) ++ signed_decimal a.mv.y ++ (10 ∷ [])

-- the lines of the first n records
unfoldable pub lines : List ℕ → ℕ → List ℕ
lines s zero = []
lines s (suc n) = lines s n ++ line (answer_at s (16 * n))

-- "an incomplete last record prints as `4 0 0`"
abbrev pub incomplete : EvcClipped
incomplete = record { code = 4; mv = record { x = pos 0; y = pos 0 }; moved = nothing_moved }

unfoldable pub text : List ℕ → List ℕ
text s = lines s (length s / 16) ++ cond (eqb (length s % 16) 0) [] (line incomplete)
