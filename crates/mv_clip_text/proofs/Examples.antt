-- Texts by computation: document 01's two records, empty input, and an incomplete record. Assumes nothing.
use mathlib.Core.List.{List, [], ◌∷◌, ◌++◌}
use mathlib.Core.Path.{◌≡◌, refl}
use Prim.Native.Nat.{ℕ}
use Prim.Native.Char.{code}
use Prim.Native.String as String
use lib.IntN.{ℤ, pos}
use Rattle.evc_int.specs.Whole.{−◌, ◌modulo◌}
use Rattle.evc_bytes.specs.Bytes.{bytes_of}
use Rattle.evc_def.specs.Blocks.{bad_picture, bad_block}
use Rattle.evc_def.specs.Codes.{first_of}
use Rattle.evc_clip.specs.Clip.{clip_component, clip_mv, mv_clip}
use Rattle.mv_clip_text.specs.Decimal.{decimal, signed_decimal}
use Rattle.mv_clip_text.specs.Records.{answer_at, line, lines, text}

-- signed 16-bit numbers as bytes
abbrev bytes : List ℤ → List ℕ
bytes [] = []
bytes (z ∷ zs) = bytes_of 2 (z modulo 65536) ++ bytes zs

abbrev ascii : String.String → List ℕ
ascii String.[] = []
ascii (String.◌∷◌ c s) = code c ∷ ascii s

abbrev first : List ℕ
first = bytes (pos 0 ∷ pos 0 ∷ pos 64 ∷ pos 64 ∷ pos 16 ∷ pos 16 ∷ − 300 ∷ pos 5 ∷ [])

abbrev second : List ℕ
second = bytes (pos 2 ∷ pos 0 ∷ pos 64 ∷ pos 64 ∷ pos 16 ∷ pos 16 ∷ pos 0 ∷ pos 0 ∷ [])

abbrev pub Examples : Type 0
Examples = (text (first ++ second) ≡ ascii "0 -256 5\n2 0 0\n") × (text [] ≡ []) × (text (0 ∷ []) ≡ ascii "4 0 0\n")

pub examples : Examples
unfolding text lines line answer_at decimal signed_decimal mv_clip clip_mv clip_component first_of bad_picture bad_block
examples = (refl, refl, refl)
