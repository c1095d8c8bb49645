-- What the program reads and prints, where the bytes of its input and of its output are known.
use Rattle.std.specs.Prelude.{◌≡◌, Bool, true, false, ℕ, List, Option, pos, codes, length}
use Rattle.std.specs.Io.KnownBytes.{Appends, Consumes, IsAtEnd}
use Rattle.evc_clip.specs.declared.EvcClipped.{EvcClipped}
use Rattle.evc_clip.specs.Clip.{nothing_moved}
use Rattle.mv_clip_text.specs.Records.{text}

-- the answer to a picture with a negative side
abbrev pub refused_picture : EvcClipped
refused_picture = record { code = 1; mv = record { x = pos 0; y = pos 0 }; moved = nothing_moved }

-- the line in front of the records' text
abbrev pub header : List ℕ
header = codes "answer mvx mvy\n"

-- `chunk` was taken from the bytes to read, and its text was written behind what was written before; a chunk that is not full is the last one
pub record ChunkAnswered (unread left before after : Option (List ℕ)) (is_full : Bool) : Type 0 where
  pub chunk : List ℕ
  pub taken : Consumes unread left chunk
  pub answered : Appends before after (text chunk)
  pub long : is_full ≡ true → length chunk ≡ 49152
  pub ended : is_full ≡ false → IsAtEnd left
