-- Document 02, W1: "Replay must equal the records applied one after another", and "the target keeps the blocks before it". Each statement speaks of
-- `replayed`, which the call's contract equates its answer and the target with. proofs/Replays and proofs/Samples prove them.
use Rattle.std.specs.Prelude.{Bool, List, [], ◌++◌, ◌⊎◌, ◌≡◌, ℕ, ◌+◌, ◌*◌, ◌<◌, ◌≤◌, ℤ, length, get_or, take}
use Rattle.evc_def.specs.declared.EvcBlock.{EvcBlock}
use Rattle.evc_plane.specs.Planes.{side_of, pad_of, origin_of, stride_of, plane_len}
use Rattle.evc_mc.specs.Block.{Component, luma, cb, cr, type_of, width_of, height_of}
use Rattle.evc_trace.specs.Format.{count_len, header_len, record_len, header_of, record_of}
use Rattle.evc_record.specs.Record.{Planes, block_of, place_in}
use Rattle.evc_replay.specs.Replay.{Replayed, records_from, replayed}

-- a trace of n records, the last one whole
abbrev pub Whole : List ℕ → ℕ → Type 0
Whole s n = length s ≡ header_len count_len + record_len count_len * n

-- k records more before the index
abbrev pub counted_from : ℕ → Replayed → Replayed
counted_from k r = record { answer = record { code = r.answer.code; index = k + r.answer.index }; target = r.target }

-- every statement is about one call's references, map and target
module _ (p q : Planes) (has : Bool) (col : List ℤ) (t : Planes) where
  abbrev pub replay : List ℕ → Replayed
  replay s = replayed s p q has col t

  -- "the record count on 0"
  abbrev pub Counted : Type 0
  Counted = (s : List ℕ) (n : ℕ) → Whole s n → (replay s).answer.code ≡ 0 → (replay s).answer.index ≡ n

  -- whole records a that are not refused, and then b: b, with the same header, over the target that a left
  abbrev pub OneAfterAnother : Type 0
  OneAfterAnother =
      (a b : List ℕ) (n : ℕ) → Whole a n → (replay a).answer.code ≡ 0
      → replay (a ++ b) ≡ counted_from n (replayed (take (header_len count_len) a ++ b) p q has col (replay a).target)

  -- where the header or a record of a is refused, what follows is not looked at; only 11 may come of what is missing
  abbrev pub Refused : Type 0
  Refused = (a b : List ℕ) → ((replay a).answer.code ≡ 0 → ⊥) → ((replay a).answer.code ≡ 11 → ⊥) → replay (a ++ b) ≡ replay a

  abbrev pub Complete : Type 0
  Complete = (s : List ℕ) (n : ℕ) → Whole s n → (replay s).answer.code ≡ 11 → ⊥

-- ---- what stays as it was

abbrev pub plane_in : Component → Planes → List ℕ
plane_in luma t = t.y
plane_in cb t = t.u
plane_in cr t = t.v

-- the block of record j
abbrev pub block_at : List ℕ → ℕ → EvcBlock
block_at s j = block_of (header_of count_len s) (record_of count_len (get_or (records_from s (header_len count_len)) j []))

-- index i of a plane lies in none of h rows of w samples
abbrev pub OutsideRows : ℕ → ℕ → ℕ → ℕ → ℕ → Type 0
OutsideRows at stride w h i = (y : ℕ) → y < h → (i < at + y * stride) ⊎ (at + y * stride + w ≤ i)

abbrev pub OutsideBlock : EvcBlock → Component → ℕ → Type 0
OutsideBlock b c = OutsideRows (place_in (type_of c) b) (stride_of (type_of c) b.pic_w) (width_of b c) (height_of b c)

-- in the border, or past the needed length
abbrev pub OutsidePicture : ℕ → ℕ → Component → ℕ → Type 0
OutsidePicture W H c =
    let k = type_of c in OutsideRows (pad_of k * stride_of k W + origin_of k) (stride_of k W) (side_of k W) (side_of k H)

module _ (p q : Planes) (has : Bool) (col : List ℤ) (t : Planes) (s : List ℕ) where
  abbrev pub Same : Component → ℕ → Type 0
  Same c i = get_or (plane_in c (replay p q has col t s).target) i 0 ≡ get_or (plane_in c t) i 0

  -- every sample outside the blocks of the finished records
  abbrev pub OutsideKept : Type 0
  OutsideKept = (c : Component) (i : ℕ) → ((j : ℕ) → j < (replay p q has col t s).answer.index → OutsideBlock (block_at s j) c i) → Same c i

  -- "borders untouched"
  abbrev pub BorderKept : Type 0
  BorderKept = (c : Component) (i : ℕ) → OutsidePicture (header_of count_len s).pic_w (header_of count_len s).pic_h c i → Same c i

  -- the excess of a longer buffer
  abbrev pub ExcessKept : Type 0
  ExcessKept = (c : Component) (i : ℕ) → plane_len (type_of c) (header_of count_len s).pic_w (header_of count_len s).pic_h ≤ i → Same c i

  abbrev pub LengthsKept : Type 0
  LengthsKept = (c : Component) → length (plane_in c (replay p q has col t s).target) ≡ length (plane_in c t)

abbrev pub Replays : Type 0
Replays =
    (p q : Planes) (has : Bool) (col : List ℤ) (t : Planes)
    → Counted p q has col t × OneAfterAnother p q has col t × Refused p q has col t × Complete p q has col t
    × ((s : List ℕ) → OutsideKept p q has col t s × BorderKept p q has col t s × ExcessKept p q has col t s × LengthsKept p q has col t s)
