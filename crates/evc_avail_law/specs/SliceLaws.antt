-- Document 02, W5: what the flags of a block of a slice depend on, and what candidates come of them. Each statement speaks of `get_avail_inter_slice`, which
-- the call's contract equates its answer with. proofs/SliceLaws proves them.
use Rattle.std.specs.Prelude.{Bool, true, false, cond, List, [], ◌∷◌, map, ◌⊎◌, ◌≡◌, ℕ, ◌≤◌, ◌<◌, ℤ, length}
use Rattle.evc_def.specs.declared.EvcBlock.{EvcBlock}
use Rattle.evc_map.specs.Maps.{units_of, word_at, mv_at}
use Rattle.evc_avail.specs.Around.{left_of, first_column, last_column, right_of, above, first_row, below, has_unit, word_of}
use Rattle.evc_avail.specs.Flags.{corner, get_avail_inter}
use Rattle.evc_avail.specs.Slices.{of_slice, max_slice_num, get_avail_inter_slice}
use Rattle.evc_motion.specs.Candidates.{flag_outside, get_motion}
use Rattle.evc_motion.specs.declared.EvcCandidates.{EvcCandidates}

-- ---- the units that flags look at

pub data Neighbour : Type 0 where
  left lower_left right lower_right up right_up up_left up_right : Neighbour

abbrev pub column_of : EvcBlock → Neighbour → ℕ
column_of b left = left_of b
column_of b lower_left = left_of b
column_of b right = right_of b
column_of b lower_right = right_of b
column_of b up = first_column b
column_of b right_up = last_column b
column_of b up_left = left_of b
column_of b up_right = right_of b

abbrev pub row_of : EvcBlock → Neighbour → ℕ
row_of b left = first_row b
row_of b lower_left = below b
row_of b right = first_row b
row_of b lower_right = below b
row_of b up = above b
row_of b right_up = above b
row_of b up_left = above b
row_of b up_right = above b

abbrev pub is_there : EvcBlock → Neighbour → Bool
is_there b k = has_unit b (column_of b k) (row_of b k)

abbrev pub word_beside : EvcBlock → List ℕ → Neighbour → ℕ
word_beside b words k = word_of b words (column_of b k) (row_of b k)

-- ---- an example

-- document 01's picture of 8 by 8 with the 4 by 4 block at (4,4), and a slice in each row of its coded units
abbrev two_slices : List ℕ
two_slices = 0x80000000 ∷ 0x80000000 ∷ 0x80000001 ∷ 0x80000001 ∷ []

-- as one slice it has left, up, up-left and right-up, in its own slice left alone; 127 is the last number
abbrev pub TwoSlices : Type 0
TwoSlices =
    (get_avail_inter corner two_slices ≡ record { code = 0; avail = 547 })
    × (get_avail_inter_slice corner 1 two_slices ≡ record { code = 0; avail = 2 })
    × (get_avail_inter_slice corner 127 two_slices ≡ record { code = 0; avail = 0 })
    × (get_avail_inter_slice corner 128 two_slices ≡ record { code = 13; avail = 0 })

-- ---- flags

-- where all of them are of the block's slice, it is the call that counts the picture as one
abbrev pub OneSlice : Type 0
OneSlice =
    (b : EvcBlock) (slice : ℕ) (words : List ℕ) → slice ≤ max_slice_num
    → ((k : Neighbour) → is_there b k ≡ true → of_slice slice (word_beside b words k) ≡ true)
    → get_avail_inter_slice b slice words ≡ get_avail_inter b words

-- where none of them is, there is no flag
abbrev pub OtherSlices : Type 0
OtherSlices =
    (b : EvcBlock) (slice : ℕ) (words : List ℕ)
    → ((k : Neighbour) → is_there b k ≡ true → of_slice slice (word_beside b words k) ≡ false)
    → (get_avail_inter_slice b slice words).avail ≡ 0

-- a unit of another slice is as good as an intra one, bit 15
abbrev pub intra_outside : ℕ → ℕ → ℕ
intra_outside slice word = cond (of_slice slice word) word 0x8000

abbrev pub AsIntra : Type 0
AsIntra = (b : EvcBlock) (slice : ℕ) (words : List ℕ) → slice ≤ max_slice_num → get_avail_inter_slice b slice words ≡ get_avail_inter b (map (intra_outside slice) words)

-- of a word of another slice nothing is read but that it is one, and other words are not read at all, the block's own among them
abbrev pub Unread : Type 0
Unread =
    (b : EvcBlock) (slice : ℕ) (words words' : List ℕ) → (get_avail_inter_slice b slice words).code ≡ (get_avail_inter_slice b slice words').code
    → ((k : Neighbour) → is_there b k ≡ true
    → (word_beside b words k ≡ word_beside b words' k)
    ⊎ ((of_slice slice (word_beside b words k) ≡ false) × (of_slice slice (word_beside b words' k) ≡ false)))
    → get_avail_inter_slice b slice words ≡ get_avail_inter_slice b slice words'

-- ---- candidates

-- they are never refused with 7: no flag names a neighbour outside the picture
abbrev pub Inside : Type 0
Inside = (b : EvcBlock) (slice : ℕ) (words : List ℕ) → flag_outside b (get_avail_inter_slice b slice words).avail ≡ false

-- and they are taken from units of the block's slice alone: all other vectors of the motion map may be others
abbrev pub WithinSlice : Type 0
WithinSlice =
    (b : EvcBlock) (slice : ℕ) (words : List ℕ) (lidx : ℕ) (mvs mvs' : List ℤ) (has_col : Bool) (col : List ℤ) (old : EvcCandidates)
    → length mvs ≡ length mvs'
    → ((unit : ℕ) → unit < units_of b.pic_w b.pic_h → of_slice slice (word_at words unit) ≡ true → mv_at mvs unit lidx ≡ mv_at mvs' unit lidx)
    → let avail = (get_avail_inter_slice b slice words).avail in
    get_motion b lidx avail mvs has_col col old ≡ get_motion b lidx avail mvs' has_col col old

abbrev pub SliceLaws : Type 0
SliceLaws = TwoSlices × OneSlice × OtherSlices × AsIntra × Unread × Inside × WithinSlice
