-- Document 01, 'Flags', and document 02, W5: flags where only some units count as available.
use Rattle.std.specs.Prelude.{◌≡◌, ℕ, ◌+◌, ◌^◌, Bool, true, cond, not, ◌&&◌, List, [], ◌∷◌, ◌++◌, length, replicate, ◌==◌, Result, Ok, Err}
use Rattle.evc_def.specs.Codes.{Check, ◌when◌, first_of, block_checks}
use Rattle.evc_def.specs.Tables.{is_coded, is_intra}
use Rattle.evc_def.specs.Refusals.{number_of}
use Rattle.evc_def.specs.declared.EvcBlock.{EvcBlock}
use Rattle.evc_def.specs.declared.refusal.Refusal.{Refusal}
use Rattle.evc_map.specs.Maps.{words_short}
use Rattle.evc_avail.specs.Around.{left_of, first_column, last_column, right_of, above, first_row, below, has_unit, word_of}
use Rattle.evc_avail.specs.declared.EvcAvail.{EvcAvail}

-- what is available are the picture's units that count, which their words tell
module _ (counts : ℕ → Bool) (b : EvcBlock) (map : List ℕ) where
  -- "A unit outside the picture sets no flag."
  abbrev pub is_available : ℕ → ℕ → Bool
  is_available column row = has_unit b column row && counts (word_of b map column row)

  -- "need coded and not intra"
  unfoldable pub is_inter_in : ℕ → ℕ → Bool
  is_inter_in column row = is_available column row && is_coded (word_of b map column row) && not (is_intra (word_of b map column row))

  -- "need not-intra only"
  unfoldable pub is_not_intra_in : ℕ → ℕ → Bool
  is_not_intra_in column row = is_available column row && not (is_intra (word_of b map column row))

-- a flag of src/def.rs, by its bit
abbrev pub flag : ℕ → Bool → ℕ
flag bit set = cond set (2 ^ bit) 0

module _ (counts : ℕ → Bool) (b : EvcBlock) (map : List ℕ) where
  -- "Left, up-left, up-right, right, lower-left and lower-right need coded and not intra; lower-left also needs left, lower-right also needs right."
  unfoldable pub avail_left_in : ℕ
  avail_left_in =
      let left = is_inter_in counts b map (left_of b) (first_row b) in
      flag 1 left + flag 7 (left && is_inter_in counts b map (left_of b) (below b))

  unfoldable pub avail_right_in : ℕ
  avail_right_in =
      let right = is_inter_in counts b map (right_of b) (first_row b) in
      flag 3 right + flag 8 (right && is_inter_in counts b map (right_of b) (below b))

  -- "Up and right-up (above the block's last unit) need not-intra only."
  unfoldable pub avail_up_in : ℕ
  avail_up_in =
      flag 0 (is_not_intra_in counts b map (first_column b) (above b)) + flag 9 (is_not_intra_in counts b map (last_column b) (above b))
      + flag 5 (is_inter_in counts b map (left_of b) (above b)) + flag 6 (is_inter_in counts b map (right_of b) (above b))

  unfoldable pub avail_of : ℕ
  avail_of = avail_left_in + avail_up_in + avail_right_in

-- "The whole picture counts as one slice."
abbrev pub of_picture : ℕ → Bool
of_picture word = true

module _ (b : EvcBlock) (map : List ℕ) where
  abbrev pub is_inter : ℕ → ℕ → Bool
  is_inter = is_inter_in of_picture b map

  abbrev pub is_not_intra : ℕ → ℕ → Bool
  is_not_intra = is_not_intra_in of_picture b map

  abbrev pub avail_left : ℕ
  avail_left = avail_left_in of_picture b map

  abbrev pub avail_right : ℕ
  avail_right = avail_right_in of_picture b map

  abbrev pub avail_up : ℕ
  avail_up = avail_up_in of_picture b map

  abbrev pub avail_inter : ℕ
  avail_inter = avail_of of_picture b map

-- "A refusal returns zero for every other number": the flags if no check refuses
abbrev pub answered : ℕ → ℕ → EvcAvail
answered code avail = record { code = code; avail = cond (code == 0) avail 0 }

-- the call: "Error: 1, 2, 4."
abbrev pub avail_checks : EvcBlock → ℕ → List Check
avail_checks b words = block_checks b ++ (4 when words_short b.pic_w b.pic_h words ∷ [])

unfoldable pub get_avail_inter : EvcBlock → List ℕ → EvcAvail
get_avail_inter b map = answered (first_of (avail_checks b (length map))) (avail_inter b map)

-- an answer as the call returns it
abbrev pub answer_of : Result ℕ Refusal → EvcAvail
answer_of (Ok avail) = record { code = 0; avail = avail }
answer_of (Err r) = record { code = number_of r; avail = 0 }

-- 'Edges to try': an 8 by 8 picture with a 4 by 4 block at (4,4)
abbrev pub corner : EvcBlock
corner = record { pic_w = 8; pic_h = 8; x = 4; y = 4; w = 4; h = 4 }

abbrev pub FlagEdges : Type 0
FlagEdges =
    (get_avail_inter corner (replicate 4 0) ≡ record { code = 0; avail = 513 })
    × (get_avail_inter corner (replicate 4 0x80000000) ≡ record { code = 0; avail = 547 })
