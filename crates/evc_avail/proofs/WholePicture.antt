-- The flags of the whole picture: no unit of it asks to be counted. Assumes nothing.
use Rattle.std.proofs.Common.{◌≡◌, ℕ, ◌+◌, Bool, not, ◌&&◌, List, refl, ap}
use Rattle.std.proofs.Math.Bool.{and-true}
use Rattle.evc_def.specs.Tables.{is_coded, is_intra}
use Rattle.evc_def.specs.declared.EvcBlock.{EvcBlock}
use Rattle.evc_avail.specs.Around.{left_of, first_column, last_column, right_of, above, first_row, below, has_unit, word_of}
use Rattle.evc_avail.specs.Flags.{of_picture, is_inter_in, is_not_intra_in, avail_left_in, avail_right_in, avail_up_in, avail_of, flag, is_inter, is_not_intra, avail_left, avail_right, avail_up, avail_inter}

module _ (b : EvcBlock) (map : List ℕ) where
  pub picture_inter : (column row : ℕ) → is_inter b map column row ≡ (has_unit b column row && is_coded (word_of b map column row) && not (is_intra (word_of b map column row)))
  unfolding is_inter_in
  picture_inter column row = ap (λ (t : Bool). t && is_coded (word_of b map column row) && not (is_intra (word_of b map column row))) (and-true (has_unit b column row))

  pub picture_not_intra : (column row : ℕ) → is_not_intra b map column row ≡ (has_unit b column row && not (is_intra (word_of b map column row)))
  unfolding is_not_intra_in
  picture_not_intra column row = ap (λ (t : Bool). t && not (is_intra (word_of b map column row))) (and-true (has_unit b column row))

  pub picture_left : let left = is_inter b map (left_of b) (first_row b) in avail_left b map ≡ flag 1 left + flag 7 (left && is_inter b map (left_of b) (below b))
  unfolding avail_left_in
  picture_left = refl

  pub picture_right : let right = is_inter b map (right_of b) (first_row b) in avail_right b map ≡ flag 3 right + flag 8 (right && is_inter b map (right_of b) (below b))
  unfolding avail_right_in
  picture_right = refl

  pub picture_up : avail_up b map ≡ flag 0 (is_not_intra b map (first_column b) (above b)) + flag 9 (is_not_intra b map (last_column b) (above b)) + flag 5 (is_inter b map (left_of b) (above b)) + flag 6 (is_inter b map (right_of b) (above b))
  unfolding avail_up_in
  picture_up = refl

  pub picture_all : avail_inter b map ≡ avail_left b map + avail_up b map + avail_right b map
  unfolding avail_of
  picture_all = refl

  -- over what counts they are those where every unit does
  pub picture_flags : avail_inter b map ≡ avail_of of_picture b map
  picture_flags = refl
