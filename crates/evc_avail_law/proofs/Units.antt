-- Flags are the same where the tests of the eight units are, whatever counts as available. Assumes nothing.
use mathlib.Core.Bool.{Bool, true, false, not, ◌&&◌}
use mathlib.Core.List.{List}
use mathlib.Core.Path.{◌≡◌, refl}
use Prim.Native.Nat.{ℕ}
use Rattle.evc_def.specs.Tables.{is_coded, is_intra}
use Rattle.evc_def.specs.declared.EvcBlock.{EvcBlock}
use Rattle.evc_avail.specs.Around.{has_unit, word_of}
use Rattle.evc_avail.specs.Flags.{is_inter_in, is_not_intra_in, avail_left_in, avail_right_in, avail_up_in, avail_of}
use Rattle.evc_avail_law.specs.SliceLaws.{Neighbour, left, lower_left, right, lower_right, up, right_up, up_left, up_right, column_of, row_of, is_there, word_beside}

-- both tests of a word agree with those of another
pub record Alike (counts counts' : ℕ → Bool) (v w : ℕ) : Type 0 where
  pub inter : (counts v && is_coded v && not (is_intra v)) ≡ (counts' w && is_coded w && not (is_intra w))
  pub not_intra : (counts v && not (is_intra v)) ≡ (counts' w && not (is_intra w))

module _ (counts counts' : ℕ → Bool) (b : EvcBlock) (map map' : List ℕ) where
  inter_same : (column row : ℕ) (t : Bool) → has_unit b column row ≡ t → (t ≡ true → Alike counts counts' (word_of b map column row) (word_of b map' column row)) → is_inter_in counts b map column row ≡ is_inter_in counts' b map' column row
  unfolding is_inter_in
  inter_same column row true e a = rw e (a refl).inter
  inter_same column row false e a = rw e

  not_intra_same : (column row : ℕ) (t : Bool) → has_unit b column row ≡ t → (t ≡ true → Alike counts counts' (word_of b map column row) (word_of b map' column row)) → is_not_intra_in counts b map column row ≡ is_not_intra_in counts' b map' column row
  unfolding is_not_intra_in
  not_intra_same column row true e a = rw e (a refl).not_intra
  not_intra_same column row false e a = rw e

  pub same_flags : ((k : Neighbour) → is_there b k ≡ true → Alike counts counts' (word_beside b map k) (word_beside b map' k)) → avail_of counts b map ≡ avail_of counts' b map'
  unfolding avail_of avail_left_in avail_right_in avail_up_in
  same_flags a =
      let i : (k : Neighbour) → is_inter_in counts b map (column_of b k) (row_of b k) ≡ is_inter_in counts' b map' (column_of b k) (row_of b k) = λ k. inter_same (column_of b k) (row_of b k) (is_there b k) refl (a k) in
      let n : (k : Neighbour) → is_not_intra_in counts b map (column_of b k) (row_of b k) ≡ is_not_intra_in counts' b map' (column_of b k) (row_of b k) = λ k. not_intra_same (column_of b k) (row_of b k) (is_there b k) refl (a k) in
      rw (i left, i lower_left, n up, n right_up, i up_left, i up_right, i right, i lower_right)
