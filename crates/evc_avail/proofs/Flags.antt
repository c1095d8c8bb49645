-- The flags from the values that the code computes. Assumes nothing.
use Rattle.std.proofs.Common.{◌≡◌, ℕ, ◌+◌, Bool, cond, List, sym}
use Rattle.evc_def.specs.Blocks.{Allowed}
use Rattle.evc_def.specs.declared.EvcBlock.{EvcBlock}
use Rattle.evc_avail.specs.Around.{left_of, first_column, last_column, right_of, above}
use Rattle.evc_avail.specs.Flags.{is_inter_in, is_not_intra_in, avail_up_in}
use Rattle.evc_avail.proofs.Around.{no_row}

module _ (counts : ℕ → Bool) (b : EvcBlock) (map : List ℕ) where
  pub no_up : Allowed b.pic_w b.x b.w → Allowed b.pic_h b.y b.h → b.y ≡ 0 → 0 ≡ avail_up_in counts b map
  unfolding avail_up_in is_inter_in is_not_intra_in
  no_up p q e = rw (no_row b p q (first_column b) e, no_row b p q (last_column b) e, no_row b p q (left_of b) e, no_row b p q (right_of b) e)

  pub up_flags : (up ri-up up_le up-ri : Bool) (f g i j : ℕ) → up ≡ is_not_intra_in counts b map (first_column b) (above b) → ri-up ≡ is_not_intra_in counts b map (last_column b) (above b) → up_le ≡ is_inter_in counts b map (left_of b) (above b) → up-ri ≡ is_inter_in counts b map (right_of b) (above b) → f ≡ cond up 1 0 → g ≡ cond ri-up 512 0 → i ≡ cond up_le 32 0 → j ≡ cond up-ri 64 0 → f + g + i + j ≡ avail_up_in counts b map
  unfolding avail_up_in
  up_flags up ri-up up_le up-ri f g i j p q r s t u v z = rw (t, u, v, z, sym p, sym q, sym r, sym s)
