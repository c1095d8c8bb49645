-- What is returned with a number: a refusal reports nothing, and an accepted call what clipping did. Assumes nothing.
use mathlib.Core.Path.{◌≡◌, sym}
use Prim.Native.Nat.{ℕ}
use borrow.Author.Tests.{ne_eqb}
use Rattle.evc_def.specs.declared.EvcBlock.{EvcBlock}
use Rattle.evc_clip.specs.Clip.{nothing_moved}
use Rattle.evc_clip.specs.declared.EvcMoved.{EvcMoved}
use Rattle.evc_mc.specs.Block.{list_moved, answered}
use Rattle.evc_mc.specs.declared.EvcList.{EvcList}
use Rattle.evc_mc.specs.declared.EvcPredicted.{EvcPredicted}

module _ (b : EvcBlock) (l m : EvcList) (code number : ℕ) (e : number ≡ code) where
  pub silent : (number ≡ 0 → ⊥) → (r : EvcPredicted) → r ≡ record { code = number; moved0 = nothing_moved; moved1 = nothing_moved } → r ≡ answered code b l m
  silent n r f = rw (sym e, ne_eqb number 0 n) f

  pub reports : code ≡ 0 → (s t : EvcMoved) → s ≡ list_moved b l → t ≡ list_moved b m → record { code = number; moved0 = s; moved1 = t } ≡ answered code b l m
  reports z s t f g = rw (e, z, f, g)
