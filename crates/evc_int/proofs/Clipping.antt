-- `clip3` is one of its three values. Assumes nothing.
use mathlib.Core.Bool.{cond}
use lib.IntN.{ℤ}
use lib.Signed.{lt_z}
use Rattle.std.proofs.lemmas.Bool.{cond_both}
use Rattle.evc_int.specs.Whole.{clip3}

-- what holds of all three values holds of the one
pub clip3_one : (lo hi z : ℤ) (P : ℤ → Type 0) → P lo → P hi → P z → P (clip3 lo hi z)
unfolding clip3
clip3_one lo hi z P p q r = cond_both (lt_z z lo) lo (cond (lt_z hi z) hi z) P (λ _. p) (λ _. cond_both (lt_z hi z) hi z P (λ _. q) (λ _. r))
