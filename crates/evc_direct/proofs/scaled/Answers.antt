-- `evc_direct::scaled` meets its contract: the product is at most max_poc * 32768, and the quotient no larger. Assumes nothing.
use mathlib.Core.Path.{◌∙◌}
use lib.Dec.{lit<}
use lib.IntN.{ℤ, ◌*ℤ◌}
use lib.Signed.{quot_z}
use mir.Syntax.{w16, w32}
use mir.Val.{SFits}
use mir.Facts.{to_z-of_z, sfits_widen}
use Rattle.evc_int.proofs.Whole.{abs_mul_le}
use Rattle.evc_int.proofs.Division.{abs_quot_le}
use Rattle.evc_int.proofs.Machine.{fit_abs, rng_abs, res}
use Rattle.evc_direct.specs.declared.Dpoc.{Dpoc}
use Rattle.evc_direct.proofs.scaled.Goals as goal

module _ (d : Dpoc) where
  counts_fit : SFits w32 d.counts
  counts_fit = fit_abs d.small (lit< tt)

  product_fits : (v : ℤ) → SFits w16 v → SFits w32 (d.counts *ℤ v)
  product_fits v f = fit_abs (abs_mul_le d.counts v d.small (rng_abs f)) (lit< tt)

  quotient_fits : (v : ℤ) (co : Dpoc) → SFits w16 v → SFits w32 (quot_z (d.counts *ℤ v) co.counts)
  quotient_fits v co f = fit_abs (abs_quot_le (d.counts *ℤ v) co.counts (abs_mul_le d.counts v d.small (rng_abs f))) (lit< tt)

pub returns : goal.returns
returns c =
    let d = c.args.d in
    let co = c.args.co in
    let f = c.ranges.v in
    res w16 c.low16.type_inv
    ∙ simp (to_z-of_z f, to_z-of_z (counts_fit d), to_z-of_z (counts_fit co), to_z-of_z (sfits_widen {w = w16} {w' = w32} tt f), to_z-of_z (product_fits d _ f), to_z-of_z (quotient_fits d _ co f)) at c.low16.ensures
