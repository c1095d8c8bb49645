-- A law beside the contract of direct vectors: they are the exact quotients, where all four fit sixteen bits. Assumes nothing.
use mathlib.Core.Path.{◌≡◌}
use mir.Syntax.{w16}
use mir.Val.{SFits}
use Rattle.evc_int.proofs.LowBits.{low16_same}
use Rattle.evc_def.specs.declared.EvcMv.{EvcMv}
use Rattle.evc_direct.specs.Direct.{exact_quotients, direct_vectors}
use Rattle.evc_direct.specs.declared.Pocs.{Pocs}

module _ (p : Pocs) (mv : EvcMv) where
  pub direct_exact : let q = exact_quotients p mv in SFits w16 q.x0 → SFits w16 q.y0 → SFits w16 q.x1 → SFits w16 q.y1 → direct_vectors p mv ≡ record { code = 0; mv0 = record { x = q.x0; y = q.y0 }; mv1 = record { x = q.x1; y = q.y1 } }
  unfolding direct_vectors
  direct_exact a b c d = rw (low16_same _ a, low16_same _ b, low16_same _ c, low16_same _ d)
