-- `evc_direct::direct_vectors` meets its contract: zeros where co is 0, else four scaled components. Assumes nothing.
use mathlib.Core.Path.{◌≡◌, ap₂, ◌∙◌}
use native.Mathlib.Omega.{arith}
use borrow.Author.Tests.{eq-eqb, ne_eqb}
use lib.IntN.{ℤ, pos, ◌-ℤ◌}
use Rattle.evc_int.specs.LowBits.{low16}
use Rattle.evc_int.proofs.Expressions.{ !, ◌⊖◌, neg, solve}
use Rattle.evc_def.specs.declared.EvcMv.{EvcMv}
use Rattle.evc_direct.specs.Direct.{dpoc_co, dpoc0, dpoc1, exact_quotient, exact_quotients, low_mv, direct_vectors}
use Rattle.evc_direct.specs.declared.Pocs.{Pocs}
use Rattle.evc_direct.proofs.direct_vectors.Goals as goal

-- a vector scaled by a distance
abbrev scaled_by : ℤ → ℤ → EvcMv → EvcMv
scaled_by dpoc co mv = low_mv (exact_quotient dpoc mv.x co) (exact_quotient dpoc mv.y co)

module _ (p : Pocs) (mv : EvcMv) where
  zeros : (r s : EvcMv) → (r.x ≡ pos 0) × (r.y ≡ pos 0) → (s.x ≡ pos 0) × (s.y ≡ pos 0) → p.poc1 ≡ p.list_poc0 → record { code = 0; mv0 = r; mv1 = s } ≡ direct_vectors p mv
  unfolding direct_vectors exact_quotients low16
  zeros r s d f e = rw (eq-eqb p.poc1 p.list_poc0 e, d.0, d.1, f.0, f.1)

  both : (r s : EvcMv) → (p.poc1 ≡ p.list_poc0 → ⊥) → r ≡ scaled_by (dpoc0 p) (dpoc_co p) mv → s ≡ scaled_by (dpoc1 p) (dpoc_co p) mv → record { code = 0; mv0 = r; mv1 = s } ≡ direct_vectors p mv
  unfolding direct_vectors exact_quotients
  both r s n e f = rw (ne_eqb p.poc1 p.list_poc0 n, e, f)

  -- -(poc1 - poc) is the distance the other way round
  turned : pos p.poc -ℤ pos p.poc1 ≡ dpoc1 p
  turned = solve (! (pos p.poc) ⊖ ! (pos p.poc1)) (neg (! (pos p.poc1) ⊖ ! (pos p.poc))) (omega arith)

pub returns-then-p : goal.returns-then-p
returns-then-p c = zeros c.args.p c.args.mv _ _ c.default.ensures.0 c.default.ensures.1 c.if-p.true

pub returns : goal.returns
returns c =
    both c.args.p c.args.mv _ _ c.if-p.false
    (c.scaled_mv.ensures ∙ ap₂ (λ (a b : ℤ). scaled_by a b c.args.mv) c.new.ensures c.new-co.ensures)
    (c.scaled_mv-2.ensures ∙ ap₂ (λ (a b : ℤ). scaled_by a b c.args.mv) (c.new-2.ensures ∙ turned c.args.p c.args.mv) c.new-co.ensures)
