-- `evc_interp::lead` meets its contract. Assumes nothing.
use mathlib.Core.Path.{sym, ap}
use lib.IntN.{pos}
use Rattle.evc_filter.specs.Filter.{lead}
use Rattle.evc_plane.specs.declared.PlaneType.{PlaneType}
use Rattle.evc_interp.proofs.lead.Goals as goal

pub returns-in-Y : goal.returns-in-Y
returns-in-Y c = sym (ap (λ (t : PlaneType). pos (lead t)) c.in-Y.is)

pub returns-in-UV : goal.returns-in-UV
returns-in-UV c = sym (ap (λ (t : PlaneType). pos (lead t)) c.in-UV.is)
