-- `evc_direct::poc_too_large` meets its contract. Assumes nothing.
use mathlib.Core.Path.{refl}
use Rattle.evc_direct.specs.Direct.{poc_too_large}
use Rattle.evc_direct.proofs.poc_too_large.Goals as goal

pub returns : goal.returns
unfolding poc_too_large
returns c = refl
