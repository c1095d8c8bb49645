-- `evc_interp::window` meets its contract. Assumes nothing.
use mathlib.Core.Path.{ap₂, ◌∙◌}
use lib.IntN.{ℤ}
use Rattle.evc_plane.specs.Planes.{window_start}
use Rattle.evc_interp.specs.Prediction.{window_of}
use Rattle.evc_interp.proofs.window.Goals as goal

pub returns : goal.returns
unfolding window_of
returns c =
    let a = c.args in
    c.window_start.ensures ∙ ap₂ (λ (i j : ℤ). window_start a.t a.pic.w a.pic.h i j) c.start-x.ensures c.start-y.ensures
