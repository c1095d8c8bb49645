-- `evc_inter::evc_pad` meets its contract: `pad` at the plane type of the flag. Assumes nothing.
use mathlib.Core.Path.{ap, ◌∙◌}
use Rattle.evc_plane.specs.declared.PlaneType.{PlaneType}
use Rattle.evc_pad.specs.Padding.{pad_code, pad_after}
use Rattle.evc_inter.proofs.evc_pad.Goals as goal

pub returns : goal.returns
returns c =
    let a = c.args in
    let e = c.plane_type.ensures in record { value = c.code.ensures ∙ c.pad.ensures.value ∙ ap (λ (k : PlaneType). pad_code k a.pic_w a.pic_h a.plane.now) e; plane_after = c.pad.ensures.plane_after ∙ ap (λ (k : PlaneType). pad_after k a.pic_w a.pic_h a.plane.now) e }
