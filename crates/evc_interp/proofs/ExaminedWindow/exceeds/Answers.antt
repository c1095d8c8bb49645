-- `evc_interp::ExaminedWindow::exceeds` meets its contract. Assumes nothing.
use mathlib.Core.Path.{◌∙◌}
use native.Mathlib.Omega.{arith}
use Rattle.evc_interp.proofs.Windows.{side, stride_is, examined_asks, examined_is}
use Rattle.evc_interp.proofs.ExaminedWindow.exceeds.Goals as goal

pub window_exceeds-requires : goal.window_exceeds-requires
window_exceeds-requires c =
    let a = c.args.self in
    let w = side a.t a.w a.w_side in
    let h = side a.t a.h a.h_side in
    examined_asks a.t _ _ a.gmv _ _ _ _ _ a.pic.accepted c.requires c.window.ensures (stride_is _ _ _ _ c.plane_config-c.ensures)
    (omega (arith, w.room, h.room, w.wide, h.wide, c.rows_more-more.ensures))

pub returns : goal.returns
returns c =
    let a = c.args.self in
    c.window_exceeds.ensures ∙ examined_is a.t a.pic.w a.pic.h a.gmv a.w a.h c.args.plane.now _ _ _ c.window.ensures (stride_is _ _ _ _ c.plane_config-c.ensures) c.rows_more-more.ensures

pub overflow_add-self : goal.overflow_add-self
overflow_add-self c = let a = c.args.self in let w = side a.t a.w a.w_side in record { fits = omega (arith, w.total, c.rows_more-more.ensures) }
