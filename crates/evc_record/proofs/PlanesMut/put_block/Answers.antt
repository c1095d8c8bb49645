-- `evc_record::PlanesMut::put_block` meets its contract. Assumes nothing.
use mathlib.Core.Path.{refl}
use native.Mathlib.Omega.{arith}
use Rattle.evc_mc.specs.Block.{luma, cb, cr}
use Rattle.evc_record.specs.Record.{target_of}
use Rattle.evc_record.proofs.Places.{long_enough, component_in, component_put}
use Rattle.evc_record.proofs.PlanesMut.put_block.Goals as goal

pub put_component-requires : goal.put_component-requires
put_component-requires c =
    let a = c.args in (component_in a.b.given a.b.checked luma _ c.requires.pred_len_in_bounds, (long_enough _ _ (target_of a.self.now) c.requires.long_enough).0)

pub put_component-requires-2 : goal.put_component-requires-2
put_component-requires-2 c =
    let a = c.args in (omega (arith, component_in a.b.given a.b.checked cb _ c.requires.pred_len_in_bounds, c.cu_dim_offset-offset_u.ensures), (long_enough _ _ (target_of a.self.now) c.requires.long_enough).1)

pub put_component-requires-3 : goal.put_component-requires-3
put_component-requires-3 c =
    let a = c.args in (omega (arith, component_in a.b.given a.b.checked cr _ c.requires.pred_len_in_bounds, c.cu_dim_offset-offset_v.ensures), (long_enough _ _ (target_of a.self.now) c.requires.long_enough).2)

pub returns : goal.returns
returns c =
    let a = c.args in
    let b = a.b.given in record { y_after = component_put b luma a.self.now.y.now _ a.pred.now _ refl c.put_component.ensures; u_after = component_put b cb a.self.now.u.now _ a.pred.now _ c.cu_dim_offset-offset_u.ensures c.put_component-2.ensures; v_after = component_put b cr a.self.now.v.now _ a.pred.now _ c.cu_dim_offset-offset_v.ensures c.put_component-3.ensures; same_planes = record { y = refl; u = refl; v = refl } }
