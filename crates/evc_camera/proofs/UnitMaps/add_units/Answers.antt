-- `evc_camera::UnitMaps::add_units` meets its contract. The invariant: the sums are those over the first i units. Assumes nothing.
use mathlib.Core.Bool.{◌||◌}
use native.Mathlib.Omega.{arith}
use Rattle.evc_camera.proofs.Units.{within_more, one_more}
use Rattle.evc_camera.proofs.UnitMaps.add_units.Goals as goal

pub loop-i-preserved : goal.loop-i-preserved
loop-i-preserved c =
    let l = c.loop-i in
    let all = c.requires.s_value.2 in
    let e = c.add_mv-sums.ensures in (
      one_more _ _ _ _ _ _ _ _ l.invariant.0 c.counts.ensures (λ t. all t l.i (omega arith) (omega arith)) c.mv_at-mv.ensures e.0,
      within_more _ _ (c.args.all || c.counts.result) c.mv_at-mv.result _ l.invariant.1 e.0 e.1 e.2,
    )
