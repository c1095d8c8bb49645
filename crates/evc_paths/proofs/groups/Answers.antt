-- `evc_paths::groups` meets its contract. The invariant: the first groups of eight columns are written. Assumes nothing.
use Prim.Native.Nat.{ℕ, ◌+◌, ◌*◌}
use mathlib.Core.Path.{refl, sym, ◌∙◌}
use native.Mathlib.Omega.{arith}
use lib.ListN.{length-replicate}
use Rattle.evc_int.proofs.Lists.{columns_none}
use Rattle.evc_filter.specs.Filter.{reach, interpolated_twice}
use Rattle.evc_paths.proofs.Paths.{part_within, group_step}
use Rattle.evc_paths.proofs.groups.Goals as goal

pub loop-group-init : goal.loop-group-init
loop-group-init g c = let a = c.args in (omega arith, length-replicate _ _, refl, sym (columns_none a.pred.now 0 a.w a.h _))

pub columns-requires-in-loop-group-clause-covers : goal.columns-requires-in-loop-group-clause-covers
columns-requires-in-loop-group-clause-covers g c =
    let a = c.args in
    let l = c.loop-group in
    let t = c.loop-group-test.true in
    (omega (arith, c.requires.covers.0), part_within a.window.now.plane.now a.window.now.at a.window.now.stride a.w (reach a.t) (a.h + reach a.t) (8 * l.group) 8 (omega arith) c.requires.covers.1)

pub loop-group-preserved : goal.loop-group-preserved
loop-group-preserved g c =
    let l = c.loop-group in
    let a = c.args in
    let t = c.loop-group-test.true in (
      omega arith,
      c.columns-in-loop-group.auto.m ∙ l.invariant.1,
      c.columns-in-loop-group.auto.pred ∙ l.invariant.2,
      group_step (λ (i : ℕ). interpolated_twice a.t a.dx a.dy a.window.now.plane.now i a.window.now.stride) _ _ _ _ _ _ _ 8 (8 * l.group) (8 * (l.group + 1)) (omega arith) (omega arith) l.invariant.3 c.columns-in-loop-group.ensures,
    )
