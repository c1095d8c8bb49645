-- `evc_paths::evc_mc_one` meets its contract. The invariant: the first groups of eight columns are written. Assumes nothing.
use Prim.Native.Nat.{ℕ, ◌+◌, ◌*◌}
use mathlib.Core.Path.{◌≡◌, refl, sym, ap, ◌∙◌}
use native.Mathlib.Omega.{arith}
use Rattle.evc_int.specs.Lists.{with_block}
use Rattle.evc_int.proofs.Lists.{columns_none}
use Rattle.evc_filter.specs.Inner.{single_at}
use Rattle.evc_paths.proofs.Paths.{by_step, single_asks, single_gives, group_step, eighths}
use Rattle.evc_paths.proofs.evc_mc_one.Goals as goal

pub sample_block-requires : goal.sample_block-requires
sample_block-requires c =
    let a = c.args in
    let q = c.requires.sizes in
    let l = c.if-w-lt8.true in
    let z : a.window.at ≡ a.window.at + 0 = omega arith in
    let r = single_asks a.t a.window.plane.now a.window.at a.window.stride a.w a.h a.direction c.requires.covers.1 a.phase 0 a.w a.window.at a.pred.now _ (by_step a.t a.phase c.filter_of-f.ensures c.step.ensures) q.3 (omega arith) z c.requires.covers.0 c.requires.room in
    (r.0, r.1, refl, q.0, omega arith)

pub returns-then-w-lt8 : goal.returns-then-w-lt8
returns-then-w-lt8 c =
    let a = c.args in
    c.sample_block.ensures ∙ single_gives a.t a.window.plane.now a.window.at a.window.stride a.w a.h a.direction c.requires.covers.1 a.phase c.requires.sizes.3 a.pred.now _ (by_step a.t a.phase c.filter_of-f.ensures c.step.ensures)

pub sample_rows-requires : goal.sample_rows-requires
sample_rows-requires c =
    let a = c.args in
    let e = c.if-w-eq8.true in
    let z : a.window.at ≡ a.window.at + 0 = omega arith in
    let r = single_asks a.t a.window.plane.now a.window.at a.window.stride a.w a.h a.direction c.requires.covers.1 a.phase 0 8 a.window.at a.pred.now _ (by_step a.t a.phase c.filter_of-f.ensures c.step.ensures) c.requires.sizes.3 (omega arith) z c.requires.covers.0 c.requires.room in
    (r.0, r.1, refl)

pub returns-then-w-eq8 : goal.returns-then-w-eq8
returns-then-w-eq8 c =
    let a = c.args in
    let f = c.filter_of-f.result in
    c.sample_rows.ensures
    ∙ ap (λ (n : ℕ). with_block a.pred.now 0 a.w n a.h (λ (y x : ℕ). single_at a.window.plane.now (a.window.at + y * a.window.stride + x) f.offsets f.taps)) (sym c.if-w-eq8.true)
    ∙ single_gives a.t a.window.plane.now a.window.at a.window.stride a.w a.h a.direction c.requires.covers.1 a.phase c.requires.sizes.3 a.pred.now _ (by_step a.t a.phase c.filter_of-f.ensures c.step.ensures)

pub loop-group-init : goal.loop-group-init
loop-group-init c = let a = c.args in (omega arith, refl, sym (columns_none a.pred.now 0 a.w a.h _))

pub sample_rows-requires-in-loop-group : goal.sample_rows-requires-in-loop-group
sample_rows-requires-in-loop-group c =
    let a = c.args in
    let l = c.loop-group in
    let t = c.loop-group-test.true in
    let r = single_asks a.t a.window.plane.now a.window.at a.window.stride a.w a.h a.direction c.requires.covers.1 a.phase (8 * l.group) 8 _ l.pred _ (by_step a.t a.phase c.filter_of-f.ensures c.step.ensures) c.requires.sizes.3 (omega arith) refl c.requires.covers.0 (omega (arith, l.invariant.1, c.requires.room)) in
    (r.0, r.1, refl)

pub loop-group-preserved : goal.loop-group-preserved
loop-group-preserved c =
    let a = c.args in
    let l = c.loop-group in
    let f = c.filter_of-f.result in
    let t = c.loop-group-test.true in (
      omega arith,
      c.sample_rows-in-loop-group.auto.d ∙ l.invariant.1,
      group_step (λ (i : ℕ). single_at a.window.plane.now i f.offsets f.taps) _ _ _ _ _ _ _ 8 (8 * l.group) (8 * (l.group + 1)) (omega arith) (omega arith) l.invariant.2 c.sample_rows-in-loop-group.ensures,
    )

pub returns : goal.returns
returns c =
    let a = c.args in
    let i = c.loop-group.invariant in
    let f = c.filter_of-f.result in
    let q = c.requires.sizes in
    let l = c.if-w-lt8.false in
    let t = c.loop-group-test.false in
    let e : 8 * c.loop-group.group ≡ a.w = omega (arith, i.0, eighths a.w q.0 (omega arith)) in
    i.2
    ∙ ap (λ (n : ℕ). with_block a.pred.now 0 a.w n a.h (λ (y x : ℕ). single_at a.window.plane.now (a.window.at + y * a.window.stride + x) f.offsets f.taps)) e
    ∙ single_gives a.t a.window.plane.now a.window.at a.window.stride a.w a.h a.direction c.requires.covers.1 a.phase q.3 a.pred.now _ (by_step a.t a.phase c.filter_of-f.ensures c.step.ensures)
