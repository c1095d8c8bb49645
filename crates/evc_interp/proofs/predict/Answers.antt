-- `evc_interp::predict` meets its contract: each path reads only what it may, and gives the samples of the definition. Assumes nothing.
use mathlib.Core.Path.{◌≡◌, sym, ap, subst, ◌∙◌}
use mathlib.Core.Bool.{cond}
use mathlib.Core.List.{List}
use Prim.Native.Nat.{ℕ, ◌+◌, ◌*◌, ◌≤◌, ◌<◌}
use native.Mathlib.Omega.{arith}
use lib.ListN.{length}
use Rattle.evc_int.specs.Lists.{with_block}
use Rattle.evc_plane.specs.declared.PlaneType.{PlaneType}
use Rattle.evc_filter.specs.Filter.{reach}
use Rattle.evc_paths.specs.Inner.{Within, along, is_across, is_down}
use Rattle.evc_paths.specs.declared.Direction.{Direction}
use Rattle.evc_paths.specs.declared.Direction.TheVariants.{Across, Down}
use Rattle.evc_paths.specs.declared.Path.{Path}
use Rattle.evc_paths.specs.declared.Path.TheVariants.{Whole, One, Both}
use Rattle.evc_interp.specs.Prediction.{sample_by}
use Rattle.evc_interp.specs.Inner.{Readable, sample_from}
use Rattle.evc_interp.specs.declared.Position.{Position}
use Rattle.evc_interp.proofs.Windows.{one_path}
use Rattle.evc_interp.proofs.predict.Goals as goal

module _ (t : PlaneType) (p : Position) (w h : ℕ) (s d : List ℕ) where
  module _ (g : Readable t p w h s) where
    asks : (q : Path) → p.path ≡ q
        → (p.at + (h + cond (is_down q) (reach t) 0) * p.stride + (w + cond (is_across q) (reach t) 0) ≤ length s + p.stride)
        × Within s p.at p.stride (w + cond (is_across q) (reach t) 0) (h + cond (is_down q) (reach t) 0)
    asks q e = (
      subst (λ (q : Path). p.at + (h + cond (is_down q) (reach t) 0) * p.stride + (w + cond (is_across q) (reach t) 0) ≤ length s + p.stride) e g.inside,
      subst (λ (q : Path). Within s p.at p.stride (w + cond (is_across q) (reach t) 0) (h + cond (is_down q) (reach t) 0)) e g.within,
    )

    one_asks : (f : Direction) → p.path ≡ One f
        → (p.at + (h + along f 0 (reach t)) * p.stride + (w + along f (reach t) 0) ≤ length s + p.stride)
        × Within s p.at p.stride (w + along f (reach t) 0) (h + along f 0 (reach t))
    one_asks Across e = asks (One Across) e
    one_asks Down e = asks (One Down) e

  gives : (q : Path) → p.path ≡ q → with_block d 0 w w h (λ (y x : ℕ). sample_by t (is_across q) (is_down q) p.dx p.dy s (p.at + y * p.stride + x) p.stride) ≡ with_block d 0 w w h (sample_from t p s)
  gives q e = ap (λ (q : Path). with_block d 0 w w h (λ (y x : ℕ). sample_by t (is_across q) (is_down q) p.dx p.dy s (p.at + y * p.stride + x) p.stride)) (sym e)

chosen : (f : Direction) (r x y n : ℕ) → r ≡ along f x y → x < n → y < n → r < n
chosen Across r x y n e lx ly = omega arith
chosen Down r x y n e lx ly = omega arith

pub evc_mc_00-requires : goal.evc_mc_00-requires
evc_mc_00-requires c =
    let a = c.args in
    let g = c.requires.0 in
    let r = asks a.t a.p.now a.w a.h a.plane.now a.pred.now g Whole c.in-Whole.is in
    (omega (arith, r.0), c.requires.1, g.width)

pub evc_mc_one-requires : goal.evc_mc_one-requires
evc_mc_one-requires c =
    let a = c.args in
    let g = c.requires.0 in
    let f = c.in-One.direction in
    record { covers = one_asks a.t a.p.now a.w a.h a.plane.now a.pred.now g f c.in-One.is; room = c.requires.1; sizes = (g.width, g.narrow, g.some, chosen f _ _ _ _ c.phase.ensures g.dx_phase g.dy_phase, g.stride_small) }

pub evc_mc_nn-requires : goal.evc_mc_nn-requires
evc_mc_nn-requires c =
    let a = c.args in
    let g = c.requires.0 in
    record { covers = asks a.t a.p.now a.w a.h a.plane.now a.pred.now g Both c.in-Both.is; room = c.requires.1; sizes = (g.width, g.narrow, g.height, g.high, g.dx_phase, g.dy_phase) }

pub returns-in-Whole : goal.returns-in-Whole
unfolding sample_by
returns-in-Whole c = let a = c.args in c.evc_mc_00.ensures ∙ gives a.t a.p.now a.w a.h a.plane.now a.pred.now Whole c.in-Whole.is

pub returns-in-One : goal.returns-in-One
returns-in-One c =
    let a = c.args in
    let f = c.in-One.direction in
    c.evc_mc_one.ensures ∙ one_path a.t f _ _ _ a.plane.now a.pred.now a.w a.h _ _ c.phase.ensures ∙ gives a.t a.p.now a.w a.h a.plane.now a.pred.now (One f) c.in-One.is

pub returns-in-Both : goal.returns-in-Both
unfolding sample_by
returns-in-Both c = let a = c.args in c.evc_mc_nn.ensures ∙ gives a.t a.p.now a.w a.h a.plane.now a.pred.now Both c.in-Both.is
