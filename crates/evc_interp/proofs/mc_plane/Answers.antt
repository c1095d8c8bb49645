-- `evc_interp::mc_plane` meets its contract: refused and untouched, or predicted. Assumes nothing.
use mathlib.Core.Path.{ap, ◌≡◌, sym, ap₂, ◌∙◌}
use mathlib.Core.Bool.{Bool, not, ◌&&◌}
use native.Mathlib.Nat.{mul_comm}
use native.Mathlib.Omega.{arith}
use borrow.Author.Tests.{ltb-false}
use Rattle.std.proofs.lemmas.Bool.{or_parts}
use Rattle.evc_plane.specs.declared.PlaneType.{PlaneType}
use Prim.Native.Nat.{ℕ}
use Rattle.evc_interp.specs.Prediction.{is_side}
use Rattle.evc_interp.proofs.Windows.{accepts, readable, predicts}
use Rattle.evc_interp.proofs.Codes.{code_2, code_4, code_6, code_0, size, untouched, after}
use Rattle.evc_interp.proofs.mc_plane.Goals as goal

-- the test of both sides is that of the definition
tested : (t : PlaneType) (w h : ℕ) (p q r : Bool) → p ≡ is_side t w → q ≡ is_side t h → (p && q) ≡ r → not (is_side t w && is_side t h) ≡ not r
tested t w h p q r e f g = ap not (sym (ap₂ (λ (p q : Bool). p && q) e f) ∙ g)

pub returns-then-not-is_side : goal.returns-then-not-is_side
returns-then-not-is_side c =
    let bad = tested c.args.t c.args.w c.args.h _ _ _ c.is_side.ensures c.is_side-2.ensures c.if-not-is_side.true in
    let parts = untouched c.args.t _ _ _ _ _ _ _ _ 2 (omega arith) (code_2 c.args.t _ _ _ _ _ _ _ c.args.pic.accepted bad) in
    record { value = parts.0; pred_after = parts.1 }

pub is_short-requires : goal.is_short-requires
is_short-requires c = size c.args.t c.args.w c.args.h (tested c.args.t c.args.w c.args.h _ _ _ c.is_side.ensures c.is_side-2.ensures c.if-not-is_side.false)

pub returns-then-is_short : goal.returns-then-is_short
returns-then-is_short c =
    let allowed = tested c.args.t c.args.w c.args.h _ _ _ c.is_side.ensures c.is_side-2.ensures c.if-not-is_side.false in
    let parts = untouched c.args.t _ _ _ _ _ _ _ _ 4 (omega arith) (code_4 c.args.t _ _ _ _ _ _ _ c.args.pic.accepted allowed (sym c.is_short.ensures ∙ c.if-is_short.true)) in
    record { value = parts.0; pred_after = parts.1 }

pub exceeds-requires : goal.exceeds-requires
exceeds-requires c = ltb-false _ _ (or_parts _ _ (sym c.is_short.ensures ∙ c.if-is_short.false)).0

pub returns-then-exceeds : goal.returns-then-exceeds
returns-then-exceeds c =
    let allowed = tested c.args.t c.args.w c.args.h _ _ _ c.is_side.ensures c.is_side-2.ensures c.if-not-is_side.false in
    let long = sym c.is_short.ensures ∙ c.if-is_short.false in
    let parts = untouched c.args.t _ _ _ _ _ _ _ _ 6 (omega arith) (code_6 c.args.t _ _ _ _ _ _ _ c.args.pic.accepted allowed long (sym c.exceeds.ensures ∙ c.if-exceeds.true)) in
    record { value = parts.0; pred_after = parts.1 }

pub predict-requires : goal.predict-requires
predict-requires c =
    let allowed = tested c.args.t c.args.w c.args.h _ _ _ c.is_side.ensures c.is_side-2.ensures c.if-not-is_side.false in
    let long = sym c.is_short.ensures ∙ c.if-is_short.false in
    let done = code_0 c.args.t _ _ _ _ _ _ _ c.args.pic.accepted allowed long (sym c.exceeds.ensures ∙ c.if-exceeds.false) in
    let g = accepts c.args.t _ _ _ _ _ _ _ (sym done) in
    (readable c.args.t _ _ _ _ _ _ _ c.position_of-p.result c.position_of-p.ensures c.args.pred.now g, omega (arith, g.room, mul_comm c.args.w c.args.h))

pub returns : goal.returns
returns c =
    let allowed = tested c.args.t c.args.w c.args.h _ _ _ c.is_side.ensures c.is_side-2.ensures c.if-not-is_side.false in
    let long = sym c.is_short.ensures ∙ c.if-is_short.false in
    let done = code_0 c.args.t _ _ _ _ _ _ _ c.args.pic.accepted allowed long (sym c.exceeds.ensures ∙ c.if-exceeds.false) in
    let p = c.position_of-p in
    record { value = done; pred_after = c.predict.ensures ∙ predicts c.args.t _ _ _ _ _ _ _ p.result p.ensures _ _ ∙ sym (after c.args.t _ _ _ _ _ _ _ _ (sym done)) }
