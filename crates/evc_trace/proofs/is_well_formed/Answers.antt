-- `evc_trace::is_well_formed` meets its contract. Assumes nothing.
use mathlib.Core.Bool.{Bool, true, false, ◌&&◌}
use mathlib.Core.Path.{◌≡◌, ap, ◌∙◌}
use Prim.Native.Nat.{◌<◌}
use borrow.Author.Tests.{lt-leb}
use lib.Dec.{eqb}
use lib.IntN.{pos}
use Rattle.std.proofs.Common.{int_eq}
use Rattle.std.proofs.Math.Bool.{and-true}
use Rattle.evc_int.proofs.Whole.{int_eq_is}
use Rattle.evc_def.specs.declared.EvcMv.{EvcMv}
use Rattle.evc_trace.specs.Format.{is_zero_mv, is_well_formed}
use Rattle.evc_trace.specs.Kinds.{byte_of}
use Rattle.evc_trace.specs.declared.EvcTraceRecord.{EvcTraceRecord}
use Rattle.evc_trace.proofs.is_well_formed.Goals as goal

-- a vector that equals the default one
zero : (mv z : EvcMv) (t : Bool) → t ≡ (int_eq mv.x z.x && int_eq mv.y z.y) → (z.x ≡ pos 0) × (z.y ≡ pos 0) → t ≡ is_zero_mv mv
zero mv z t e d = rw (e, d.0, d.1, int_eq_is mv.x (pos 0), int_eq_is mv.y (pos 0))

module _ (r : EvcTraceRecord) where
  list0 : (b : Bool) → b ≡ is_zero_mv r.mv1 → r.kind ≡ 0 → (b && eqb r.poc1 0) ≡ is_well_formed r
  unfolding is_well_formed
  list0 b q k = simp (k, q, and-true)

  list1 : (a : Bool) → a ≡ is_zero_mv r.mv0 → r.kind ≡ 1 → (a && eqb r.poc0 0) ≡ is_well_formed r
  unfolding is_well_formed
  list1 a p k = simp (k, p, and-true)

  both : r.kind ≡ 2 → true ≡ is_well_formed r
  unfolding is_well_formed
  both k = rw k

  direct : (a b : Bool) → a ≡ is_zero_mv r.mv0 → b ≡ is_zero_mv r.mv1 → r.kind ≡ 3 → (a && b) ≡ is_well_formed r
  unfolding is_well_formed
  direct a b p q k = rw (k, p, q)

above : (r : EvcTraceRecord) → 3 < r.kind → false ≡ is_well_formed r
unfolding is_well_formed
above r l = rw (lt-leb r.kind 3 l)

pub returns-in-Ok-List0 : goal.returns-in-Ok-List0
returns-in-Ok-List0 c = list0 _ _ (zero _ _ _ c.eq-zero1.ensures c.default-2.ensures) (c.in-Ok-List0.ensures ∙ ap byte_of c.in-Ok-List0.field-0-is)

pub returns-in-Ok-List1 : goal.returns-in-Ok-List1
returns-in-Ok-List1 c = list1 _ _ (zero _ _ _ c.eq-zero0.ensures c.default.ensures) (c.in-Ok-List1.ensures ∙ ap byte_of c.in-Ok-List1.field-0-is)

pub returns-in-Ok-Both : goal.returns-in-Ok-Both
returns-in-Ok-Both c = both _ (c.in-Ok-Both.ensures ∙ ap byte_of c.in-Ok-Both.field-0-is)

pub returns-in-Ok-Direct : goal.returns-in-Ok-Direct
returns-in-Ok-Direct c =
    direct _ _ _ (zero _ _ _ c.eq-zero0.ensures c.default.ensures) (zero _ _ _ c.eq-zero1.ensures c.default-2.ensures) (c.in-Ok-Direct.ensures ∙ ap byte_of c.in-Ok-Direct.field-0-is)

pub returns-in-Err : goal.returns-in-Err
returns-in-Err c = above _ c.in-Err.ensures.0
