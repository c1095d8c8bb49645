-- `evc_record::motion` meets its contract. Assumes nothing.
use mathlib.Core.Bool.{Bool, true, false}
use mathlib.Core.List.{List}
use mathlib.Core.Path.{◌≡◌, refl, sym, ap, ap₂, ◌∙◌}
use Prim.Native.Nat.{ℕ}
use denote.Enum.Bare.{sameb}
use lib.Dec.{eqb}
use lib.IntN.{ℤ}
use Rattle.evc_def.specs.declared.EvcBlock.{EvcBlock}
use Rattle.evc_direct.specs.Direct.{get_mv_dir}
use Rattle.evc_direct.specs.declared.EvcDirect.{EvcDirect}
use Rattle.evc_direct.specs.declared.Pocs.{Pocs}
use Rattle.evc_trace.specs.Kinds.{byte_of}
use Rattle.evc_trace.specs.contracts.Kind.{the_type}
use Rattle.evc_trace.specs.declared.Kind.{Kind}
use Rattle.evc_trace.specs.declared.Kind.TheVariants.{List0, List1, Both, Direct}
use Rattle.evc_trace.specs.declared.TraceHeader.{TraceHeader}
use Rattle.evc_trace.specs.declared.EvcTraceRecord.{EvcTraceRecord}
use Rattle.evc_record.specs.Record.{block_of, pocs_of, motion_of}
use Rattle.evc_record.proofs.motion.Goals as goal

-- the test of the kind is that of its byte
is_3 : (n : ℕ) (kind : Kind) (t : Bool) → n ≡ byte_of kind → t ≡ sameb the_type kind Direct → eqb n 3 ≡ t
is_3 n kind t e q = ap (λ (n : ℕ). eqb n 3) e ∙ by_kind kind ∙ sym q
  where
    by_kind : (kind : Kind) → eqb (byte_of kind) 3 ≡ sameb the_type kind Direct
    by_kind List0 = refl
    by_kind List1 = refl
    by_kind Both = refl
    by_kind Direct = refl

module _ (h : TraceHeader) (has : Bool) (col : List ℤ) (r : EvcTraceRecord) where
  direct : (b : EvcBlock) (p : Pocs) (m : EvcDirect) → eqb r.kind 3 ≡ true → b ≡ block_of h r → p ≡ pocs_of h r → m ≡ get_mv_dir b p has col → m ≡ motion_of h has col r
  unfolding motion_of
  direct b p m k e f g = rw k (g ∙ ap₂ (λ (b : EvcBlock) (p : Pocs). get_mv_dir b p has col) e f)

  own : eqb r.kind 3 ≡ false → record { code = 0; mv0 = r.mv0; mv1 = r.mv1 } ≡ motion_of h has col r
  unfolding motion_of
  own k = rw k

pub returns-then-eq : goal.returns-then-eq
returns-then-eq c = direct _ _ _ _ _ _ _ (is_3 _ _ _ c.args.r.kind_is c.eq.ensures ∙ c.if-eq.true) c.block_of.ensures c.pocs_of.ensures c.get_mv_dir.ensures

pub returns : goal.returns
returns c = own _ _ _ _ (is_3 _ _ _ c.args.r.kind_is c.eq.ensures ∙ c.if-eq.false)
