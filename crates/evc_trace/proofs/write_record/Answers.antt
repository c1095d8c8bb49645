-- `evc_trace::write_record` meets its contract. Assumes nothing.
use mathlib.Core.Bool.{true, false, not}
use mathlib.Core.List.{List}
use mathlib.Core.Path.{◌≡◌, sym, ap, ◌∙◌}
use Prim.Native.Nat.{ℕ, ◌≤◌, ◌<◌}
use native.Mathlib.Omega.{arith}
use borrow.Author.Tests.{lt-ltb, le-ltb}
use lib.ListN.{length}
use Rattle.evc_def.specs.Blocks.{bad_picture}
use Rattle.std.proofs.lemmas.Result.{err_from_is_err_and}
use Rattle.evc_def.specs.Codes.{first_of, picture_checks}
use Rattle.evc_def.specs.Refusals.{number_of}
use Rattle.evc_def.specs.declared.refusal.Refusal.{Refusal}
use Rattle.evc_def.proofs.Codes.{accepted, refused, passed, none, stops}
use Rattle.evc_def.proofs.Refusals.{not_0}
use Rattle.evc_trace.specs.Format.{is_well_formed, write_record_code}
use Rattle.evc_trace.specs.declared.EvcTraceRecord.{EvcTraceRecord}
use Rattle.evc_trace.proofs.Written.{kept, wrote}
use Rattle.evc_trace.proofs.write_record.Goals as goal

module _ (W H : ℕ) (r : EvcTraceRecord) (d : List ℕ) where
  picture : (x : Refusal) → number_of x ≡ first_of (picture_checks W H) → number_of x ≡ write_record_code W H r d
  unfolding write_record_code
  picture x e = e ∙ sym (stops (picture_checks W H) _ (λ z. not_0 x (e ∙ z)))

  code_4 : bad_picture W H ≡ false → length d < 22 → 4 ≡ write_record_code W H r d
  unfolding write_record_code
  code_4 e l = sym (passed _ _ _ e ∙ refused _ _ _ (lt-ltb _ _ l))

  code_12 : bad_picture W H ≡ false → 22 ≤ length d → not (is_well_formed r) ≡ true → 12 ≡ write_record_code W H r d
  unfolding write_record_code
  code_12 e l f = sym (passed _ _ _ e ∙ passed _ _ _ (le-ltb _ _ l) ∙ refused _ _ _ f)

  code_0 : bad_picture W H ≡ false → 22 ≤ length d → not (is_well_formed r) ≡ false → 0 ≡ write_record_code W H r d
  unfolding write_record_code
  code_0 e l f = sym (passed _ _ _ e ∙ passed _ _ _ (le-ltb _ _ l) ∙ passed _ _ _ f ∙ none)

pub returns-in_err-new : goal.returns-in_err-new
returns-in_err-new c =
    let p = err_from_is_err_and c.from_residual.result c.from_residual.ensures.1 in
    let e = picture _ _ _ _ _ c.in_err-new.ensures.code in
    rw (p.1, p.2) (record { value = e; out_after = kept _ _ _ _ e (not_0 _) })

pub returns-then-out-lt-RECORD_LEN : goal.returns-then-out-lt-RECORD_LEN
returns-then-out-lt-RECORD_LEN c = let e = code_4 _ _ _ _ (accepted 1 _ _ (omega arith) (sym c.in_ok-new.ensures.code)).0 c.if-out-lt-RECORD_LEN.true in record { value = e; out_after = kept _ _ _ _ e (λ z. omega arith) }

pub returns-then-not-is_well_formed : goal.returns-then-not-is_well_formed
returns-then-not-is_well_formed c = let e = code_12 _ _ _ _ (accepted 1 _ _ (omega arith) (sym c.in_ok-new.ensures.code)).0 c.if-out-lt-RECORD_LEN.false (ap not (sym c.is_well_formed.ensures ∙ c.if-not-is_well_formed.true)) in record { value = e; out_after = kept _ _ _ _ e (λ z. omega arith) }

pub returns : goal.returns
returns c = let e = code_0 _ _ _ _ (accepted 1 _ _ (omega arith) (sym c.in_ok-new.ensures.code)).0 c.if-out-lt-RECORD_LEN.false (ap not (sym c.is_well_formed.ensures ∙ c.if-not-is_well_formed.false)) in record { value = e; out_after = wrote _ _ _ _ e c.put_record.ensures }
