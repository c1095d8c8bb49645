-- `evc_record::checked_record` meets its contract. Assumes nothing.
use mathlib.Core.Bool.{Bool, true, false, not, ◌&&◌}
use mathlib.Core.List.{List}
use mathlib.Core.Path.{◌≡◌, sym, ap, ◌∙◌}
use Prim.Native.Nat.{ℕ, ◌≤◌, ◌<◌}
use borrow.Author.Tests.{lt-ltb, le-ltb, lt-leb}
use lib.Dec.{eqb}
use lib.ListN.{length, get_or}
use Rattle.std.proofs.lemmas.Result.{err_from_is_err_and}
use Rattle.evc_def.proofs.Codes.{refused, passed, none}
use Rattle.evc_trace.specs.Format.{is_well_formed, record_of}
use Rattle.evc_trace.specs.declared.EvcTraceRecord.{EvcTraceRecord}
use Rattle.evc_record.specs.Record.{form_code}
use Rattle.evc_record.proofs.checked_record.Goals as goal

above : (r : EvcTraceRecord) → 3 < r.kind → is_well_formed r ≡ false
unfolding is_well_formed
above r l = rw (lt-leb r.kind 3 l)

module _ (s : List ℕ) where
  code_11 : length s < 22 → 11 ≡ form_code s
  unfolding form_code
  code_11 l = sym (refused _ _ _ (lt-ltb _ _ l))

  code_12 : 22 ≤ length s → not (is_well_formed (record_of 2 s) && eqb (get_or s 21 0) 0) ≡ true → 12 ≡ form_code s
  unfolding form_code
  code_12 l e = sym (passed _ _ _ (le-ltb _ _ l) ∙ refused _ _ _ e)

  code_kind : 22 ≤ length s → (r : EvcTraceRecord) → r ≡ record_of 2 s → 3 < r.kind → 12 ≡ form_code s
  code_kind l r e h = code_12 l (ap (λ (t : Bool). not (t && eqb (get_or s 21 0) 0)) (ap is_well_formed (sym e) ∙ above r h))

  code_0 : 22 ≤ length s → not (is_well_formed (record_of 2 s) && eqb (get_or s 21 0) 0) ≡ false → 0 ≡ form_code s
  unfolding form_code
  code_0 l e = sym (passed _ _ _ (le-ltb _ _ l) ∙ passed _ _ _ e ∙ none)

pub returns-then-s-lt-RECORD_LEN-clause-code : goal.returns-then-s-lt-RECORD_LEN-clause-code
returns-then-s-lt-RECORD_LEN-clause-code c = code_11 _ c.if-s-lt-RECORD_LEN.true

pub returns-in_err-kind-clause-code : goal.returns-in_err-kind-clause-code
returns-in_err-kind-clause-code c =
    let x = err_from_is_err_and c.from_residual.result c.from_residual.ensures.1 in
    rw (x.1, x.2, c.in_err-kind.ensures.1) (code_kind _ c.if-s-lt-RECORD_LEN.false _ c.read_record-fields.ensures c.in_err-kind.ensures.0)

pub returns-then-not-is_well_formed-s-clause-code : goal.returns-then-not-is_well_formed-s-clause-code
returns-then-not-is_well_formed-s-clause-code c =
    let s = c.args.s.now in
    code_12 s c.if-s-lt-RECORD_LEN.false (sym (ap (λ (t : Bool). not (t && eqb (get_or s 21 0) 0)) (c.is_well_formed.ensures ∙ ap is_well_formed c.read_record-fields.ensures)) ∙ ap not c.if-not-is_well_formed-s.true)

pub returns-clause-code : goal.returns-clause-code
returns-clause-code c =
    let s = c.args.s.now in
    code_0 s c.if-s-lt-RECORD_LEN.false (sym (ap (λ (t : Bool). not (t && eqb (get_or s 21 0) 0)) (c.is_well_formed.ensures ∙ ap is_well_formed c.read_record-fields.ensures)) ∙ ap not c.if-not-is_well_formed-s.false)
