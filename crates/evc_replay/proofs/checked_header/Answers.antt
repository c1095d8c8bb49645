-- `evc_replay::checked_header` meets its contract. Assumes nothing.
use mathlib.Core.Bool.{not}
use mathlib.Core.Path.{sym, ap, ◌∙◌}
use native.Mathlib.Omega.{arith}
use Rattle.std.proofs.lemmas.Result.{err_from_is_err_and}
use Rattle.evc_def.proofs.Codes.{accepted}
use Rattle.evc_map.specs.Maps.{is_present, numbers_of}
use Rattle.evc_record.specs.Record.{planes_of, target_of}
use Rattle.evc_replay.proofs.Header.{tested, code_11, code_10, picture, code_4, code_0}
use Rattle.evc_replay.proofs.checked_header.Goals as goal

pub returns-then-trace-lt-HEADER_LEN-clause-code : goal.returns-then-trace-lt-HEADER_LEN-clause-code
returns-then-trace-lt-HEADER_LEN-clause-code c =
    let a = c.args in
    let r = a.references.now in
    let p = planes_of r.ref0 in
    let q = planes_of r.ref1 in
    let t = target_of a.target.now in
    let s = a.trace.now in
    code_11 s p q (is_present r.col_mv) (numbers_of r.col_mv) t c.if-trace-lt-HEADER_LEN.true

pub returns-then-not-is_trace-clause-code : goal.returns-then-not-is_trace-clause-code
returns-then-not-is_trace-clause-code c =
    let a = c.args in
    let r = a.references.now in
    let p = planes_of r.ref0 in
    let q = planes_of r.ref1 in
    let t = target_of a.target.now in
    let s = a.trace.now in
    code_10 s p q (is_present r.col_mv) (numbers_of r.col_mv) t c.if-trace-lt-HEADER_LEN.false (ap not (sym c.is_trace.ensures ∙ c.if-not-is_trace.true))

pub returns-in_err-pic-clause-code : goal.returns-in_err-pic-clause-code
returns-in_err-pic-clause-code c =
    let a = c.args in
    let r = a.references.now in
    let p = planes_of r.ref0 in
    let q = planes_of r.ref1 in
    let t = target_of a.target.now in
    let s = a.trace.now in
    let has = is_present r.col_mv in
    let col = numbers_of r.col_mv in
    let l = c.if-trace-lt-HEADER_LEN.false in
    let m = ap not (sym c.is_trace.ensures ∙ c.if-not-is_trace.false) in
    let eh = sym c.read_header-h.ensures in
    let x = err_from_is_err_and c.from_residual.result c.from_residual.ensures.1 in
    rw (x.1, x.2) (picture s p q has col t l m _ eh _ c.in_err-pic.ensures.code)

pub returns-then-are_short-col_short-clause-code : goal.returns-then-are_short-col_short-clause-code
returns-then-are_short-col_short-clause-code c =
    let a = c.args in
    let r = a.references.now in
    let p = planes_of r.ref0 in
    let q = planes_of r.ref1 in
    let t = target_of a.target.now in
    let s = a.trace.now in
    let has = is_present r.col_mv in
    let col = numbers_of r.col_mv in
    let l = c.if-trace-lt-HEADER_LEN.false in
    let m = ap not (sym c.is_trace.ensures ∙ c.if-not-is_trace.false) in
    let eh = sym c.read_header-h.ensures in
    let w = c.in_ok-pic.ensures.value in
    let g = (accepted 1 _ _ (omega arith) (sym c.in_ok-pic.ensures.code)).0 in
    let test = tested c.read_header-h.result p q t has col _ _ _ _ (simp (w.0, w.1) at c.are_short.ensures) (simp (w.0, w.1) at c.are_short-2.ensures) (simp (w.0, w.1) at c.are_short-3.ensures) (simp (w.0, w.1) at c.col_short.ensures) in
    code_4 s p q has col t l m _ eh g (sym test ∙ c.if-are_short-col_short.true)

pub returns-clause-code : goal.returns-clause-code
returns-clause-code c =
    let a = c.args in
    let r = a.references.now in
    let p = planes_of r.ref0 in
    let q = planes_of r.ref1 in
    let t = target_of a.target.now in
    let s = a.trace.now in
    let has = is_present r.col_mv in
    let col = numbers_of r.col_mv in
    let l = c.if-trace-lt-HEADER_LEN.false in
    let m = ap not (sym c.is_trace.ensures ∙ c.if-not-is_trace.false) in
    let eh = sym c.read_header-h.ensures in
    let w = c.in_ok-pic.ensures.value in
    let g = (accepted 1 _ _ (omega arith) (sym c.in_ok-pic.ensures.code)).0 in
    let test = tested c.read_header-h.result p q t has col _ _ _ _ (simp (w.0, w.1) at c.are_short.ensures) (simp (w.0, w.1) at c.are_short-2.ensures) (simp (w.0, w.1) at c.are_short-3.ensures) (simp (w.0, w.1) at c.col_short.ensures) in
    code_0 s p q has col t l m _ eh g (sym test ∙ c.if-are_short-col_short.false)
