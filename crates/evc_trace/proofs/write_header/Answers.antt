-- `evc_trace::write_header` meets its contract. Assumes nothing.
use mathlib.Core.Bool.{false}
use mathlib.Core.List.{List}
use mathlib.Core.Path.{◌≡◌, sym, ◌∙◌}
use Prim.Native.Nat.{ℕ, ◌≤◌, ◌<◌}
use native.Mathlib.Omega.{arith}
use borrow.Author.Tests.{lt-ltb, le-ltb}
use lib.ListN.{length}
use Rattle.evc_def.specs.Blocks.{bad_picture}
use Rattle.std.proofs.lemmas.Result.{err_from_is_err_and}
use Rattle.evc_def.specs.Codes.{first_of, picture_checks}
use Rattle.evc_def.specs.Refusals.{number_of}
use Rattle.evc_def.specs.declared.refusal.Refusal.{Refusal}
use Rattle.evc_def.proofs.Codes.{accepted, refused, passed, none, stops}
use Rattle.evc_def.proofs.Refusals.{not_0}
use Rattle.evc_trace.specs.Format.{write_header_code}
use Rattle.evc_trace.proofs.Written.{kept, wrote}
use Rattle.evc_trace.proofs.write_header.Goals as goal

module _ (W H : ℕ) (d : List ℕ) where
  picture : (x : Refusal) → number_of x ≡ first_of (picture_checks W H) → number_of x ≡ write_header_code W H d
  unfolding write_header_code
  picture x e = e ∙ sym (stops (picture_checks W H) _ (λ z. not_0 x (e ∙ z)))

  code_4 : bad_picture W H ≡ false → length d < 13 → 4 ≡ write_header_code W H d
  unfolding write_header_code
  code_4 e l = sym (passed _ _ _ e ∙ refused _ _ _ (lt-ltb _ _ l))

  code_0 : bad_picture W H ≡ false → 13 ≤ length d → 0 ≡ write_header_code W H d
  unfolding write_header_code
  code_0 e l = sym (passed _ _ _ e ∙ passed _ _ _ (le-ltb _ _ l) ∙ none)

pub returns-in_err-pic : goal.returns-in_err-pic
returns-in_err-pic c =
    let p = err_from_is_err_and c.from_residual.result c.from_residual.ensures.1 in
    let e = picture _ _ _ _ c.in_err-pic.ensures.code in
    rw (p.1, p.2) (record { value = e; out_after = kept _ _ _ _ e (not_0 _) })

pub returns-then-out-lt-HEADER_LEN : goal.returns-then-out-lt-HEADER_LEN
returns-then-out-lt-HEADER_LEN c = let e = code_4 _ _ _ (accepted 1 _ _ (omega arith) (sym c.in_ok-pic.ensures.code)).0 c.if-out-lt-HEADER_LEN.true in record { value = e; out_after = kept _ _ _ _ e (λ z. omega arith) }

pub returns : goal.returns
returns c = let e = code_0 _ _ _ (accepted 1 _ _ (omega arith) (sym c.in_ok-pic.ensures.code)).0 c.if-out-lt-HEADER_LEN.false in record { value = e; out_after = wrote _ _ _ _ e (simp (c.in_ok-pic.ensures.value.0, c.in_ok-pic.ensures.value.1) at c.put_header.ensures) }
