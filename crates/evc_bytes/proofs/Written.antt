-- Runs of bytes written one after the other. Assumes nothing.
use Rattle.std.proofs.Common.{◌≡◌, refl, sym, ◌∙◌, ℕ, suc, ◌+◌, add-zero, add-suc, arith, List, [], ◌∷◌, ◌++◌, length, length-append}
use Rattle.std.proofs.lemmas.List.Edits.{sets}
use native.Mathlib.Nat.{suc-add}
use lib.ListN.{set}
use Rattle.evc_bytes.specs.Inner.{written, Puts}
use Rattle.evc_bytes.specs.declared.Writer.{Writer}

pub stored : (d : List ℕ) (at b : ℕ) → set d at b ≡ written d at (b ∷ [])
unfolding written
stored d at b = refl

sets_append : (d : List ℕ) (at : ℕ) (xs ys : List ℕ) → sets (sets d at xs) (at + length xs) ys ≡ sets d at (xs ++ ys)
sets_append d at [] ys = rw add-zero
sets_append d at (x ∷ xs) ys =
    let e : at + suc (length xs) ≡ suc at + length xs = add-suc at (length xs) ∙ sym (suc-add at (length xs)) in
    rw e (sets_append (set d at x) (suc at) xs ys)

written_append : (d e f : List ℕ) (at next : ℕ) (xs ys : List ℕ) → e ≡ written d at xs → next ≡ at + length xs → f ≡ written e next ys → f ≡ written d at (xs ++ ys)
unfolding written
written_append d e f at next xs ys p n q = q ∙ rw (p, n) (sets_append d at xs ys)

-- one run behind the other
pub both : (u v w : Writer) (xs ys : List ℕ) → Puts u v xs → Puts v w ys → Puts u w (xs ++ ys)
both u v w xs ys p q = record {
  same_buffer = q.same_buffer ∙ p.same_buffer;
  put = written_append _ _ _ _ _ _ _ p.put p.behind q.put;
  same_length = q.same_length ∙ p.same_length;
  behind = omega (arith, p.behind, q.behind, length-append xs ys);
}
