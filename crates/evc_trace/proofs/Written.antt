-- A buffer after a call of a writer. Assumes nothing.
use Prim.Native.Nat.{ℕ, ◌≤◌}
use mathlib.Core.List.{List}
use mathlib.Core.Path.{◌≡◌, sym, ◌∙◌}
use native.Mathlib.Nat.{zero-add}
use native.Mathlib.Omega.{arith}
use borrow.Author.Tests.{ne_eqb}
use lib.ListN.{length}
use lib.Seq.{sets-eq}
use Rattle.evc_bytes.specs.Inner.{written, Puts}
use Rattle.evc_bytes.specs.declared.Writer.{Writer}
use Rattle.evc_trace.specs.Format.{overwritten, overwritten_by}

-- all that a new writer has put
pub from_start : (u w : Writer) (d bytes : List ℕ) → (u.out.now ≡ d) × (u.at ≡ 0) → Puts u w bytes → length bytes ≤ length d → w.out.now ≡ overwritten bytes d
unfolding written overwritten
from_start u w d bytes new p h = p.put ∙ rw (new.0, new.1) (sets-eq bytes d 0 (omega arith) ∙ rw zero-add)

pub kept : (d bytes : List ℕ) (code number : ℕ) → code ≡ number → (code ≡ 0 → ⊥) → d ≡ overwritten_by number bytes d
unfolding overwritten_by
kept d bytes code number e n = rw (sym e, ne_eqb code 0 n)

pub wrote : (d f bytes : List ℕ) (number : ℕ) → 0 ≡ number → f ≡ overwritten bytes d → f ≡ overwritten_by number bytes d
unfolding overwritten_by
wrote d f bytes number e p = rw (sym e) p
