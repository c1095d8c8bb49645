-- Document 02, W1: "a kind byte (0 list 0, 1 list 1, 2 both, 3 direct with both lists)".
use Rattle.std.specs.Prelude.{◌≡◌, ◌<◌, ℕ, Result, Ok, Err}
use Rattle.evc_def.specs.declared.refusal.Refusal.{Refusal}
use Rattle.evc_def.specs.declared.refusal.Refusal.TheVariants.{Record}
use Rattle.evc_trace.specs.declared.Kind.{Kind}
use Rattle.evc_trace.specs.declared.Kind.TheVariants.{List0, List1, Both, Direct}

abbrev pub byte_of : Kind → ℕ
byte_of List0 = 0
byte_of List1 = 1
byte_of Both = 2
byte_of Direct = 3

-- refused with 12: "a kind above 3"
abbrev pub IsKind : ℕ → Result Kind Refusal → Type 0
IsKind byte (Ok kind) = byte ≡ byte_of kind
IsKind byte (Err refusal) = (3 < byte) × (refusal ≡ Record)
