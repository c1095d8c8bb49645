-- Document 01: "list number 0 or 1".
use Rattle.std.specs.Prelude.{◌≡◌, ◌<◌, ℕ, Result, Ok, Err}
use Rattle.evc_def.specs.declared.RefList.{RefList}
use Rattle.evc_def.specs.declared.RefList.TheVariants.{List0, List1}
use Rattle.evc_def.specs.declared.refusal.Refusal.{Refusal}
use Rattle.evc_def.specs.declared.refusal.Refusal.TheVariants.{List}

abbrev pub lidx_of : RefList → ℕ
lidx_of List0 = 0
lidx_of List1 = 1

-- refused with 3: "a list number is neither 0 nor 1"
abbrev pub IsRefList : ℕ → Result RefList Refusal → Type 0
IsRefList lidx (Ok list) = lidx ≡ lidx_of list
IsRefList lidx (Err refusal) = (1 < lidx) × (refusal ≡ List)
