-- Document 01, 'What a call gives': the numbers of the refusals.
use Rattle.std.specs.Prelude.{ℕ, Result, Ok, Err}
use Rattle.evc_def.specs.declared.refusal.Refusal.{Refusal}
use Rattle.evc_def.specs.declared.refusal.Refusal.TheVariants.{Picture, Block, List, Buffer, OrderCount, Sample, Neighbour, Mark, Incomplete, Record, Slice}

abbrev pub number_of : Refusal → ℕ
number_of Picture = 1
number_of Block = 2
number_of List = 3
number_of Buffer = 4
number_of OrderCount = 5
number_of Sample = 6
number_of Neighbour = 7
number_of Mark = 10
number_of Incomplete = 11
number_of Record = 12
number_of Slice = 13

-- "0: done; anything else: refused, nothing was changed": the number of an answer
abbrev pub code_of : {A : Type 0} → Result A Refusal → ℕ
code_of (Ok a) = 0
code_of (Err r) = number_of r
