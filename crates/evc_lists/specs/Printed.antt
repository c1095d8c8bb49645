-- What the programs print of samples.
use Rattle.std.specs.Prelude.{◌==◌, cond, List, [], ◌∷◌, ◌++◌, ℕ, zero, suc, ◌+◌, ◌*◌, ◌%◌, decimal, length, take, drop, Result, Ok, Err}
use Rattle.evc_def.specs.declared.refusal.Refusal.{Refusal}
use Rattle.evc_def.specs.Refusals.{code_of}
use Rattle.evc_lists.specs.declared.RowForm.{RowForm}
use Rattle.evc_lists.specs.declared.RowForm.TheVariants.{Whole, Number}
use Rattle.std.specs.List.{fold, flat_map}

-- a number that depends on every sample and its place: a polynomial of the samples at 257, modulo a prime
abbrev pub hash : List ℕ → ℕ
hash samples = fold (λ z sample. (z * 257 + sample) % 65521) 1 samples

-- samples behind another, a space before each
abbrev pub others : List ℕ → List ℕ
others samples = flat_map (λ sample. 32 ∷ decimal sample) samples

-- samples, a space between two
abbrev pub spaced : List ℕ → List ℕ
spaced [] = []
spaced (sample ∷ samples) = decimal sample ++ others samples

-- what an answer has, or else this
abbrev pub ok_or : {A B : Type 0} → A → Result A B → A
ok_or other (Ok x) = x
ok_or other (Err e) = other

-- as a record asks for it: 1 stands for the rows whole
abbrev pub row_form : ℕ → RowForm
row_form n = cond (n == 1) Whole Number

-- a row whole, or as a number
abbrev pub row_text : RowForm → List ℕ → List ℕ
row_text Whole row = spaced row
row_text Number row = decimal (hash row)

-- its line
abbrev pub row_line : RowForm → List ℕ → List ℕ
row_line form row = row_text form row ++ (10 ∷ [])

-- the lines of the rows of this stride, n at most; the last one may be shorter
unfoldable pub row_lines : ℕ → RowForm → ℕ → List ℕ → List ℕ
row_lines stride form zero samples = []
row_lines stride form (suc n) [] = []
row_lines stride form (suc n) (sample ∷ samples) =
    row_line form (take stride (sample ∷ samples)) ++ row_lines stride form n (drop stride (sample ∷ samples))

-- those of all samples
abbrev pub rows_text : ℕ → RowForm → List ℕ → List ℕ
rows_text stride form samples = row_lines stride form (length samples) samples

-- flags behind the number that a call returns; a refused one has none
abbrev pub flags_text : Result ℕ Refusal → List ℕ
flags_text flags = decimal (code_of flags) ++ 32 ∷ decimal (ok_or 0 flags)
