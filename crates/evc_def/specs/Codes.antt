-- Document 01, 'What a call gives'.
use Rattle.std.specs.Prelude.{Bool, cond, List, [], ◌∷◌, ℕ, pos}
use Rattle.evc_def.specs.Blocks.{bad_picture, bad_block}
use Rattle.evc_def.specs.declared.EvcBlock.{EvcBlock}
use Rattle.evc_def.specs.declared.EvcMv.{EvcMv}

-- a check: the number that a call returns, and whether it refuses
infix 70 ◌when◌
pub data Check : Type 0 where
  ◌when◌ : ℕ → Bool → Check

-- "Checks run in rising number.": the number of the first check that refuses, and 0, done, where none does
unfoldable pub first_of : List Check → ℕ
first_of [] = 0
first_of (n when refuses ∷ checks) = cond refuses n (first_of checks)

-- the check that every call on a picture begins with
abbrev pub picture_checks : ℕ → ℕ → List Check
picture_checks W H = 1 when bad_picture W H ∷ []

-- the checks that every call on a block begins with
abbrev pub block_checks : EvcBlock → List Check
block_checks b = 1 when bad_picture b.pic_w b.pic_h ∷ 2 when bad_block b ∷ []

-- "A refusal returns zero for every other number"
abbrev pub zero_mv : EvcMv
zero_mv = record { x = pos 0; y = pos 0 }
