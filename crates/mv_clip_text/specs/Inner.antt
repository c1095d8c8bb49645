-- Text written into a buffer from a place on.
use Rattle.std.specs.Prelude.{List, ◌++◌, ◌≡◌, ℕ, ◌+◌, length, take}

-- `text` was written into `before` from `at` on, which left `after`; `end` is the place behind it
pub record Wrote (before after : List ℕ) (at end : ℕ) (text : List ℕ) : Type 0 where
  pub long : length after ≡ length before
  pub ends : end ≡ at + length text
  pub holds : take end after ≡ take at before ++ text
