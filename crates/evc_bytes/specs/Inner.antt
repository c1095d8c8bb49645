-- What a reading step leaves, and a writing step.
use Rattle.std.specs.Prelude.{◌≡◌, ◌+◌, ℕ, List, length}
use Rattle.std.proofs.lemmas.List.Edits.{sets}
use Rattle.evc_bytes.specs.declared.Reader.{Reader}
use Rattle.evc_bytes.specs.declared.Writer.{Writer}

-- a reader n bytes on
abbrev pub moved : Reader → ℕ → Reader
moved r n = record r { at = r.at + n }

-- a buffer with these bytes in it from `at` on
unfoldable pub written : List ℕ → ℕ → List ℕ → List ℕ
written d at bytes = sets d at bytes

-- the same buffer with these bytes where the writer stood, which now stands behind them
pub record Puts (w w' : Writer) (bytes : List ℕ) : Type 0 where
  pub same_buffer : w'.out.ghost_name ≡ w.out.ghost_name
  pub put : w'.out.now ≡ written w.out.now w.at bytes
  pub same_length : length w'.out.now ≡ length w.out.now
  pub behind : w'.at ≡ w.at + length bytes
