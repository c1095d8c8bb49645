-- What `EvcCandidates::default()` gives is the record of zeros. Assumes nothing.
use mathlib.Core.List.{List, [], ◌∷◌}
use mathlib.Core.Path.{◌≡◌}
use Prim.Native.Nat.{ℕ, ◌<◌}
use native.Mathlib.Omega.{arith}
use lib.IntN.{ℤ, pos}
use lib.ListN.{length}
use Rattle.std.proofs.Common.{slice_index_or}
use Rattle.evc_motion.specs.Candidates.{zero_candidates}
use Rattle.evc_motion.specs.contracts.EvcCandidatesDefault.TheImpl.{ghosts}
use Rattle.evc_motion.specs.declared.EvcCandidates.{EvcCandidates}

four_zeros : (xs : List ℤ) → length xs ≡ 4 → ((i : ℕ) → i < 4 → slice_index_or xs i (pos 0) ≡ pos 0) → xs ≡ pos 0 ∷ pos 0 ∷ pos 0 ∷ pos 0 ∷ []
four_zeros [] e z = absurd (omega arith)
four_zeros (a ∷ []) e z = absurd (omega arith)
four_zeros (a ∷ b ∷ []) e z = absurd (omega arith)
four_zeros (a ∷ b ∷ c ∷ []) e z = absurd (omega arith)
four_zeros (a ∷ b ∷ c ∷ d ∷ []) e z = rw (z 0 (omega arith), z 1 (omega arith), z 2 (omega arith), z 3 (omega arith))
four_zeros (a ∷ b ∷ c ∷ d ∷ f ∷ xs) e z = absurd (omega arith)

pub default_zero : (c : EvcCandidates) → ghosts.is_default c → c ≡ zero_candidates
default_zero c d =
    let left = d.0 in
    let up = d.1.0 in
    let up_right = d.1.1.0 in
    let collocated = d.1.1.1.0 in
    let refi = d.1.1.1.1 in
    rw (left.0, left.1, up.0, up.1, up_right.0, up_right.1, collocated.0, collocated.1, four_zeros c.refi refi.long (λ i l. refi.at i (pos 0) l))
