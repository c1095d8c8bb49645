-- The records of a trace that is continued. Assumes nothing.
use mathlib.Core.List.{List, ◌∷◌, ◌++◌}
use mathlib.Core.Path.{◌≡◌, refl, ap, ◌∙◌}
use Prim.Native.Nat.{ℕ, zero, suc, ◌+◌, ◌-◌, ◌*◌, ◌/◌, ◌≤◌}
use native.Mathlib.Nat.{zero-add, suc-add}
use native.Mathlib.Omega.{arith}
use lib.ListN.{length, take, drop, length-append, length-drop}
use lib.Seq.{drop-append-le, drop_at, take-append-le}
use Rattle.evc_replay.specs.Replay.{records_at, records_from}
use Rattle.evc_replay.proofs.Records.{records_drop}

split : (s : List ℕ) (at n m : ℕ) → records_at s at (n + m) ≡ records_at s at n ++ records_at s (at + 22 * n) m
unfolding records_at
split s at zero m = let e : at + 22 * 0 ≡ at = omega arith in rw (zero-add, e)
split s at (suc n) m =
    let e : at + 22 * suc n ≡ at + 22 + 22 * n = omega arith in
    rw (suc-add, e) (ap (λ (l : List (List ℕ)). take 22 (drop at s) ∷ l) (split s (at + 22) n m))

first : (s b : List ℕ) (at n : ℕ) → at + 22 * n ≤ length s → records_at (s ++ b) at n ≡ records_at s at n
unfolding records_at
first s b at zero h = refl
first s b at (suc n) h =
    rw (drop-append-le at s b (omega arith), take-append-le 22 (drop at s) b (omega (arith, length-drop at s)), first s b (at + 22) n (omega arith))

rest : (s b : List ℕ) (j n : ℕ) → records_at (s ++ b) (length s + j) n ≡ records_at b j n
rest s b j n = records_drop (s ++ b) (length s) j n ∙ ap (λ (l : List ℕ). records_at l j n) (drop_at s b (length s) refl)

-- n whole records, and then those of b
pub records_append : (s b : List ℕ) (at n : ℕ) → at + 22 * n ≡ length s → records_from (s ++ b) at ≡ records_from s at ++ records_from b 0
records_append s b at n h =
    let all : (length (s ++ b) - at + 21) / 22 ≡ n + (length b - 0 + 21) / 22 = omega (arith, length-append s b) in
    let some : (length s - at + 21) / 22 ≡ n = omega arith in
    let end : at + 22 * n ≡ length s + 0 = omega arith in
    ap (records_at (s ++ b) at) all
    ∙ split (s ++ b) at n _
    ∙ rw (end, first s b at n (omega arith), rest s b 0 ((length b - 0 + 21) / 22), some)

length_records : (s : List ℕ) (at n : ℕ) → length (records_at s at n) ≡ n
unfolding records_at
length_records s at zero = refl
length_records s at (suc n) = ap suc (length_records s (at + 22) n)

pub records_count : (s : List ℕ) (at n : ℕ) → at + 22 * n ≡ length s → length (records_from s at) ≡ n
records_count s at n h = let e : (length s - at + 21) / 22 ≡ n = omega arith in length_records s at _ ∙ e
