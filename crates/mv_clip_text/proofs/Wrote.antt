-- Laws of `Wrote`: nothing written, one byte, one text behind another, and where a text ends. Assumes nothing.
use Rattle.std.proofs.Common.{List, [], ◌∷◌, ◌++◌, append-nil, append_assoc, refl, sym, ap, ◌∙◌, ℕ, ◌+◌, ◌≤◌, ◌<◌, add-one, arith, length, take, set, length-append, length-set, length-take, take-suc-set}
use Rattle.mv_clip_text.specs.Inner.{Wrote}

pub wrote_nothing : (a : List ℕ) (at : ℕ) → Wrote a a at at []
wrote_nothing a at = record { long = refl; ends = omega arith; holds = sym (append-nil (take at a)) }

pub wrote_byte : (a : List ℕ) (at byte : ℕ) → at < length a → Wrote a (set a at byte) at (at + 1) (byte ∷ [])
wrote_byte a at byte h =
    record { long = length-set a at byte; ends = omega arith; holds = rw (add-one, take-suc-set a at byte h) }

pub wrote_both : {a b c : List ℕ} {at mid end : ℕ} {s t : List ℕ} → Wrote a b at mid s → Wrote b c mid end t → Wrote a c at end (s ++ t)
wrote_both {a} {b} {c} {at} {mid} {end} {s} {t} p q =
    record {
      long = q.long ∙ p.long;
      ends = omega (arith, p.ends, q.ends, length-append s t);
      holds = q.holds ∙ ap (λ (l : List ℕ). l ++ t) p.holds ∙ append_assoc (take at a) s t;
    }

-- what is written from a place within the buffer ends within it
pub wrote_within : {a b : List ℕ} {at end : ℕ} {s : List ℕ} → Wrote a b at end s → at ≤ length a → end ≤ length b
wrote_within {a} {b} {at} {end} {s} p h =
    omega (arith, p.ends, simp (length-append, length-take) at (ap length p.holds))
