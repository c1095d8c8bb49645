-- The records of a chunk, one behind the other, and what is written of them. Assumes nothing.
use Rattle.std.proofs.Common.{List, [], append-nil, ◌≡◌, refl, ap, ◌∙◌, subst, eq-eqb, ne_eqb, add-one, arith, ℕ, zero, suc, ◌+◌, ◌*◌, ◌/◌, ◌%◌, ◌<◌, length, take, drop, get_or}
use Rattle.std.proofs.lemmas.List.{get_or-take, get_or-drop, drop-drop}
use Rattle.std.specs.Simd.{first_chunks}
use Rattle.evc_clip.specs.declared.EvcClipped.{EvcClipped}
use Rattle.mv_clip_text.specs.Records.{answer_at, line, lines, incomplete, text}
use Rattle.mv_clip_text.specs.Inner.{Wrote}
use Rattle.mv_clip_text.proofs.Laws.{answer_same}
use Rattle.mv_clip_text.proofs.Wrote.{wrote_nothing, wrote_both}

pub nothing_yet : (a s : List ℕ) → Wrote a a 0 0 (lines s 0)
unfolding lines
nothing_yet a s = wrote_nothing a 0

-- the record that a turn takes
record_is : (n i : ℕ) (s : List ℕ) → i < n → get_or (first_chunks 16 n s) i [] ≡ take 16 (drop (16 * i) s)
record_is zero i s h = elim h [ ]
record_is (suc n) zero s h = refl
record_is (suc n) (suc i) s h =
    let e : 16 + 16 * i ≡ 16 * suc i = omega arith in
    record_is n i (drop 16 s) (omega (arith, h)) ∙ ap (take 16) (drop-drop (16 * i) 16 s ∙ ap (λ (k : ℕ). drop k s) e)

byte_is : (s : List ℕ) (i j : ℕ) → j < 16 → get_or (take 16 (drop (16 * i) s)) j 0 ≡ get_or s (16 * i + j) 0
byte_is s i j h = get_or-take 16 (drop (16 * i) s) j 0 h ∙ get_or-drop (16 * i) s j 0

answer_is : (s : List ℕ) (i : ℕ) → answer_at (take 16 (drop (16 * i) s)) 0 ≡ answer_at s (16 * i)
answer_is s i = answer_same (take 16 (drop (16 * i) s)) s 0 (16 * i) (λ k l.
    let e : 16 * i + (0 + 2 * k) ≡ 16 * i + 2 * k = omega arith in
    let f : 16 * i + (0 + 2 * k + 1) ≡ 16 * i + 2 * k + 1 = omega arith in
    rw (byte_is s i (0 + 2 * k) (omega (arith, l)), byte_is s i (0 + 2 * k + 1) (omega (arith, l)), e, f) refl)

module _ (s a b : List ℕ) (at i : ℕ) (p : Wrote a b 0 at (lines s i)) where
  -- a turn of the loop
  pub one_more : (c : List ℕ) (end n : ℕ) (r : EvcClipped) → i < n → r ≡ answer_at (get_or (first_chunks 16 n s) i []) 0 → Wrote b c at end (line r) → Wrote a c 0 end (lines s (i + 1))
  unfolding lines
  one_more c end n r h e q =
      let f : r ≡ answer_at s (16 * i) = e ∙ ap (λ (t : List ℕ). answer_at t 0) (record_is n i s h) ∙ answer_is s i in
      rw (add-one i) (wrote_both p (subst (λ (x : EvcClipped). Wrote b c at end (line x)) f q))

  -- the end, with no incomplete record and with one
  pub whole : i ≡ length s / 16 → length s % 16 ≡ 0 → Wrote a b 0 at (text s)
  unfolding text
  whole e z = rw (eq-eqb (length s % 16) 0 z, append-nil, ← e) p

  pub with_last : (c : List ℕ) (end : ℕ) (r : EvcClipped) → r ≡ incomplete → i ≡ length s / 16 → (length s % 16 ≡ 0 → ⊥) → Wrote b c at end (line r) → Wrote a c 0 end (text s)
  unfolding text
  with_last c end r is e n q = rw (ne_eqb (length s % 16) 0 n, ← e, ← is) (wrote_both p q)
