-- Laws of the text: chunks of whole records add up, and a negative size or place is refused. Assumes nothing.
use mathlib.Core.Bool.{and-false}
use Rattle.std.proofs.Common.{Bool, true, false, List, [], ◌∷◌, ◌++◌, append-nil, append_assoc, ◌⊎◌, ⊎_elim, ◌≡◌, refl, ap, ap₂, ◌∙◌, eq-eqb, ℕ, zero, suc, ◌+◌, ◌*◌, ◌/◌, ◌%◌, ◌<◌, ◌≤◌, add-zero, add-suc, arith, lit<, pos, length, length-append, get_or-append-add}
use Rattle.std.proofs.Math.ListN.{get_or-append}
use Rattle.std.proofs.lemmas.Bool.{lt-leb}
use Rattle.evc_def.specs.Blocks.{Allowed, is_picture_side, bad_picture}
use Rattle.evc_def.proofs.Blocks.{allowed_block}
use Rattle.evc_def.specs.Codes.{◌when◌, first_of}
use Rattle.evc_def.proofs.Codes.{refused}
use Rattle.evc_clip.specs.Clip.{nothing_moved, mv_clip}
use Rattle.mv_clip_text.specs.Records.{field, answer_at, line, lines, text}

-- ---- chunks

-- an answer depends on its record's eight fields alone
pub answer_same : (s t : List ℕ) (i j : ℕ) → ((k : ℕ) → k < 8 → field s i k ≡ field t j k) → answer_at s i ≡ answer_at t j
unfolding answer_at
answer_same s t i j h =
    simp (h 0 (lit< tt), h 1 (lit< tt), h 2 (lit< tt), h 3 (lit< tt), h 4 (lit< tt), h 5 (lit< tt), h 6 (lit< tt), h 7 (lit< tt))

module _ (a b : List ℕ) where
  field_left : (i k : ℕ) → i + 2 * k + 1 < length a → field (a ++ b) i k ≡ field a i k
  field_left i k h = rw (get_or-append a b 0 (i + 2 * k) (omega arith), get_or-append a b 0 (i + 2 * k + 1) h)

  field_right : (i j k : ℕ) → i ≡ length a + j → field (a ++ b) i k ≡ field b j k
  field_right i j k e =
      let p : i + 2 * k ≡ length a + (j + 2 * k) = omega arith in
      let q : i + 2 * k + 1 ≡ length a + (j + 2 * k + 1) = omega arith in
      rw (q, p, get_or-append-add a b (j + 2 * k) 0, get_or-append-add a b (j + 2 * k + 1) 0)

  lines_left : (n : ℕ) → 16 * n ≤ length a → lines (a ++ b) n ≡ lines a n
  unfolding lines
  lines_left zero h = refl
  lines_left (suc n) h =
      ap₂ ◌++◌ (lines_left n (omega arith)) (ap line (answer_same (a ++ b) a (16 * n) (16 * n) (λ k l. field_left (16 * n) k (omega arith))))

  lines_both : (n m : ℕ) → 16 * n ≡ length a → lines (a ++ b) (n + m) ≡ lines a n ++ lines b m
  unfolding lines
  lines_both n zero e = rw (add-zero, append-nil) (lines_left n (omega arith))
  lines_both n (suc m) e =
      rw add-suc
      (ap₂ ◌++◌ (lines_both n m e) (ap line (answer_same (a ++ b) b (16 * (n + m)) (16 * m) (λ k l. field_right (16 * (n + m)) (16 * m) k (omega arith))))
      ∙ append_assoc (lines a n) (lines b m) _)

  -- the text of the whole input is that of its first chunk, of whole records, and that of the rest
  pub chunks : length a % 16 ≡ 0 → text (a ++ b) ≡ text a ++ text b
  unfolding text
  chunks h =
      let q : length (a ++ b) / 16 ≡ length a / 16 + length b / 16 = omega (arith, length-append a b) in
      let r : length (a ++ b) % 16 ≡ length b % 16 = omega (arith, length-append a b) in
      rw (q, r, eq-eqb (length a % 16) 0 h, append-nil (lines a (length a / 16)), lines_both (length a / 16) (length b / 16) (omega arith))
      (append_assoc (lines a (length a / 16)) (lines b (length b / 16)) _)

-- ---- a negative size or place: its bit pattern is 32,768 or more

large : (n : ℕ) → 32768 ≤ n → is_picture_side n ≡ false
large n h = simp (lt-leb n 8128 (omega arith), and-false)

bad : (W H : ℕ) → (32768 ≤ W) ⊎ (32768 ≤ H) → bad_picture W H ≡ true
unfolding bad_picture
bad W H h = ⊎_elim (λ h. simp (large W h)) (λ h. simp (large H h, and-false)) h

first_small : (p q : Bool) → first_of (1 when p ∷ 2 when q ∷ []) < 100000
unfolding first_of
first_small true q = lit< tt
first_small false true = lit< tt
first_small false false = lit< tt

module _ (s : List ℕ) (at : ℕ) where
  -- a negative W or H is answered by 1
  pub negative_picture : (32768 ≤ field s at 2) ⊎ (32768 ≤ field s at 3) → answer_at s at ≡ record { code = 1; mv = record { x = pos 0; y = pos 0 }; moved = nothing_moved }
  unfolding answer_at mv_clip
  negative_picture h = rw (refused 1 _ _ (bad _ _ h))

  -- a negative number among x, y, W, H, w and h is never accepted
  pub negative_refused : (k : ℕ) → k < 6 → 32768 ≤ field s at k → (answer_at s at).code ≡ 0 → ⊥
  unfolding answer_at mv_clip
  negative_refused k l h e = go k l h (allowed_block _ e)
    where
      go : (k : ℕ) → k < 6 → 32768 ≤ field s at k → Allowed (field s at 2) (field s at 0) (field s at 4) × Allowed (field s at 3) (field s at 1) (field s at 5) → ⊥
      go zero l h a = omega arith
      go (suc zero) l h a = omega arith
      go (suc (suc zero)) l h a = omega arith
      go (suc (suc (suc zero))) l h a = omega arith
      go (suc (suc (suc (suc zero)))) l h a = omega arith
      go (suc (suc (suc (suc (suc zero))))) l h a = omega arith
      go (suc (suc (suc (suc (suc (suc k)))))) l h a = absurd (omega arith)

  -- an answer's number is small
  pub small : (answer_at s at).code < 100000
  unfolding answer_at mv_clip
  small = first_small _ _
