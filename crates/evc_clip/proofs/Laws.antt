-- Laws of clipping. Assumes nothing.
use mathlib.Core.Bool.{Bool, true, false, cond}
use mathlib.Core.Path.{◌≡◌, refl, sym, subst}
use Prim.Native.Nat.{ℕ, ◌+◌, ◌-◌, ◌*◌, ◌/◌, ◌≤◌, ◌<◌}
use native.Mathlib.Omega.{arith}
use lib.Dec.{lit<}
use lib.IntN.{ℤ, pos, neg_ℤ, ◌+ℤ◌, ◌-ℤ◌, ◌*ℤ◌}
use lib.Signed.{◌≤ℤ◌, lt_z}
use mir.Syntax.{w16}
use mir.Val.{SFits}
use Rattle.evc_int.specs.Whole.{−◌, ◌⁺, ◌⁻, ◌modulo◌, clip3}
use Rattle.evc_int.proofs.Whole.{parts_are}
use Rattle.evc_int.proofs.Division.{split_only}
use Rattle.evc_def.specs.Blocks.{Allowed}
use Rattle.evc_clip.specs.Clip.{margin, not_moved, moved_low, moved_high, other_side, ClippedComponent, place_of, clip_component, moved_component}

-- ---- a clipped component by its three cases, as facts of naturals

data Clips (W x w : ℕ) (mv r : ℤ) : ℕ → Type 0 where
  low : 4 * x + mv ⁺ + 256 < mv ⁻ → r ⁺ + 4 * x + 256 ≡ r ⁻ → Clips W x w mv r moved_low
  high : 4 * W + 4 * margin + mv ⁻ < 4 * x + mv ⁺ + 4 * w → r ⁺ + 4 * x + 4 * w ≡ 4 * W + 4 * margin + r ⁻ → Clips W x w mv r moved_high
  kept : mv ⁻ ≤ 4 * x + mv ⁺ + 256 → 4 * x + mv ⁺ + 4 * w ≤ 4 * W + 4 * margin + mv ⁻ → r ≡ mv → Clips W x w mv r not_moved

clips : (W x w : ℕ) (mv : ℤ) → Clips W x w mv (clip_component W x w mv) (moved_component W x w mv)
unfolding clip_component moved_component
clips W x w mv = go _ _ refl refl
  where
    limit : ℤ
    limit = pos 4 *ℤ (pos W -ℤ pos 1 +ℤ pos margin)

    by_tests : Bool → Bool → ClippedComponent
    by_tests s t =
        cond s (record { mv = − 256 -ℤ pos 4 *ℤ pos x; moved = moved_low })
        (cond t (record { mv = limit -ℤ pos 4 *ℤ pos x -ℤ pos 4 *ℤ pos w +ℤ pos 4; moved = moved_high }) (record { mv = mv; moved = not_moved }))

    go : (s t : Bool) → lt_z (place_of x mv) (− 256) ≡ s → lt_z limit (place_of x mv +ℤ pos 4 *ℤ pos w -ℤ pos 4) ≡ t → Clips W x w mv (by_tests s t).mv (by_tests s t).moved
    go true t a b = low (omega (arith, parts_are)) (omega (arith, parts_are))
    go false true a b = high (omega (arith, parts_are)) (omega (arith, parts_are))
    go false false a b = kept (omega (arith, parts_are)) (omega (arith, parts_are)) refl

-- ---- the clipped place: the place itself, clipped to -256 .. 4 (W + 64 - w)

abbrev pub last_place : ℕ → ℕ → ℤ
last_place W w = pos 4 *ℤ (pos W +ℤ pos margin -ℤ pos w)

module _ (W x w : ℕ) (mv : ℤ) (h : w ≤ W) where
  pub clipped_place_lem : place_of x (clip_component W x w mv) ≡ clip3 (− 256) (last_place W w) (place_of x mv)
  unfolding clip3
  clipped_place_lem = go _ (clips W x w mv)
    where
      go : (r : ℤ) {m : ℕ} → Clips W x w mv r m → place_of x r ≡ clip3 (− 256) (last_place W w) (place_of x mv)
      go r (low a p) = grind (arith, parts_are)
      go r (high a p) = grind (arith, parts_are)
      go r (kept a b p) = grind (arith, parts_are)

-- ---- the report

module _ (W x w : ℕ) (mv : ℤ) where
  -- a component is reported exactly if clipping changed it
  pub kept_unreported : clip_component W x w mv ≡ mv → moved_component W x w mv ≡ not_moved
  kept_unreported = go (clip_component W x w mv) (moved_component W x w mv) (clips W x w mv)
    where
      go : (r : ℤ) (m : ℕ) → Clips W x w mv r m → r ≡ mv → m ≡ not_moved
      go r m (low a p) e = absurd (omega (arith, parts_are))
      go r m (high a p) e = absurd (omega (arith, parts_are))
      go r m (kept a b p) e = refl

  pub unreported_kept : moved_component W x w mv ≡ not_moved → clip_component W x w mv ≡ mv
  unreported_kept = go (clip_component W x w mv) (moved_component W x w mv) (clips W x w mv)
    where
      go : (r : ℤ) (m : ℕ) → Clips W x w mv r m → m ≡ not_moved → r ≡ mv
      go r m (low a p) e = absurd (omega arith)
      go r m (high a p) e = absurd (omega arith)
      go r m (kept a b p) e = p

  -- the report from the exact place e and the clipped place g alone: whether e lies below g, or above it
  pub report : (e g : ℤ) (s t : Bool) → e ≡ place_of x mv → g ≡ place_of x (clip_component W x w mv) → lt_z e g ≡ s → lt_z g e ≡ t → cond s moved_low (cond t moved_high not_moved) ≡ moved_component W x w mv
  report e g s t ee eg es et = go (clip_component W x w mv) (moved_component W x w mv) s t (clips W x w mv) eg es et
    where
      go : (r : ℤ) (m : ℕ) (s t : Bool) → Clips W x w mv r m → g ≡ place_of x r → lt_z e g ≡ s → lt_z g e ≡ t → cond s moved_low (cond t moved_high not_moved) ≡ m
      go r m true t (low a p) q u v = refl
      go r m false t (low a p) q u v = absurd (omega (arith, parts_are))
      go r m true t (high a p) q u v = absurd (omega (arith, parts_are))
      go r m false true (high a p) q u v = refl
      go r m false false (high a p) q u v = absurd (omega (arith, parts_are))
      go r m true t (kept a b p) q u v = absurd (omega (arith, parts_are))
      go r m false true (kept a b p) q u v = absurd (omega (arith, parts_are))
      go r m false false (kept a b p) q u v = refl

-- ---- the mirror: the vector negated, the block as far from the picture's other end (x + x' + w ≡ W). The two clipped places add up to 4 (W - w)

module _ (W x x' w : ℕ) (mv : ℤ) (h : x + x' + w ≡ W) where
  pub clipped_mirror : place_of x (clip_component W x w mv) +ℤ place_of x' (clip_component W x' w (neg_ℤ mv)) ≡ pos 4 *ℤ (pos W -ℤ pos w)
  clipped_mirror = go _ _ (clips W x w mv) (clips W x' w (neg_ℤ mv))
    where
      go : (r r' : ℤ) {m m' : ℕ} → Clips W x w mv r m → Clips W x' w (neg_ℤ mv) r' m' → place_of x r +ℤ place_of x' r' ≡ pos 4 *ℤ (pos W -ℤ pos w)
      go r r' (low a p) (low a' p') = absurd (omega (arith, parts_are))
      go r r' (low a p) (high a' p') = omega (arith, parts_are)
      go r r' (low a p) (kept a' b' p') = absurd (omega (arith, parts_are))
      go r r' (high a p) (low a' p') = omega (arith, parts_are)
      go r r' (high a p) (high a' p') = absurd (omega (arith, parts_are))
      go r r' (high a p) (kept a' b' p') = absurd (omega (arith, parts_are))
      go r r' (kept a b p) (low a' p') = absurd (omega (arith, parts_are))
      go r r' (kept a b p) (high a' p') = absurd (omega (arith, parts_are))
      go r r' (kept a b p) (kept a' b' p') = omega (arith, parts_are)

  -- so the low side and the high side change places
  pub moved_mirror : moved_component W x' w (neg_ℤ mv) ≡ other_side (moved_component W x w mv)
  moved_mirror = go _ _ _ _ (clips W x w mv) (clips W x' w (neg_ℤ mv))
    where
      go : (r r' : ℤ) (m m' : ℕ) → Clips W x w mv r m → Clips W x' w (neg_ℤ mv) r' m' → m' ≡ other_side m
      go r r' m m' (low a p) (low a' p') = absurd (omega (arith, parts_are))
      go r r' m m' (low a p) (high a' p') = refl
      go r r' m m' (low a p) (kept a' b' p') = absurd (omega (arith, parts_are))
      go r r' m m' (high a p) (low a' p') = refl
      go r r' m m' (high a p) (high a' p') = absurd (omega (arith, parts_are))
      go r r' m m' (high a p) (kept a' b' p') = absurd (omega (arith, parts_are))
      go r r' m m' (kept a b p) (low a' p') = absurd (omega (arith, parts_are))
      go r r' m m' (kept a b p) (high a' p') = absurd (omega (arith, parts_are))
      go r r' m m' (kept a b p) (kept a' b' p') = refl

-- ---- for a block that the checks allow

module _ (W x w : ℕ) (mv : ℤ) (ok : Allowed W x w) where
  -- the clipped vector fits 16 bits
  pub clipped_fits : SFits w16 mv → SFits w16 (clip_component W x w mv)
  clipped_fits f = go (clip_component W x w mv) (clips W x w mv)
    where
      go : (r : ℤ) {m : ℕ} → Clips W x w mv r m → SFits w16 r
      go r (low a p) = omega (arith, parts_are)
      go r (high a p) = omega (arith, parts_are)
      go r (kept a b p) = subst (SFits w16) (sym p) f

  -- the clipped place lies in -256 .. 4 (W + 64 - w)
  pub clipped_range : (− 256 ≤ℤ place_of x (clip_component W x w mv)) × (place_of x (clip_component W x w mv) ≤ℤ last_place W w)
  clipped_range = go (clip_component W x w mv) (clips W x w mv)
    where
      go : (r : ℤ) {m : ℕ} → Clips W x w mv r m → (− 256 ≤ℤ place_of x r) × (place_of x r ≤ℤ last_place W w)
      go r (low a p) = omega (arith, parts_are)
      go r (high a p) = omega (arith, parts_are)
      go r (kept a b p) = omega (arith, parts_are)

  -- the place of a component that was moved is a multiple of 16, so its phase is 0 in luma and in chroma
  pub moved_aligned : (clip_component W x w mv ≡ mv → ⊥) → place_of x (clip_component W x w mv) modulo 16 ≡ 0
  moved_aligned moved = go (clip_component W x w mv) moved (clips W x w mv)
    where
      q : ℕ
      q = (W + margin - w) / 4

      go : (r : ℤ) → (r ≡ mv → ⊥) → {m : ℕ} → Clips W x w mv r m → place_of x r modulo 16 ≡ 0
      go r n (low a p) = (split_only 16 (place_of x r) (− 16) 0 (lit< tt) (omega (arith, parts_are))).1
      go r n (high a p) = (split_only 16 (place_of x r) (pos q) 0 (lit< tt) (omega (arith, parts_are))).1
      go r n (kept a b p) = absurd (n p)

  -- clipping twice changes nothing more
  pub clipped_twice : clip_component W x w (clip_component W x w mv) ≡ clip_component W x w mv
  clipped_twice = go (clip_component W x w mv) (clips W x w mv) (clip_component W x w (clip_component W x w mv)) (clips W x w (clip_component W x w mv))
    where
      go : (r : ℤ) {m : ℕ} → Clips W x w mv r m → (s : ℤ) {n : ℕ} → Clips W x w r s n → s ≡ r
      go r (low a p) s (low b q) = absurd (omega arith)
      go r (low a p) s (high b q) = absurd (omega arith)
      go r (low a p) s (kept b c q) = q
      go r (high a p) s (low b q) = absurd (omega arith)
      go r (high a p) s (high b q) = absurd (omega arith)
      go r (high a p) s (kept b c q) = q
      go r (kept a b p) s (low c q) = absurd (omega (arith, parts_are))
      go r (kept a b p) s (high c q) = absurd (omega (arith, parts_are))
      go r (kept a b p) s (kept c d q) = q
