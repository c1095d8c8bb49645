-- W4's laws. Assumes nothing.
use mathlib.Core.Bool.{Bool, true, false, cond, ◌&&◌}
use mathlib.Core.List.Permᴰ
use mathlib.Core.List.{List, map, Permᴰ}
use mathlib.Core.Path.{◌≡◌, refl, sym, ap, ap₂, subst, ◌∙◌}
use Prim.Native.Nat.{ℕ, zero, suc, ◌*◌, ◌/◌, ◌<◌, ◌≤◌}
use native.Mathlib.Nat.{mul_comm}
use native.Mathlib.Omega.{arith}
use borrow.Author.Tests.{ne_eqb}
use lib.Dec.{T, eqb, eqb→eq}
use lib.Count.{count_trailing_zeros}
use lib.IntN.{ℤ, pos, neg_ℤ}
use lib.Ieee as Ieee
use lib.Ieee.{Float, round, units, odd, of_bits, of_fields, size, span, climb}
use Rattle.evc_int.specs.Whole.{eq_z}
use Rattle.evc_def.specs.Blocks.{bad_picture}
use Rattle.evc_def.specs.Codes.{first_of}
use Rattle.evc_def.specs.declared.EvcMv.{EvcMv}
use Rattle.evc_map.specs.Maps.{most_units, units_of, mv_at}
use Rattle.evc_map.proofs.Units.{units_small}
use Rattle.evc_camera.specs.declared.Sums.{Sums}
use Rattle.evc_camera.specs.declared.CameraMotion.TheVariants.{None, Still, Moving}
use Rattle.evc_camera.specs.declared.EvcCamera.{EvcCamera}
use Rattle.evc_camera.specs.Camera.{is_counted, sums_of, mean_of, motion_of, answer, plus_zero, camera_motion}
use Rattle.evc_camera.proofs.Call.{covered}
use Rattle.evc_camera_law.specs.CameraLaws.{SixAndSeven, FourAndMinusFour, Call, code_of, reading, Refused, vectors, Unread, AnyOrder, InPlace, ColumnsReversed, RowsReversed, Reordered, sums, turned, LeftRight, TopBottom, Shown, Within8192, Bounded, CameraLaws}
use Rattle.evc_camera_law.proofs.Means.{mean_is_zero, mean_turned, zero_turned, neg_zero, mean_bounded, zero_bounded}
use Rattle.evc_camera_law.proofs.Mirrored.{along, rows_reversed, columns_reversed}
use Rattle.evc_camera_law.proofs.Vectors.{sum_over, sums_over, few_counted, sums_small, counted_picked, counted_by, alike, map_kept, picked, in_any_order, Adds, kept_adds, neg_adds, mv_by, sums_by, sums_by_lem}

six_and_seven : SixAndSeven
unfolding camera_motion sums_of motion_of mean_of first_of bad_picture round units odd size span climb of_bits of_fields count_trailing_zeros
six_and_seven = refl

four_and_minus_four : FourAndMinusFour
unfolding camera_motion sums_of motion_of first_of bad_picture
four_and_minus_four = refl

refused : Refused
unfolding camera_motion
refused c n = rw (ne_eqb (code_of c) 0 n)

-- ---- an accepted call, by its vectors

accepted_reading : (c : Call) → code_of c ≡ 0 → reading c ≡ answer 0 (motion_of (sums c))
unfolding camera_motion
accepted_reading c e = rw e

by_vectors : (c : Call) → sums c ≡ sum_over (vectors c)
by_vectors c = sums_over c.mvs c.words (units_of c.W c.H)

few_units : (c : Call) → code_of c ≡ 0 → (sums c).units ≤ most_units
few_units c e =
    let k = covered _ _ _ _ e in
    let m = units_small (c.W / 4) (c.H / 4) (omega arith) (omega arith) in
    let l = few_counted c.mvs c.words (units_of c.W c.H) in
    omega arith

any_order : AnyOrder
any_order c d e f p = accepted_reading c e ∙ ap (λ (s : Sums). answer 0 (motion_of s)) (by_vectors c ∙ in_any_order p ∙ sym (by_vectors d)) ∙ sym (accepted_reading d f)

-- ---- units at their places, and columns or rows reversed

module _ (g : EvcMv → EvcMv) (c d : Call) where
  abbrev given : ℕ → List EvcMv
  given = picked (is_counted c.words) (λ (i : ℕ). g (mv_at c.mvs i 0))

  abbrev taken : ℕ → List EvcMv
  taken = picked (is_counted d.words) (λ (i : ℕ). mv_at d.mvs i 0)

  -- both, over a number of units that may be written otherwise
  by_units : (n : ℕ) → units_of c.W c.H ≡ n → c.W ≡ d.W → c.H ≡ d.H → Permᴰ (given n) (taken n) → Permᴰ (map g (vectors c)) (vectors d)
  by_units n e w h m =
      along (counted_by g c.mvs c.words (units_of c.W c.H) ∙ ap given e) m
      (counted_picked d.mvs d.words (units_of d.W d.H) ∙ ap taken (sym (ap₂ units_of w h) ∙ e))

  in_place : InPlace g c d → Permᴰ (map g (vectors c)) (vectors d)
  in_place p =
      by_units (units_of c.W c.H) refl p.width p.height
      (subst (Permᴰ (given (units_of c.W c.H))) (alike _ _ _ _ (units_of c.W c.H) (λ i l. (p.unit i l).counts) (λ i l. (p.unit i l).mv)) (Permᴰ.refl _))

  columns : ColumnsReversed g c d → Permᴰ (map g (vectors c)) (vectors d)
  columns p =
      by_units (c.H / 4 * (c.W / 4)) (mul_comm (c.W / 4) (c.H / 4)) p.width p.height
      (columns_reversed (c.W / 4) (c.H / 4) _ _ _ _ (λ x x' y s l. (p.unit x x' y s l).counts) (λ x x' y s l. (p.unit x x' y s l).mv))

  rows : RowsReversed g c d → Permᴰ (map g (vectors c)) (vectors d)
  rows p =
      by_units (c.H / 4 * (c.W / 4)) (mul_comm (c.W / 4) (c.H / 4)) p.width p.height
      (rows_reversed (c.W / 4) (c.H / 4) _ _ _ _ (λ x y y' l s. (p.unit x y y' l s).counts) (λ x y y' l s. (p.unit x y y' l s).mv))

reordered : Reordered
reordered g c d = (in_place g c d, columns g c d, rows g c d)

-- so nothing else is read
unread : Unread
unread c d e f p = any_order c d e f (subst (λ (l : List EvcMv). Permᴰ l (vectors d)) (map_kept (vectors c)) (in_place (λ (mv : EvcMv). mv) c d p))

-- a reading that is not the first has a unit
some : (n : ℕ) → eqb n 0 ≡ false → 0 < n
some zero e = absurd (subst T e tt)
some (suc n) e = omega arith

-- ---- flipped: one direction's sum goes by f, and its mean by t

record Flips (f : ℤ → ℤ) (t : Float → Float) : Type 0 where
  adds : Adds f
  zeros : (z : ℤ) → eq_z (f z) (pos 0) ≡ eq_z z (pos 0)
  means : (z : ℤ) (n : ℕ) → 0 < n → n ≤ most_units → mean_of (f z) n ≡ t (mean_of z n)
  zero_kept : t plus_zero ≡ plus_zero

kept : Flips (λ (z : ℤ). z) (λ (v : Float). v)
kept = record { adds = kept_adds; zeros = λ z. refl; means = λ z n h k. refl; zero_kept = refl }

negated : Flips neg_ℤ turned
negated = record { adds = neg_adds; zeros = neg_zero; means = λ z n h k. mean_turned n h k z; zero_kept = zero_turned }

module _ (f g : ℤ → ℤ) (t u : Float → Float) (p : Flips f t) (q : Flips g u) where
  abbrev flipped_by : EvcCamera → EvcCamera
  flipped_by r = record { code = 0; kind = r.kind; x = t r.x; y = u r.y }

  motion_flipped : (s : Sums) → s.units ≤ most_units → answer 0 (motion_of (sums_by f g s)) ≡ flipped_by (answer 0 (motion_of s))
  unfolding motion_of
  motion_flipped s l = rw (p.zeros s.x, q.zeros s.y) (pick (eqb s.units 0) (eq_z s.x (pos 0) && eq_z s.y (pos 0)) (some s.units))
    where
      pick : (b still : Bool) → (b ≡ false → 0 < s.units)
          → answer 0 (cond b None (cond still Still (Moving (mean_of (f s.x) s.units) (mean_of (g s.y) s.units))))
          ≡ flipped_by (answer 0 (cond b None (cond still Still (Moving (mean_of s.x s.units) (mean_of s.y s.units)))))
      pick true still h = ap₂ (λ (x y : Float). record { code = 0; kind = 0; x = x; y = y }) (sym p.zero_kept) (sym q.zero_kept)
      pick false true h = ap₂ (λ (x y : Float). record { code = 0; kind = 1; x = x; y = y }) (sym p.zero_kept) (sym q.zero_kept)
      pick false false h = ap₂ (λ (x y : Float). record { code = 0; kind = 2; x = x; y = y }) (p.means s.x s.units (h refl) l) (q.means s.y s.units (h refl) l)

  module _ (c d : Call) (e : code_of c ≡ 0) (h : code_of d ≡ 0) (m : Permᴰ (map (mv_by f g) (vectors c)) (vectors d)) where
    flipped_sums : sums d ≡ sums_by f g (sums c)
    flipped_sums =
        by_vectors d ∙ sym (in_any_order m) ∙ sums_by_lem f g p.adds q.adds (vectors c) ∙ ap (sums_by f g) (sym (by_vectors c))

    flipped : reading d ≡ flipped_by (reading c)
    flipped =
        accepted_reading d h ∙ ap (λ (s : Sums). answer 0 (motion_of s)) flipped_sums
        ∙ motion_flipped (sums c) (few_units c e) ∙ ap flipped_by (sym (accepted_reading c e))

left_right : LeftRight
left_right c d e f m = (flipped_sums _ _ _ _ negated kept c d e f m, flipped _ _ _ _ negated kept c d e f m)

top_bottom : TopBottom
top_bottom c d e f m = (flipped_sums _ _ _ _ kept negated c d e f m, flipped _ _ _ _ kept negated c d e f m)

-- ---- the numbers

-- what holds of a refusal's reading, and of every reading of sums, holds of each
by_sums : (P : EvcCamera → Type 0) (c : Call) → (code_of c ≡ 0 → P (answer 0 (motion_of (sums c)))) → ((n : ℕ) → P (answer n None)) → P (reading c)
unfolding camera_motion
by_sums P c h r = pick (eqb (code_of c) 0) refl
  where
    pick : (b : Bool) → eqb (code_of c) 0 ≡ b → P (answer (code_of c) (cond (eqb (code_of c) 0) (motion_of (sums c)) None))
    pick true e = let z = eqb→eq (code_of c) 0 (subst T (sym e) tt) in rw z (h z)
    pick false e = rw e (r (code_of c))

-- .. and of sums by cases
by_motion : (P : EvcCamera → Type 0) (s : Sums) → ((n : ℕ) → P (answer n None)) → P (answer 0 Still)
    → (0 < s.units → (eq_z s.x (pos 0) && eq_z s.y (pos 0)) ≡ false → P (answer 0 (Moving (mean_of s.x s.units) (mean_of s.y s.units)))) → P (answer 0 (motion_of s))
unfolding motion_of
by_motion P s n h m = pick (eqb s.units 0) (eq_z s.x (pos 0) && eq_z s.y (pos 0)) (some s.units) (λ e. e)
  where
    pick : (b still : Bool) → (b ≡ false → 0 < s.units) → (still ≡ false → (eq_z s.x (pos 0) && eq_z s.y (pos 0)) ≡ false)
        → P (answer 0 (cond b None (cond still Still (Moving (mean_of s.x s.units) (mean_of s.y s.units)))))
    pick true still e f = n 0
    pick false true e f = h
    pick false false e f = m (e refl) (f refl)

shown : Shown
shown c = by_sums P c (λ e. by_motion P (sums c) (λ n k. absurd (not_moving 0 (omega arith) k)) (λ k. absurd (not_moving 1 (omega arith) k)) (λ h f k. moves (few_units c e) h f)) (λ n k. absurd (not_moving 0 (omega arith) k))
  where
    P : EvcCamera → Type 0
    P r = r.kind ≡ 2 → (Ieee.eq r.x plus_zero && Ieee.eq r.y plus_zero) ≡ false

    not_moving : (n : ℕ) → n < 2 → n ≡ 2 → ⊥
    not_moving n l k = omega arith

    moves : (sums c).units ≤ most_units → 0 < (sums c).units → (eq_z (sums c).x (pos 0) && eq_z (sums c).y (pos 0)) ≡ false
        → (Ieee.eq (mean_of (sums c).x (sums c).units) plus_zero && Ieee.eq (mean_of (sums c).y (sums c).units) plus_zero) ≡ false
    moves l h f = rw (mean_is_zero (sums c).units h l (sums c).x, mean_is_zero (sums c).units h l (sums c).y) f

bounded : Bounded
bounded c h =
    let z : Within8192 plus_zero × Within8192 plus_zero = (zero_bounded, zero_bounded) in
    let s = sums_small c.mvs c.words h (units_of c.W c.H) in
    by_sums (λ (r : EvcCamera). Within8192 r.x × Within8192 r.y) c
    (λ e. by_motion (λ (r : EvcCamera). Within8192 r.x × Within8192 r.y) (sums c) (λ n. z) z (λ k f. (mean_bounded _ k _ s.0, mean_bounded _ k _ s.1)))
    (λ n. z)

pub camera_laws : CameraLaws
camera_laws = (six_and_seven, four_and_minus_four, refused, unread, any_order, reordered, left_right, top_bottom, shown, bounded)
