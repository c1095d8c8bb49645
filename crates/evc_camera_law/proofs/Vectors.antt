-- The sums of a call are those of its counted vectors, in any order, and negated with them. Assumes nothing.
use mathlib.Core.Bool.{Bool, true, false, cond}
use mathlib.Core.List.{List, [], ◌∷◌, map, Permᴰ}
use mathlib.Core.Path.{◌≡◌, refl, sym, ap, ap₂, ◌∙◌}
use Prim.Native.Nat.{ℕ, zero, suc, ◌+◌, ◌*◌, ◌<◌, ◌≤◌}
use native.Mathlib.Omega.{arith}
use lib.IntN.{ℤ, pos, neg_ℤ, nat_abs, ◌+ℤ◌}
use lib.ListN.{get_or}
use Rattle.std.proofs.lemmas.Int.{ints}
use Rattle.evc_def.specs.declared.EvcMv.{EvcMv}
use Rattle.evc_map.specs.Maps.{mv_at}
use Rattle.evc_camera.specs.declared.Sums.{Sums}
use Rattle.evc_camera.specs.Camera.{is_counted, with_mv, sums_of}
use Rattle.evc_camera_law.specs.CameraLaws.{counted_mvs}

unfoldable pub sum_over : List EvcMv → Sums
sum_over [] = record { units = 0; x = pos 0; y = pos 0 }
sum_over (mv ∷ l) = with_mv (sum_over l) mv

module _ (mvs : List ℤ) (words : List ℕ) where
  pub sums_over : (k : ℕ) → sums_of mvs words k ≡ sum_over (counted_mvs mvs words k)
  unfolding sums_of counted_mvs sum_over
  sums_over zero = refl
  sums_over (suc k) = pick (is_counted words k) (sums_over k)
    where
      pick : (b : Bool) → sums_of mvs words k ≡ sum_over (counted_mvs mvs words k) → cond b (with_mv (sums_of mvs words k) (mv_at mvs k 0)) (sums_of mvs words k) ≡ sum_over (cond b (mv_at mvs k 0 ∷ counted_mvs mvs words k) (counted_mvs mvs words k))
      pick true e = ap (λ (s : Sums). with_mv s (mv_at mvs k 0)) e
      pick false e = e

  pub few_counted : (k : ℕ) → (sums_of mvs words k).units ≤ k
  unfolding sums_of
  few_counted zero = omega arith
  few_counted (suc k) = pick (is_counted words k) (few_counted k)
    where
      pick : (b : Bool) → (sums_of mvs words k).units ≤ k → (cond b (with_mv (sums_of mvs words k) (mv_at mvs k 0)) (sums_of mvs words k)).units ≤ suc k
      pick true l = omega arith
      pick false l = omega arith

-- ---- of numbers of 16 bits

abbrev pub Small : Sums → Type 0
Small s = (nat_abs s.x ≤ 32768 * s.units) × (nat_abs s.y ≤ 32768 * s.units)

small_more : (s : Sums) (mv : EvcMv) (b : Bool) → nat_abs mv.x ≤ 32768 → nat_abs mv.y ≤ 32768 → Small s → Small (cond b (with_mv s mv) s)
small_more s mv true h k e = omega (arith, ints)
small_more s mv false h k e = e

module _ (mvs : List ℤ) (words : List ℕ) (h : (i : ℕ) → nat_abs (get_or mvs i (pos 0)) ≤ 32768) where
  pub sums_small : (k : ℕ) → Small (sums_of mvs words k)
  unfolding sums_of
  sums_small zero = (omega arith, omega arith)
  sums_small (suc k) = small_more (sums_of mvs words k) (mv_at mvs k 0) (is_counted words k) (h _) (h _) (sums_small k)

-- ---- what is picked of the first k

unfoldable pub picked : (ℕ → Bool) → (ℕ → EvcMv) → ℕ → List EvcMv
picked p v zero = []
picked p v (suc k) = cond (p k) (v k ∷ picked p v k) (picked p v k)

pub counted_picked : (mvs : List ℤ) (words : List ℕ) (k : ℕ) → counted_mvs mvs words k ≡ picked (is_counted words) (λ (i : ℕ). mv_at mvs i 0) k
unfolding counted_mvs picked
counted_picked mvs words zero = refl
counted_picked mvs words (suc k) = ap (λ (l : List EvcMv). cond (is_counted words k) (mv_at mvs k 0 ∷ l) l) (counted_picked mvs words k)

module _ (p q : ℕ → Bool) (v u : ℕ → EvcMv) where
  pub alike : (k : ℕ) → ((i : ℕ) → i < k → p i ≡ q i) → ((i : ℕ) → i < k → p i ≡ true → v i ≡ u i) → picked p v k ≡ picked q u k
  unfolding picked
  alike zero e f = refl
  alike (suc k) e f = pick (p k) (q k) (e k (omega arith)) (f k (omega arith)) (alike k (λ i l. e i (omega arith)) (λ i l t. f i (omega arith) t))
    where
      pick : (s t : Bool) → s ≡ t → (s ≡ true → v k ≡ u k) → picked p v k ≡ picked q u k → cond s (v k ∷ picked p v k) (picked p v k) ≡ cond t (u k ∷ picked q u k) (picked q u k)
      pick true t e m r = rw (sym e) (ap₂ ◌∷◌ (m refl) r)
      pick false t e m r = rw (sym e) r

module _ (g : EvcMv → EvcMv) (p : ℕ → Bool) (v : ℕ → EvcMv) where
  pub map_picked : (k : ℕ) → map g (picked p v k) ≡ picked p (λ (i : ℕ). g (v i)) k
  unfolding picked
  map_picked zero = refl
  map_picked (suc k) = pick (p k) (map_picked k)
    where
      pick : (b : Bool) → map g (picked p v k) ≡ picked p (λ (i : ℕ). g (v i)) k → map g (cond b (v k ∷ picked p v k) (picked p v k)) ≡ cond b (g (v k) ∷ picked p (λ (i : ℕ). g (v i)) k) (picked p (λ (i : ℕ). g (v i)) k)
      pick true e = ap (λ (l : List EvcMv). g (v k) ∷ l) e
      pick false e = e

-- the counted vectors by g are what is picked by g
pub counted_by : (g : EvcMv → EvcMv) (mvs : List ℤ) (words : List ℕ) (k : ℕ) → map g (counted_mvs mvs words k) ≡ picked (is_counted words) (λ (i : ℕ). g (mv_at mvs i 0)) k
counted_by g mvs words k = ap (map g) (counted_picked mvs words k) ∙ map_picked g (is_counted words) (λ (i : ℕ). mv_at mvs i 0) k

pub map_kept : (l : List EvcMv) → map (λ (mv : EvcMv). mv) l ≡ l
map_kept [] = refl
map_kept (mv ∷ l) = ap (λ (m : List EvcMv). mv ∷ m) (map_kept l)

-- ---- any order

exchanged : (s a b : ℤ) → s +ℤ a +ℤ b ≡ s +ℤ b +ℤ a
exchanged s a b = omega (arith, ints)

either_first : (s : Sums) (a b : EvcMv) → with_mv (with_mv s a) b ≡ with_mv (with_mv s b) a
either_first s a b = ap₂ (λ (x y : ℤ). record { units = s.units + 1 + 1; x = x; y = y }) (exchanged s.x a.x b.x) (exchanged s.y a.y b.y)

pub in_any_order : {l m : List EvcMv} → Permᴰ l m → sum_over l ≡ sum_over m
unfolding sum_over
in_any_order Permᴰ.nil = refl
in_any_order (Permᴰ.cons e d) = ap₂ with_mv (in_any_order d) e
in_any_order (Permᴰ.swap {l = l} e f) = either_first (sum_over l) _ _ ∙ ap₂ (λ (a b : EvcMv). with_mv (with_mv (sum_over l) a) b) e f
in_any_order (Permᴰ.trans d e) = in_any_order d ∙ in_any_order e

-- ---- each component by a function that adds

pub record Adds (f : ℤ → ℤ) : Type 0 where
  pub of_zero : f (pos 0) ≡ pos 0
  pub of_sum : (a b : ℤ) → f a +ℤ f b ≡ f (a +ℤ b)

pub kept_adds : Adds (λ (z : ℤ). z)
kept_adds = record { of_zero = refl; of_sum = λ a b. refl }

pub neg_adds : Adds neg_ℤ
neg_adds = record { of_zero = refl; of_sum = λ a b. omega (arith, ints) }

module _ (f g : ℤ → ℤ) where
  abbrev pub mv_by : EvcMv → EvcMv
  mv_by mv = record { x = f mv.x; y = g mv.y }

  abbrev pub sums_by : Sums → Sums
  sums_by s = record { units = s.units; x = f s.x; y = g s.y }

  pub sums_by_lem : Adds f → Adds g → (l : List EvcMv) → sum_over (map mv_by l) ≡ sums_by (sum_over l)
  unfolding sum_over
  sums_by_lem p q [] = ap₂ (λ (x y : ℤ). record { units = 0; x = x; y = y }) (sym p.of_zero) (sym q.of_zero)
  sums_by_lem p q (mv ∷ l) =
      ap (λ (s : Sums). with_mv s (mv_by mv)) (sums_by_lem p q l)
      ∙ ap₂ (λ (x y : ℤ). record { units = (sum_over l).units + 1; x = x; y = y }) (p.of_sum (sum_over l).x mv.x) (q.of_sum (sum_over l).y mv.y)
