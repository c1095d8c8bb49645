-- What the paths ask of evc_blocks, and what these give: the samples under the taps lie in the window. Assumes nothing.
use Prim.Native.Nat.{ℕ, zero, suc, ◌+◌, ◌*◌, ◌/◌, ◌%◌, ◌<◌, ◌≤◌}
use mathlib.Core.Logic.{◌⊎◌, inl, inr, ⊎_elim}
use mathlib.Core.Bool.{Bool, true, false, cond}
use mathlib.Core.List.{List, [], ◌∷◌}
use mathlib.Core.Path.{◌≡◌, refl, sym, ap, ap₂, subst, ◌∙◌}
use native.Mathlib.Nat.{add-mul, mul-le-mul_left, div-add-mod', div-lt_iff_lt-mul, mod-lt}
use native.Mathlib.Omega.{arith}
use borrow.Author.Tests.{lt-ltb, le-ltb, ltb-true, ltb-false}
use lib.Dec.{ltb}
use lib.ListN.{length, get_or, drop}
use Rattle.evc_int.specs.Lists.{with_row, with_block}
use Rattle.evc_int.proofs.Lists.{row_fits, length-with_block, with_row-ext, with_row-join, with_block-ext, with_block-in, with_block-run, columns_step}
use Rattle.evc_int.proofs.Whole.{Is}
use Rattle.evc_filter.specs.Filter.{phases, reach, interpolated, row_stage, interpolated_twice}
use Rattle.evc_filter.specs.Inner.{taps_of, offsets_of, Bounded, first_at, single_at, second_at}
use Rattle.evc_filter.proofs.Sums.{taps_small, offsets_ordered, first_is, single_is, second_is, first_most}
use Rattle.evc_lanes.specs.Inner.{is_row_width}
use Rattle.evc_lanes.proofs.Lanes.{eights, by_width}
use Rattle.evc_blocks.specs.Inner.{Rows}
use Rattle.evc_plane.specs.Planes.{side_of}
use Rattle.evc_plane.specs.declared.PlaneType.{PlaneType}
use Rattle.evc_plane.specs.declared.PlaneType.TheVariants.{Y, UV}
use Rattle.evc_filter.specs.declared.Filter.{Filter}
use Rattle.evc_paths.specs.Inner.{Within, along, step_of}
use Rattle.evc_paths.specs.declared.Direction.{Direction}
use Rattle.evc_paths.specs.declared.Direction.TheVariants.{Across, Down}

abbrev pub Near : ℕ → PlaneType → List ℕ → ℕ → ℕ → Type 0
Near most k s at step = (j : ℕ) → j ≤ reach k → get_or s (at + j * step) 0 ≤ most

pub bounded : (most : ℕ) (k : PlaneType) (s : List ℕ) (at step : ℕ) → Near most k s at step → Bounded most s at (offsets_of k step)
bounded most Y s at step h =
    record {
      p0_most = subst (λ (i : ℕ). get_or s i 0 ≤ most) (omega arith) (h 0 (omega arith));
      p1_most = h 5 (omega arith);
      q0_most = at_place 1 step (omega arith) (omega arith);
      q1_most = h 4 (omega arith);
      x_most = h 2 (omega arith);
      y_most = h 3 (omega arith);
    }
  where
    at_place : (j i : ℕ) → j * step ≡ i → j ≤ 5 → get_or s (at + i) 0 ≤ most
    at_place j i e l = subst (λ (i : ℕ). get_or s (at + i) 0 ≤ most) e (h j l)
bounded most UV s at step h =
    record {
      p0_most = subst (λ (i : ℕ). get_or s i 0 ≤ most) (omega arith) (h 0 (omega arith));
      p1_most = h 3 (omega arith);
      q0_most = at_place 0 0 (omega arith) (omega arith);
      q1_most = h 3 (omega arith);
      x_most = at_place 1 step (omega arith) (omega arith);
      y_most = h 2 (omega arith);
    }
  where
    at_place : (j i : ℕ) → j * step ≡ i → j ≤ 3 → get_or s (at + i) 0 ≤ most
    at_place j i e l = subst (λ (i : ℕ). get_or s (at + i) 0 ≤ most) e (h j l)

pub last_place_lem : (k : PlaneType) (step : ℕ) → (offsets_of k step).p1 ≡ reach k * step
last_place_lem Y step = refl
last_place_lem UV step = refl

abbrev pub filter : PlaneType → ℕ → ℕ → Filter
filter k step phase = record { offsets = offsets_of k step; taps = taps_of k phase }

pub by_step : (k : PlaneType) (phase : ℕ) {i step : ℕ} {f : Filter} → f ≡ filter k i phase → i ≡ step → f ≡ filter k step phase
by_step k phase p e = p ∙ ap (λ (i : ℕ). filter k i phase) e

-- in a window, across and down
module _ (k : PlaneType) (s : List ℕ) (at stride w h : ℕ) where
  pub near_across : Within s at stride (w + reach k) h → (y x : ℕ) → y < h → x < w → Near 1023 k s (at + y * stride + x) 1
  near_across q y x ly lx j lj = subst (λ (i : ℕ). get_or s i 0 ≤ 1023) (omega arith) (q y (x + j) ly (omega arith))

  pub near_down : Within s at stride w (h + reach k) → (y x : ℕ) → y < h → x < w → Near 1023 k s (at + y * stride + x) stride
  near_down q y x ly lx j lj = subst (λ (i : ℕ). get_or s i 0 ≤ 1023) (omega (arith, add-mul y j stride)) (q (y + j) x (omega arith) lx)

-- a single direction, n columns from column c on
module _ (k : PlaneType) (s : List ℕ) (at stride w h : ℕ) (d : Direction) (q : Within s at stride (w + along d (reach k) 0) (h + along d 0 (reach k))) where
  near : (y x : ℕ) → y < h → x < w → Near 1023 k s (at + y * stride + x) (step_of d stride)
  near = go d q
    where
      go : (d : Direction) → Within s at stride (w + along d (reach k) 0) (h + along d 0 (reach k)) → (y x : ℕ) → y < h → x < w → Near 1023 k s (at + y * stride + x) (step_of d stride)
      go Across q = near_across k s at stride w h (λ y x ly lx. q y x (omega arith) lx)
      go Down q = near_down k s at stride w h (λ y x ly lx. q y x ly (omega arith))

  near_group : (c n : ℕ) → c + n ≤ w → (y x : ℕ) → y < h → x < n → Near 1023 k s (at + c + y * stride + x) (step_of d stride)
  near_group c n l y x ly lx = subst (λ (i : ℕ). Near 1023 k s i (step_of d stride)) (omega arith) (near y (c + x) ly (omega arith))

  ends : at + (h + along d 0 (reach k)) * stride + (w + along d (reach k) 0) ≤ length s + stride → at + h * stride + w + reach k * step_of d stride ≤ length s + stride
  ends = go d
    where
      go : (d : Direction) → at + (h + along d 0 (reach k)) * stride + (w + along d (reach k) 0) ≤ length s + stride → at + h * stride + w + reach k * step_of d stride ≤ length s + stride
      go Across l = omega arith
      go Down l = omega (arith, add-mul h (reach k) stride)

  -- n columns from column c on, whose first sample is at i
  pub single_asks : (phase c n i : ℕ) (l₀ : List ℕ) (f : Filter) → f ≡ filter k (step_of d stride) phase → phase < phases k → c + n ≤ w → i ≡ at + c
      → at + (h + along d 0 (reach k)) * stride + (w + along d (reach k) 0) ≤ length s + stride → h * w ≤ length l₀
      → Rows 1023 n stride h s i f.offsets f.taps × (c + h * w + n ≤ length l₀ + w)
  single_asks phase c n i l₀ f ef l r e a b =
      let g = ends a in
      rw (ef, e) (
        record {
          within = omega (arith, last_place_lem k (step_of d stride));
          ordered = offsets_ordered k (step_of d stride);
          small = taps_small k phase l;
          bounded = λ y x ly lx. bounded 1023 k s (at + c + y * stride + x) (step_of d stride) (near_group c n r y x ly lx);
        },
        omega arith,
      )

  pub single_gives : (phase : ℕ) → phase < phases k → (l₀ : List ℕ) (f : Filter) → f ≡ filter k (step_of d stride) phase
      → with_block l₀ 0 w w h (λ (y x : ℕ). single_at s (at + y * stride + x) f.offsets f.taps) ≡ with_block l₀ 0 w w h (λ (y x : ℕ). interpolated k phase s (at + y * stride + x) (step_of d stride))
  single_gives phase l l₀ f ef =
      with_block-ext l₀ 0 w w h _ _
      (λ y x ly lx. ap (λ (f : Filter). single_at s (at + y * stride + x) f.offsets f.taps) ef ∙ single_is k phase l s (at + y * stride + x) (step_of d stride) (bounded 1023 k s (at + y * stride + x) (step_of d stride) (near y x ly lx)))

-- a row of a window, read from its place on
pub row_sample : (i : ℕ) (s : List ℕ) (x : ℕ) → get_or (drop i s) x 0 ≡ get_or s (i + x) 0
row_sample zero s x = ap (λ (i : ℕ). get_or s i 0) (omega arith)
row_sample (suc i) [] x = refl
row_sample (suc i) (a ∷ s) x = let e : suc (i + x) ≡ suc i + x = omega arith in row_sample i s x ∙ ap (λ (j : ℕ). get_or (a ∷ s) j 0) e

pub copied_more : (d₀ d v s : List ℕ) (to x : ℕ) → d ≡ with_row d₀ to x (λ (i : ℕ). get_or s i 0) → v ≡ with_row d (to + x) 8 (λ (i : ℕ). get_or s (x + i) 0) → v ≡ with_row d₀ to (x + 8) (λ (i : ℕ). get_or s i 0)
copied_more d₀ d v s to x p q = q ∙ ap (λ (l : List ℕ). with_row l (to + x) 8 (λ (i : ℕ). get_or s (x + i) 0)) p ∙ with_row-join d₀ to x 8 (λ (i : ℕ). get_or s i 0)

pub row_copied : (s r l k : List ℕ) (at stride y w : ℕ) → r ≡ drop (at + y * stride) s → k ≡ with_row l (y * w) w (λ (x : ℕ). get_or r x 0) → k ≡ with_row l (0 + y * w) w (λ (x : ℕ). get_or s (at + y * stride + x) 0)
row_copied s r l k at stride y w e p =
    let z : y * w ≡ 0 + y * w = omega arith in
    p ∙ with_row-ext l (y * w) w _ _ (λ x lx. ap (λ (r : List ℕ). get_or r x 0) e ∙ row_sample (at + y * stride) s x) ∙ ap (λ (i : ℕ). with_row l i w (λ (x : ℕ). get_or s (at + y * stride + x) 0)) z

-- ---- numbers that lie one after the other, by rows of four or eight

abbrev pub lanes_of : ℕ → ℕ → ℕ
lanes_of n h = cond (ltb (h * n) 8) 4 8

pub record Lanes (n h : ℕ) : Type 0 where
  pub four_or_eight : (lanes_of n h ≡ 4) ⊎ (lanes_of n h ≡ 8)
  pub rows : h * n / lanes_of n h * lanes_of n h ≡ h * n
  pub whole : n ≡ 8 → (lanes_of n h ≡ 8) × (h * n / lanes_of n h ≡ h)

pub lanes : (n h : ℕ) → is_row_width n ≡ true → n ≤ 8 → is_row_width h ≡ true → Lanes n h
lanes n h en ln eh =
    by_width (λ (n : ℕ). n ≤ 8 → Lanes n h) n en
    (λ l. by_width (Lanes 2) h eh (record { four_or_eight = inl refl; rows = refl; whole = λ e. absurd (omega arith) }) (many 2 4 (omega arith) refl (λ e. absurd (omega arith))) (λ m a b. many 2 m (omega arith) (omega arith) (λ e. absurd (omega arith))))
    (λ l. by_width (Lanes 4) h eh (many 4 2 (omega arith) refl (λ e. absurd (omega arith))) (many 4 4 (omega arith) refl (λ e. absurd (omega arith))) (λ m a b. many 4 m (omega arith) (omega arith) (λ e. absurd (omega arith))))
    (λ m a b l. let e : m ≡ 8 = omega arith in
    subst (λ (m : ℕ). Lanes m h) (sym e)
    (by_width (Lanes 8) h eh (many 8 2 (omega arith) refl (λ e. refl)) (many 8 4 (omega arith) refl (λ e. refl)) (λ m a b. many 8 m (omega arith) (omega arith) (λ e. omega arith))))
    ln
  where
    many : (n h : ℕ) → 8 ≤ h * n → h * n % 8 ≡ 0 → (n ≡ 8 → h * n / 8 ≡ h) → Lanes n h
    many n h l d f = let e : lanes_of n h ≡ 8 = ap (λ (t : Bool). cond t 4 8) (le-ltb (h * n) 8 l) in record { four_or_eight = inr e; rows = rw e (omega arith); whole = λ g. (e, rw e (f g)) }

-- of a number that an `if` gives, from its two ways
pub given : (a b x y r : ℕ) → ((a < b) × (r ≡ x)) ⊎ ((b ≤ a) × (r ≡ y)) → r ≡ cond (ltb a b) x y
given a b x y r w =
    ⊎_elim
    (λ t. t.1 ∙ sym (ap (λ (t : Bool). cond t x y) (lt-ltb a b t.0)))
    (λ f. f.1 ∙ sym (ap (λ (t : Bool). cond t x y) (le-ltb a b f.0)))
    w

lanes_wide : {l : ℕ} → (l ≡ 4) ⊎ (l ≡ 8) → (is_row_width l ≡ true) × (l ≤ 8)
lanes_wide f = ⊎_elim (λ e. rw e (refl, omega arith)) (λ e. rw e (refl, omega arith)) f

-- the block that they are
pub gathered : (d : List ℕ) (to lanes rows n h : ℕ) (f : ℕ → ℕ) → rows * lanes ≡ h * n → with_block d to lanes lanes rows (λ (y x : ℕ). f (0 + y * lanes + x)) ≡ with_block d to n n h (λ (y x : ℕ). f (0 + y * n + x))
gathered d to lanes rows n h f e = run lanes rows ∙ ap (λ (k : ℕ). with_row d to k f) e ∙ sym (run n h)
  where
    run : (n h : ℕ) → with_block d to n n h (λ (y x : ℕ). f (0 + y * n + x)) ≡ with_row d to (h * n) f
    run n h = with_block-ext d to n n h _ _ (λ y x ly lx. let e : 0 + y * n + x ≡ y * n + x = omega arith in ap f e) ∙ sym (with_block-run d to n h f)

-- the width that the code has: of a narrow block that of its lanes
module _ (n h w lanes width : ℕ) (L : Lanes n h) (ln : n ≤ 8) (narrow : n < 8 → w ≡ n) (el : lanes ≡ lanes_of n h) (ew : width ≡ cond (ltb n 8) lanes w) where
  by_lanes : ltb n 8 ≡ true → (width ≡ lanes) × (w ≡ n) × (h * n / lanes * lanes ≡ h * n)
  by_lanes e = (ew ∙ ap (λ (b : Bool). cond b lanes w) e, narrow (ltb-true n 8 e), rw el L.rows)

  by_eight : ltb n 8 ≡ false → (width ≡ w) × (n ≡ 8) × (lanes ≡ 8) × (h * n / lanes ≡ h)
  by_eight e = let m : n ≡ 8 = omega (arith, ltb-false n 8 e) in (ew ∙ ap (λ (b : Bool). cond b lanes w) e, m, el ∙ (L.whole m).0, rw el (L.whole m).1)

  pub lanes_rows : (h * n / lanes * lanes ≡ h * n) × ((lanes ≡ 4) ⊎ (lanes ≡ 8))
  lanes_rows = rw el (L.rows, L.four_or_eight)

  pub lanes_room : (to l : ℕ) → to + h * w + n ≤ l + w → to + h * n / lanes * width + lanes ≤ l + width
  lanes_room to l r = go (ltb n 8) refl
    where
      go : (b : Bool) → ltb n 8 ≡ b → to + h * n / lanes * width + lanes ≤ l + width
      go true e = let z = by_lanes e in rw z.0 (omega (arith, z.2, subst (λ (w : ℕ). to + h * w + n ≤ l + w) z.1 r))
      go false e = let z = by_eight e in rw (z.0, z.3) (omega (arith, z.1, z.2, r))

  lanes_give : (d : List ℕ) (to : ℕ) (f : ℕ → ℕ) → with_block d to width lanes (h * n / lanes) (λ (y x : ℕ). f (0 + y * lanes + x)) ≡ with_block d to w n h (λ (y x : ℕ). f (0 + y * n + x))
  lanes_give d to f = go (ltb n 8) refl
    where
      go : (b : Bool) → ltb n 8 ≡ b → with_block d to width lanes (h * n / lanes) (λ (y x : ℕ). f (0 + y * lanes + x)) ≡ with_block d to w n h (λ (y x : ℕ). f (0 + y * n + x))
      go true e = let z = by_lanes e in rw (z.0, z.1) (gathered d to lanes (h * n / lanes) n h f z.2)
      go false e = let z = by_eight e in rw (z.0, z.3) (ap₂ (λ (i j : ℕ). with_block d to w i h (λ (y x : ℕ). f (0 + y * j + x))) (z.2 ∙ sym z.1) (z.2 ∙ sym z.1))

-- ---- two directions: n columns, through a list m of n numbers a row

module _ (k : PlaneType) (s m : List ℕ) (at stride n h dx : ℕ) (dx-small : dx < phases k) (q : Within s at stride (n + reach k) (h + reach k)) (ln : n ≤ 8) (l8 : (h + reach k) * 8 ≤ length m) where
  bound : (y x : ℕ) → y < h + reach k → x < n → Bounded 1023 s (at + y * stride + x) (offsets_of k 1)
  bound y x ly lx = bounded 1023 k s (at + y * stride + x) 1 (near_across k s at stride n (h + reach k) q y x ly lx)

  long : (h + reach k) * n ≤ length m
  long = omega (arith, mul-le-mul_left (h + reach k) ln)

  pub first_asks : (r : ℕ) (one : ℕ) → r ≡ reach k → one ≡ 1 → at + (h + reach k) * stride + (n + reach k) ≤ length s + stride → is_row_width n ≡ true
      → Rows 1023 n stride (h + r) s at (offsets_of k 1) (taps_of k dx) × (0 + (h + r) * n + n ≤ length m + n) × (one ≡ 1) × (is_row_width n ≡ true) × (n ≤ 8)
  first_asks r one e e1 a w =
      rw e (record { within = omega (arith, last_place_lem k 1); ordered = offsets_ordered k 1; small = taps_small k dx dx-small; bounded = bound }, omega (arith, long), e1, w, ln)

  -- what m holds after the first stage
  module _ (v : List ℕ) (r : ℕ) (f : Filter) (er : r ≡ reach k) (ef : f ≡ filter k 1 dx)
      (p : v ≡ with_block m 0 n n (h + r) (λ (y x : ℕ). first_at s (at + y * stride + x) f.offsets f.taps)) where
    holds : (y x : ℕ) → y < h + reach k → x < n → get_or v (0 + y * n + x) 0 ≡ first_at s (at + y * stride + x) (offsets_of k 1) (taps_of k dx)
    holds y x ly lx =
        ap (λ (l : List ℕ). get_or l (0 + y * n + x) 0) p
        ∙ with_block-in 0 m 0 n n (h + r) _ y x (omega arith) lx (omega arith) (omega (arith, long, ap (λ (i : ℕ). (h + i) * n) er))
        ∙ ap (λ (f : Filter). first_at s (at + y * stride + x) f.offsets f.taps) ef

    -- row y, and the j-th one further down
    further : (y x j : ℕ) → y < h → x < n → j ≤ reach k → get_or v (0 + y * n + x + j * n) 0 ≡ first_at s (at + y * stride + x + j * stride) (offsets_of k 1) (taps_of k dx)
    further y x j ly lx lj =
        let e : 0 + y * n + x + j * n ≡ 0 + (y + j) * n + x = omega (arith, add-mul y j n) in
        let f : at + (y + j) * stride + x ≡ at + y * stride + x + j * stride = omega (arith, add-mul y j stride) in
        ap (λ (i : ℕ). get_or v i 0) e ∙ holds (y + j) x (omega arith) lx ∙ ap (λ (i : ℕ). first_at s i (offsets_of k 1) (taps_of k dx)) f

    bound_at : (y x j : ℕ) → y < h → x < n → j ≤ reach k → Bounded 1023 s (at + y * stride + x + j * stride) (offsets_of k 1)
    bound_at y x j ly lx lj =
        let f : at + (y + j) * stride + x ≡ at + y * stride + x + j * stride = omega (arith, add-mul y j stride) in
        subst (λ (i : ℕ). Bounded 1023 s i (offsets_of k 1)) f (bound (y + j) x (omega arith) lx)

    second_bound : (y x : ℕ) → y < h → x < n → Bounded 26603 v (0 + y * n + x) (offsets_of k n)
    second_bound y x ly lx =
        bounded 26603 k v (0 + y * n + x) n
        (λ j lj. subst (λ (i : ℕ). i ≤ 26603) (sym (further y x j ly lx lj)) (first_most s (at + y * stride + x + j * stride) (offsets_of k 1) (taps_of k dx) (taps_small k dx dx-small) (bound_at y x j ly lx lj)))

    -- by its place among all numbers
    place_bound : (i : ℕ) → i < h * n → Bounded 26603 v i (offsets_of k n)
    place_bound i l =
        let some : 0 < n = positive n l in
        subst (λ (i : ℕ). Bounded 26603 v i (offsets_of k n)) (omega (arith, div-add-mod' i n)) (second_bound (i / n) (i % n) ((div-lt_iff_lt-mul some).1 l) (mod-lt i some))
      where
        positive : (n : ℕ) → i < h * n → 0 < n
        positive zero l = absurd (omega arith)
        positive (suc n) l = omega arith

    -- the second stage, over `rows` rows of `lanes` numbers
    pub second_asks : (lanes rows : ℕ) → rows * lanes ≡ h * n → (lanes ≡ 4) ⊎ (lanes ≡ 8) → (d : List ℕ) (to width dy one : ℕ) → dy < phases k → one ≡ 1 → to + rows * width + lanes ≤ length d + width
        → Rows 26603 lanes lanes rows v 0 (offsets_of k n) (taps_of k dy) × (to + rows * width + lanes ≤ length d + width) × (one ≡ 1) × (is_row_width lanes ≡ true) × (lanes ≤ 8)
    second_asks lanes rows e lw d to width dy one l e1 a =
        let c : length v ≡ length m = ap length p ∙ length-with_block m 0 n n (h + r) _ in (
          record {
            within = omega (arith, last_place_lem k n, add-mul h (reach k) n, long);
            ordered = offsets_ordered k n;
            small = taps_small k dy l;
            bounded = λ y x ly lx. place_bound (0 + y * lanes + x) (omega (arith, row_fits lanes ly));
          },
          a,
          e1,
          (lanes_wide lw).0,
          (lanes_wide lw).1,
        )

    row_is : (y x j : ℕ) → y < h → x < n → j ≤ reach k → Is (row_stage k dx s (at + y * stride + x + j * stride)) (get_or v (0 + y * n + x + j * n) 0) 5120
    unfolding row_stage
    row_is y x j ly lx lj = rw (further y x j ly lx lj) (first_is k dx dx-small s (at + y * stride + x + j * stride) 1 (bound_at y x j ly lx lj))

    second_gives : (d : List ℕ) (to w dy : ℕ) (u : Filter) → u ≡ filter k n dy → dy < phases k
        → with_block d to w n h (λ (y x : ℕ). second_at v (0 + y * n + x) u.offsets u.taps) ≡ with_block d to w n h (λ (y x : ℕ). interpolated_twice k dx dy s (at + y * stride + x) stride)
    second_gives d to w dy u eu l =
        with_block-ext d to w n h _ _
        (λ y x ly lx. ap (λ (u : Filter). second_at v (0 + y * n + x) u.offsets u.taps) eu ∙ second_is k dx dy l s v (at + y * stride + x) (0 + y * n + x) stride n (second_bound y x ly lx) (λ j lj. row_is y x j ly lx lj))

    -- the same from the rows that the code has
    pub second_done : (w lanes width : ℕ) → Lanes n h → (n < 8 → w ≡ n) → lanes ≡ lanes_of n h → width ≡ cond (ltb n 8) lanes w → (d : List ℕ) (to dy : ℕ) (u : Filter) → u ≡ filter k n dy → dy < phases k
        → with_block d to width lanes (h * n / lanes) (λ (y x : ℕ). second_at v (0 + y * lanes + x) u.offsets u.taps) ≡ with_block d to w n h (λ (y x : ℕ). interpolated_twice k dx dy s (at + y * stride + x) stride)
    second_done w lanes width L narrow el ew d to dy u eu l = lanes_give n h w lanes width L ln narrow el ew d to (λ (i : ℕ). second_at v i u.offsets u.taps) ∙ second_gives d to w dy u eu l

-- ---- a block by groups of eight columns

pub part_within : (s : List ℕ) (at stride w r h c n : ℕ) → c + n ≤ w → Within s at stride (w + r) h → Within s (at + c) stride (n + r) h
part_within s at stride w r h c n l q y x ly lx = subst (λ (i : ℕ). get_or s i 0 ≤ 1023) (omega arith) (q y (c + x) ly (omega arith))

pub group_step : (f : ℕ → ℕ) (l l₀ v : List ℕ) (at stride w h n c e : ℕ) → c + n ≡ e → e ≤ w
    → l ≡ with_block l₀ 0 w c h (λ (y x : ℕ). f (at + y * stride + x)) → v ≡ with_block l c w n h (λ (y x : ℕ). f (at + c + y * stride + x))
    → v ≡ with_block l₀ 0 w e h (λ (y x : ℕ). f (at + y * stride + x))
group_step f l l₀ v at stride w h n c e z b p q =
    subst (λ (e : ℕ). e ≤ w → v ≡ with_block l₀ 0 w e h (λ (y x : ℕ). f (at + y * stride + x))) z (λ b. columns_step l l₀ v w n h c _ _ b (λ y x. let e : at + c + y * stride + x ≡ at + y * stride + (c + x) = omega arith in ap f e) p q) b

-- a window has a row
pub first_row_lem : (k : PlaneType) (h stride : ℕ) → stride ≤ (h + reach k) * stride
first_row_lem Y h stride = omega (arith, row_fits {y = 0} {h = h + 5} stride (omega arith))
first_row_lem UV h stride = omega (arith, row_fits {y = 0} {h = h + 3} stride (omega arith))

pub eighths : (w : ℕ) → is_row_width w ≡ true → 8 ≤ w → 8 * (w / 8) ≡ w
eighths w e l = let d = (eights w e (λ f. absurd (omega arith)) (λ f. absurd (omega arith))).1 in omega arith

-- the first stage's numbers fit the array of a low block, and that of a plane's type
pub low_fits : (k : PlaneType) (h : ℕ) → h ≤ 8 → (h + reach k) * 8 ≤ 104
low_fits Y h l = omega arith
low_fits UV h l = omega arith

pub stage_fits : (k j : PlaneType) (h : ℕ) → k ≡ j → h ≤ side_of k 64 → (h ≤ 64) × ((h + reach k) * 8 ≤ (side_of j 64 + reach j) * 8)
stage_fits k j h e = subst (λ (k : PlaneType). h ≤ side_of k 64 → (h ≤ 64) × ((h + reach k) * 8 ≤ (side_of j 64 + reach j) * 8)) (sym e) (go j)
  where
    go : (j : PlaneType) → h ≤ side_of j 64 → (h ≤ 64) × ((h + reach j) * 8 ≤ (side_of j 64 + reach j) * 8)
    go Y l = (omega arith, omega arith)
    go UV l = (omega arith, omega arith)
