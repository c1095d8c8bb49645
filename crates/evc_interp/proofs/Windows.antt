-- Every path reads only what was examined: its clamped window lies in that of both directions. Assumes nothing.
use mir.Facts.{or_yes}
use Rattle.evc_plane.specs.declared.PlaneConfig.{PlaneConfig}
use Rattle.evc_samples.specs.Samples.{exceeds}
use mathlib.Core.Bool.{Bool, true, false, cond, ◌||◌}
use mathlib.Core.List.{List}
use mathlib.Core.Logic.{⊎_elim}
use mathlib.Core.Path.{◌≡◌, refl, sym, ap, subst, ◌∙◌}
use Prim.Native.Nat.{ℕ, ◌+◌, ◌-◌, ◌*◌, ◌≤◌, ◌<◌, min}
use native.Mathlib.Nat.{add-mul}
use native.Mathlib.Omega.{arith}
use lib.Dec.{T, eqb, ltb, eqb→eq}
use lib.IntN.{ℤ, pos, ◌+ℤ◌}
use lib.ListN.{length, get_or}
use borrow.Author.Tests.{ltb-false}
use Rattle.evc_int.specs.Whole.{−◌, ◌⁺, clip3}
use Rattle.evc_int.specs.Lists.{with_block}
use Rattle.std.proofs.lemmas.Bool.{and_parts, or_parts, not-false}
use Rattle.evc_int.proofs.Whole.{parts_are}
use Rattle.evc_int.proofs.Division.{modulo_lt}
use Rattle.evc_int.proofs.Lists.{with_block-ext}
use Rattle.evc_def.specs.Blocks.{bad_picture}
use Rattle.evc_def.specs.declared.EvcMv.{EvcMv}
use Rattle.evc_def.specs.declared.QpelPlace.{QpelPlace}
use Rattle.evc_def.proofs.Codes.{accepted}
use Rattle.evc_plane.specs.declared.PlaneType.{PlaneType}
use Rattle.evc_plane.specs.declared.PlaneType.TheVariants.{Y, UV}
use Rattle.evc_plane.specs.Planes.{pad_of, origin_of, side_of, stride_of, plane_len, config_of, start_at, window_start}
use Rattle.evc_plane.proofs.Starts.{window_fits}
use Rattle.evc_samples.proofs.Samples.{exceeds_none}
use Rattle.evc_plane.proofs.Sizes.{sizes}
use Rattle.evc_filter.specs.Filter.{phases, lead, reach, interpolated, interpolated_twice}
use Rattle.evc_lanes.specs.Inner.{is_row_width}
use Rattle.evc_interp.specs.Prediction.{phase_of, pel_of, is_filtered, start_of, window_of, sample_by, predicted, is_side, window_exceeds, mc_plane_code}
use Rattle.evc_paths.specs.Inner.{Within, along, step_of, is_across, is_down, path_of}
use Rattle.evc_paths.specs.declared.Direction.{Direction}
use Rattle.evc_paths.specs.declared.Direction.TheVariants.{Across, Down}
use Rattle.evc_paths.specs.declared.Path.TheVariants.{One}
use Rattle.evc_interp.specs.Inner.{position_of, Readable, sample_from}
use Rattle.evc_interp.specs.declared.Position.{Position}

-- ---- a block's side

pub record Side (k : PlaneType) (n : ℕ) : Type 0 where
  pub some : 0 < n
  pub high : n ≤ side_of k 64
  pub small : n ≤ 64
  pub room : n + reach k ≤ pad_of k
  pub wide : 4 ≤ n + reach k
  pub total : n + reach k ≤ 80
  pub width : is_row_width n ≡ true

one_of : (P : ℕ → Type 0) (n a b c d e : ℕ) → (eqb n a || eqb n b || eqb n c || eqb n d || eqb n e) ≡ true → P a → P b → P c → P d → P e → P n
one_of P n a b c d e h pa pb pc pd pe =
    ⊎_elim
    (λ t. ⊎_elim
    (λ t. ⊎_elim
    (λ t. ⊎_elim
    (λ t. at a t pa)
    (λ t. at b t pb) (or_yes (eqb n a) (eqb n b) t))
    (λ t. at c t pc) (or_yes (eqb n a || eqb n b) (eqb n c) t))
    (λ t. at d t pd) (or_yes (eqb n a || eqb n b || eqb n c) (eqb n d) t))
    (λ t. at e t pe) (or_yes (eqb n a || eqb n b || eqb n c || eqb n d) (eqb n e) (subst T (sym h) tt))
  where
    at : (m : ℕ) → T (eqb n m) → P m → P n
    at m t p = subst P (sym (eqb→eq n m t)) p

pub side : (k : PlaneType) (n : ℕ) → is_side k n ≡ true → Side k n
side Y n e = one_of (Side Y) n 4 8 16 32 64 e (of 4 (omega arith) (omega arith) refl) (of 8 (omega arith) (omega arith) refl) (of 16 (omega arith) (omega arith) refl) (of 32 (omega arith) (omega arith) refl) (of 64 (omega arith) (omega arith) refl)
  where
    of : (n : ℕ) → 0 < n → n ≤ 64 → is_row_width n ≡ true → Side Y n
    of n b l e = record { some = b; high = l; small = l; room = omega arith; wide = omega arith; total = omega arith; width = e }
side UV n e = one_of (Side UV) n 2 4 8 16 32 e (of 2 (omega arith) (omega arith) refl) (of 4 (omega arith) (omega arith) refl) (of 8 (omega arith) (omega arith) refl) (of 16 (omega arith) (omega arith) refl) (of 32 (omega arith) (omega arith) refl)
  where
    of : (n : ℕ) → 0 < n → n ≤ 32 → is_row_width n ≡ true → Side UV n
    of n b l e = record { some = b; high = l; small = omega arith; room = omega arith; wide = omega arith; total = omega arith; width = e }

-- ---- a start that is `m` less instead of `l` less, in one direction

module _ (o n : ℕ) where
  start_min : (z : ℤ) → start_at o n z ≡ min ((z +ℤ pos o) ⁺) (o + n)
  unfolding start_at clip3
  start_min z = grind (arith, parts_are)

  nearer : (z : ℤ) (l m : ℕ) → m ≤ l → (start_at o n (z +ℤ (− l)) ≤ start_at o n (z +ℤ (− m))) × (start_at o n (z +ℤ (− m)) + m ≤ start_at o n (z +ℤ (− l)) + l)
  nearer z l m h =
      let a = start_min (z +ℤ (− l)) in
      let b = start_min (z +ℤ (− m)) in
      (omega (arith, parts_are), omega (arith, parts_are))

  -- a path's start, from that of both directions
  path_start : (k : PlaneType) (b : Bool) (z : ℤ) → (start_at o n (start_of k true z) ≤ start_at o n (start_of k b z)) × (start_at o n (start_of k b z) + cond b (lead k) 0 ≤ start_at o n (start_of k true z) + lead k)
  unfolding start_of
  path_start k b z = nearer (pel_of k z) (lead k) (cond b (lead k) 0) (low b)
    where
      low : (b : Bool) → cond b (lead k) 0 ≤ lead k
      low true = omega arith
      low false = omega arith

-- the samples that a direction reaches further on, and those that its start lies further on
further : (k : PlaneType) (b : Bool) → (cond b (reach k) 0 + lead k ≤ reach k + cond b (lead k) 0) × (cond b (reach k) 0 ≤ reach k)
further Y true = (omega arith, omega arith)
further Y false = (omega arith, omega arith)
further UV true = (omega arith, omega arith)
further UV false = (omega arith, omega arith)

-- ---- an accepted call

pub record Accepted (k : PlaneType) (W H : ℕ) (gmv : QpelPlace) (w h : ℕ) (s d : List ℕ) : Type 0 where
  pub picture : bad_picture W H ≡ false
  pub w_side : Side k w
  pub h_side : Side k h
  pub long : plane_len k W H ≤ length s
  pub room : w * h ≤ length d
  pub small : Within s (window_of k W H true true gmv) (stride_of k W) (w + reach k) (h + reach k)

pub accepts : (k : PlaneType) (W H : ℕ) (gmv : QpelPlace) (w h : ℕ) (s d : List ℕ) → mc_plane_code k W H gmv w h s d ≡ 0 → Accepted k W H gmv w h s d
unfolding mc_plane_code window_exceeds
accepts k W H gmv w h s d e =
    let a = accepted _ _ _ (omega arith) e in
    let b = accepted _ _ _ (omega arith) a.1 in
    let c = accepted _ _ _ (omega arith) b.1 in
    let f = accepted _ _ _ (omega arith) c.1 in
    let t = and_parts (is_side k w) (is_side k h) (not-false _ b.0) in
    let l = or_parts (ltb (length s) (plane_len k W H)) (ltb (length d) (w * h)) c.0 in
    record {
      picture = a.0;
      w_side = side k w t.0;
      h_side = side k h t.1;
      long = ltb-false (length s) (plane_len k W H) l.0;
      room = ltb-false (length d) (w * h) l.1;
      small = exceeds_none s _ _ _ _ f.0;
    }

-- ---- what a path asks: its window lies in the plane, and no sample of it is above 1023

module _ (k : PlaneType) (W H : ℕ) (gmv : QpelPlace) (w h : ℕ) (s d : List ℕ) (g : Accepted k W H gmv w h s d) (across down : Bool) where
  in_window : (n m : ℕ) → n ≤ w + cond across (reach k) 0 → m ≤ h + cond down (reach k) 0 → Within s (window_of k W H across down gmv) (stride_of k W) n m
  unfolding window_of window_start
  in_window n m ln lm y x ly lx =
      let S = stride_of k W in
      let r₀ = start_at (pad_of k) (side_of k H) (start_of k true gmv.y.0) in
      let c₀ = start_at (origin_of k) (side_of k W) (start_of k true gmv.x.0) in
      let r = start_at (pad_of k) (side_of k H) (start_of k down gmv.y.0) in
      let c = start_at (origin_of k) (side_of k W) (start_of k across gmv.x.0) in
      let a = path_start (origin_of k) (side_of k W) k across gmv.x.0 in
      let b = path_start (pad_of k) (side_of k H) k down gmv.y.0 in
      let p = further k across in
      let q = further k down in
      let e : r ≡ r₀ + (r - r₀) = omega arith in
      let i : r₀ * S + c₀ + (y + (r - r₀)) * S + (x + (c - c₀)) ≡ r * S + c + y * S + x = omega (arith, add-mul y (r - r₀) S, add-mul r₀ (r - r₀) S, ap (λ (j : ℕ). j * S) e) in
      subst (λ (j : ℕ). get_or s j 0 ≤ 1023) i (g.small (y + (r - r₀)) (x + (c - c₀)) (omega arith) (omega arith))

  in_plane : (n m : ℕ) → n ≤ w + cond across (reach k) 0 → m ≤ h + cond down (reach k) 0 → window_of k W H across down gmv + m * stride_of k W + n ≤ length s + stride_of k W
  unfolding window_of
  in_plane n m ln lm =
      let p = further k across in
      let q = further k down in
      let a = g.w_side.room in
      let b = g.h_side.room in
      let l = g.long in
      omega (arith, window_fits k W H g.picture (start_of k across gmv.x.0) (start_of k down gmv.y.0) n m (omega arith) (omega arith))

  -- of the index and the stride that the code has
  pub path_asks : (at S : ℕ) → at ≡ window_of k W H across down gmv → S ≡ stride_of k W → (n m : ℕ) → n ≤ w + cond across (reach k) 0 → m ≤ h + cond down (reach k) 0
      → (at + m * S + n ≤ length s + S) × Within s at S n m
  path_asks at S e f n m ln lm = rw (e, f) (in_plane n m ln lm, in_window n m ln lm)

pub stride_small : (k : PlaneType) (W H S : ℕ) → S ≡ stride_of k W → bad_picture W H ≡ false → S ≤ 65535
unfolding config_of
stride_small k W H S f e = omega (arith, (sizes k W H e).stride_top)

pub some_phase : (k : PlaneType) → 0 < phases k
some_phase Y = omega arith
some_phase UV = omega arith

pub phase_small : (k : PlaneType) (z : ℤ) (n : ℕ) → n ≡ phase_of k z → n < phases k
unfolding phase_of
phase_small k z n e = subst (λ (n : ℕ). n < phases k) (sym e) (modulo_lt (phases k) z (some_phase k))

-- what holds of two directions, of the path that filters them
pub of_path : (P : Bool → Bool → Type 0) (across down : Bool) → P across down → P (is_across (path_of across down)) (is_down (path_of across down))
of_path P false false p = p
of_path P true false p = p
of_path P false true p = p
of_path P true true p = p

-- ---- an accepted call, from the position that the code has

module _ (k : PlaneType) (W H : ℕ) (ori : EvcMv) (gmv : QpelPlace) (w h : ℕ) (s : List ℕ) (p : Position) (e : p ≡ position_of k W H ori gmv) where
  pub readable : (d : List ℕ) → Accepted k W H gmv w h s d → Readable k p w h s
  unfolding position_of
  readable d g = subst (λ (q : Position). Readable k q w h s) (sym e) given
    where
      across : Bool
      across = is_filtered k ori.x

      down : Bool
      down = is_filtered k ori.y

      given : Readable k (position_of k W H ori gmv) w h s
      given =
          let a = path_asks k W H gmv w h s d g across down _ _ refl refl (w + cond across (reach k) 0) (h + cond down (reach k) 0) (omega arith) (omega arith) in
          record {
            inside = of_path (λ (across down : Bool). window_of k W H (is_filtered k ori.x) (is_filtered k ori.y) gmv + (h + cond down (reach k) 0) * stride_of k W + (w + cond across (reach k) 0) ≤ length s + stride_of k W) across down a.0;
            within = of_path (λ (across down : Bool). Within s (window_of k W H (is_filtered k ori.x) (is_filtered k ori.y) gmv) (stride_of k W) (w + cond across (reach k) 0) (h + cond down (reach k) 0)) across down a.1;
            width = g.w_side.width;
            narrow = g.w_side.small;
            some = g.h_side.some;
            height = g.h_side.width;
            high = g.h_side.high;
            dx_phase = phase_small k gmv.x.0 _ refl;
            dy_phase = phase_small k gmv.y.0 _ refl;
            stride_small = stride_small k W H _ refl g.picture;
          }

  pub predicts : (d : List ℕ) (o : ℕ) → with_block d o w w h (sample_from k p s) ≡ with_block d o w w h (predicted k W H ori gmv s)
  unfolding predicted position_of
  predicts d o =
      let across = is_filtered k ori.x in
      let down = is_filtered k ori.y in
      ap (λ (q : Position). with_block d o w w h (sample_from k q s)) e
      ∙ of_path (λ (a b : Bool). with_block d o w w h (λ (y x : ℕ). sample_by k a b (phase_of k gmv.x.0) (phase_of k gmv.y.0) s (window_of k W H across down gmv + y * stride_of k W + x) (stride_of k W)) ≡ with_block d o w w h (predicted k W H ori gmv s)) across down refl

-- ---- one direction is one of the paths

pub one_path : (k : PlaneType) (f : Direction) (dx dy r : ℕ) (s d : List ℕ) (w h at S : ℕ) → r ≡ along f dx dy → with_block d 0 w w h (λ (y x : ℕ). interpolated k r s (at + y * S + x) (step_of f S)) ≡ with_block d 0 w w h (λ (y x : ℕ). sample_by k (is_across (One f)) (is_down (One f)) dx dy s (at + y * S + x) S)
unfolding sample_by
one_path k f dx dy r s d w h at S e = with_block-ext d 0 w w h _ _ (λ y x ly lx. ap (λ (i : ℕ). interpolated k i s (at + y * S + x) (step_of f S)) e ∙ go f (at + y * S + x))
  where
    go : (f : Direction) (i : ℕ) → interpolated k (along f dx dy) s i (step_of f S) ≡ sample_by k (is_across (One f)) (is_down (One f)) dx dy s i S
    go Across i = refl
    go Down i = refl

-- ---- what the checks ask and give

pub stride_is : (k : PlaneType) (W H : ℕ) (c : PlaneConfig) → c ≡ config_of k W H → c.stride ≡ stride_of k W
unfolding config_of
stride_is k W H c e = ap (λ (c : PlaneConfig). c.stride) e

-- of a window of n columns and m rows, and a plane of l samples
pub examined_asks : (k : PlaneType) (W H : ℕ) (gmv : QpelPlace) (l at S n m : ℕ) → bad_picture W H ≡ false → plane_len k W H ≤ l → at ≡ window_of k W H true true gmv → S ≡ stride_of k W
    → (n ≤ pad_of k) × (m ≤ pad_of k) × (4 ≤ n) × (0 < m) → (at + m * S + n ≤ l + S) × (4 ≤ n) × (0 < m)
unfolding window_of
examined_asks k W H gmv l at S n m good long e f b =
    rw (e, f) (omega (arith, window_fits k W H good (start_of k true gmv.x.0) (start_of k true gmv.y.0) n m b.0 b.1), b.2, b.3)

pub examined_is : (k : PlaneType) (W H : ℕ) (gmv : QpelPlace) (w h : ℕ) (s : List ℕ) (at S r : ℕ) → at ≡ window_of k W H true true gmv → S ≡ stride_of k W → r ≡ reach k → exceeds s at S (w + r) (h + r) ≡ window_exceeds k W H gmv w h s
unfolding window_exceeds
examined_is k W H gmv w h s at S r e f g = rw (e, f, g)

-- ---- predicted samples are at most 1023: a filtered one is clipped, and a copied one was examined

pub predicted_small : (k : PlaneType) (W H : ℕ) (ori : EvcMv) (gmv : QpelPlace) (w h : ℕ) (s d : List ℕ) → Accepted k W H gmv w h s d → (y x : ℕ) → y < h → x < w → predicted k W H ori gmv s y x ≤ 1023
unfolding predicted sample_by interpolated interpolated_twice
predicted_small k W H ori gmv w h s d g y x ly lx = go (is_filtered k ori.x) (is_filtered k ori.y)
  where
    go : (across down : Bool) → sample_by k across down (phase_of k gmv.x.0) (phase_of k gmv.y.0) s (window_of k W H across down gmv + y * stride_of k W + x) (stride_of k W) ≤ 1023
    go false false = (path_asks k W H gmv w h s d g false false _ _ refl refl w h (omega arith) (omega arith)).1 y x ly lx
    go true false = omega arith
    go false true = omega arith
    go true true = omega arith
