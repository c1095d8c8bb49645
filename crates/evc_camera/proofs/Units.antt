-- Sums over one unit more, and what they are within. Assumes nothing.
use mathlib.Core.Bool.{Bool, true, false, cond, ◌||◌}
use mathlib.Core.List.{List}
use mathlib.Core.Path.{◌≡◌, refl, sym, ap, ap₂, subst, ◌∙◌}
use Prim.Native.Nat.{ℕ, ◌+◌, ◌*◌, ◌≤◌}
use native.Mathlib.Numerals.{add-one}
use native.Mathlib.Omega.{arith}
use lib.Dec.{lit<}
use lib.IntN.{ℤ, pos, nat_abs}
use mir.Syntax.{w64}
use mir.Val.{SFits}
use Rattle.evc_int.proofs.Machine.{fit_abs}
use Rattle.evc_def.specs.declared.EvcMv.{EvcMv}
use Rattle.evc_map.specs.Maps.{most_units, mv_at}
use Rattle.evc_camera.specs.declared.Sums.{Sums}
use Rattle.evc_camera.specs.Camera.{is_counted, with_mv, sums_of}
use Rattle.evc_camera.specs.Inner.{Within}

-- a sum fits 64 bits
pub sum_fits : (z : ℤ) → nat_abs z ≤ 32768 * most_units → SFits w64 z
sum_fits z h = fit_abs h (lit< tt)

pub within_wider : (s : Sums) (k m : ℕ) → Within s k → k ≤ m → Within s m
within_wider s k m w h = record { few = omega arith; across = omega arith; down = omega arith }

-- after a vector that may count
pub within_more : (s r : Sums) (counted : Bool) (mv : EvcMv) (k : ℕ) → Within s k → r ≡ cond counted (with_mv s mv) s
    → nat_abs r.x ≤ nat_abs s.x + 32768 → nat_abs r.y ≤ nat_abs s.y + 32768 → Within r (k + 1)
within_more s r counted mv k w e x y =
    let n = subst (λ (t : Sums). t.units ≤ s.units + 1) (sym e) (more counted) in
    record { few = omega arith; across = omega arith; down = omega arith }
  where
    more : (b : Bool) → (cond b (with_mv s mv) s).units ≤ s.units + 1
    more true = omega arith
    more false = omega arith

module _ (map : List ℤ) (words : List ℕ) where
  pub no_units : (s : Sums) → (s.units ≡ 0) × ((s.x ≡ pos 0) × (s.y ≡ pos 0)) → (s ≡ sums_of map words 0) × Within s 0
  unfolding sums_of
  no_units s e = (rw (e.0, e.1.0, e.1.1), record { few = rw e.0 (omega arith); across = rw e.1.0 (omega arith); down = rw e.1.1 (omega arith) })

  -- a unit counts by its word, or since all of them do
  known : (all this t : Bool) → this ≡ t → (all ≡ true → t ≡ true) → (all || this) ≡ t
  known true this t e h = sym (h refl)
  known false this t e h = e

  pub one_more : (i : ℕ) (s r : Sums) (all this : Bool) (mv : EvcMv) → s ≡ sums_of map words i → this ≡ is_counted words i → (all ≡ true → is_counted words i ≡ true) → mv ≡ mv_at map i 0
      → r ≡ cond (all || this) (with_mv s mv) s → r ≡ sums_of map words (i + 1)
  unfolding sums_of
  one_more i s r all this mv e b h m p =
      rw add-one
      (p ∙ ap (λ (t : Bool). cond t (with_mv s mv) s) (known all this (is_counted words i) b h)
      ∙ ap₂ (λ (t : Sums) (v : EvcMv). cond (is_counted words i) (with_mv t v) t) e m)
