-- Rows written one after the other are a block. Assumes nothing.
use Prim.Native.Nat.{ℕ, ◌+◌, ◌*◌, ◌<◌, ◌≤◌}
use mathlib.Core.List.{List}
use mathlib.Core.Path.{◌≡◌, refl, ap, ◌∙◌}
use native.Mathlib.Omega.{arith}
use lib.ListN.{length}
use Rattle.evc_int.specs.Lists.{with_row, with_block}
use Rattle.evc_int.proofs.Lists.{block_step}

-- ---- a loop over rows, by `one`, which is 1

-- the first y of h rows are written
pub record Written (d₀ : List ℕ) (to width n h : ℕ) (f : ℕ → ℕ → ℕ) (d : List ℕ) (y : ℕ) : Type 0 where
  pub not_past : y ≤ h
  pub as_long : length d ≡ length d₀
  pub rows : d ≡ with_block d₀ to width n y f

pub none_written : (d : List ℕ) (to width n h : ℕ) (f : ℕ → ℕ → ℕ) → Written d to width n h f d 0
unfolding with_block
none_written d to width n h f = record { not_past = omega arith; as_long = refl; rows = refl }

module _ {d₀ : List ℕ} {to width n h : ℕ} {f : ℕ → ℕ → ℕ} {d : List ℕ} {y : ℕ} (w : Written d₀ to width n h f d y) where
  pub one_more : {v : List ℕ} {one : ℕ} → y < h → one ≡ 1 → length v ≡ length d → v ≡ with_row d (to + y * width) n (f y) → Written d₀ to width n h f v (y + one)
  one_more {v} {one} l e c r =
      let z : y + 1 ≡ y + one = omega arith in
      record { not_past = omega arith; as_long = c ∙ w.as_long; rows = block_step _ _ _ _ _ _ _ _ w.rows r ∙ ap (λ (i : ℕ). with_block d₀ to width n i f) z }
