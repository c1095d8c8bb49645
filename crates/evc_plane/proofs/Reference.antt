-- The padded reference picture: where its samples are stored; pictures that agree, and mirrors. Assumes nothing.
use mathlib.Core.Path.{◌≡◌, ap₂}
use Prim.Native.Nat.{ℕ, ◌+◌, ◌-◌, ◌≤◌, ◌<◌, min}
use native.Mathlib.Omega.{arith}
use lib.IntN.{ℤ, pos, ◌+ℤ◌}
use Rattle.evc_int.specs.Whole.{◌⁺}
use Rattle.evc_int.proofs.Whole.{parts_are}
use Rattle.evc_plane.specs.Planes.{reference}

module _ (pic : ℕ → ℕ → ℕ) (pw ph : ℕ) where
  -- at the stored column x and row y, o and p being those of the picture's first sample
  pub reference_stored : (o p x y : ℕ) (i j : ℤ) → i +ℤ pos o ≡ pos x → j +ℤ pos p ≡ pos y → reference pic pw ph i j ≡ pic (min (x - o) (pw - 1)) (min (y - p) (ph - 1))
  unfolding reference
  reference_stored o p x y i j e f =
      let a : min (i ⁺) (pw - 1) ≡ min (x - o) (pw - 1) = omega (arith, parts_are) in
      let b : min (j ⁺) (ph - 1) ≡ min (y - p) (ph - 1) = omega (arith, parts_are) in
      ap₂ pic a b

  -- pictures that agree, and pictures that are each other's mirror, by sums of positions
  module _ (mir : ℕ → ℕ → ℕ) (wide : 1 ≤ pw) (high : 1 ≤ ph) where
    pub reference_agree : ((i j : ℕ) → i < pw → j < ph → mir i j ≡ pic i j) → (i j : ℤ) → reference mir pw ph i j ≡ reference pic pw ph i j
    unfolding reference
    reference_agree h i j = h (min (i ⁺) (pw - 1)) (min (j ⁺) (ph - 1)) (omega arith) (omega arith)

    pub reference_left_right : ((i i' j : ℕ) → i + i' + 1 ≡ pw → j < ph → mir i j ≡ pic i' j) → (i i' j : ℤ) → i +ℤ i' +ℤ pos 1 ≡ pos pw → reference mir pw ph i j ≡ reference pic pw ph i' j
    unfolding reference
    reference_left_right h i i' j e =
        h (min (i ⁺) (pw - 1)) (min (i' ⁺) (pw - 1)) (min (j ⁺) (ph - 1)) (omega (arith, parts_are)) (omega arith)

    pub reference_top_bottom : ((i j j' : ℕ) → i < pw → j + j' + 1 ≡ ph → mir i j ≡ pic i j') → (i j j' : ℤ) → j +ℤ j' +ℤ pos 1 ≡ pos ph → reference mir pw ph i j ≡ reference pic pw ph i j'
    unfolding reference
    reference_top_bottom h i j j' e =
        h (min (i ⁺) (pw - 1)) (min (j ⁺) (ph - 1)) (min (j' ⁺) (ph - 1)) (omega arith) (omega (arith, parts_are))
