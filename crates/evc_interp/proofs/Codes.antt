-- The code of a call on one plane, and what it leaves: each number at the first check that refuses. Assumes nothing.
use mathlib.Core.Path.{◌≡◌, ◌∙◌, sym}
use mathlib.Core.Bool.{true, false, not, ◌&&◌, ◌||◌}
use mathlib.Core.List.{List}
use Prim.Native.Nat.{ℕ, ◌*◌, ◌≤◌, ◌<◌}
use native.Mathlib.Nat.{mul-le-mul}
use native.Mathlib.Omega.{arith}
use lib.Dec.{ltb}
use lib.ListN.{length}
use borrow.Author.Tests.{ne_eqb}
use Rattle.evc_int.specs.Lists.{with_block}
use Rattle.std.proofs.lemmas.Bool.{and_parts, not-false}
use Rattle.evc_def.specs.Blocks.{bad_picture}
use Rattle.evc_def.specs.declared.EvcMv.{EvcMv}
use Rattle.evc_def.specs.declared.QpelPlace.{QpelPlace}
use Rattle.evc_def.proofs.Codes.{refused, passed, none}
use Rattle.evc_plane.specs.declared.PlaneType.{PlaneType}
use Rattle.evc_plane.specs.Planes.{plane_len}
use Rattle.evc_interp.specs.Prediction.{predicted, is_side, window_exceeds, mc_plane_code, mc_plane_after}
use Rattle.evc_interp.proofs.Windows.{side}

module _ (k : PlaneType) (W H : ℕ) (gmv : QpelPlace) (w h : ℕ) (s d : List ℕ) where
  module _ (good : bad_picture W H ≡ false) where
    pub code_2 : not (is_side k w && is_side k h) ≡ true → 2 ≡ mc_plane_code k W H gmv w h s d
    unfolding mc_plane_code
    code_2 b = sym (passed _ _ _ good ∙ refused _ _ _ b)

    module _ (sides : not (is_side k w && is_side k h) ≡ false) where
      pub code_4 : (ltb (length s) (plane_len k W H) || ltb (length d) (w * h)) ≡ true → 4 ≡ mc_plane_code k W H gmv w h s d
      unfolding mc_plane_code
      code_4 b = sym (passed _ _ _ good ∙ passed _ _ _ sides ∙ refused _ _ _ b)

      module _ (long : (ltb (length s) (plane_len k W H) || ltb (length d) (w * h)) ≡ false) where
        pub code_6 : window_exceeds k W H gmv w h s ≡ true → 6 ≡ mc_plane_code k W H gmv w h s d
        unfolding mc_plane_code
        code_6 b = sym (passed _ _ _ good ∙ passed _ _ _ sides ∙ passed _ _ _ long ∙ refused _ _ _ b)

        pub code_0 : window_exceeds k W H gmv w h s ≡ false → 0 ≡ mc_plane_code k W H gmv w h s d
        unfolding mc_plane_code
        code_0 b = sym (passed _ _ _ good ∙ passed _ _ _ sides ∙ passed _ _ _ long ∙ passed _ _ _ b ∙ none)

-- the sides of a block that is not refused with 2
pub size : (k : PlaneType) (w h : ℕ) → not (is_side k w && is_side k h) ≡ false → w * h ≤ 4096
size k w h e = let t = and_parts (is_side k w) (is_side k h) (not-false _ e) in mul-le-mul (side k w t.0).small (side k h t.1).small

module _ (k : PlaneType) (W H : ℕ) (ori : EvcMv) (gmv : QpelPlace) (w h : ℕ) (s d : List ℕ) where
  pub untouched : (n : ℕ) → 0 < n → n ≡ mc_plane_code k W H gmv w h s d → (n ≡ mc_plane_code k W H gmv w h s d) × (d ≡ mc_plane_after k W H ori gmv w h s d)
  unfolding mc_plane_after
  untouched n l e = (e, rw (sym e, ne_eqb n 0 (λ z. omega arith)))

  pub after : mc_plane_code k W H gmv w h s d ≡ 0 → mc_plane_after k W H ori gmv w h s d ≡ with_block d 0 w w h (predicted k W H ori gmv s)
  unfolding mc_plane_after
  after e = rw e
