-- The three planes of a lent block: that they do not touch, what stands at each place, and that writing them again leaves nothing of before.
-- Assumes nothing.
use mathlib.Core.List.{List}
use mathlib.Core.Path.{◌≡◌, sym, ap, ◌∙◌}
use Prim.Native.Nat.{ℕ, ◌+◌, ◌*◌, ◌/◌, ◌<◌, ◌≤◌}
use native.Mathlib.Nat.{mul-le-mul}
use native.Mathlib.Omega.{arith}
use lib.ListN.{length, get_or}
use Rattle.evc_int.proofs.Lists.{length-with_block, with_block-ext, with_block-in, row_fits, with_block-again, with_block-apart, with_block-before}
use Rattle.evc_def.specs.declared.EvcBlock.{EvcBlock}
use Rattle.evc_mc.specs.Block.{Component, luma, cb, cr, offset_of, width_of, height_of, with_component, with_samples, pred_len}
use Rattle.evc_mc.specs.Inner.{block_sample}
use Rattle.evc_mc.proofs.Checks.{Sides}

-- where a component ends
abbrev pub end_of : Component → ℕ
end_of luma = 4096
end_of cb = 5120
end_of cr = 6144

-- the samples of a component
abbrev pub size_of : EvcBlock → Component → ℕ
size_of b c = height_of b c * width_of b c

chroma_room : (b : EvcBlock) → Sides b → b.h / 2 * (b.w / 2) ≤ 32 * 32
chroma_room b z =
    let h : b.h / 2 ≤ 32 = let l = z.h_high in omega arith in
    let w : b.w / 2 ≤ 32 = let l = z.w_high in omega arith in
    mul-le-mul h w

pub component_room : (b : EvcBlock) → Sides b → (c : Component) → offset_of c + size_of b c ≤ end_of c
component_room b z luma = omega (arith, mul-le-mul z.h_high z.w_high)
component_room b z cb = omega (arith, chroma_room b z)
component_room b z cr = omega (arith, chroma_room b z)

-- every component ends within a lent block
pub component_end : (c : Component) → end_of c ≤ pred_len
component_end luma = omega arith
component_end cb = omega arith
component_end cr = omega arith

pub component_length : (b : EvcBlock) (c : Component) (f : ℕ → ℕ → ℕ) (d : List ℕ) → length (with_component b c f d) ≡ length d
unfolding with_component
component_length b c f d = length-with_block d (offset_of c) (width_of b c) (width_of b c) (height_of b c) f

component_ext : (b : EvcBlock) (c : Component) (f g : ℕ → ℕ → ℕ) (d : List ℕ) → ((y x : ℕ) → y < height_of b c → x < width_of b c → f y x ≡ g y x) → with_component b c f d ≡ with_component b c g d
unfolding with_component
component_ext b c f g d h = with_block-ext d (offset_of c) (width_of b c) (width_of b c) (height_of b c) f g h

component_again : (b : EvcBlock) (c : Component) (f g : ℕ → ℕ → ℕ) (d : List ℕ) → with_component b c g (with_component b c f d) ≡ with_component b c g d
unfolding with_component
component_again b c f g d = with_block-again d (offset_of c) (width_of b c) (height_of b c) f g

-- of two components, the earlier one may be written last
apart : (b : EvcBlock) (c e : Component) (f g : ℕ → ℕ → ℕ) (d : List ℕ) → offset_of c + size_of b c ≤ offset_of e → with_component b c f (with_component b e g d) ≡ with_component b e g (with_component b c f d)
unfolding with_component
apart b c e f g d h = sym (with_block-apart d (offset_of c) (width_of b c) (height_of b c) (offset_of e) (width_of b e) (height_of b e) f g h)

component_in : (b : EvcBlock) (c : Component) (f : ℕ → ℕ → ℕ) (d : List ℕ) (y x : ℕ) → y < height_of b c → x < width_of b c → offset_of c + size_of b c ≤ length d → block_sample b (with_component b c f d) c y x ≡ f y x
unfolding with_component
component_in b c f d y x ly lx h = with_block-in 0 d (offset_of c) (width_of b c) (width_of b c) (height_of b c) f y x ly lx (omega arith) h

component_before : (b : EvcBlock) (c : Component) (f : ℕ → ℕ → ℕ) (d : List ℕ) (i : ℕ) → i < offset_of c → get_or (with_component b c f d) i 0 ≡ get_or d i 0
unfolding with_component
component_before b c f d i h = with_block-before 0 d (offset_of c) (width_of b c) (width_of b c) (height_of b c) f i h

-- a sample's place lies before the end of its component
place_high : (b : EvcBlock) → Sides b → (c : Component) (y x : ℕ) → y < height_of b c → x < width_of b c → offset_of c + y * width_of b c + x < end_of c
place_high b z c y x ly lx = omega (arith, component_room b z c, row_fits (width_of b c) ly)

pub samples_ext : (b : EvcBlock) (f g : Component → ℕ → ℕ → ℕ) (d : List ℕ) → ((c : Component) (y x : ℕ) → y < height_of b c → x < width_of b c → f c y x ≡ g c y x) → with_samples b f d ≡ with_samples b g d
unfolding with_samples
samples_ext b f g d h =
    component_ext b cr (f cr) (g cr) _ (h cr)
    ∙ ap (with_component b cr (g cr)) (component_ext b cb (f cb) (g cb) _ (h cb) ∙ ap (with_component b cb (g cb)) (component_ext b luma (f luma) (g luma) d (h luma)))

module _ (b : EvcBlock) (z : Sides b) where
  pub samples_at : (f : Component → ℕ → ℕ → ℕ) (d : List ℕ) → pred_len ≤ length d → (c : Component) (y x : ℕ) → y < height_of b c → x < width_of b c → block_sample b (with_samples b f d) c y x ≡ f c y x
  unfolding with_samples
  samples_at f d h luma y x ly lx =
      let p = place_high b z luma y x ly lx in
      component_before b cr (f cr) _ _ (omega arith)
      ∙ component_before b cb (f cb) _ _ (omega arith)
      ∙ component_in b luma (f luma) d y x ly lx (omega (arith, component_room b z luma))
  samples_at f d h cb y x ly lx =
      let p = place_high b z cb y x ly lx in
      component_before b cr (f cr) _ _ (omega arith)
      ∙ component_in b cb (f cb) _ y x ly lx (omega (arith, component_room b z cb, component_length b luma (f luma) d))
  samples_at f d h cr y x ly lx =
      component_in b cr (f cr) _ y x ly lx (omega (arith, component_room b z cr, component_length b cb (f cb) (with_component b luma (f luma) d), component_length b luma (f luma) d))

  pub samples_again : (f g : Component → ℕ → ℕ → ℕ) (d : List ℕ) → with_samples b g (with_samples b f d) ≡ with_samples b g d
  unfolding with_samples
  samples_again f g d =
      let L = with_component b luma (g luma) in
      let B = with_component b cb (g cb) in
      let R = with_component b cr (g cr) in
      let room-l = component_room b z luma in
      let room-b = component_room b z cb in
      ap (λ (k : List ℕ). R (B k)) (apart b luma cr (g luma) (f cr) _ (omega arith) ∙ ap (with_component b cr (f cr)) (apart b luma cb (g luma) (f cb) _ (omega arith) ∙ ap (with_component b cb (f cb)) (component_again b luma (f luma) (g luma) d)))
      ∙ ap R (apart b cb cr (g cb) (f cr) _ (omega arith) ∙ ap (with_component b cr (f cr)) (component_again b cb (f cb) (g cb) (L d)))
      ∙ component_again b cr (f cr) (g cr) (B (L d))
