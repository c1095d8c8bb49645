-- `evc_mc::average_block` meets its contract: each plane is averaged as one run, and no plane's samples are touched by another's. Assumes nothing.
use Prim.Native.Nat.{ℕ, ◌+◌, ◌*◌, ◌≤◌}
use mathlib.Core.List.{List}
use mathlib.Core.Logic.{inr}
use mathlib.Core.Path.{◌≡◌, refl, sym, ap, subst, ◌∙◌}
use native.Mathlib.Omega.{arith}
use lib.ListN.{length, get_or}
use Rattle.evc_int.specs.Lists.{with_row, with_block}
use Rattle.evc_int.proofs.Lists.{with_row-ext, with_row-out, with_block-ext, with_block-run, run_each}
use Rattle.evc_def.specs.declared.EvcBlock.{EvcBlock}
use Rattle.evc_mc.specs.Block.{Component, luma, cb, cr, offset_of, width_of, height_of, with_component, with_samples, average, pred_len}
use Rattle.evc_mc.specs.Inner.{block_sample, RowSmall, BlockSmall}
use Rattle.evc_mc.proofs.Checks.{Sides, sides}
use Rattle.evc_mc.proofs.Samples.{size_of, component_room, component_end}
use Rattle.evc_mc.proofs.average_block.Goals as goal

-- a component's samples as one run
row_small : (b : EvcBlock) (d : List ℕ) (c : Component) (o : ℕ) → o ≡ offset_of c → BlockSmall b d → RowSmall d o (size_of b c)
row_small b d c o e s =
    run_each (λ (i : ℕ). get_or d (o + i) 0 ≤ 1023) (width_of b c) (height_of b c)
    (λ y x ly lx.
    let i : offset_of c + y * width_of b c + x ≡ o + (y * width_of b c + x) = omega arith in
    subst (λ (i : ℕ). get_or d i 0 ≤ 1023) i (s c y x ly lx))

-- a plane that lies behind is as it was
behind : (l l₀ : List ℕ) (at n o : ℕ) (f : ℕ → ℕ) → l ≡ with_row l₀ at n f → at + n ≤ o → (i : ℕ) → get_or l (o + i) 0 ≡ get_or l₀ (o + i) 0
behind l l₀ at n o f e h i = ap (λ (k : List ℕ). get_or k (o + i) 0) e ∙ with_row-out 0 l₀ at n f (o + i) (inr (omega arith))

small_behind : (l l₀ : List ℕ) (at n o m : ℕ) (f : ℕ → ℕ) → l ≡ with_row l₀ at n f → at + n ≤ o → RowSmall l₀ o m → RowSmall l o m
small_behind l l₀ at n o m f e h s i lt = subst (λ (v : ℕ). v ≤ 1023) (sym (behind l l₀ at n o f e h i)) (s i lt)

module _ (b : EvcBlock) (p q : List ℕ) where
  abbrev mean : Component → ℕ → ℕ → ℕ
  mean c y x = average (block_sample b p c y x) (block_sample b q c y x)

  abbrev averaged : List ℕ → ℕ → ℕ → List ℕ
  averaged l o n = with_row l o n (λ (i : ℕ). average (get_or l (o + i) 0) (get_or q (o + i) 0))

  -- a plane whose samples are still those of p
  plane : (c : Component) (l : List ℕ) (o : ℕ) → o ≡ offset_of c → ((i : ℕ) → get_or l (o + i) 0 ≡ get_or p (o + i) 0) → averaged l o (size_of b c) ≡ with_component b c (mean c) l
  unfolding with_component
  plane c l o e s =
      let g : ℕ → ℕ = λ i. average (get_or p (o + i) 0) (get_or q (o + i) 0) in
      with_row-ext l o (size_of b c) _ g (λ i lt. ap (λ (v : ℕ). average v (get_or q (o + i) 0)) (s i))
      ∙ with_block-run l o (width_of b c) (height_of b c) g
      ∙ ap (λ (k : ℕ). with_block l k (width_of b c) (width_of b c) (height_of b c) (λ (y x : ℕ). g (y * width_of b c + x))) e
      ∙ with_block-ext l (offset_of c) (width_of b c) (width_of b c) (height_of b c) _ (mean c)
      (λ y x ly lx.
      let i : o + (y * width_of b c + x) ≡ offset_of c + y * width_of b c + x = omega arith in
      ap (λ (k : ℕ). average (get_or p k 0) (get_or q k 0)) i)

  done : Sides b → (o r : ℕ) (d₁ d₂ d₃ : List ℕ) → o ≡ offset_of cb → r ≡ offset_of cr
      → d₁ ≡ averaged p 0 (size_of b luma) → d₂ ≡ averaged d₁ o (size_of b cb) → d₃ ≡ averaged d₂ r (size_of b cr) → d₃ ≡ with_samples b mean p
  unfolding with_samples
  done z o r d₁ d₂ d₃ eo er e₁ e₂ e₃ =
      let x = component_room b z luma in
      let y = component_room b z cb in
      e₃
      ∙ plane cr d₂ r er
      (λ i. behind d₂ d₁ o (size_of b cb) r _ e₂ (omega arith) i ∙ behind d₁ p 0 (size_of b luma) r _ e₁ (omega arith) i)
      ∙ ap (with_component b cr (mean cr))
      (e₂ ∙ plane cb d₁ o eo (λ i. behind d₁ p 0 (size_of b luma) o _ e₁ (omega arith) i)
      ∙ ap (with_component b cb (mean cb)) (e₁ ∙ plane luma p 0 refl (λ i. refl)))

-- what averaging a plane asks: that both blocks hold it, and that its samples are small
ready : (b : EvcBlock) → Sides b → (c : Component) (o : ℕ) (d q : List ℕ) → o ≡ offset_of c → pred_len ≤ length d → pred_len ≤ length q → RowSmall d o (size_of b c) → BlockSmall b q
    → ((o + size_of b c ≤ length d) × (o + size_of b c ≤ length q)) × (RowSmall d o (size_of b c) × RowSmall q o (size_of b c))
ready b z c o d q e ld lq sd sq =
    let r = component_room b z c in
    let k = component_end c in
    ((omega (arith, r, k), omega (arith, r, k)), (sd, row_small b q c o e sq))

pub average_plane-requires : goal.average_plane-requires
average_plane-requires c =
    let b = c.args.b.given in
    let r = c.requires in
    let p = ready b (sides b c.args.b.checked) luma 0 _ _ refl r.long_enough.0 r.long_enough.1 (row_small b _ luma 0 refl r.block_small.0) r.block_small.1 in
    record { n_in_bounds = p.0; row_small = p.1 }

pub average_plane-requires-2 : goal.average_plane-requires-2
average_plane-requires-2 c =
    let b = c.args.b.given in
    let z = sides b c.args.b.checked in
    let r = c.requires in
    let o = c.cu_dim_offset-offset_u.ensures in
    let k = c.average_plane in
    let x = component_room b z luma in
    let s = small_behind _ _ _ _ _ _ _ k.ensures (omega (arith, o)) (row_small b _ cb _ o r.block_small.0) in
    let p = ready b z cb _ _ _ o (omega (arith, k.auto.pred0, r.long_enough.0)) r.long_enough.1 s r.block_small.1 in
    record { n_in_bounds = p.0; row_small = p.1 }

pub average_plane-requires-3 : goal.average_plane-requires-3
average_plane-requires-3 c =
    let b = c.args.b.given in
    let z = sides b c.args.b.checked in
    let r = c.requires in
    let o = c.cu_dim_offset-offset_u.ensures in
    let q = c.cu_dim_offset-offset_v.ensures in
    let k = c.average_plane in
    let l = c.average_plane-2 in
    let x = component_room b z luma in
    let y = component_room b z cb in
    let s = small_behind _ _ _ _ _ _ _ k.ensures (omega (arith, q)) (row_small b _ cr _ q r.block_small.0) in
    let t = small_behind _ _ _ _ _ _ _ l.ensures (omega (arith, o, q)) s in
    let p = ready b z cr _ _ _ q (omega (arith, k.auto.pred0, l.auto.pred0, r.long_enough.0)) r.long_enough.1 t r.block_small.1 in
    record { n_in_bounds = p.0; row_small = p.1 }

pub returns : goal.returns
returns c =
    done c.args.b.given c.args.pred0.now c.args.pred1.now (sides c.args.b.given c.args.b.checked) _ _ _ _ _ c.cu_dim_offset-offset_u.ensures c.cu_dim_offset-offset_v.ensures
    c.average_plane.ensures c.average_plane-2.ensures c.average_plane-3.ensures
