-- From the predictions of the lists to the two blocks: one list, list 0 alone for equal motion, or two and their average. Assumes nothing.
use mathlib.Core.Bool.{Bool, true, false, not, cond, ◌&&◌, ◌||◌}
use mathlib.Core.List.{List}
use mathlib.Core.Path.{◌≡◌, refl, sym, ap, ap₂, subst, ◌∙◌}
use Prim.Native.Nat.{ℕ, ◌*◌, ◌<◌, ◌≤◌}
use native.Mathlib.Omega.{arith}
use lib.Dec.{T}
use lib.ListN.{length}
use Rattle.std.proofs.lemmas.Bool.{cond-true, cond-false, and_from, and_left, and_right}
use Rattle.evc_def.specs.Codes.{first_of, block_checks}
use Rattle.evc_def.specs.declared.EvcBlock.{EvcBlock}
use Rattle.evc_interp.proofs.Windows.{accepts, predicted_small}
use Rattle.evc_pick.specs.Inner.{by_block}
use Rattle.evc_pick.specs.declared.PredBlock.{PredBlock}
use Rattle.evc_pick.specs.declared.PredBlock.TheVariants.{First, Second}
use Rattle.evc_mc.specs.declared.EvcList.{EvcList}
use Rattle.evc_mc.specs.Block.{RefPicList, Component, type_of, plane_of, width_of, height_of, with_samples, list_sample, first_sample, same_motion, is_bi, average, list_short, list_exceeds, pred_len}
use Rattle.evc_mc.specs.Inner.{with_list, block_sample, BlockSmall}
use Rattle.evc_mc.proofs.Checks.{Sides, sides, plane_accepted, list_examined}
use Rattle.evc_mc.proofs.Samples.{component_room, component_end, samples_at, samples_ext, samples_again}

-- ---- one list

module _ (b : EvcBlock) (l : RefPicList) where
  list_used : (d : List ℕ) → l.list.used ≡ true → with_list b l d ≡ with_samples b (list_sample b l) d
  unfolding with_list
  list_used d u = cond-true _ _ _ u

  list_unused : (d : List ℕ) → l.list.used ≡ false → with_list b l d ≡ d
  unfolding with_list
  list_unused d u = cond-false _ _ _ u

  -- its samples are at most 1023 (p is a list with room for each plane)
  list_small : (p : List ℕ) → first_of (block_checks b) ≡ 0 → pred_len ≤ length p → list_short b l ≡ false → list_exceeds b l ≡ false → l.list.used ≡ true
      → (c : Component) (y x : ℕ) → y < height_of b c → x < width_of b c → list_sample b l c y x ≤ 1023
  unfolding list_sample
  list_small p e long s f u c y x ly lx =
      let g = list_examined b l _ s f refl u c in
      let room : height_of b c * width_of b c ≤ length p = omega (arith, component_room b (sides b e) c, component_end c) in
      predicted_small (type_of c) _ _ l.list.mv _ (width_of b c) (height_of b c) (plane_of c l) p (accepts _ _ _ _ _ _ _ _ (plane_accepted b (type_of c) _ (plane_of c l) p e g room)) y x ly lx

-- ---- both

module _ (b : EvcBlock) (l m : EvcList) where
  pub not_both : (l.used && m.used) ≡ false → is_bi b l m ≡ false
  unfolding is_bi
  not_both e = and_left (l.used && m.used) _ e

  pub not_same : (l.used && m.used) ≡ true → same_motion b l m ≡ false → is_bi b l m ≡ true
  unfolding is_bi
  not_same e f = and_from (l.used && m.used) _ e (ap not f)

  pub same : same_motion b l m ≡ true → is_bi b l m ≡ false
  unfolding is_bi
  same e = and_right (l.used && m.used) _ (ap not e)

module _ (b : EvcBlock) (l m : RefPicList) where
  module _ (c : Component) (y x : ℕ) where
    first_one : is_bi b l.list m.list ≡ false → cond l.list.used (list_sample b l c y x) (list_sample b m c y x) ≡ first_sample b l m c y x
    unfolding first_sample
    first_one e = sym (cond-false _ _ _ e)

    first_bi : is_bi b l.list m.list ≡ true → average (list_sample b l c y x) (list_sample b m c y x) ≡ first_sample b l m c y x
    unfolding first_sample
    first_bi e = sym (cond-true _ _ _ e)

  module _ (p q : List ℕ) where
    -- what the call leaves in the two blocks
    abbrev Left : List ℕ → List ℕ → Type 0
    Left d e = (d ≡ with_samples b (first_sample b l m) p) × (e ≡ cond (is_bi b l.list m.list) (with_samples b (list_sample b m) q) q)

    kept : is_bi b l.list m.list ≡ false → q ≡ cond (is_bi b l.list m.list) (with_samples b (list_sample b m) q) q
    kept e = sym (cond-false _ _ _ e)

    module _ (a₀ a₁ : List ℕ) (e₀ : a₀ ≡ with_list b l p) (e₁ : a₁ ≡ q) where
      -- list 0 alone
      pub stands : l.list.used ≡ true → is_bi b l.list m.list ≡ false → Left a₀ a₁
      stands u n = (e₀ ∙ list_used b l p u ∙ samples_ext b _ _ p (λ c y x ly lx. sym (cond-true _ _ _ u) ∙ first_one c y x n), e₁ ∙ kept n)

      module _ (block : PredBlock) (b₀ b₁ : List ℕ) (e : block ≡ cond l.list.used Second First) (f₀ : b₀ ≡ by_block block (with_list b m a₀) a₀) (f₁ : b₁ ≡ by_block block a₁ (with_list b m a₁)) where
        second : {X : Type 0} → l.list.used ≡ true → (x y : X) → by_block block x y ≡ y
        second u x y = rw (e, u) refl

        first : {X : Type 0} → l.list.used ≡ false → (x y : X) → by_block block x y ≡ x
        first u x y = rw (e, u) refl

        -- one list is in use
        pub single : (l.list.used || m.list.used) ≡ true → (l.list.used && m.list.used) ≡ false → Left b₀ b₁
        single s n = go l.list.used m.list.used refl refl s n
          where
            go : (t v : Bool) → l.list.used ≡ t → m.list.used ≡ v → (t || v) ≡ true → (t && v) ≡ false → Left b₀ b₁
            go true true u w s k = absurd (subst T k tt)
            go true false u w s k =
                let r = stands u (not_both _ _ _ n) in
                (f₀ ∙ second u _ _ ∙ r.0, f₁ ∙ second u _ _ ∙ list_unused b m a₁ w ∙ r.1)
            go false true u w s k = (
              f₀ ∙ first u _ _ ∙ list_used b m a₀ w ∙ ap (with_samples b (list_sample b m)) (e₀ ∙ list_unused b l p u) ∙ samples_ext b _ _ p (λ c y x ly lx. sym (cond-false _ _ _ u) ∙ first_one c y x (not_both _ _ _ n)),
              f₁ ∙ first u _ _ ∙ e₁ ∙ kept (not_both _ _ _ n),
            )
            go false false u w s k = absurd (subst T (sym s) tt)

        module _ (u : l.list.used ≡ true) (w : m.list.used ≡ true) where
          both_0 : b₀ ≡ with_samples b (list_sample b l) p
          both_0 = f₀ ∙ second u _ _ ∙ e₀ ∙ list_used b l p u

          both_1 : b₁ ≡ with_samples b (list_sample b m) q
          both_1 = f₁ ∙ second u _ _ ∙ list_used b m a₁ w ∙ ap (with_samples b (list_sample b m)) e₁

          module _ (z : Sides b) (lp : pred_len ≤ length p) (lq : pred_len ≤ length q) where
            at_0 : (c : Component) (y x : ℕ) → y < height_of b c → x < width_of b c → block_sample b b₀ c y x ≡ list_sample b l c y x
            at_0 c y x ly lx = ap (λ (d : List ℕ). block_sample b d c y x) both_0 ∙ samples_at b z (list_sample b l) p lp c y x ly lx

            at_1 : (c : Component) (y x : ℕ) → y < height_of b c → x < width_of b c → block_sample b b₁ c y x ≡ list_sample b m c y x
            at_1 c y x ly lx = ap (λ (d : List ℕ). block_sample b d c y x) both_1 ∙ samples_at b z (list_sample b m) q lq c y x ly lx

            -- what averaging asks ..
            pub both_small : first_of (block_checks b) ≡ 0 → list_short b l ≡ false → list_exceeds b l ≡ false → list_short b m ≡ false → list_exceeds b m ≡ false → BlockSmall b b₀ × BlockSmall b b₁
            both_small e sl xl sm xm = (
              λ c y x ly lx. subst (λ (v : ℕ). v ≤ 1023) (sym (at_0 c y x ly lx)) (list_small b l p e lp sl xl u c y x ly lx),
              λ c y x ly lx. subst (λ (v : ℕ). v ≤ 1023) (sym (at_1 c y x ly lx)) (list_small b m p e lp sm xm w c y x ly lx),
            )

            -- .. and gives
            pub averaged : (c₀ : List ℕ) → is_bi b l.list m.list ≡ true → c₀ ≡ with_samples b (λ (c : Component) (y x : ℕ). average (block_sample b b₀ c y x) (block_sample b b₁ c y x)) b₀ → Left c₀ b₁
            averaged c₀ bi g = (
              g ∙ ap (with_samples b (λ (c : Component) (y x : ℕ). average (block_sample b b₀ c y x) (block_sample b b₁ c y x))) both_0
                  ∙ samples_again b z (list_sample b l) _ p
                  ∙ samples_ext b _ _ p (λ c y x ly lx. ap₂ average (at_0 c y x ly lx) (at_1 c y x ly lx) ∙ first_bi c y x bi),
              both_1 ∙ sym (cond-true _ _ _ bi),
            )
