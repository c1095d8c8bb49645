-- Laws of specs/Inner: how `once_ended` is had and used, and how a slice ends that is given up. Assumes `Logic`.
use mathlib.Core.List.{List, [], ◌∷◌}
use Prim.Native.Nat.{ℕ}
use seplogic.Ra.Ura.{Ura}
use mir.Syntax.{Lifetime}
use mir.Val.{Val}
use base.Logic.{SProp, ent, sep, wand, all_e, apply∗}
use base.Fml.{Lft, Fml, fres}
use types.Logic.{Logic, sem}
use types.Kit.{‵, raw, ◌$◌, ◌∵◌, !, qed, by, move, keep, drop, use1, fsplit, assume, each}
use denote.Builtin.{u16}
use denote.Ref.{MutBor}
use denote.Slice.{MutSlice, res-finally, coded_holeys, heres}
use Rattle.evc_pick.specs.Inner.{ends_as, once_ended}

module _ {M : Type 1} {𝓤 : Ura M} (𝓛 : Logic 𝓤) where
  open 𝓛 use {A}

  -- a slice that is given up ends as it is
  pub gives_up : (ℓ : Lifetime) (κ : Lft) (r : MutBor (List ℕ)) (vs : List Val) → ent 𝓤 (sem 𝓛 ((MutSlice ℓ κ u16).own_val r vs)) (sem 𝓛 (ends_as r r.now))
  gives_up ℓ κ r vs =
      qed 𝓛 (‵ ((MutSlice ℓ κ u16).own_val r vs) ∷ []) ∵ fsplit ! $ drop ! $ fsplit ! $
      use1 𝓛 (‵ (fres r.ghost_name ((coded_holeys u16).code (heres u16 r.now)))) (𝓛.names.obs-res r.ghost_name ((coded_holeys u16).code (heres u16 r.now))) $ keep ! (0 ∷ []) $
      by ! (res-finally 𝓛 ℓ κ u16 r.ghost_name r.now)

  module _ (r : MutBor (List ℕ)) (Q : List ℕ → Fml) where
    abbrev Ending : List ℕ → SProp 𝓤
    Ending ys = wand 𝓤 (sem 𝓛 (ends_as r ys)) (sem 𝓛 (Q ys))

    pub once_ended_lem : (P : Fml) → ((ys : List ℕ) → ent 𝓤 (sep 𝓤 (sem 𝓛 (ends_as r ys)) (sem 𝓛 P)) (sem 𝓛 (Q ys))) → ent 𝓤 (sem 𝓛 P) (sem 𝓛 (once_ended r Q))
    once_ended_lem P h = qed 𝓛 (‵ P ∷ []) ∵ each ! Ending (λ ys. assume ! (‵ (ends_as r ys)) $ by ! (h ys))

    pub ended : (ys : List ℕ) → ent 𝓤 (sep 𝓤 (sem 𝓛 (ends_as r ys)) (sem 𝓛 (once_ended r Q))) (sem 𝓛 (Q ys))
    ended ys =
        qed 𝓛 (‵ (ends_as r ys) ∷ ‵ (once_ended r Q) ∷ []) ∵ move ! (1 ∷ []) $ use1 𝓛 (raw (Ending ys)) (all_e 𝓤 Ending ys) $ move ! (1 ∷ 0 ∷ []) $
        by ! (apply∗ 𝓤 (sem 𝓛 (ends_as r ys)) (sem 𝓛 (Q ys)))
