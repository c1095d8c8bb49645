-- Steps for a proof that walks MIR by hand, beside the kit's (`types.Run`, `types.ByLocal`). They say nothing of the crate.
--     whole_as      a cell has itself within it, at a value that its own is equal to
--     chooses       `if let V = c { p = a } else { p = b }`, V the second of two variants, where a or b, by c, is the value v: p holds v, and there is one way on
--     needs_both    the facts of two `requires` are learned
-- Assumes `Logic`.
use mathlib.Core.List.{List, [], ◌∷◌}
use mathlib.Core.Path.{◌≡◌, subst}
use Prim.Native.Nat.{ℕ, ◌≤◌}
use native.Mathlib.Omega.{arith}
use seplogic.Ra.Ura.{Ura}
use mir.Syntax.{Place, Opd as Operand, Rv as RValue, Body, Ty, seq, assign, switch, arm, no_default, w8}
use mir.Val.{Val, vint}
use base.Fml.{Share, fat}
use base.Logic.{SProp, ent, sep, via, assoc'}
use contract.Monad.{fact}
use denote.Triple.Walked.{needs}
use prog.Wp.{Env, Spot, Calls, Loops}
use types.Logic.{Logic}
use types.Kit.{Item, ‵, Post, runs, Step, step, ◌$◌}
use types.Part.{Part, whole}
use types.Run.{Opd, Rv, Finds, Writes, first, switches, assigns_last}

module _ {M : Type 1} {𝓤 : Ura M} {𝓛 : Logic 𝓤} {K : Type 0} where
  pub whole_as : K → {q : Share} {τ : Ty} {b o : ℕ} {u v : Val} → u ≡ v → Part K 𝓛 (‵ (fat q τ b o u)) q τ b o v (λ (w : Val). ‵ (fat q τ b o w))
  whole_as t {q} {τ} {b} {o} {u} e = subst (λ (v : Val). Part K 𝓛 (‵ (fat q τ b o u)) q τ b o v (λ (w : Val). ‵ (fat q τ b o w))) e (whole t)

module _ {M : Type 1} {𝓤 : Ura M} {𝓛 : Logic 𝓤} {K : Type 0} {Γ : List (Item 𝓤)} {E : Env 𝓤 𝓛.H} where
  open 𝓛 use {H}

  pub chooses : K → {C : Calls 𝓤 H} {Λ : Loops 𝓤 H} {q : Post 𝓤 H} {c : Operand} {p : Place} {a b : RValue} {rest : Body} {x : ℕ} {v : Val} {sp : Spot 𝓤 H} {Γ' : List (Item 𝓤)}
      → Opd K 𝓛 Γ E c (vint w8 x) → x ≤ 1 → (x ≡ 1 → Rv K 𝓛 Γ E a v) → (x ≡ 0 → Rv K 𝓛 Γ E b v) → Finds K 𝓛 Γ E p sp → Writes K 𝓛 Γ sp.0 sp.1 sp.2 v Γ'
      → Step K 𝓛 Γ' (runs C Λ E rest q) Γ (runs C Λ E (seq (switch c (arm (1 ∷ []) (assign p a) (arm (0 ∷ []) (assign p b) no_default))) rest) q)
  chooses t o le second other f w =
      step (λ s. first t $ switches t o (
        λ e. assigns_last t (second e) f w $ record { prf = s.prf },
        (λ e. assigns_last t (other e) f w $ record { prf = s.prf }, λ n. absurd (n.1 (omega (arith, le, n.0.1)))),
      ))

pub needs_both : {M : Type 1} (𝓤 : Ura M) (φ ψ : Type 0) (Q : SProp 𝓤) {R : SProp 𝓤} → (φ → ψ → ent 𝓤 Q R) → ent 𝓤 (sep 𝓤 Q (sep 𝓤 (fact 𝓤 φ) (fact 𝓤 ψ))) R
needs_both 𝓤 φ ψ Q f = via 𝓤 (sep 𝓤 (sep 𝓤 Q (fact 𝓤 φ)) (fact 𝓤 ψ)) (assoc' 𝓤 Q (fact 𝓤 φ) (fact 𝓤 ψ)) (needs 𝓤 ψ (sep 𝓤 Q (fact 𝓤 φ)) (λ b. needs 𝓤 φ Q (λ a. f a b)))
