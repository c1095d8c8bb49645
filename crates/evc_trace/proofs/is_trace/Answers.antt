-- `evc_trace::is_trace` meets its contract. Assumes nothing.
use mathlib.Core.Bool.{◌&&◌}
use mathlib.Core.List.{List, [], ◌∷◌}
use mathlib.Core.Path.{◌≡◌, refl, ◌∙◌}
use Prim.Native.Nat.{ℕ, ◌≤◌}
use native.Mathlib.Omega.{arith}
use lib.Dec.{eqb}
use lib.ListN.{length, get_or}
use Rattle.std.specs.List.{starts_with}
use Rattle.std.proofs.lemmas.Bool.Decides.{nat_tests}
use Rattle.evc_trace.specs.Format.{is_trace}
use Rattle.evc_trace.proofs.is_trace.Goals as goal

letters : (s : List ℕ) → 3 ≤ length s → starts_with eqb s (73 ∷ 80 ∷ 84 ∷ []) ≡ (eqb (get_or s 0 0) 73 && eqb (get_or s 1 0) 80 && eqb (get_or s 2 0) 84)
letters [] l = absurd (omega arith)
letters (a ∷ []) l = absurd (omega arith)
letters (a ∷ b ∷ []) l = absurd (omega arith)
letters (a ∷ b ∷ d ∷ s) l = grind (arith, nat_tests)

pub returns : goal.returns
unfolding is_trace
returns c =
    let e = c.starts_with.ensures.value ∙ letters c.args.s.now (omega arith) in
    rw (e, c.u16_at-version.ensures) refl
