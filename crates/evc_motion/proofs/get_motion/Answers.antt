-- `evc_motion::get_motion` meets its contract: 1, 2, then 3, 4, 7 with the record as it was, or filled. Assumes nothing.
use mathlib.Core.Bool.{Bool, false}
use mathlib.Core.List.{List}
use mathlib.Core.Path.{◌≡◌, sym, ap, ◌∙◌}
use Prim.Native.Nat.{ℕ}
use native.Mathlib.Omega.{arith}
use borrow.Author.Tests.{ne_eqb, lt-ltb, le-ltb}
use lib.Dec.{ltb}
use lib.IntN.{ℤ}
use lib.ListN.{length}
use Rattle.std.proofs.Common.{Err}
use Rattle.std.proofs.lemmas.Result.{err_from_is_err_and}
use Rattle.evc_def.specs.Codes.{first_of, block_checks}
use Rattle.evc_def.specs.Lists.{lidx_of}
use Rattle.evc_def.specs.Refusals.{number_of}
use Rattle.evc_def.specs.declared.EvcBlock.{EvcBlock}
use Rattle.evc_def.specs.declared.RefList.{RefList}
use Rattle.evc_def.specs.declared.RefList.TheVariants.{List0, List1}
use Rattle.evc_def.specs.declared.refusal.Refusal.{Refusal}
use Rattle.evc_def.specs.declared.refusal.Refusal.TheVariants.{Buffer, Neighbour}
use Rattle.evc_def.proofs.Codes.{refused, passed, none, stops, goes_on}
use Rattle.evc_def.proofs.Refusals.{not_0}
use Rattle.evc_motion.specs.Candidates.{motion_checks, candidates, get_motion, motion_of}
use Rattle.evc_motion.specs.declared.EvcCandidates.{EvcCandidates}
use Rattle.evc_motion.proofs.get_motion.Goals as goal

module _ (b : EvcBlock) (lidx avail : ℕ) (map : List ℤ) (has : Bool) (col : List ℤ) (old : EvcCandidates) where
  refusal : (r : Refusal) → number_of r ≡ first_of (motion_checks b lidx avail (length map) has (length col)) → motion_of old (Err r) ≡ get_motion b lidx avail map has col old
  unfolding get_motion
  refusal r e = rw (sym e, ne_eqb (number_of r) 0 (not_0 r))

  done : (r : EvcCandidates) → first_of (motion_checks b lidx avail (length map) has (length col)) ≡ 0 → r ≡ candidates b lidx avail map has col old → record { code = 0; cand = r } ≡ get_motion b lidx avail map has col old
  unfolding get_motion
  done r e p = rw (e, p)

-- a list number is 0 or 1
below_2 : (list : RefList) (lidx : ℕ) → lidx ≡ lidx_of list → ltb 1 lidx ≡ false
below_2 List0 lidx e = le-ltb _ _ (omega arith)
below_2 List1 lidx e = le-ltb _ _ (omega arith)

pub returns-in_err-b : goal.returns-in_err-b
returns-in_err-b c =
    let p = err_from_is_err_and c.from_residual.result c.from_residual.ensures.1 in
    let e = c.in_err-b.ensures.code in
    rw (p.1, p.2) (refusal _ _ _ _ _ _ _ _ (e ∙ sym (stops (block_checks _) _ (λ z. not_0 _ (e ∙ z)))))

pub returns-in_err-list : goal.returns-in_err-list
returns-in_err-list c =
    let p = err_from_is_err_and c.from_residual-in_err-list.result c.from_residual-in_err-list.ensures.1 in
    let x = c.in_err-list.ensures in
    rw (p.1, p.2) (refusal _ _ _ _ _ _ _ _ (ap number_of x.1 ∙ sym (goes_on 0 (block_checks _) _ tt (sym c.in_ok-b.ensures.code) ∙ refused _ _ _ (lt-ltb _ _ x.0))))

pub returns-then-maps_short : goal.returns-then-maps_short
returns-then-maps_short c =
    let maps = simp c.in_ok-b.ensures.value at c.maps_short.ensures in
    refusal _ _ _ _ _ _ _ Buffer
    (sym (goes_on 0 (block_checks _) _ tt (sym c.in_ok-b.ensures.code) ∙ passed _ _ _ (below_2 _ _ c.in_ok-list.ensures) ∙ refused _ _ _ (sym maps ∙ c.if-maps_short.true)))

pub returns-then-flag_outside : goal.returns-then-flag_outside
returns-then-flag_outside c =
    let maps = simp c.in_ok-b.ensures.value at c.maps_short.ensures in
    let flags = simp c.in_ok-b.ensures.value at c.flag_outside.ensures in
    refusal _ _ _ _ _ _ _ Neighbour
    (sym
    (goes_on 0 (block_checks _) _ tt (sym c.in_ok-b.ensures.code)
    ∙ passed _ _ _ (below_2 _ _ c.in_ok-list.ensures)
    ∙ passed _ _ _ (sym maps ∙ c.if-maps_short.false)
    ∙ refused _ _ _ (sym flags ∙ c.if-flag_outside.true)))

pub returns : goal.returns
returns c =
    let maps = simp c.in_ok-b.ensures.value at c.maps_short.ensures in
    let flags = simp c.in_ok-b.ensures.value at c.flag_outside.ensures in
    done _ _ _ _ _ _ _ _
    (goes_on 0 (block_checks _) _ tt (sym c.in_ok-b.ensures.code)
    ∙ passed _ _ _ (below_2 _ _ c.in_ok-list.ensures)
    ∙ passed _ _ _ (sym maps ∙ c.if-maps_short.false)
    ∙ passed _ _ _ (sym flags ∙ c.if-flag_outside.false)
    ∙ none)
    (simp (c.in_ok-b.ensures.value, sym c.in_ok-list.ensures) at c.candidates.ensures)
