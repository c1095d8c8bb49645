-- `evc_motion::candidates` meets its contract. Assumes nothing.
use mathlib.Core.Bool.{Bool, true, false, cond}
use mathlib.Core.List.{List, [], ◌∷◌}
use mathlib.Core.Path.{◌≡◌, sym, ◌∙◌}
use Prim.Native.Nat.{ℕ, ◌+◌, ◌-◌, ◌*◌, ◌≤◌}
use native.Mathlib.Omega.{arith}
use lib.IntN.{ℤ, pos}
use Rattle.evc_def.specs.Blocks.{Allowed}
use Rattle.evc_def.specs.Tables.{is_bit}
use Rattle.evc_def.specs.Lists.{lidx_of}
use Rattle.evc_def.specs.declared.EvcBlock.{EvcBlock}
use Rattle.evc_def.specs.declared.accepted.Block.{Block}
use Rattle.evc_def.specs.declared.EvcMv.{EvcMv}
use Rattle.evc_map.specs.Maps.{mv_len, mv_at, w_scu, scup, scuw}
use Rattle.evc_map.proofs.Units.{scup_below}
use Rattle.evc_motion.specs.Candidates.{neighbour, maps_short, candidates}
use Rattle.evc_motion.specs.declared.EvcCandidates.{EvcCandidates}
use Rattle.evc_motion.proofs.Reach.{map_reaches, no_col_short, left_before, up_before, up_right_before, same_neighbour, in_map}
use Rattle.evc_motion.proofs.candidates.Goals as goal

module _ (b : EvcBlock) (lidx avail : ℕ) (map : List ℤ) where
  left_is : (flagged : Bool) (first : ℕ) (mv : EvcMv) → flagged ≡ is_bit 1 avail → first ≡ scup b → mv ≡ neighbour map lidx flagged (first - 1) → mv ≡ neighbour map lidx (is_bit 1 avail) (scup b - 1)
  left_is flagged first mv f e p = p ∙ rw (f, e)

  up_is : (flagged : Bool) (first w : ℕ) (mv : EvcMv) → flagged ≡ is_bit 0 avail → first ≡ scup b → w ≡ w_scu b → mv ≡ neighbour map lidx flagged (first - w) → mv ≡ neighbour map lidx (is_bit 0 avail) (scup b - w_scu b)
  up_is flagged first w mv f e g p = p ∙ rw (f, e, g)

  up_right_is : Allowed b.pic_w b.x b.w → (is_bit 6 avail ≡ true → w_scu b ≤ scup b) → (flagged : Bool) (first w s : ℕ) (mv : EvcMv) → flagged ≡ is_bit 6 avail → first ≡ scup b → w ≡ w_scu b → s ≡ scuw b → mv ≡ neighbour map lidx flagged (first - (w - s)) → mv ≡ neighbour map lidx (is_bit 6 avail) (scup b - w_scu b + scuw b)
  up_right_is ok before flagged first w s mv f e g h p =
      p ∙ rw (f, e, g, h) (same_neighbour map lidx (is_bit 6 avail) _ _ (λ t. let l = before t in let m : scuw b ≤ w_scu b = omega arith in omega arith))

  made : (has : Bool) (col : List ℤ) (old : EvcCandidates) (l u r k : EvcMv) → l ≡ neighbour map lidx (is_bit 1 avail) (scup b - 1) → u ≡ neighbour map lidx (is_bit 0 avail) (scup b - w_scu b) → r ≡ neighbour map lidx (is_bit 6 avail) (scup b - w_scu b + scuw b) → k ≡ cond has (mv_at col (scup b) 0) old.collocated → record { left = l; up = u; up_right = r; collocated = k; refi = pos 0 ∷ pos 0 ∷ pos 0 ∷ pos 0 ∷ [] } ≡ candidates b lidx avail map has col old
  unfolding candidates
  made has col old l u r k p q s t = rw (p, q, s, t)

-- the map reaches to the block's first unit
reaches : (b : Block) (map : ℕ) (has : Bool) (col : ℕ) (first : ℕ) → maps_short b.given map has col ≡ false → first ≡ scup b.given → mv_len * first + mv_len ≤ map
reaches b map has col first e f = map_reaches b.given map has col e _ (rw f (scup_below b.given b.across b.down))

pub unit_before-requires : goal.unit_before-requires
unit_before-requires c =
    let b = c.args.b in
    λ t. rw c.first_unit-scup.ensures (left_before _ _ b.across b.down c.requires.inside (sym c.GET_AVAIL_FLAG-le.ensures ∙ t))

pub unit_before-requires-2 : goal.unit_before-requires-2
unit_before-requires-2 c =
    let b = c.args.b in
    λ t. rw (c.first_unit-scup.ensures, c.scu-w_scu.ensures) (up_before _ _ b.across b.down c.requires.inside (sym c.GET_AVAIL_FLAG-up.ensures ∙ t))

pub unit_before-requires-3 : goal.unit_before-requires-3
unit_before-requires-3 c =
    let b = c.args.b in
    λ t. let l = up_right_before _ _ b.across b.down c.requires.inside (sym c.GET_AVAIL_FLAG-up_ri.ensures ∙ t) in
    omega (arith, c.first_unit-scup.ensures, c.scu-w_scu.ensures)

pub neighbour_mv-requires : goal.neighbour_mv-requires
neighbour_mv-requires c = in_map _ _ _ _ _ (reaches c.args.b _ _ _ _ c.requires.long_enough c.first_unit-scup.ensures) c.unit_before.ensures

pub neighbour_mv-requires-2 : goal.neighbour_mv-requires-2
neighbour_mv-requires-2 c = in_map _ _ _ _ _ (reaches c.args.b _ _ _ _ c.requires.long_enough c.first_unit-scup.ensures) c.unit_before-2.ensures

pub neighbour_mv-requires-3 : goal.neighbour_mv-requires-3
neighbour_mv-requires-3 c = in_map _ _ _ _ _ (reaches c.args.b _ _ _ _ c.requires.long_enough c.first_unit-scup.ensures) c.unit_before-3.ensures

pub col_mv_at-requires : goal.col_mv_at-requires
col_mv_at-requires c = no_col_short c.args.b.given _ _ _ c.requires.long_enough

pub returns : goal.returns
returns c =
    let a = c.args in
    let b = a.b.given in
    let l = lidx_of a.list in
    let map = a.map_mv.now in
    let e = c.first_unit-scup.ensures in
    made b l a.avail map _ _ a.old _ _ _ _
    (left_is b l a.avail map _ _ _ c.GET_AVAIL_FLAG-le.ensures e (c.neighbour_mv.ensures _ _ c.unit_before.ensures))
    (up_is b l a.avail map _ _ _ _ c.GET_AVAIL_FLAG-up.ensures e c.scu-w_scu.ensures (c.neighbour_mv-2.ensures _ _ c.unit_before-2.ensures))
    (up_right_is b l a.avail map a.b.across (up_right_before _ _ a.b.across a.b.down c.requires.inside) _ _ _ _ _ c.GET_AVAIL_FLAG-up_ri.ensures e c.scu-w_scu.ensures c.scu-scuw.ensures (c.neighbour_mv-3.ensures _ _ c.unit_before-3.ensures))
    c.col_mv_at.ensures
