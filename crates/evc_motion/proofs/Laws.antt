-- A law beside the contract of candidates: nothing counts but the units they name, and nothing of the flags but bits 0, 1 and 6. Assumes nothing.
use mathlib.Core.Bool.{Bool, true, false, cond}
use mathlib.Core.List.{List}
use mathlib.Core.Path.{◌≡◌, refl, sym}
use Prim.Native.Nat.{ℕ, ◌+◌, ◌-◌}
use lib.IntN.{ℤ}
use Rattle.evc_def.specs.Tables.{is_bit}
use Rattle.evc_def.specs.declared.EvcBlock.{EvcBlock}
use Rattle.evc_def.specs.declared.EvcMv.{EvcMv}
use Rattle.evc_map.specs.Maps.{mv_at, w_scu, scup, scuw}
use Rattle.evc_motion.specs.Candidates.{neighbour, candidates}
use Rattle.evc_motion.specs.declared.EvcCandidates.{EvcCandidates}

same_where : (map map' : List ℤ) (lidx unit : ℕ) (f f' : Bool) → f ≡ f' → (f ≡ true → mv_at map unit lidx ≡ mv_at map' unit lidx) → neighbour map lidx f unit ≡ neighbour map' lidx f' unit
same_where map map' lidx unit true f' e h = rw (sym e) (h refl)
same_where map map' lidx unit false f' e h = rw (sym e)

module _ (b : EvcBlock) (lidx avail avail' : ℕ) (map map' : List ℤ) (has : Bool) (col col' : List ℤ) (old : EvcCandidates) where
  pub candidates_local : is_bit 1 avail ≡ is_bit 1 avail' → is_bit 0 avail ≡ is_bit 0 avail' → is_bit 6 avail ≡ is_bit 6 avail' → (is_bit 1 avail ≡ true → mv_at map (scup b - 1) lidx ≡ mv_at map' (scup b - 1) lidx) → (is_bit 0 avail ≡ true → mv_at map (scup b - w_scu b) lidx ≡ mv_at map' (scup b - w_scu b) lidx) → (is_bit 6 avail ≡ true → mv_at map (scup b - w_scu b + scuw b) lidx ≡ mv_at map' (scup b - w_scu b + scuw b) lidx) → (has ≡ true → mv_at col (scup b) 0 ≡ mv_at col' (scup b) 0) → candidates b lidx avail map has col old ≡ candidates b lidx avail' map' has col' old
  unfolding candidates
  candidates_local p q r left up up-right fourth =
      four _ _ _ _ _ _ _ _ _
      (same_where map map' lidx (scup b - 1) (is_bit 1 avail) (is_bit 1 avail') p left)
      (same_where map map' lidx (scup b - w_scu b) (is_bit 0 avail) (is_bit 0 avail') q up)
      (same_where map map' lidx (scup b - w_scu b + scuw b) (is_bit 6 avail) (is_bit 6 avail') r up-right)
      (kept has fourth)
    where
      kept : (t : Bool) → (t ≡ true → mv_at col (scup b) 0 ≡ mv_at col' (scup b) 0) → cond t (mv_at col (scup b) 0) old.collocated ≡ cond t (mv_at col' (scup b) 0) old.collocated
      kept true h = h refl
      kept false h = refl

      four : (f : List ℤ) (l l' u u' r r' k k' : EvcMv) → l ≡ l' → u ≡ u' → r ≡ r' → k ≡ k'
          → ◌≡◌ {A = EvcCandidates} (record { left = l; up = u; up_right = r; collocated = k; refi = f }) (record { left = l'; up = u'; up_right = r'; collocated = k'; refi = f })
      four f l l' u u' r r' k k' a b c d = rw (a, b, c, d)
