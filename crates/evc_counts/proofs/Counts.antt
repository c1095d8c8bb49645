-- Laws of counts. Assumes nothing.
use mathlib.Core.Bool.{Bool, true, false, cond}
use mathlib.Core.Path.{◌≡◌, sym, subst}
use Prim.Native.Nat.{ℕ, ◌+◌, ◌≤◌, zero-le}
use native.Mathlib.Nat.{add-zero, zero-add, add_assoc}
use native.Mathlib.Omega.{arith}
use lib.Dec.{eqb}
use Rattle.evc_clip.specs.declared.EvcMoved.{EvcMoved}
use Rattle.evc_counts.specs.Counts.{nothing_counted, ◌plus◌, one_if, counts_of}
use Rattle.evc_counts.specs.Inner.{AtMost}
use Rattle.evc_counts.specs.declared.MovedCounts.{MovedCounts}

pub plus_assoc : (c d e : MovedCounts) → c plus d plus e ≡ c plus (d plus e)
plus_assoc c d e =
    rw (add_assoc c.across_low d.across_low e.across_low, add_assoc c.across_high d.across_high e.across_high, add_assoc c.down_low d.down_low e.down_low, add_assoc c.down_high d.down_high e.down_high)

pub plus_nothing : (c : MovedCounts) → c plus nothing_counted ≡ c
plus_nothing c = rw (add-zero c.across_low, add-zero c.across_high, add-zero c.down_low, add-zero c.down_high)

pub nothing_plus : (c : MovedCounts) → nothing_counted plus c ≡ c
nothing_plus c = rw (zero-add c.across_low, zero-add c.across_high, zero-add c.down_low, zero-add c.down_high)

-- ---- how far a count grows

pub one_if_most : (moved side : ℕ) → one_if moved side ≤ 1
unfolding one_if
one_if_most moved side = go (eqb moved side)
  where
    go : (t : Bool) → cond t 1 0 ≤ 1
    go true = omega arith
    go false = omega arith

pub plus_most : (n m : ℕ) (c d : MovedCounts) → AtMost n c → AtMost m d → AtMost (n + m) (c plus d)
plus_most n m c d a b =
    let p = a.across_low in
    let q = a.across_high in
    let r = a.down_low in
    let s = a.down_high in
    let p' = b.across_low in
    let q' = b.across_high in
    let r' = b.down_low in
    let s' = b.down_high in
    record { across_low = omega arith; across_high = omega arith; down_low = omega arith; down_high = omega arith }

pub counts_most : (m : EvcMoved) → AtMost 1 (counts_of m)
counts_most m = record { across_low = one_if_most m.x _; across_high = one_if_most m.x _; down_low = one_if_most m.y _; down_high = one_if_most m.y _ }

pub lists_most : (n : ℕ) (c : MovedCounts) (m m' : EvcMoved) → AtMost n c → AtMost (n + 2) (c plus (counts_of m plus counts_of m'))
lists_most n c m m' a = plus_most n 2 c (counts_of m plus counts_of m') a (plus_most 1 1 (counts_of m) (counts_of m') (counts_most m) (counts_most m'))

pub at_most : (n : ℕ) (c : MovedCounts) → c ≡ nothing_counted → AtMost n c
at_most n c e = subst (AtMost n) (sym e) (record { across_low = zero-le; across_high = zero-le; down_low = zero-le; down_high = zero-le })

pub most_less : (n m : ℕ) (c : MovedCounts) → n ≤ m → AtMost n c → AtMost m c
most_less n m c h a =
    let p = a.across_low in
    let q = a.across_high in
    let r = a.down_low in
    let s = a.down_high in
    record { across_low = omega arith; across_high = omega arith; down_low = omega arith; down_high = omega arith }
