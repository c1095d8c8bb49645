-- `evc_avail::Neighbours::avail_up` meets its contract. Assumes nothing.
use Rattle.std.proofs.Common.{◌+◌, ◌≤◌, sym, ◌∙◌, arith}
use Rattle.evc_avail.specs.Around.{left_of, first_column, last_column, right_of, above}
use Rattle.evc_avail.proofs.Around.{unit_low, first_above, last_unit}
use Rattle.evc_avail.proofs.Flags.{no_up, up_flags}
use Rattle.evc_avail.proofs.Neighbours.avail_up.Goals as goal

pub returns-in_default : goal.returns-in_default
returns-in_default g c =
    let b = c.args.self.now.block in
    (no_up _ _ _ b.across b.down (first_above b.given b.across b.down (sym c.in_default.is ∙ c.above.ensures)), omega arith)

pub is_inter-up_le-requires : goal.is_inter-up_le-requires
is_inter-up_le-requires g c =
    let b = c.args.self.now.block.given in
    unit_low b (left_of b) (above b) _ (c.left_of.ensures (above b) (sym c.above.ensures ∙ c.in-Some.is))

pub right_of_last-requires : goal.right_of_last-requires
right_of_last-requires g c =
    let n = c.args.self.now in
    let b = n.block.given in
    let last = last_unit b n.block.across n.block.down (above b) _ (sym c.in-Some.is ∙ c.above.ensures) _ (omega (arith, c.scu-scuw.ensures)) in
    (above b, sym last)

pub is_inter-up_ri-requires : goal.is_inter-up_ri-requires
is_inter-up_ri-requires g c =
    let n = c.args.self.now in
    let b = n.block.given in
    let last = last_unit b n.block.across n.block.down (above b) _ (sym c.in-Some.is ∙ c.above.ensures) _ (omega (arith, c.scu-scuw.ensures)) in
    unit_low b (right_of b) (above b) _ (c.right_of_last.ensures (above b) (sym last))

pub returns : goal.returns
returns g c =
    let n = c.args.self.now in
    let b = n.block.given in
    let small : c.flag.result + c.flag-2.result + c.flag-3.result + c.flag-4.result ≤ 609 = omega (arith, c.flag.ensures.1, c.flag-2.ensures.1, c.flag-3.ensures.1, c.flag-4.ensures.1) in
    let first = sym c.in-Some.is ∙ c.above.ensures in
    let last = last_unit b n.block.across n.block.down (above b) _ first _ (omega (arith, c.scu-scuw.ensures)) in
    let up = c.is_not_intra-up.ensures (first_column b) (above b) first in
    let ri_up = c.is_not_intra-ri_up.ensures (last_column b) (above b) last in
    let up_le = c.is_inter-up_le.ensures (left_of b) (above b) (c.left_of.ensures (above b) (sym first)) in
    let up_ri = c.is_inter-up_ri.ensures (right_of b) (above b) (c.right_of_last.ensures (above b) (sym last)) in
    (up_flags _ _ _ _ _ _ _ _ _ _ _ up ri_up up_le up_ri c.flag.ensures.0 c.flag-2.ensures.0 c.flag-3.ensures.0 c.flag-4.ensures.0, small)
