-- `evc_lists::numbers`: each number at its index.
use Rattle.std.proofs.Common.{rules}
use Rattle.evc_lists.specs.Records.{number}
use Rattle.evc_lists.proofs.Made.{each}
use Rattle.evc_lists.proofs.numbers.Goals as goal

pub returns : goal.returns
returns g c k h = each _ _ (number c.args.bytes.now) (λ i y q m. let p = m.met in (search rules, search rules)) c.from_fn.result g.row.N c.from_fn.ensures.items.each k 0 h
