-- `evc_interp::start` meets its contract. Assumes nothing.
use mathlib.Core.Path.{sym, ◌∙◌}
use borrow.Author.Rules.{rules}
use Rattle.evc_interp.proofs.Places.{less_fits, start_is, pel_start}
use Rattle.evc_interp.proofs.start.Goals as goal

pub overflow_sub-result : goal.overflow_sub-result
overflow_sub-result c = less_fits c.args.t c.args.z.0 c.pel-at.result.0 c.lead.result (search rules) (search rules) (record { sfits = c.lead.type_inv }) c.pel-at.ensures c.lead.ensures

pub returns-then-filters : goal.returns-then-filters
returns-then-filters c = start_is c.args.t c.args.z.0 c.pel-at.result.0 c.lead.result (search rules) (search rules) (record { sfits = c.lead.type_inv }) c.pel-at.ensures c.lead.ensures _ (sym c.filters.ensures ∙ c.if-filters.true)

pub returns-else-filters : goal.returns-else-filters
returns-else-filters c = c.pel-at.ensures ∙ pel_start c.args.t c.args.z.0 _ (sym c.filters.ensures ∙ c.if-filters.false)
