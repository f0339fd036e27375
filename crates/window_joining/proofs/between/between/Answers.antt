use Rattle.std.proofs.Common.{sym, ◌∙◌}
use Rattle.std.proofs.lemmas.Bool.{eqb-true}
use Rattle.window_joining.proofs.Cuts.{cut_between, cut_of_none, no_fewer}
use Rattle.window_joining.proofs.between.between.Goals as goal

pub slice_bounds-result-count : goal.slice_bounds-result-count
slice_bounds-result-count g c =
    no_fewer g.T.OnLine.line c.args.items.now c.args.low c.args.high c.through-from.result c.through_from-to.result
    c.through-from.ensures c.through_from-to.ensures c.requires.order

pub slice_bounds-result-start : goal.slice_bounds-result-start
slice_bounds-result-start g c =
    no_fewer g.T.OnLine.line c.args.items.now c.args.low c.args.high c.through-from.result c.through_from-to.result
    c.through-from.ensures c.through_from-to.ensures c.requires.order

pub returns : goal.returns
returns g c =
    cut_between g.T.OnLine.line c.args.items.now c.args.low c.args.high c.through-from.result c.through_from-to.result
    c.through-from.ensures c.through_from-to.ensures c.requires.order

pub returns-then-is_empty : goal.returns-then-is_empty
returns-then-is_empty g c =
    cut_of_none g.T.OnLine.line c.args.items.now c.args.low c.args.high
    (eqb-true _ 0 (sym c.is_empty.ensures ∙ c.if-is_empty.true))
