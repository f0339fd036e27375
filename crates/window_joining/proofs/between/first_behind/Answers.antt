use Rattle.std.proofs.Common.{Some, sym, subst}
use Rattle.sched_record.specs.Join.{IsLeastOf}
use Rattle.std.specs.Prelude.{Any, ◌≡◌, ◌<◌}
use Rattle.window_joining.proofs.Firsts.{behind_least, none_behind}
use Rattle.window_joining.proofs.between.first_behind.Goals as goal

pub returns-then-index-items : goal.returns-then-index-items
returns-then-index-items g c =
    let line_of = g.T.OnLine.line in
    subst (λ n. IsLeastOf (λ m. (c.args.edge < m) × Any (λ x. line_of x ≡ m) c.args.items.now) (Some n))
    (sym c.line.ensures)
    (behind_least line_of c.args.items.now c.args.edge c.through-index.result c.index-items-index.result c.requires
    c.through-index.ensures c.if-index-items.true c.index-items-index.is)

pub returns-else-index-items : goal.returns-else-index-items
returns-else-index-items g c =
    none_behind g.T.OnLine.line c.args.items.now c.args.edge c.through-index.result c.through-index.ensures
    c.if-index-items.false
