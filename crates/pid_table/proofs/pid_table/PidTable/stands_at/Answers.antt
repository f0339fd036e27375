use Rattle.std.proofs.Common.{◌≡◌, ◌∙◌, Some, sym, subst, arith}
use Rattle.std.proofs.lemmas.Bool.{eqb-true}
use Rattle.pid_table.specs.Rows.{index_in}
use Rattle.pid_table.proofs.Indices.{index_there}
use Rattle.pid_table.proofs.pid_table.PidTable.stands_at.Goals as goal

pub returns-then-index-len-clause-index : goal.returns-then-index-len-clause-index
returns-then-index-len-clause-index g c = λ same.
    subst (λ t. index_in t.pids c.args.pid ≡ Some c.args.index) c.self.view_is
    (index_there c.self.inside.pids.items c.self.invariant.apart c.args.pid c.args.index c.index.result.now
    (omega (arith, c.if-index-len.true, c.len.ensures))
    (sym c.index.ensures ∙ eqb-true c.index.result.now c.args.pid same))
