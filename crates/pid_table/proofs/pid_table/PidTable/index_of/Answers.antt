use Rattle.std.proofs.Common.{◌∙◌, ap, sym}
use Rattle.pid_table.specs.Rows.{index_in}
use Rattle.pid_table.proofs.Marks.{unmarked_nowhere}
use Rattle.pid_table.proofs.pid_table.PidTable.index_of.Goals as goal

pub returns-then-not-may_have-clause-index : goal.returns-then-not-may_have-clause-index
returns-then-not-may_have-clause-index g c =
    let table = c.self.inside in
    sym (unmarked_nowhere table.marks table.pids.items c.args.pid c.self.invariant.marked
    (sym c.may_have.ensures ∙ c.if-not-may_have.true))
    ∙ ap (λ t. index_in t.pids c.args.pid) c.self.view_is
