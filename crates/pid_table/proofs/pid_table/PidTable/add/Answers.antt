use Rattle.std.proofs.Common.{◌∙◌, ap}
use Rattle.pid_table.specs.Rows.{index_in}
use Rattle.pid_table.proofs.Indices.{one_more}
use Rattle.pid_table.proofs.Marks.{marked_more}
use Rattle.pid_table.proofs.pid_table.PidTable.add.Goals as goal

pub invariant_of-self : goal.invariant_of-self
invariant_of-self g c =
    let table = c.self.inside in
    rw (c.push_reserved.ensures.items) (rw (c.push_reserved-2.ensures.items)
    (one_more table.pids.items table.rows.items table.marks c.mark.new.self table.places c.put.new.self c.args.pid
    c.args.row c.self.invariant
    (ap (λ t. index_in t.pids c.args.pid) c.self.view_is ∙ c.requires.new)
    (marked_more table.marks c.mark.new.self table.pids.items c.args.pid c.mark.ensures c.self.invariant.marked)
    c.put.ensures.levels c.put.ensures.here c.put.ensures.kept))

pub returns-clause-sound : goal.returns-clause-sound
returns-clause-sound g c =
    let is = invariant_of-self g c in
    record { one_each = is.one_each; apart = is.apart }
