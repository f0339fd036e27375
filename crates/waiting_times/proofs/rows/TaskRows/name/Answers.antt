use Rattle.std.proofs.Common.{◌≡◌, ◌<◌, ◌+◌, ◌∙◌, ◌++◌, ◌∷◌, [], IfSome, Some, length, map, subst, sym, ap, refl, arith}
use Rattle.waiting_times.specs.Naming.{with_pid}
use Rattle.waiting_times.proofs.Named.{named_last, named_there}
use Rattle.waiting_times.proofs.rows.TaskRows.name.Goals as goal

pub returns-in-Some-clause-pids : goal.returns-in-Some-clause-pids
returns-in-Some-clause-pids c =
    let table = c.make_room.new.self in
    let index = c.in-Some.field-0 in
    let is = sym c.index_of.ensures.index ∙ c.in-Some.is in
    let within = subst (λ r. IfSome r (λ p. p < length table.rows)) c.in-Some.is c.index_of.ensures.within in
    let one_each = c.index_of.ensures.sound.one_each in
    let inside : index < length table.pids = subst (λ n. index < n) one_each within in
    named_there table.pids c.args.pid index is inside ∙ ap (with_pid c.args.pid) c.make_room.ensures.pids

pub returns-in-None-clause-pids : goal.returns-in-None-clause-pids
returns-in-None-clause-pids c =
    c.add.ensures.pids
    ∙ named_last c.make_room.new.self.pids c.args.pid (sym c.index_of.ensures.index ∙ c.in-None.is)
    ∙ ap (with_pid c.args.pid) c.make_room.ensures.pids
