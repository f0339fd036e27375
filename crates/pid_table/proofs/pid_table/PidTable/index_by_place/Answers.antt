use Rattle.std.proofs.Common.{◌≡◌, ◌∙◌, ap, sym, arith}
use Rattle.pid_table.specs.Places.{place_of}
use Rattle.pid_table.specs.Rows.{index_in}
use Rattle.pid_table.proofs.Indices.{unplaced_nowhere}
use Rattle.pid_table.proofs.pid_table.PidTable.index_by_place.Goals as goal

pub returns-then-place-eq0-clause-index : goal.returns-then-place-eq0-clause-index
returns-then-place-eq0-clause-index g c =
    let places = c.self.inside.places in
    let none : place_of places c.args.pid ≡ 0 = omega (arith, c.place_of-place.ensures, c.if-place-eq0.true) in
    sym (unplaced_nowhere places c.self.inside.pids.items c.args.pid c.self.invariant.placed none)
    ∙ ap (λ t. index_in t.pids c.args.pid) c.self.view_is
