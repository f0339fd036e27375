use Rattle.std.proofs.Common.{◌≡◌, ◌<◌, ◌+◌, ◌∙◌, IfSome, Some, length, map, subst, sym, refl}
use Rattle.pid_table.specs.Rows.{index_in}
use Rattle.waiting_times.specs.Rows.{IsRoomy, IsWithin, changed, picked_row, standing_row, woken_row}
use Rattle.waiting_times.proofs.Changed.{all_changed, row_changed, row_unchanged, within_more}
use Rattle.waiting_times.proofs.rows.TaskRows.put.Goals as goal

pub returns-in-Some-clause-rows : goal.returns-in-Some-clause-rows
returns-in-Some-clause-rows c = λ row_of rows.
    let table = c.args.self.now.table in
    let index = c.in-Some.index in
    let is : index_in table.pids c.args.pid ≡ Some index = sym c.index_of.ensures.index ∙ c.in-Some.is in
    let within = subst (λ r. IfSome r (λ p. p < length table.rows)) c.in-Some.is c.index_of.ensures.within in
    let row = c.row_mut-row.result.now in
    row_changed table c.index_of.ensures.sound c.args.pid index is within (standing_row c.args.stand) row
    (standing_row c.args.stand row) c.row_mut-row.ensures.value refl row_of rows

pub returns-in-Some-clause-within : goal.returns-in-Some-clause-within
returns-in-Some-clause-within c = λ n all.
    let table = c.args.self.now.table in
    let index = c.in-Some.index in
    let is : index_in table.pids c.args.pid ≡ Some index = sym c.index_of.ensures.index ∙ c.in-Some.is in
    let within = subst (λ r. IfSome r (λ p. p < length table.rows)) c.in-Some.is c.index_of.ensures.within in
    let row = c.row_mut-row.result.now in
    all_changed table c.index_of.ensures.sound c.args.pid index is within (standing_row c.args.stand) row
    (standing_row c.args.stand row) c.row_mut-row.ensures.value refl
    (IsWithin n) (IsWithin n) (λ x w. w) (λ w. record { times = w.times; total = w.total }) all

pub returns-in-Some-clause-roomy : goal.returns-in-Some-clause-roomy
returns-in-Some-clause-roomy c = λ all.
    let table = c.args.self.now.table in
    let index = c.in-Some.index in
    let is : index_in table.pids c.args.pid ≡ Some index = sym c.index_of.ensures.index ∙ c.in-Some.is in
    let within = subst (λ r. IfSome r (λ p. p < length table.rows)) c.in-Some.is c.index_of.ensures.within in
    let row = c.row_mut-row.result.now in
    all_changed table c.index_of.ensures.sound c.args.pid index is within (standing_row c.args.stand) row
    (standing_row c.args.stand row) c.row_mut-row.ensures.value refl
    IsRoomy IsRoomy (λ x w. w) (λ w. record { times = w.times; total = w.total }) all

pub returns-in_default-clause-rows : goal.returns-in_default-clause-rows
returns-in_default-clause-rows c = λ row_of is.
    is ∙ row_unchanged c.args.self.now.table.pids c.args.pid (sym c.index_of.ensures.index ∙ c.in_default.is)
    (standing_row c.args.stand) row_of
