use Rattle.std.proofs.Common.{sym, ap, ◌∙◌}
use Rattle.sched_record.specs.Record.{record_view}
use Rattle.least_places.specs.Walks.{switched_on_line}
use Rattle.least_places.proofs.LeftThere.{is_record}
use Rattle.least_places.proofs.OnLine.{left_if_none, left_if_switch, ok_map, switch_within}
use Rattle.least_places.proofs.leaving.left_on_line.Goals as goal

-- src/leaving.rt:53:22
pub left_behind-requires-clause-cpu : goal.left_behind-requires-clause-cpu
left_behind-requires-clause-cpu c =
    let r = record_view c.args.joined.now in
    switch_within r r.cpus c.args.line c.in-Some.cpu (is_record r c.args.joined.now.in_order).events_within
    (ap (λ es. switched_on_line es c.args.line) (sym c.events.ensures) ∙ sym c.switched_on.ensures ∙ c.in-Some.is)

-- src/leaving.rt:42:1
pub returns-in-Some : goal.returns-in-Some
returns-in-Some c =
    let r = record_view c.args.joined.now in
    ok_map (left_if_switch r c.args.knobs (is_record r c.args.joined.now.in_order).lines_rise c.args.line c.in-Some.cpu)
    (ap (λ es. switched_on_line es c.args.line) (sym c.events.ensures) ∙ sym c.switched_on.ensures ∙ c.in-Some.is)
    c.left_behind.result c.left_behind.ensures

-- src/leaving.rt:42:1
pub returns-in-None : goal.returns-in-None
returns-in-None c =
    let r = record_view c.args.joined.now in
    left_if_none r c.args.knobs (is_record r c.args.joined.now.in_order).lines_rise c.args.line
    (ap (λ es. switched_on_line es c.args.line) (sym c.events.ensures) ∙ sym c.switched_on.ensures ∙ c.in-None.is)
