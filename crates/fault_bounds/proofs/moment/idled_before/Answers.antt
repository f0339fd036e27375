use Rattle.std.proofs.Common.{◌≡◌, sym, ap, ◌∙◌}
use Rattle.fault_bounds.specs.Bounds.{steps_before}
use Rattle.fault_bounds.proofs.Moments.{since_before}
use Rattle.queue_replay.specs.Replay.{ReplayView}
use Rattle.sched_record.specs.Record.{record_view}
use Rattle.fault_bounds.proofs.moment.idled_before.Goals as goal

pub returns-then-made-count : goal.returns-then-made-count
returns-then-made-count c =
    let after = c.go_on.new.self in
    since_before (record_view c.args.joined.now) c.args.knobs c.args.cpu c.args.line after.stream after.knobs after.made
    (c.go_on.ensures.stream ∙ c.in-Ok.ensures.stream ∙ c.in_ok-stream.ensures)
    (c.go_on.ensures.knobs ∙ c.in-Ok.ensures.knobs)
    (ap (λ (p : ReplayView). p.made) (sym c.page.ensures.same) ∙ sym c.made-2.ensures ∙ c.if-made-count.true
    ∙ c.count_before-count.ensures.count
    ∙ ap (steps_before c.args.line) (c.steps.ensures ∙ ap (λ s. s.steps) (sym (c.go_on.ensures.stream
    ∙ c.in-Ok.ensures.stream))))
    c.idled_since-since.result c.idled_since-since.ensures
