use Rattle.std.proofs.Common.{sym, ap, ◌∙◌}
use Rattle.std.specs.Option.{option_copied}
use Rattle.sched_record.specs.Window.{window_view}
use Rattle.window_audit.proofs.Lists.{last_is, last_time_behind}
use Rattle.least_audit.proofs.figures.last_time.Goals as goal

pub returns-in-Some : goal.returns-in-Some
returns-in-Some c = λ start before some.
    let window = window_view c.args.window.now in
    last_time_behind start before window c.in-Some.event.now.time c.in-Some.event.now.line some
    (last_is window c.events.result.now c.in-Some.event.now (sym c.events.ensures)
    (sym c.last.ensures.value ∙ ap option_copied c.in-Some.is))
