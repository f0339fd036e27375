use Rattle.std.proofs.Common.{sym, ap, ◌∙◌}
use Rattle.std.specs.Option.{option_copied}
use Rattle.sched_record.specs.Window.{window_view}
use Rattle.window_audit.proofs.Lists.{last_is}
use Rattle.window_audit.proofs.audit.last_of.Goals as goal

pub returns-in-Some : goal.returns-in-Some
returns-in-Some c =
    last_is (window_view c.args.window.now) c.events.result.now c.in-Some.event.now (sym c.events.ensures)
    (sym c.last.ensures.value ∙ ap option_copied c.in-Some.is)
