use Rattle.std.proofs.Common.{ap, ◌∙◌}
use Rattle.sched_record.specs.Record.{record_view}
use Rattle.least_places.specs.Place.{time_on_line}
use Rattle.least_places.proofs.NeededFirst.{place_is}
use Rattle.least_places.proofs.placing.place_at_fault.Goals as goal

pub returns : goal.returns
returns c =
    let fault = c.args.fault in
    place_is c.least_settings.ensures.more c.least_settings.ensures.lesser c.prefixes.ensures
    (record_view c.args.joined.now) c.args.knobs c.args.setting c.requires.least c.requires.some fault
    c.time_on-time.result c.args.over c.requires.fault
    (c.time_on-time.ensures ∙ ap (λ events. time_on_line events fault.line) c.events.ensures) c.requires.over
