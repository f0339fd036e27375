use Rattle.std.proofs.Common.{subst}
use Rattle.sched_record.specs.Record.{record_view}
use Rattle.ticket_book.specs.Faultless.{IsFaultOf}
use Rattle.least_places.specs.Place.{one_less}
use Rattle.least_places.proofs.NeededFirst.{no_run}
use Rattle.least_places.proofs.placing.place_by.Goals as goal

pub unreachable-requires : goal.unreachable-requires
unreachable-requires c =
    let r = record_view c.args.joined.now in
    no_run r c.args.knobs c.args.setting c.requires.least c.requires.some
    (subst (IsFaultOf (one_less c.args.knobs c.args.setting) r) c.in-None.is c.requires.fault)
