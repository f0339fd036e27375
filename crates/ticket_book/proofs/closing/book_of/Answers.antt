use Rattle.std.proofs.Common.{◌<◌, [], Ok, All, AllPairs, length, map, sym, subst, ◌∙◌, ap, arith}
use Rattle.std.specs.Result.{IfOk}
use Rattle.cfs_model.specs.Touch.{touched}
use Rattle.cfs_model.specs.declared.act.Entry.{Entry}
use Rattle.replay_model.specs.Roll.{named}
use Rattle.sched_record.specs.Record.{record_view}
use Rattle.sched_record.specs.RecordView.{policy_of}
use Rattle.ticket_book.specs.SaidEvents.{events_of}
use Rattle.ticket_book.specs.Told.{TellFrom, view_at}
use Rattle.ticket_book.specs.WindowBook.{IsBookOf}
use Rattle.ticket_book.proofs.Walked.{entries_claimed, tell_all}
use Rattle.ticket_book.proofs.closing.book_of.Goals as goal

pub close-requires-clause-inside : goal.close-requires-clause-inside
close-requires-clause-inside g c =
    subst (λ n. All (λ (event : Entry). All (λ cpu. cpu < n) (touched event.act)) c.events.result.now)
    (sym c.requires.count)
    (subst (All (λ (event : Entry). All (λ cpu. cpu < (record_view c.args.joined.now).cpus) (touched event.act)))
    (sym c.events.ensures) c.args.joined.now.in_order.inside)

pub close-requires-clause-in_order : goal.close-requires-clause-in_order
close-requires-clause-in_order g c =
    subst (AllPairs (λ (a b : Entry). a.line < b.line)) (sym c.events.ensures)
    c.args.joined.now.in_order.events.lines_rise

pub close-requires-clause-fit : goal.close-requires-clause-fit
close-requires-clause-fit g c = let none = c.in_ok-book.ensures.sums.count in omega (arith, none)

pub returns-clause-told : goal.returns-clause-told
returns-clause-told g c =
    let r = record_view c.args.joined.now in
    let cpus = length c.args.pages.now in
    let pages = view_at (map g.P.Paged.page c.args.pages.now) in
    let tasks = c.tasks.result.now in
    tell_all pages cpus r.tasks (named tasks) (events_of r) c.in_ok-told.told
    (λ pid. ap (λ tasks. named tasks pid) c.tasks.ensures)
    (subst (λ made. IfOk made (TellFrom pages cpus (named tasks) (events_of r))) c.in_ok-told.was
    (c.close.ensures.told tasks [] (events_of r)
    (entries_claimed r.claims r.nices r.charges (policy_of r) r.events ∙ sym c.events.ensures) c.in_ok-book.ensures))

pub returns-clause-passed : goal.returns-clause-passed
returns-clause-passed g c = λ none.
    let r = record_view c.args.joined.now in
    subst (λ tasks. IsBookOf tasks (events_of r) c.close.new.self) c.tasks.ensures
    (c.close.ensures.passed c.tasks.result.now [] (events_of r)
    (entries_claimed r.claims r.nices r.charges (policy_of r) r.events ∙ sym c.events.ensures) c.in_ok-book.ensures
    (c.in_ok-told.was ∙ ap Ok none))
