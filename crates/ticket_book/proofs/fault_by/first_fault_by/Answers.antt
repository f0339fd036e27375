use Rattle.std.proofs.Common.{Option, List, length, map, sym, subst, ◌∙◌, ap}
use Rattle.std.proofs.lemmas.List.{length-map}
use Rattle.std.proofs.lemmas.Result.{IfOk-weaker}
use Rattle.replay_model.specs.declared.first_fault.FirstFault.{FirstFault}
use Rattle.sched_record.specs.Record.{record_view}
use Rattle.ticket_book.specs.Faultless.{IsFaultOf}
use Rattle.ticket_book.specs.PageBy.{by_view, page_view}
use Rattle.ticket_book.specs.SaidEvents.{events_of}
use Rattle.ticket_book.specs.Told.{Tell, pages_of, view_at}
use Rattle.ticket_book.specs.Walk.{TicketsRise}
use Rattle.ticket_book.specs.declared.page_by.PageBy.{PageBy}
use Rattle.ticket_book.proofs.ByOthers.{fault_of, views_are}
use Rattle.ticket_book.proofs.Verdicts.{tickets_rise}
use Rattle.ticket_book.proofs.fault_by.first_fault_by.Goals as goal

pub told_by-requires-clause-rise : goal.told_by-requires-clause-rise
told_by-requires-clause-rise c =
    let knobs = c.args.knobs in
    let all = c.in_ok-all.all.items in
    subst TicketsRise (sym (views_are knobs all) ∙ ap (map page_view) (sym c.deref.ensures.value))
    (tickets_rise knobs (record_view c.args.joined.now) (map (by_view knobs) all) c.in_ok-all.ensures
    c.args.joined.now.in_order)

pub returns : goal.returns
returns c =
    let r = record_view c.args.joined.now in
    let knobs = c.args.knobs in
    let all = c.in_ok-all.all.items in
    let pages = map (by_view knobs) all in
    let Shown : List PageBy → Option FirstFault → Type 0 =
    λ xs answer. Tell (view_at (map page_view xs)) (length xs) r.tasks (events_of r) answer in
    IfOk-weaker c.told_by.result (Shown c.deref.result.now) (IsFaultOf knobs r)
    (λ answer told. fault_of c.closing.ensures.run c.closing.ensures.fault c.first_faults.ensures.first_bad knobs r
    pages c.in_ok-all.ensures c.args.joined.now.in_order answer
    (subst (λ n. Tell (view_at (pages_of pages)) n r.tasks (events_of r) answer) (sym (length-map all (by_view knobs)))
    (subst (λ ps. Tell (view_at ps) (length all) r.tasks (events_of r) answer) (views_are knobs all)
    (subst (λ xs. Shown xs answer) c.deref.ensures.value told)))) c.told_by.ensures
