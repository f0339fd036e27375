use Rattle.std.proofs.Common.{length, map, sym, ap, subst}
use Rattle.std.proofs.lemmas.List.{length-map}
use Rattle.ticket_book.specs.Alive.{alive_view}
use Rattle.std.specs.Option.{MatchOption}
use Rattle.replay_laws.specs.Telling.{IsActCauseOf}
use Rattle.ticket_book.specs.Told.{AllowAct, cause_view, view_at}
use Rattle.ticket_book.proofs.Saying.{act_said}
use Rattle.ticket_book.proofs.walk.Walk.fault.Goals as goal

pub returns-clause-said : goal.returns-clause-said
returns-clause-said g c = λ said is.
    let pages = map g.P.Paged.page c.args.pages.now in
    let alive = alive_view c.args.alive.now in
    let act = ap (λ e. e.act) is in
    act_said pages (length c.args.pages.now) (length-map c.args.pages.now g.P.Paged.page) alive said
    c.args.event.now.time (ap (λ e. e.time) is) c.in_default.ensures.none c.act_fault.result
    (subst (λ a. MatchOption c.act_fault.result (AllowAct (view_at pages) alive said)
    (λ found. IsActCauseOf (view_at pages) alive said a (cause_view found))) (sym act)
    (c.act_fault.ensures.said said (ap (λ e. e.line) is) act))
