use Rattle.std.proofs.Common.{◌+◌, ◌∙◌, map, sym, ap, subst}
use Rattle.cfs_model.specs.Claimed.{Claimed}
use Rattle.cfs_model.specs.Knobs.{KnobsView}
use Rattle.sched_record.specs.Window.{window_view}
use Rattle.least_audit.specs.Candidates.{begin_of, idlings_of}
use Rattle.least_audit.specs.FirstOf.{IsFirstLate, IsFirstOf}
use Rattle.least_audit.proofs.Figured.{idled}
use Rattle.least_audit.proofs.IdlePlaces.{none_idles, none_late}
use Rattle.least_audit.proofs.Late.{late_in, low_in}
use Rattle.least_audit.proofs.figures.idling_place.Goals as goal

pub returns-in-Some-first_late : goal.returns-in-Some-first_late
returns-in-Some-first_late c = λ of so_far before least some w is top low.
    let after = c.args.pursuers.now in
    let window = window_view c.args.window.now in
    let bound = c.args.bound in
    let first = c.in-Some.field-0 in
    let entry = c.in-Some-first_late.event in
    let found = subst (λ o. IsFirstOf begin_of (idlings_of bound after) of.cpus o) c.in-Some.is
    (subst (λ n. IsFirstOf begin_of (idlings_of bound after) n c.first_idling.result) (w.count ∙ w.pursuers.count)
    c.first_idling.ensures) in
    let late = subst (IsFirstLate (map (λ (x : Claimed). x.entry) window) first.since bound) c.in-Some-first_late.is
    (subst (λ es. IsFirstLate es first.since bound c.first_late.result) c.events.ensures c.first_late.ensures) in
    idled of so_far window before after w least is bound top low first found entry
    (late_in window late.front first.since bound entry late.rest late.whole late.in_time late.late)

pub returns-in-None-first_late : goal.returns-in-None-first_late
returns-in-None-first_late c = λ of so_far before least some w is top low.
    let after = c.args.pursuers.now in
    let window = window_view c.args.window.now in
    let bound = c.args.bound in
    let first = c.in-Some.field-0 in
    let found = subst (λ o. IsFirstOf begin_of (idlings_of bound after) of.cpus o) c.in-Some.is
    (subst (λ n. IsFirstOf begin_of (idlings_of bound after) n c.first_idling.result) (w.count ∙ w.pursuers.count)
    c.first_idling.ensures) in
    let low_all = subst (IsFirstLate (map (λ (x : Claimed). x.entry) window) first.since bound) c.in-None-first_late.is
    (subst (λ es. IsFirstLate es first.since bound c.first_late.result) c.events.ensures c.first_late.ensures) in
    absurd (none_late of so_far window before after w bound (ap (λ (k : KnobsView). k.slack) (sym is) ∙ sym top) low
    first found some (low_in (first.since + bound) window low_all))

pub returns-in-None : goal.returns-in-None
returns-in-None c = λ of so_far before least some w is top low.
    let after = c.args.pursuers.now in
    let bound = c.args.bound in
    let none = subst (λ o. IsFirstOf begin_of (idlings_of bound after) of.cpus o) c.in-None.is
    (subst (λ n. IsFirstOf begin_of (idlings_of bound after) n c.first_idling.result) (w.count ∙ w.pursuers.count)
    c.first_idling.ensures) in
    absurd (none_idles of so_far (window_view c.args.window.now) before after w bound
    (ap (λ (k : KnobsView). k.slack) (sym is) ∙ sym top) low some none)
