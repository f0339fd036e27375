-- Events against which the pages of all processors say nothing are a run: each replay among them passes, and the
-- tickets of their lines are those on the pages, since lines rise. Sufficing pages that say nothing against any event
-- have no fault, since one would be due at an event, and are by all steps: a page that stopped before did so at a
-- fault.
use Rattle.std.proofs.Common.{◌≡◌, ℕ, ◌<◌, ◌≤◌, ℤ, Option, Some, None, is_some, IsSome, inl, inr, List, [], ◌∷◌, ◌++◌}
use Rattle.std.proofs.Common.{length, refl, sym, ap, ◌∙◌, subst, true≢false}
use Rattle.std.specs.List.{AllByRecursion}
use Rattle.cfs_model.specs.Knobs.{KnobsView}
use Rattle.cfs_model.specs.Start.{start_machine}
use Rattle.cfs_model.specs.Claimed.{Claimed}
use Rattle.cfs_model.specs.Touch.{touched}
use Rattle.cfs_model.specs.Run.{IsRun}
use Rattle.replay_model.specs.Noted.{PageView}
use Rattle.replay_model.specs.Record.{LinesRise, IsRecord}
use Rattle.replay_model.specs.Tickets.{ticket_at, TicketsAgree}
use Rattle.replay_model.specs.QueueTests.{IsIdleTooLong}
use Rattle.replay_model.specs.Cut.{steps_at, last_time_of}
use Rattle.replay_laws.specs.Sufficing.{IsWholePage, SufficesAmong}
use Rattle.replay_laws.specs.Telling.{ComesAfter, SayNothing}
use Rattle.replay_laws.specs.Closing.{SilentPagesAreDone, PagesTellRun}
use Rattle.replay_model.proofs.TicketLines.{left_of, came_of, left_tickets, came_tickets, ticket_kept}
use Rattle.replay_model.proofs.Options.{no_some}
use Rattle.replay_laws.proofs.telling.Fronts.{AtFront, record_front, at_front}
use Rattle.replay_laws.proofs.composing.PagesCompose.{agree_at, cuts_compose}
use Rattle.replay_laws.proofs.composing.StepLines.{lines_back, steps_above}
use Rattle.cfs_model.specs.declared.task.Task.{Task}
use Rattle.replay_model.specs.declared.page.StepFault.{StepFault}

-- each page may be of a record of its own, which begins with these events
module _ (knobs : KnobsView) (start : ℕ) (floors : List ℤ) (tasks : List Task) (before : List Claimed)
    (rest : ℕ → List Claimed) (cpus : ℕ) (pages : ℕ → PageView)
    (r : (cpu : ℕ) → IsRecord start floors tasks (before ++ rest cpu) cpus)
    (at : (cpu : ℕ) → AtFront knobs start floors tasks before (rest cpu) cpus cpu (pages cpu)) where
  -- a line's ticket on a page
  left_kept : (line cpu : ℕ) → LinesRise line (rest cpu) → cpu < cpus
      → ticket_at line (pages cpu).left ≡ ticket_at line (at cpu).mid.page.left
  left_kept line cpu rise k =
      let b = (at cpu).back k in
      ap (ticket_at line) b.left
      ∙ ticket_kept (λ page. page.left) left_of left_tickets line knobs cpu (at cpu).mid _ b.end b.replay
      (steps_above line cpu (rest cpu) rise)

  came_kept : (line cpu : ℕ) → LinesRise line (rest cpu) → cpu < cpus
      → ticket_at line (pages cpu).came ≡ ticket_at line (at cpu).mid.page.came
  came_kept line cpu rise k =
      let b = (at cpu).back k in
      ap (ticket_at line) b.came
      ∙ ticket_kept (λ page. page.came) came_of came_tickets line knobs cpu (at cpu).mid _ b.end b.replay
      (steps_above line cpu (rest cpu) rise)

  agree_front : (line : ℕ) (events : List Claimed) → ((cpu : ℕ) → LinesRise line (events ++ rest cpu))
      → AllByRecursion (λ (event : Claimed). AllByRecursion (λ (c : ℕ). c < cpus) (touched event.entry.act)) events
      → AllByRecursion (λ (event : Claimed). TicketsAgree pages event.entry.line event.entry.act) events
      → AllByRecursion (λ (event : Claimed). TicketsAgree (λ cpu. (at cpu).mid.page) event.entry.line event.entry.act)
      events
  agree_front line [] rise h a = tt
  agree_front line (event ∷ events) rise h a = (
    agree_at cpus pages (λ cpu. (at cpu).mid.page) event.entry.line event.entry.act h.0
        (λ cpu. left_kept event.entry.line cpu (lines_back event.entry.line events (rest cpu) (rise cpu).1))
        (λ cpu. came_kept event.entry.line cpu (lines_back event.entry.line events (rest cpu) (rise cpu).1)) a.0,
    agree_front event.entry.line events (λ cpu. (rise cpu).1) h.1 a.1,
  )

  pub front_run : SayNothing pages cpus tasks before → IsRun knobs start (start_machine start floors tasks) before
  front_run say =
      let front = record_front start floors tasks before (rest 0) cpus (r 0) in
      cuts_compose knobs start floors tasks before cpus (λ cpu. (at cpu).mid) front (λ cpu k. (at cpu).passes)
      (agree_front 0 before (λ cpu. (r cpu).lines_rise) front.events_within say.tickets) say.births

pub append_none : (xs : List Claimed) → xs ++ [] ≡ xs
append_none [] = refl
append_none (x ∷ xs) = ap (λ rest. x ∷ rest) (append_none xs)

-- a page that suffices and has a fault is whole
pub whole_by_fault : (knobs : KnobsView) (start : ℕ) (floors : List ℤ) (tasks : List Task) (events : List Claimed)
    (cpus : ℕ) (pages : ℕ → PageView) (cpu : ℕ) (fault : StepFault)
    → SufficesAmong knobs start floors tasks events cpus pages cpu → (pages cpu).fault ≡ Some fault
    → IsWholePage knobs start floors tasks events cpu (pages cpu)
whole_by_fault knobs start floors tasks events cpus pages cpu fault w f =
    record { made = w.made; is_page = w.is_page; whole = inl (ap is_some f) }

-- a whole page that says nothing against any event has no fault: the processor is in time at the last event
no_fault_at_all : (knobs : KnobsView) (start : ℕ) (floors : List ℤ) (tasks : List Task) (events : List Claimed)
    (cpus cpu : ℕ) (page : PageView) (fault : StepFault) → IsRecord start floors tasks events cpus → cpu < cpus
    → IsWholePage knobs start floors tasks events cpu page → ComesAfter events cpu page.fault
    → page.fault ≡ Some fault → ⊥
no_fault_at_all knobs start floors tasks events cpus cpu page fault r k w c f =
    let none : events ++ [] ≡ events = append_none events in
    let at = at_front knobs start floors tasks events [] cpus cpu page
    (subst (λ xs. IsRecord start floors tasks xs cpus) (sym none) r)
    (λ h. subst (λ xs. IsWholePage knobs start floors tasks xs cpu page) (sym none) w) (λ h. c) in
    let b = at.back k in
    elim (b.fault.from fault f) [
      | inl h ↦ no_some fault (sym at.passes.no_fault ∙ ap (λ y. y.page.fault) (sym b.replay) ∙ h)
      | inr h ↦ at.passes.in_time (subst (λ o. IsIdleTooLong knobs.slack o (last_time_of start events) 0)
          (sym (ap (λ y. y.since) (sym b.replay) ∙ h.2)) (h.4, refl))
    ]

-- where the pages of all processors suffice and say nothing against any event
module _ (knobs : KnobsView) (start : ℕ) (floors : List ℤ) (tasks : List Task) (events : List Claimed) (cpus : ℕ)
    (pages : ℕ → PageView) (r : IsRecord start floors tasks events cpus)
    (enough : (cpu : ℕ) → cpu < cpus → SufficesAmong knobs start floors tasks events cpus pages cpu)
    (say : SayNothing pages cpus tasks events) where
  not_at_fault : (cpu : ℕ) → cpu < cpus → (fault : StepFault) → (pages cpu).fault ≡ Some fault → ⊥
  not_at_fault cpu k fault f =
      no_fault_at_all knobs start floors tasks events cpus cpu (pages cpu) fault r k
      (whole_by_fault knobs start floors tasks events cpus pages cpu fault (enough cpu k) f) (say.no_fault cpu k) f

  silent_no_fault : (cpu : ℕ) → cpu < cpus → (pages cpu).fault ≡ None
  silent_no_fault cpu k = go (pages cpu).fault refl
    where
      go : (o : Option StepFault) → (pages cpu).fault ≡ o → (pages cpu).fault ≡ None
      go None f = f
      go (Some fault) f = absurd (not_at_fault cpu k fault f)

  silent_all_made : (cpu : ℕ) → (k : cpu < cpus) → length (steps_at cpu events) ≤ (enough cpu k).made
  silent_all_made cpu k = elim (enough cpu k).enough [
    | inl some ↦ absurd (true≢false (sym (subst IsSome (silent_no_fault cpu k) some)))
    | inr (inl all) ↦ all
    | inr (inr by) ↦ absurd (not_at_fault by.cpu by.within by.fault by.is_fault)
  ]

  pub silent_whole : (cpu : ℕ) → cpu < cpus → IsWholePage knobs start floors tasks events cpu (pages cpu)
  silent_whole cpu k = record {
    made = (enough cpu k).made;
    is_page = (enough cpu k).is_page;
    whole = inr (silent_all_made cpu k);
  }

pub silent_done : SilentPagesAreDone
silent_done knobs start floors tasks events cpus pages r enough say cpu k = (
  silent_no_fault knobs start floors tasks events cpus pages r enough say cpu k,
  silent_all_made knobs start floors tasks events cpus pages r enough say cpu k,
)

pub pages_tell_run : PagesTellRun
pages_tell_run knobs start floors tasks events cpus pages r enough say =
    let none : events ++ [] ≡ events = append_none events in
    let all = subst (λ xs. IsRecord start floors tasks xs cpus) (sym none) r in
    let whole = silent_whole knobs start floors tasks events cpus pages r enough say in
    front_run knobs start floors tasks events (λ cpu. []) cpus pages (λ cpu. all)
    (λ cpu. at_front knobs start floors tasks events [] cpus cpu (pages cpu) all
    (λ k. subst (λ xs. IsWholePage knobs start floors tasks xs cpu (pages cpu)) (sym none) (whole cpu k))
    (say.no_fault cpu)) say
