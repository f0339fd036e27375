-- The replays of all processors, and so their pages, make a run.
use Rattle.std.proofs.Common.{◌≡◌, ℕ, ◌<◌, ◌≤◌, ℤ, List, [], ◌∷◌, sym, ap, ◌∙◌, subst}
use Rattle.std.specs.List.{AllByRecursion}
use Rattle.cfs_model.specs.Knobs.{KnobsView}
use Rattle.cfs_model.specs.Start.{start_machine}
use Rattle.cfs_model.specs.Claimed.{Claimed}
use Rattle.cfs_model.specs.Touch.{touched}
use Rattle.cfs_model.specs.Run.{IsRun}
use Rattle.replay_model.specs.Noted.{PageView}
use Rattle.replay_model.specs.Roll.{named, BirthsAreNew}
use Rattle.replay_model.specs.Tickets.{ticket_at, TicketsAgree}
use Rattle.replay_model.specs.Record.{IsRecord}
use Rattle.replay_laws.specs.Composition.{CutsCompose, PagesCompose}
use Rattle.replay_laws.proofs.following.FollowLaws.{follows_start}
use Rattle.replay_laws.proofs.following.Roll.{start_roll}
use Rattle.replay_laws.proofs.composing.ComposeAll.{compose_all}
use Rattle.replay_laws.proofs.composing.CutReplays.{CutOf, cut_of, cut_from}
use Rattle.cfs_model.specs.declared.act.Act.{Act}
use Rattle.cfs_model.specs.declared.act.Act.TheVariants.{Switch, Wake, Born, Shift}
use Rattle.cfs_model.specs.declared.task.Task.{Task}

-- where pages have the same ticket of a line, they agree alike
pub agree_at : (cpus : ℕ) (pages ends : ℕ → PageView) (line : ℕ) (act : Act)
    → AllByRecursion (λ (c : ℕ). c < cpus) (touched act)
    → ((cpu : ℕ) → cpu < cpus → ticket_at line (pages cpu).left ≡ ticket_at line (ends cpu).left)
    → ((cpu : ℕ) → cpu < cpus → ticket_at line (pages cpu).came ≡ ticket_at line (ends cpu).came)
    → TicketsAgree pages line act → TicketsAgree ends line act
agree_at cpus pages ends line (Switch cpu prev pn way next nn) h l c a = tt
agree_at cpus pages ends line (Wake cpu pid nice) h l c a = tt
agree_at cpus pages ends line (Born cpu pid nice) h l c a = tt
agree_at cpus pages ends line (Shift orig dest pid nice) h l c a = sym (l orig h.0) ∙ a ∙ c dest h.1.0

-- the tickets of the pages are those of the replays
all_agree : (cpus : ℕ) (pages ends : ℕ → PageView) → ((cpu : ℕ) → cpu < cpus → (pages cpu).left ≡ (ends cpu).left)
    → ((cpu : ℕ) → cpu < cpus → (pages cpu).came ≡ (ends cpu).came)
    → (events : List Claimed)
    → AllByRecursion (λ (event : Claimed). AllByRecursion (λ (c : ℕ). c < cpus) (touched event.entry.act)) events
    → AllByRecursion (λ (event : Claimed). TicketsAgree pages event.entry.line event.entry.act) events
    → AllByRecursion (λ (event : Claimed). TicketsAgree ends event.entry.line event.entry.act) events
all_agree cpus pages ends l c [] h a = tt
all_agree cpus pages ends l c (event ∷ events) h a = (
  agree_at cpus pages ends event.entry.line event.entry.act h.0 (λ cpu k. ap (ticket_at event.entry.line) (l cpu k))
      (λ cpu k. ap (ticket_at event.entry.line) (c cpu k)) a.0,
  all_agree cpus pages ends l c events h.1
      a.1,
)

-- all processors' replays make a run
pub compose_cuts : (knobs : KnobsView) (start : ℕ) (floors : List ℤ) (tasks : List Task) (events : List Claimed)
    (cpus : ℕ) (pages : ℕ → PageView) → IsRecord start floors tasks events cpus
    → ((cpu : ℕ) → CutOf knobs start floors tasks events cpus (pages cpu) cpu)
    → AllByRecursion (λ (event : Claimed). TicketsAgree pages event.entry.line event.entry.act) events
    → BirthsAreNew (named tasks) events → IsRun knobs start (start_machine start floors tasks) events
compose_cuts knobs start floors tasks events cpus pages r each agree new =
    let ends : ℕ → PageView = λ cpu. (each cpu).cut_replay.end.page in
    let c = compose_all knobs (start_machine start floors tasks) start (λ cpu. (each cpu).cut_replay.first) events
    (λ cpu. (each cpu).cut_replay.end) (named tasks) (record {
      follows = λ cpu. follows_start start floors tasks events cpu (each cpu).cut_replay.first r.is_start
          (each cpu).cut_replay.is_start;
      replays = λ cpu. (each cpu).cut_replay.replay;
      no_fault = λ cpu. (each cpu).cut_replay.no_fault;
      in_time = λ cpu. (each cpu).cut_replay.in_time;
      lines = 0;
      tickets = λ cpu. record {
        left = subst (λ (page : PageView). AllByRecursion (λ t. t.line ≤ 0) page.left)
            (sym (each cpu).cut_replay.is_start.page) tt;
        came = subst (λ (page : PageView). AllByRecursion (λ t. t.line ≤ 0) page.came)
            (sym (each cpu).cut_replay.is_start.page) tt;
      };
      lines_rise = r.lines_rise;
      times_rise = r.times_rise;
      claims = r.claims_in_range;
      charges = r.charges_in_range;
      agree = all_agree cpus pages ends (λ cpu k. (each cpu).left k)
          (λ cpu k. (each cpu).came k) events r.events_within agree;
      roll = start_roll start floors tasks;
      new = new;
    }) in
    record { states = c.states; steps = c.steps; slack = c.slack }

pub cuts_compose : CutsCompose
cuts_compose knobs start floors tasks events cpus last r passes agree new =
    compose_cuts knobs start floors tasks events cpus (λ cpu. (last cpu).page) r
    (λ cpu. cut_from knobs start floors tasks events cpus (last cpu) r cpu (passes cpu)) agree new

pub pages_compose : PagesCompose
pages_compose knobs start floors tasks events cpus pages r done agree new =
    compose_cuts knobs start floors tasks events cpus pages r
    (λ cpu. cut_of knobs start floors tasks events cpus (pages cpu) r cpu (done cpu)) agree new
