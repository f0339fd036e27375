-- Where the replays of all processors end without a fault, the events are a run.
use Rattle.std.proofs.Common.{◌≡◌, ℕ, zero, suc, ◌+◌, ◌<◌, ◌≤◌, Bool, Some, None, inl, inr, List, [], ◌∷◌, length}
use Rattle.std.proofs.Common.{slice_index, sym, subst, arith}
use Rattle.std.specs.List.{AllByRecursion}
use Rattle.cfs_model.specs.Knobs.{KnobsView}
use Rattle.cfs_model.specs.Machine.{Machine}
use Rattle.cfs_model.specs.Claimed.{Claimed}
use Rattle.cfs_model.specs.Step.{IsStep}
use Rattle.cfs_model.specs.Idling.{IdlesFrom, KeepsSlack}
use Rattle.cfs_model.specs.Run.{AreSteps, times_of}
use Rattle.replay_model.specs.QueueTests.{IsIdleTooLong}
use Rattle.replay_model.specs.StepAt.{step_at}
use Rattle.replay_model.specs.Cut.{steps_at, last_time_of}
use Rattle.replay_model.specs.Record.{ClaimInRange, ChargeInRange, TimesRise, LinesRise}
use Rattle.replay_model.specs.Page.{ReplayStateView, IsReplay}
use Rattle.replay_model.specs.Roll.{roll_after, BirthsAreNew}
use Rattle.replay_model.specs.Tickets.{TicketsAgree}
use Rattle.replay_model.proofs.TicketLines.{all_map, lines_up_to, left_of, came_of, left_tickets, came_tickets}
use Rattle.replay_laws.proofs.composing.Bounded.{bounded}
use Rattle.replay_laws.proofs.following.Follow.{KeepsUp, replay_idles, Advanced, advance}
use Rattle.replay_laws.proofs.following.Followed.{idles_rest, idles_tail, Still}
use Rattle.replay_laws.proofs.following.Roll.{RollIs, roll_step}
use Rattle.replay_laws.proofs.composing.StepExists.{LinesUpTo, step_exists}
use Rattle.replay_model.specs.declared.page.Ticket.{Ticket}

-- all replays at a machine before some events
pub record AtEvents (knobs : KnobsView) (m : Machine) (time : ℕ) (s : ℕ → ReplayStateView) (events : List Claimed)
    (end : ℕ → ReplayStateView) (alive : ℕ → Bool) : Type 0 where
  pub follows : (cpu : ℕ) → KeepsUp cpu m time (s cpu)
  pub replays : (cpu : ℕ) → IsReplay knobs cpu (s cpu) (steps_at cpu events) (end cpu)
  pub no_fault : (cpu : ℕ) → (end cpu).page.fault ≡ None
  pub in_time : (cpu pid : ℕ) → ¬ IsIdleTooLong knobs.slack (end cpu).since (last_time_of time events) pid
  pub lines : ℕ
  pub tickets : (cpu : ℕ) → LinesUpTo lines (s cpu)
  pub lines_rise : LinesRise lines events
  pub times_rise : TimesRise time events
  pub claims : AllByRecursion ClaimInRange events
  pub charges : AllByRecursion ChargeInRange events
  pub agree : AllByRecursion (λ event. TicketsAgree (λ cpu. (end cpu).page) event.entry.line event.entry.act) events
  pub roll : RollIs alive m
  pub new : BirthsAreNew alive events

pub record ComposedAll (knobs : KnobsView) (m : Machine) (time : ℕ) (s : ℕ → ReplayStateView)
    (events : List Claimed) : Type 0 where
  pub states : List Machine
  pub steps : AreSteps knobs m events states
  pub slack : KeepsSlack knobs.slack (times_of time events) (m ∷ states)
  pub stills : (cpu : ℕ) → Still knobs.slack cpu m time (s cpu) events states

-- a machine's step by the first event
first_of_steps : (knobs : KnobsView) (m : Machine) (time : ℕ) (s : ℕ → ReplayStateView) (event : Claimed)
    (events : List Claimed)
    (end : ℕ → ReplayStateView) (alive : ℕ → Bool)
    → AtEvents knobs m time s (event ∷ events) end alive → (after : Machine) × IsStep knobs m event after
first_of_steps knobs m time s event events end alive at =
    step_exists knobs m time s event events end alive (record {
      follows = at.follows;
      replays = at.replays;
      no_fault = at.no_fault;
      lines = at.lines;
      tickets = at.tickets;
      above = at.lines_rise.0;
      rise = at.lines_rise.1;
      claim = at.claims.0;
      charge = at.charges.0;
      agree = at.agree.0;
      roll = at.roll;
      new = at.new.0;
    })

in_slack : (knobs : KnobsView) (m : Machine) (time : ℕ) (s : ℕ → ReplayStateView) (event : Claimed)
    (events : List Claimed)
    (end : ℕ → ReplayStateView) (alive : ℕ → Bool)
    → AtEvents knobs m time s (event ∷ events) end alive → (cpu x : ℕ) → (s cpu).since ≡ Some x
    → event.entry.time ≤ x + knobs.slack
in_slack knobs m time s event events end alive at cpu x e =
    bounded knobs cpu (s cpu) event events (end cpu) x e (at.follows cpu).fault (at.replays cpu)
    (at.no_fault cpu) at.times_rise.1 (at.in_time cpu)

advanced : (knobs : KnobsView) (m : Machine) (time : ℕ) (s : ℕ → ReplayStateView) (event : Claimed)
    (events : List Claimed)
    (end : ℕ → ReplayStateView) (alive : ℕ → Bool)
    → AtEvents knobs m time s (event ∷ events) end alive → (after : Machine) → IsStep knobs m event after → (cpu : ℕ)
    → Advanced knobs cpu event after (s cpu) events (end cpu)
advanced knobs m time s event events end alive at after step cpu =
    advance knobs cpu m time (s cpu) event after events (end cpu) (at.follows cpu) step at.times_rise.0
    (in_slack knobs m time s event events end alive at cpu) (at.replays cpu)

-- the lines of the tickets one event later
lines_later : (knobs : KnobsView) (cpu n : ℕ) (event : Claimed) (after : Machine) (s : ReplayStateView)
    (events : List Claimed)
    (end : ReplayStateView) (a : Advanced knobs cpu event after s events end)
    → LinesUpTo n s → n < event.entry.line → LinesUpTo event.entry.line a.next
lines_later knobs cpu n event after s events end a h l = elim a.page [
  | inl e ↦ record {
    left = subst (λ page. AllByRecursion (λ (t : Ticket). t.line ≤ event.entry.line) page.left) (sym e)
        (all_map (λ t. t.line ≤ n) (λ t. t.line ≤ event.entry.line) (λ t k. omega arith) s.page.left h.left);
    came = subst (λ page. AllByRecursion (λ (t : Ticket). t.line ≤ event.entry.line) page.came) (sym e)
        (all_map (λ t. t.line ≤ n) (λ t. t.line ≤ event.entry.line) (λ t k. omega arith) s.page.came h.came);
  }
  | inr e ↦ record {
    left = subst (λ page. AllByRecursion (λ (t : Ticket). t.line ≤ event.entry.line) page.left) (sym e.1)
        (lines_up_to (λ page. page.left) left_of left_tickets n s.page s.part e.0 (step_at cpu event) h.left
        (omega arith));
    came = subst (λ page. AllByRecursion (λ (t : Ticket). t.line ≤ event.entry.line) page.came) (sym e.1)
        (lines_up_to (λ page. page.came) came_of came_tickets n s.page s.part e.0 (step_at cpu event) h.came
        (omega arith));
  }
]

-- all replays one event later
later : (knobs : KnobsView) (m : Machine) (time : ℕ) (s : ℕ → ReplayStateView) (event : Claimed) (events : List Claimed)
    (end : ℕ → ReplayStateView) (alive : ℕ → Bool)
    → (at : AtEvents knobs m time s (event ∷ events) end alive) → (after : Machine)
    → (step : IsStep knobs m event after)
    → (a : (cpu : ℕ) → Advanced knobs cpu event after (s cpu) events (end cpu))
    → AtEvents knobs after event.entry.time (λ cpu. (a cpu).next) events end (roll_after alive event.entry.act)
later knobs m time s event events end alive at after step a = record {
  follows = λ cpu. (a cpu).follows;
  replays = λ cpu. (a cpu).replay;
  no_fault = at.no_fault;
  in_time = at.in_time;
  lines = event.entry.line;
  tickets = λ cpu. lines_later knobs cpu at.lines event after (s cpu) events (end cpu) (a cpu)
      (at.tickets cpu) at.lines_rise.0;
  lines_rise = at.lines_rise.1;
  times_rise = at.times_rise.1;
  claims = at.claims.1;
  charges = at.charges.1;
  agree = at.agree.1;
  roll = roll_step alive knobs m event after (at.follows 0).order at.roll step;
  new = at.new.1;
}

-- a processor that idles on does so since it was told
still_later : (knobs : KnobsView) (cpu : ℕ) (m : Machine) (time : ℕ) (s : ReplayStateView) (event : Claimed)
    (events : List Claimed) (after : Machine) (states : List Machine) (end : ReplayStateView)
    → ((x : ℕ) → s.since ≡ Some x → event.entry.time ≤ x + knobs.slack)
    → (a : Advanced knobs cpu event after s events end)
    → Still knobs.slack cpu after event.entry.time a.next events states
    → Still knobs.slack cpu m time s (event ∷ events) (after ∷ states)
still_later knobs cpu m time s event events after states end now a still x e zero h k idles = absurd (omega arith)
still_later knobs cpu m time s event events after states end now a still x e (suc zero) h k idles = now x e
still_later knobs cpu m time s event events after states end now a still x e (suc (suc j)) h k idles =
    still x (a.kept x e (replay_idles cpu after event.entry.time a.next a.follows (idles 1 (omega arith) (omega
    arith))))
    (suc j) (omega arith) (omega arith)
    (idles_rest m (after ∷ states) cpu (suc j) idles)

at_most : (a b c d : ℕ) → b ≤ c → a ≤ b + d → a ≤ c + d
at_most a b c d h k = omega arith

-- the slack with one more state before
slack_before : (slack : ℕ) (m : Machine) (states : List Machine) (time : ℕ) (times : List ℕ) (s : ℕ → ReplayStateView)
    → ((cpu : ℕ) → KeepsUp cpu m time (s cpu))
    → ((cpu x : ℕ) → (s cpu).since ≡ Some x → (j : ℕ) → 0 < j → j < length (m ∷ states) → IdlesFrom (m ∷ states) cpu 0 j
    → slice_index (time ∷ times) j ≤ x + slack)
    → KeepsSlack slack times states → KeepsSlack slack (time ∷ times) (m ∷ states)
slack_before slack m states time times s f still rest cpu zero j h k idles =
    let x = (f cpu).told (replay_idles cpu m time (s cpu) (f cpu) (idles 0 (omega arith) h)) in
    at_most (slice_index (time ∷ times) j) x.0 time slack ((f cpu).early x.0 x.1) (still cpu x.0 x.1 j h k idles)
slack_before slack m states time times s f still rest cpu (suc i) zero h k idles = absurd (omega arith)
slack_before slack m states time times s f still rest cpu (suc i) (suc j) h k idles = rest cpu i j (omega arith)
    (omega arith) (idles_tail m states cpu i j idles)

-- one more event before a composed run
add_first : (knobs : KnobsView) (m after : Machine) (time : ℕ) (s : ℕ → ReplayStateView) (event : Claimed)
    (events : List Claimed) (end : ℕ → ReplayStateView) → ((cpu : ℕ) → KeepsUp cpu m time (s cpu))
    → IsStep knobs m event after → ((cpu x : ℕ) → (s cpu).since ≡ Some x → event.entry.time ≤ x + knobs.slack)
    → (a : (cpu : ℕ) → Advanced knobs cpu event after (s cpu) events (end cpu))
    → ComposedAll knobs after event.entry.time (λ cpu. (a cpu).next) events
    → ComposedAll knobs m time s (event ∷ events)
add_first knobs m after time s event events end f step now a rest =
    let stills : (cpu : ℕ) → Still knobs.slack cpu m time (s cpu) (event ∷ events) (after ∷ rest.states) =
    λ cpu. still_later knobs cpu m time (s cpu) event events after rest.states (end cpu) (now cpu) (a cpu)
    (rest.stills cpu) in
    record {
      states = after ∷ rest.states;
      steps = (step, rest.steps);
      slack = slack_before knobs.slack m (after ∷ rest.states) time
          (times_of event.entry.time events) s f stills rest.slack;
      stills = stills;
    }

pub compose_all : (knobs : KnobsView) (m : Machine) (time : ℕ) (s : ℕ → ReplayStateView) (events : List Claimed)
    (end : ℕ → ReplayStateView) (alive : ℕ → Bool)
    → AtEvents knobs m time s events end alive → ComposedAll knobs m time s events
compose_all knobs m time s [] end alive at = record {
  states = [];
  steps = tt;
  slack = λ cpu i j h k idles. absurd (omega arith);
  stills = λ cpu x e j h k idles. absurd (omega arith);
}
compose_all knobs m time s (event ∷ events) end alive at =
    let w = first_of_steps knobs m time s event events end alive at in
    let a = advanced knobs m time s event events end alive at w.0 w.1 in
    add_first knobs m w.0 time s event events end at.follows w.1 (in_slack knobs m time s event events end alive at) a
    (compose_all knobs w.0 event.entry.time (λ cpu. (a cpu).next) events end (roll_after alive event.entry.act)
    (later knobs m time s event events end alive at w.0 w.1 a))
