-- Where the replays of all processors are where the machine is, and pass an event's steps, the machine has a step by
-- it.
use Rattle.std.proofs.Common.{◌≡◌, ℕ, ◌<◌, ◌≤◌, nat_eq, Bool, true, false, ◌||◌, None, ℤ, List, [], ◌∷◌, refl, sym, ap}
use Rattle.std.proofs.Common.{◌∙◌, subst, arith}
use Rattle.std.proofs.lemmas.Bool.{eq-eqb}
use Rattle.std.specs.List.{AllByRecursion, list_any}
use Rattle.cfs_model.specs.Knobs.{KnobsView}
use Rattle.cfs_model.specs.Machine.{Machine}
use Rattle.cfs_model.specs.Claimed.{Claimed}
use Rattle.cfs_model.specs.Touch.{touched}
use Rattle.cfs_model.specs.Step.{IsStep}
use Rattle.replay_model.specs.Part.{part_of}
use Rattle.replay_model.specs.Tests.{PassesTests}
use Rattle.replay_model.specs.Cut.{touches, steps_at}
use Rattle.replay_model.specs.StepAt.{step_at}
use Rattle.replay_model.specs.Record.{ClaimInRange, ChargeInRange, LinesRise}
use Rattle.replay_model.specs.Page.{ReplayStateView, PassesStep, IsReplay}
use Rattle.replay_model.specs.Roll.{BirthIsNew}
use Rattle.replay_model.specs.Tickets.{ticket_at, TicketsAgree}
use Rattle.part_laws.specs.TouchedParts.{PartStep}
use Rattle.replay_model.proofs.Replayed.{first_passes}
use Rattle.replay_model.proofs.TicketLines.{all_map}
use Rattle.part_laws.proofs.stepping.PartSteps.{machine_steps}
use Rattle.part_laws.proofs.migrating.MigrationSteps.{machine_migrates}
use Rattle.replay_laws.proofs.following.Follow.{KeepsUp, touched_steps}
use Rattle.replay_laws.proofs.composing.ShiftTickets.{goes_elsewhere, left_is, came_is}
use Rattle.replay_laws.proofs.following.Roll.{RollIs, born_nowhere}
use Rattle.cfs_model.specs.declared.act.Act.{Act}
use Rattle.cfs_model.specs.declared.act.Act.TheVariants.{Switch, Wake, Born, Shift}
use Rattle.replay_model.specs.declared.page.Ticket.{Ticket}

-- the tickets on a page are of lines up to this one
pub record LinesUpTo (n : ℕ) (s : ReplayStateView) : Type 0 where
  pub left : AllByRecursion (λ (t : Ticket). t.line ≤ n) s.page.left
  pub came : AllByRecursion (λ (t : Ticket). t.line ≤ n) s.page.came

-- a replay that ends without a fault, at an event that touches its processor
pub record PassesHere (knobs : KnobsView) (cpu : ℕ) (s : ReplayStateView) (event : Claimed) (events : List Claimed)
    (end : ReplayStateView) : Type 0 where
  pub next : ReplayStateView
  pub passes : PassesStep knobs cpu s (step_at cpu event) next
  pub replay : IsReplay knobs cpu next (steps_at cpu events) end

pub passes_here : (knobs : KnobsView) (cpu : ℕ) (s : ReplayStateView) (event : Claimed) (events : List Claimed)
    (end : ReplayStateView)
    → s.page.fault ≡ None
    → IsReplay knobs cpu s (steps_at cpu (event ∷ events)) end → end.page.fault ≡ None → touches cpu event ≡ true
    → PassesHere knobs cpu s event events end
passes_here knobs cpu s event events end f r g t =
    let h = subst (λ xs. IsReplay knobs cpu s xs end) (touched_steps cpu event events t) r in
    let p = first_passes knobs cpu s (step_at cpu event) h.0 (steps_at cpu events) end f h.1 h.2 g in
    record { next = h.0; passes = p.0; replay = h.2 }

-- the step of the machine's part that a replay makes
pub part_step : (knobs : KnobsView) (cpu : ℕ) (m : Machine) (s : ReplayStateView) (event : Claimed)
    (next : ReplayStateView)
    → part_of m cpu ≡ s.part → PassesStep knobs cpu s (step_at cpu event) next
    → PartStep knobs cpu (part_of m cpu) (step_at cpu event) next.part
part_step knobs cpu m s event next e p = record {
  found = p.found;
  passes = subst (λ x. PassesTests knobs cpu x (step_at cpu event) p.found) (sym e) p.passes;
  result = p.part;
}

-- all replays at a machine, and what they come to
pub record AtEvent (knobs : KnobsView) (m : Machine) (time : ℕ) (s : ℕ → ReplayStateView) (event : Claimed)
    (events : List Claimed) (end : ℕ → ReplayStateView) (alive : ℕ → Bool) : Type 0 where
  pub follows : (cpu : ℕ) → KeepsUp cpu m time (s cpu)
  pub replays : (cpu : ℕ) → IsReplay knobs cpu (s cpu) (steps_at cpu (event ∷ events)) (end cpu)
  pub no_fault : (cpu : ℕ) → (end cpu).page.fault ≡ None
  pub lines : ℕ
  pub tickets : (cpu : ℕ) → LinesUpTo lines (s cpu)
  pub above : lines < event.entry.line
  pub rise : LinesRise event.entry.line events
  pub claim : ClaimInRange event
  pub charge : ChargeInRange event
  pub agree : TicketsAgree (λ cpu. (end cpu).page) event.entry.line event.entry.act
  pub roll : RollIs alive m
  pub new : BirthIsNew alive event.entry.act

pub touches_first : (cpu : ℕ) (act : Act) (rest : List ℕ) → touched act ≡ cpu ∷ rest
    → list_any (λ other. nat_eq other cpu) (touched act) ≡ true
touches_first cpu act rest e = ap (list_any (λ other. nat_eq other cpu)) e
    ∙ ap (λ b. b || list_any (λ other. nat_eq other cpu) rest) (eq-eqb cpu cpu refl)

pub touches_second : (cpu first : ℕ) (act : Act) → touched act ≡ first ∷ cpu ∷ []
    → list_any (λ other. nat_eq other cpu) (touched act) ≡ true
touches_second cpu first act e = ap (list_any (λ other. nat_eq other cpu)) e
    ∙ ap (λ b. nat_eq first cpu || (b || false)) (eq-eqb cpu cpu refl) ∙ or_true (nat_eq first cpu)
  where
    or_true : (b : Bool) → (b || true) ≡ true
    or_true true = refl
    or_true false = refl

module _ (knobs : KnobsView) (m : Machine) (time : ℕ) (s : ℕ
    → ReplayStateView) (event : Claimed) (events : List Claimed)
    (end : ℕ → ReplayStateView) (alive : ℕ → Bool) (at : AtEvent knobs m time s event events end alive) where
  here : (cpu : ℕ) → touches cpu event ≡ true → PassesHere knobs cpu (s cpu) event events (end cpu)
  here cpu t = passes_here knobs cpu (s cpu) event events (end cpu) (at.follows cpu).fault (at.replays cpu)
      (at.no_fault cpu) t

  -- an event that touches one processor
  one_exists : (cpu : ℕ) → touched event.entry.act ≡ cpu ∷ [] → (after : Machine) × IsStep knobs m event after
  one_exists cpu t =
      let p = here cpu (touches_first cpu event.entry.act [] t) in
      let w = machine_steps knobs m event cpu p.next.part (at.follows cpu).order at.claim at.charge t
      (born_nowhere alive m (at.follows cpu).order at.roll event.entry.act at.new)
      (part_step knobs cpu m (s cpu) event p.next (at.follows cpu).part p.passes) in
      (w.0, w.1)

  below : (cpu : ℕ) → AllByRecursion (λ (t : Ticket). t.line < event.entry.line) (s cpu).page.left
      × AllByRecursion (λ (t : Ticket). t.line < event.entry.line) (s cpu).page.came
  below cpu =
      let a : at.lines < event.entry.line = at.above in (
        all_map (λ t. t.line ≤ at.lines) (λ t. t.line < event.entry.line) (λ t k. omega arith) (s cpu).page.left
            (at.tickets cpu).left,
        all_map (λ t. t.line ≤ at.lines) (λ t. t.line < event.entry.line) (λ t k. omega arith) (s cpu).page.came
            (at.tickets cpu).came,
      )

  -- a migration
  two_exists : (orig dest pid : ℕ) (nice : ℤ) → event.entry.act ≡ Shift orig dest pid nice
      → (after : Machine) × IsStep knobs m event after
  unfolding part_step here
  two_exists orig dest pid nice e =
      let o = here orig (touches_first orig event.entry.act (dest ∷ []) (ap touched e)) in
      let d = here dest (touches_second dest orig event.entry.act (ap touched e)) in
      let ne = goes_elsewhere knobs event orig dest pid nice e (s orig) o.next o.passes in
      let line = event.entry.line in
      let left = left_is knobs event orig dest pid nice e events (s orig) o.next (end orig) o.passes o.replay
      (below orig).0 at.rise in
      let came = came_is knobs event orig dest pid nice e events (s dest) d.next (end dest) ne d.passes d.replay
      (below dest).1 at.rise in
      let agree : ticket_at line (end orig).page.left ≡ ticket_at line (end dest).page.came = subst
      (TicketsAgree (λ cpu. (end cpu).page) line) e at.agree in
      let w = machine_migrates knobs m event orig dest pid nice o.next.part d.next.part
      (at.follows orig).order at.claim at.charge e (record {
        leave = part_step knobs orig m (s orig) event o.next (at.follows orig).part o.passes;
        arrive = part_step knobs dest m (s dest) event d.next (at.follows dest).part d.passes;
        tickets = sym left ∙ agree ∙ came;
      }) in
      (w.0, w.1)

  pub step_exists : (after : Machine) × IsStep knobs m event after
  step_exists = go event.entry.act refl
    where
      go : (act : Act) → event.entry.act ≡ act → (after : Machine) × IsStep knobs m event after
      go (Switch cpu prev pn way next nn) e = one_exists cpu (ap touched e)
      go (Wake cpu pid nice) e = one_exists cpu (ap touched e)
      go (Born cpu pid nice) e = one_exists cpu (ap touched e)
      go (Shift orig dest pid nice) e = two_exists orig dest pid nice e
