-- The two tickets of a migration whose steps pass, as they stand on the pages of its ends: those that its deeds make.
use Rattle.std.proofs.Common.{◌≡◌, ◌≢◌, ℕ, ◌<◌, ℤ, ◌-ℤ◌, List, refl, sym, ap, ◌∙◌, subst}
use Rattle.std.specs.List.{AllByRecursion}
use Rattle.cfs_model.specs.Knobs.{KnobsView}
use Rattle.cfs_model.specs.Claimed.{Claimed}
use Rattle.replay_model.specs.Part.{Entity}
use Rattle.replay_model.specs.Deeds.{left_ticket, came_ticket, place_of_sort}
use Rattle.replay_model.specs.StepAt.{deed_at, claim_for, step_at}
use Rattle.replay_model.specs.Cut.{steps_at}
use Rattle.replay_model.specs.Noted.{left_by, came_by}
use Rattle.replay_model.specs.Page.{ReplayStateView, PassesStep, IsReplay}
use Rattle.replay_model.specs.Record.{LinesRise}
use Rattle.replay_model.specs.Tickets.{ticket_at}
use Rattle.replay_model.proofs.Clear.{clear_of, IsClear}
use Rattle.replay_model.proofs.TicketLines.{ticket_found, left_tickets, came_tickets, left_of, came_of, only_ticket}
use Rattle.part_laws.proofs.migrating.MigrationSteps.{leave_deed, arrive_deed}
use Rattle.replay_laws.proofs.composing.StepLines.{steps_above}
use Rattle.cfs_model.specs.declared.act.Act.TheVariants.{Shift}
use Rattle.cfs_model.specs.declared.claim.Claim.{Claim}
use Rattle.replay_model.specs.declared.page.Ticket.{Ticket}

module _ (knobs : KnobsView) (event : Claimed) (orig dest pid : ℕ) (nice : ℤ)
    (e : event.entry.act ≡ Shift orig dest pid nice) where
  -- a task whose leave passes goes elsewhere
  pub goes_elsewhere : (s next : ReplayStateView) → PassesStep knobs orig s (step_at orig event) next → orig ≢ dest
  goes_elsewhere s next p same =
      (subst (λ x. IsClear knobs orig p.found x (claim_for x event.claim))
      (leave_deed event.entry.act event.policy orig dest pid nice e)
      (clear_of knobs orig p.found (step_at orig event) p.passes.none)).home pid (sym same, refl)

  pub left_is : (events : List Claimed) (s next end : ReplayStateView)
      → (p : PassesStep knobs orig s (step_at orig event) next) → IsReplay knobs orig next (steps_at orig events) end
      → AllByRecursion (λ (t : Ticket). t.line < event.entry.line) s.page.left → LinesRise event.entry.line events
      → ticket_at event.entry.line end.page.left ≡ left_ticket p.found event.entry.line pid
  left_is events s next end p r low rise =
      let line = event.entry.line in
      ticket_found (λ page. page.left) left_of left_tickets knobs orig s (step_at orig event) next
      (steps_at orig events) end p r low (steps_above line orig events rise)
      ∙ ap (λ x. ticket_at line (left_by p.found (step_at orig event) x))
      (leave_deed event.entry.act event.policy orig dest pid nice e)
      ∙ only_ticket (λ (t : Entity). let x : Ticket = record {
        line = line;
        pid = pid;
        nice = t.nice;
        policy = t.policy;
        place = t.place;
        offset = t.runtime -ℤ
            p.found.floor;
      } in
      x)
      line (λ t. refl) (p.found.tasks pid)

  pub came_is : (events : List Claimed) (s next end : ReplayStateView) → orig ≢ dest
      → (p : PassesStep knobs dest s (step_at dest event) next) → IsReplay knobs dest next (steps_at dest events) end
      → AllByRecursion (λ (t : Ticket). t.line < event.entry.line) s.page.came → LinesRise event.entry.line events
      → ticket_at event.entry.line end.page.came ≡ came_ticket p.found event.entry.line pid nice event.policy
      event.claim
  came_is events s next end ne p r low rise =
      let line = event.entry.line in
      let arrive = arrive_deed event.entry.act event.policy orig dest pid nice e ne in
      ticket_found (λ page. page.came) came_of came_tickets knobs dest s (step_at dest event) next
      (steps_at dest events) end p r low (steps_above line dest events rise)
      ∙ ap (λ x. ticket_at line (came_by p.found (step_at dest event) x)) arrive
      ∙ only_ticket (λ (c : Claim). let x : Ticket = record {
        line = line;
        pid = pid;
        nice = nice;
        policy = event.policy;
        place = place_of_sort c.sort;
        offset = c.v -ℤ p.found.floor;
      } in x) line (λ c. refl) (claim_for (deed_at dest event.policy event.entry.act) event.claim)
      ∙ ap (λ x. came_ticket p.found line pid nice event.policy (claim_for x event.claim)) arrive
