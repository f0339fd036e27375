-- What is noted of a step that passed is what the definitions note of it.
use Rattle.std.proofs.Common.{◌≡◌, ℕ, List, ◌++◌, Option, None, refl, ap, ◌∙◌}
use Rattle.replay_model.specs.Noted.{PageView, noted, left_by, came_by, births_of, deaths_of, tallied, charged_tallies}
use Rattle.replay_model.specs.Part.{Part}
use Rattle.replay_model.specs.declared.page.LifeEvent.{LifeEvent}
use Rattle.replay_model.specs.declared.page.StepFault.{StepFault}
use Rattle.replay_model.specs.declared.page.Tally.{Tally}
use Rattle.replay_model.specs.declared.page.Ticket.{Ticket}
use Rattle.replay_model.specs.declared.step.Deed.{Deed}
use Rattle.replay_model.specs.declared.step.Deed.TheVariants.{Switch, Wake, Born, Leave, Arrive}
use Rattle.replay_model.specs.declared.step.Step.{Step}
use Rattle.queue_replay.specs.Counting.{page_draft_view, ticket_by, if_left, if_came}
use Rattle.queue_replay.specs.declared.page_draft.PageDraft.{PageDraft}

pub same_page : (p q : PageView) → p.line ≡ q.line → p.fault ≡ q.fault → p.left ≡ q.left → p.came ≡ q.came
    → p.births ≡ q.births → p.deaths ≡ q.deaths → p.tallies ≡ q.tallies → p ≡ q
same_page p q a b c d e f g =
    ap (λ (x : ℕ). record p { line = x }) a
    ∙ ap (λ (x : Option StepFault). record p { line = q.line; fault = x }) b
    ∙ ap (λ (x : List Ticket). record p { line = q.line; fault = q.fault; left = x }) c
    ∙ ap (λ (x : List Ticket). record p { line = q.line; fault = q.fault; left = q.left; came = x }) d
    ∙ ap (λ (x : List LifeEvent). record q { births = x; deaths = p.deaths; tallies = p.tallies }) e
    ∙ ap (λ (x : List LifeEvent). record q { deaths = x; tallies = p.tallies }) f
    ∙ ap (λ (x : List Tally). record q { tallies = x }) g

left_noted : (found : Part) (step : Step) (deed : Deed)
    → if_left deed (ticket_by found step deed) ≡ left_by found step deed
left_noted found step (Switch prev prev_nice way next next_nice) = refl
left_noted found step (Wake pid nice) = refl
left_noted found step (Born pid nice policy) = refl
left_noted found step (Leave pid nice dest) = refl
left_noted found step (Arrive pid nice orig policy) = refl

came_noted : (found : Part) (step : Step) (deed : Deed)
    → if_came deed (ticket_by found step deed) ≡ came_by found step deed
came_noted found step (Switch prev prev_nice way next next_nice) = refl
came_noted found step (Wake pid nice) = refl
came_noted found step (Born pid nice policy) = refl
came_noted found step (Leave pid nice dest) = refl
came_noted found step (Arrive pid nice orig policy) = refl

-- pages that differ in their tallies alone
pub record IsStretch (old mid : PageDraft) : Type 0 where
  pub line : mid.line ≡ old.line
  pub fault : mid.fault ≡ old.fault
  pub left : mid.left ≡ old.left
  pub came : mid.came ≡ old.came
  pub births : mid.births ≡ old.births
  pub deaths : mid.deaths ≡ old.deaths

-- the draft with a step more
pub record IsNote (mid : PageDraft) (step : Step) (ticket : Option Ticket) (new : PageDraft) : Type 0 where
  pub line : new.line ≡ step.line
  pub fault : new.fault ≡ mid.fault
  pub left : new.left.items ≡ mid.left.items ++ if_left step.deed ticket
  pub came : new.came.items ≡ mid.came.items ++ if_came step.deed ticket
  pub births : new.births.items ≡ mid.births.items ++ births_of step.line step.deed
  pub deaths : new.deaths.items ≡ mid.deaths.items ++ deaths_of step.line step.deed
  pub tallies : new.tallies.list.items ≡ tallied step.deed mid.tallies.list.items

pub page_is : (old mid new : PageDraft) (part found : Part) (step : Step) (ticket : Option Ticket) → old.fault ≡ None
    → IsStretch old mid → mid.tallies.list.items ≡ charged_tallies part step.time step.charge old.tallies.list.items
    → ticket ≡ ticket_by found step step.deed → IsNote mid step ticket new
    → page_draft_view new ≡ noted (page_draft_view old) part found step
page_is old mid new part found step ticket none same tallies is n =
    same_page (page_draft_view new) (noted (page_draft_view old) part found step)
    n.line
    (n.fault ∙ same.fault ∙ none)
    (n.left ∙ ap (λ l. l.items ++ if_left step.deed ticket) same.left
    ∙ ap (λ t. old.left.items ++ if_left step.deed t) is
    ∙ ap (λ l. old.left.items ++ l) (left_noted found step step.deed))
    (n.came ∙ ap (λ l. l.items ++ if_came step.deed ticket) same.came
    ∙ ap (λ t. old.came.items ++ if_came step.deed t) is
    ∙ ap (λ l. old.came.items ++ l) (came_noted found step step.deed))
    (n.births ∙ ap (λ l. l.items ++ births_of step.line step.deed) same.births)
    (n.deaths ∙ ap (λ l. l.items ++ deaths_of step.line step.deed) same.deaths)
    (n.tallies ∙ ap (tallied step.deed) tallies)
