-- What a page tells of the steps of one processor, and what a step adds to it (this project's profile).
use Rattle.std.specs.Prelude.{ℕ, zero, suc, ◌+◌, ◌-◌, ◌==◌, if◌then◌else◌, Option, Some, None, option_to_list, List, []}
use Rattle.std.specs.Prelude.{◌∷◌, ◌++◌, map, nat_abs, ◌-ℤ◌}
use Rattle.std.specs.List.{list_any}
use Rattle.replay_model.specs.Part.{Part, Entity, cost_in}
use Rattle.replay_model.specs.Deeds.{left_ticket, came_ticket}
use Rattle.cfs_model.specs.declared.charge_line.ChargeLine.{ChargeLine}
use Rattle.cfs_model.specs.declared.act.Way.TheVariants.{Ends}
use Rattle.cfs_model.specs.declared.task.Place.{Place}
use Rattle.cfs_model.specs.declared.task.Place.TheVariants.{Run}
use Rattle.replay_model.specs.declared.page.LifeEvent.{LifeEvent}
use Rattle.replay_model.specs.declared.page.StepFault.{StepFault}
use Rattle.replay_model.specs.declared.page.Tally.{Tally}
use Rattle.replay_model.specs.declared.page.Ticket.{Ticket}
use Rattle.replay_model.specs.declared.step.Deed.{Deed}
use Rattle.replay_model.specs.declared.step.Deed.TheVariants.{Switch, Born, Leave, Arrive}
use Rattle.replay_model.specs.declared.step.Step.{Step}

-- what a page tells of the steps replayed
pub record PageView : Type 0 where
  -- the line of the last step that passed, 0 if none did
  pub line : ℕ
  pub fault : Option StepFault
  -- the tickets of the tasks that left, and of those that came
  pub left : List Ticket
  pub came : List Ticket
  pub births : List LifeEvent
  pub deaths : List LifeEvent
  -- one for each pid that stood here, in the order in which they first did
  pub tallies : List Tally

-- the birth of a step, if it is one
abbrev pub births_of : ℕ → Deed → List LifeEvent
births_of line (Born pid nice policy) = record { line = line; pid = pid } ∷ []
births_of line _ = []

-- the death of a step, if it has one: a previous task that ends
abbrev pub deaths_of : ℕ → Deed → List LifeEvent
deaths_of line (Switch (suc n) prev_nice Ends next next_nice) = record { line = line; pid = suc n } ∷ []
deaths_of line _ = []

-- the ticket of a step by which a task leaves
abbrev pub left_by : Part → Step → Deed → List Ticket
left_by found step (Leave pid nice dest) = option_to_list (left_ticket found step.line pid)
left_by found step _ = []

-- the ticket of a step by which a task comes
abbrev pub came_by : Part → Step → Deed → List Ticket
came_by found step (Arrive pid nice orig policy) = option_to_list (came_ticket found step.line pid nice policy
    step.claim)
came_by found step _ = []

-- the tally of a task in this place, where one who runs ran so long and was charged so much
abbrev pub tallies_after_run : Place → ℕ → ℕ → Tally → Tally
tallies_after_run Run time cost tally = record tally { ran = tally.ran + time; charged = tally.charged + cost }
tallies_after_run _ time cost tally = tally

-- what a task that runs is charged at a time, in virtual nanoseconds: up to what is told of it, or exactly
abbrev pub told_cost : Option ChargeLine → Part → ℕ → ℕ → Entity → ℕ
told_cost None part time pid s = cost_in part time s
told_cost (Some charge) part time pid s =
    if charge.pid == pid then nat_abs (charge.v -ℤ s.runtime) else cost_in part time s

-- the tally of a task after the charge at a time
abbrev pub charged_tally : Part → ℕ → Option ChargeLine → Option Entity → Tally → Tally
charged_tally part time charge (Some s) tally =
    tallies_after_run s.place (time - part.mark) (told_cost charge part time tally.pid s) tally
charged_tally part time charge None tally = tally

-- the tallies after the charge at a time
abbrev pub charged_tallies : Part → ℕ → Option ChargeLine → List Tally → List Tally
charged_tallies part time charge tallies =
    map (λ tally. charged_tally part time charge (part.tasks tally.pid) tally) tallies

-- the tallies after a switch to a pid; pid 0 has none
abbrev pub picked : ℕ → List Tally → List Tally
picked zero tallies = tallies
picked (suc n) tallies =
    map (λ (tally : Tally). if tally.pid == suc n then record tally { picks = tally.picks + 1 } else tally) tallies

-- the tally of a pid that has done nothing yet
abbrev pub new_tally : ℕ → Tally
new_tally pid = record { pid = pid; ran = 0; charged = 0; picks = 0 }

-- the tallies with one for this pid: a pid that has one keeps it
abbrev pub with_tally : ℕ → List Tally → List Tally
with_tally pid tallies =
    if list_any (λ tally. tally.pid == pid) tallies then tallies else tallies ++ new_tally pid ∷ []

-- the tallies after a deed: a switch picks its next task, and a task that is born or comes stands here
abbrev pub tallied : Deed → List Tally → List Tally
tallied (Switch prev prev_nice way next next_nice) tallies = picked next tallies
tallied (Born pid nice policy) tallies = with_tally pid tallies
tallied (Arrive pid nice orig policy) tallies = with_tally pid tallies
tallied _ tallies = tallies

-- the page after a step that passed, by the part before it and the part as its deed found it
abbrev pub noted : PageView → Part → Part → Step → PageView
noted page part found step = record {
  line = step.line;
  fault = None;
  left = page.left ++ left_by found step step.deed;
  came = page.came ++ came_by found step step.deed;
  births = page.births ++ births_of step.line step.deed;
  deaths = page.deaths ++ deaths_of step.line step.deed;
  tallies = tallied step.deed (charged_tallies part step.time step.charge page.tallies);
}
