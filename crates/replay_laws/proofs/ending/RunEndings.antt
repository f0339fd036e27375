-- What ends a run beside a step that fails on its own processor.
use Rattle.std.proofs.Common.{◌≡◌, ℕ, Bool, List, [], ◌∷◌, ◌++◌, sym, ap, ◌∙◌, subst}
use Rattle.cfs_model.specs.Knobs.{KnobsView}
use Rattle.cfs_model.specs.Machine.{Machine}
use Rattle.cfs_model.specs.Start.{start_machine}
use Rattle.cfs_model.specs.Claimed.{Claimed}
use Rattle.cfs_model.specs.Touch.{touched}
use Rattle.cfs_model.specs.Idling.{KeepsSlack}
use Rattle.cfs_model.specs.Run.{AreSteps, times_of, IsRun, last_of}
use Rattle.cfs_model.specs.Order.{IsInOrder}
use Rattle.replay_model.specs.Found.{IsFound}
use Rattle.replay_model.specs.Deeds.{left_ticket, came_ticket}
use Rattle.replay_model.specs.StepAt.{step_at}
use Rattle.replay_model.specs.Roll.{roll_after, roll_of}
use Rattle.part_laws.specs.TouchedParts.{BornNowhere}
use Rattle.replay_laws.specs.Endings.{IdlingEndsRun, BirthEndsRun, TicketsEndRun}
use Rattle.cfs_model.proofs.StartOrder.{start_in_order}
use Rattle.cfs_model.proofs.StepOrder.{step_in_order}
use Rattle.cfs_model.proofs.Prefix.{steps_length, front_slack}
use Rattle.part_laws.proofs.stepping.PartForward.{part_steps}
use Rattle.part_laws.proofs.migrating.MigrationSteps.{parts_migrate}
use Rattle.part_laws.proofs.one_page.OneLift.{same_found}
use Rattle.replay_laws.proofs.following.FollowLaws.{followed_run, slack_follows}
use Rattle.replay_laws.proofs.ending.RunEnds.{LastStep, last_step, slack_holds}
use Rattle.replay_laws.proofs.following.Roll.{RollIs, roll_step, start_roll}
use Rattle.cfs_model.specs.declared.act.Act.TheVariants.{Born}

-- the run without its last event
front_of_run : (knobs : KnobsView) (start : ℕ) (m : Machine) (before : List Claimed) (event : Claimed)
    (run : IsRun knobs start m (before ++ event ∷ [])) → (l : LastStep knobs m before event run.states)
    → KeepsSlack knobs.slack (times_of start before) (m ∷ l.front)
front_of_run knobs start m before event run l =
    front_slack knobs.slack start m before (event ∷ []) l.front (l.after ∷ [])
    (steps_length knobs m before l.front l.steps)
    (subst (λ xs. KeepsSlack knobs.slack (times_of start (before ++ event ∷ [])) (m ∷ xs)) l.whole run.slack)

pub idling_ends_run : IdlingEndsRun
idling_ends_run knobs start floors tasks before event cpu last s rise r late run =
    let m = start_machine start floors tasks in
    let l = last_step knobs m before event run.states run.steps in
    let front : IsRun knobs start m before =
    record { states = l.front; steps = l.steps; slack = front_of_run knobs start m before event run l } in
    slack_holds knobs.slack start m before event l.front l.after (steps_length knobs m before l.front l.steps)
    (subst (λ xs. KeepsSlack knobs.slack (times_of start (before ++ event ∷ [])) (m ∷ xs)) l.whole run.slack) cpu
    ((slack_follows knobs start floors tasks before cpu last event.entry.time s rise front r).1 late)

-- the order and the roll at the end of some steps
pub order_after : (knobs : KnobsView) (m : Machine) (events : List Claimed) (states : List Machine)
    → AreSteps knobs m events states → IsInOrder m → IsInOrder (last_of m states)
order_after knobs m [] [] steps o = o
order_after knobs m [] (after ∷ states) steps o = absurd steps
order_after knobs m (event ∷ events) [] steps o = absurd steps
order_after knobs m (event ∷ events) (after ∷ states) steps o =
    order_after knobs after events states steps.1 (step_in_order knobs m event after o steps.0)

pub roll_run : (alive : ℕ → Bool) (knobs : KnobsView) (m : Machine) (events : List Claimed) (states : List Machine)
    → AreSteps knobs m events states → IsInOrder m → RollIs alive m → RollIs (roll_of alive events) (last_of m states)
roll_run alive knobs m [] [] steps o h = h
roll_run alive knobs m [] (after ∷ states) steps o h = absurd steps
roll_run alive knobs m (event ∷ events) [] steps o h = absurd steps
roll_run alive knobs m (event ∷ events) (after ∷ states) steps o h =
    roll_run (roll_after alive event.entry.act) knobs after events states steps.1
    (step_in_order knobs m event after o steps.0) (roll_step alive knobs m event after o h steps.0)

pub birth_ends_run : BirthEndsRun
birth_ends_run knobs start floors tasks before event cpu pid nice s e alive run =
    let m = start_machine start floors tasks in
    let l = last_step knobs m before event run.states run.steps in
    let last = last_of m l.front in
    let order = start_in_order start floors tasks s in
    let o = order_after knobs m before l.front l.steps order in
    let roll = roll_run _ knobs m before l.front l.steps order (start_roll start floors tasks) in
    let nowhere : BornNowhere last (Born cpu pid nice) =
    subst (BornNowhere last) e (part_steps knobs last l.after event cpu o (ap touched e) l.last).0 in
    let stands = (o.nices pid).0 (roll pid ∙ alive) in
    nowhere stands.0 stands.1 stands.2

pub tickets_end_run : TicketsEndRun
tickets_end_run knobs start floors tasks before event orig dest pid nice at_orig at_dest left came s rise e ro rd
    leave arrive differ run =
    let m = start_machine start floors tasks in
    let l = last_step knobs m before event run.states run.steps in
    let front : IsRun knobs start m before =
    record { states = l.front; steps = l.steps; slack = front_of_run knobs start m before event run l } in
    let last = last_of m l.front in
    let o = followed_run knobs start floors tasks before orig at_orig s rise front ro in
    let d = followed_run knobs start floors tasks before dest at_dest s rise front rd in
    let p = (parts_migrate knobs last l.after event orig dest pid nice o.at.order e l.last).1 in
    let at : p.leave.found ≡ leave.found = same_found (step_at orig event) at_orig.part p.leave.found leave.found
    (subst (λ x. IsFound (step_at orig event) x p.leave.found) o.at.part p.leave.passes.is_found)
    leave.passes.is_found in
    let to : p.arrive.found ≡ arrive.found = same_found (step_at dest event) at_dest.part p.arrive.found arrive.found
    (subst (λ x. IsFound (step_at dest event) x p.arrive.found) d.at.part p.arrive.passes.is_found)
    arrive.passes.is_found in
    differ (ap (λ x. left_ticket x event.entry.line pid) (sym at) ∙ p.tickets
    ∙ ap (λ x. came_ticket x event.entry.line pid nice event.policy event.claim) to)
