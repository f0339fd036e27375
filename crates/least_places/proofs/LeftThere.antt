-- What a replay up to a line has of its processor, and who waits there in the machine behind that line.
use Rattle.std.proofs.Common.{◌≡◌, ℕ, suc, ◌≤◌, nat_le, Bool, true, false, Option, Some, None, List, []}
use Rattle.std.proofs.Common.{◌∷◌, ◌++◌, length, take, drop, refl, sym, ap, ◌∙◌, subst, append_assoc, take-append-drop}
use Rattle.std.proofs.Common.{cond, arith}
use Rattle.std.proofs.lemmas.Bool.{leb-true}
use Rattle.std.specs.List.{AllByRecursion}
use Rattle.cfs_model.specs.Claimed.{Claimed}
use Rattle.cfs_model.specs.Knobs.{KnobsView}
use Rattle.cfs_model.specs.Laws.{RunKeepsOrder, StartInOrder}
use Rattle.cfs_model.specs.Machine.{Machine}
use Rattle.cfs_model.specs.Order.{IsInOrder}
use Rattle.cfs_model.specs.Run.{IsRun, last_of}
use Rattle.cfs_model.specs.Start.{start_machine}
use Rattle.least_places.proofs.FrontSteps.{steps_up_to}
use Rattle.least_places.specs.Left.{IsFront, end_of}
use Rattle.least_places.specs.Walks.{steps_to}
use Rattle.queue_replay.specs.Made.{GoesOn, IsPartAfter}
use Rattle.replay_laws.proofs.telling.Fronts.{record_front}
use Rattle.replay_laws.specs.Replays.{ReplayFollows}
use Rattle.replay_model.proofs.RecordFrom.{record_from}
use Rattle.replay_model.proofs.Replayed.{IsReplay-append}
use Rattle.replay_model.proofs.StartFrom.{start_from}
use Rattle.replay_model.specs.Cut.{StreamView, cut, steps_at}
use Rattle.replay_model.specs.Noted.{PageView}
use Rattle.replay_model.specs.Page.{IsPageOf, IsReplay, IsReplayStep, IsStartOf, ReplayStateView, end_page}
use Rattle.replay_model.specs.Part.{Part, part_of}
use Rattle.replay_model.specs.Record.{IsRecord, LinesRise}
use Rattle.replay_model.specs.declared.page.StepFault.{StepFault}
use Rattle.replay_model.specs.declared.step.Step.{Step}
use Rattle.sched_record.specs.Record.{IsRecordInOrder, RecordView}
use Rattle.sched_record.specs.RecordView.{policy_of}
use Rattle.sched_record.specs.Stream.{cut_of}
use Rattle.ticket_book.specs.SaidEvents.{events_of}

-- what a record keeps, as the laws of the replays take it
pub is_record : (r : RecordView) → IsRecordInOrder r → IsRecord r.start r.floors r.tasks (events_of r) r.cpus
is_record r o =
    let start = start_from r.floors r.tasks o.companion.pids_rise o.companion.one_runs_a_cpu
    (λ k d h. (o.companion.tasks_in_limits k d h).v) o.companion.floors_in_limits in
    record_from r.start r.floors r.tasks r.claims r.nices r.charges (policy_of r) r.events r.cpus start
    (λ k d h. (o.companion.tasks_in_limits k d h).cpu) o.inside (λ k d h. (o.companion.claims_in_limits k d h).v)
    (λ k d h. (o.companion.charges_in_limits k d h).v)
    o.events.never_falls o.started o.events.lines_rise o.events.from_one

-- there are as many steps up to a line at most as there are steps
steps_to_within : (line : ℕ) (steps : List Step) → steps_to line steps ≤ length steps
steps_to_within line [] = omega arith
steps_to_within line (step ∷ steps) = go (nat_le step.line line) (steps_to_within line steps)
  where
    go : (b : Bool) → steps_to line steps ≤ length steps
        → cond b (suc (steps_to line steps)) 0 ≤ suc (length steps)
    go true h = omega (arith, h)
    go false h = omega arith

-- after a fault a replay goes on by any steps
stays : (knobs : KnobsView) (cpu : ℕ) (s : ReplayStateView) (fault : StepFault) → s.page.fault ≡ Some fault
    → (steps : List Step) → IsReplay knobs cpu s steps s
stays knobs cpu s fault f [] = refl
stays knobs cpu s fault f (step ∷ steps) =
    (s, subst (λ o. IsReplayStep knobs cpu o s step s) (sym f) refl, stays knobs cpu s fault f steps)

pub last_in_order : (m : Machine) (states : List Machine) → IsInOrder m → AllByRecursion IsInOrder states
    → IsInOrder (last_of m states)
last_in_order m [] o all = o
last_in_order m (after ∷ states) o all = last_in_order after states all.0 all.1

module _ (r : RecordView) (knobs : KnobsView) (o : IsRecordInOrder r) (follows : ReplayFollows) (cpu : ℕ)
    (run : IsRun knobs r.start (start_machine r.start r.floors r.tasks) (events_of r)) where
  -- of a run no replay of a cut has a fault
  no_fault : (start end : ReplayStateView) → IsStartOf (cut_of r cpu) start
      → IsReplay knobs cpu start (steps_at cpu (events_of r)) end → end.page.fault ≡ None
  no_fault start end s replay =
      let kept = is_record r o in
      (follows knobs r.start r.floors r.tasks (events_of r) cpu end kept.is_start kept.times_rise run
      (record { first = start; is_start = s; replay = replay })).0

  -- so it makes all steps that it is to make
  pub all_made : (line made : ℕ) (before page : PageView)
      → IsPageOf (cut_of r cpu) knobs made page
      → GoesOn (cut_of r cpu) knobs 0 before (steps_to line (steps_at cpu (events_of r))) made page
      → made ≡ steps_to line (steps_at cpu (events_of r))
  all_made line made before page p g =
      go page.fault refl (nat_le (length steps) made) refl
    where
      steps : List Step
      steps = steps_at cpu (events_of r)

      within : steps_to line steps ≤ length steps
      within = steps_to_within line steps

      go : (o : Option StepFault) → page.fault ≡ o → (b : Bool) → nat_le (length steps) made ≡ b
          → made ≡ steps_to line steps
      go None e b f = (let all = g.all e in omega (arith, all, within))
      go (Some fault) e true f =
          (let whole : length steps ≤ made = leb-true _ _ f in
          let most = g.at_most in omega (arith, whole, most, within))
      go (Some fault) e false f =
          (let same : page ≡ p.end.page = p.result
          ∙ ap (λ b. cond b (end_page knobs.slack
          (cut_of r cpu) p.end.since p.end.page.fault p.end.page) p.end.page) f in
          let failed : p.end.page.fault ≡ Some fault = sym (ap (λ (x : PageView). x.fault) same) ∙ e in
          let none = no_fault p.start p.end p.is_start
          (subst (λ xs. IsReplay knobs cpu p.start xs p.end) (take-append-drop made steps)
          (IsReplay-append knobs cpu p.start (take made steps) (drop made steps) p.end p.end p.replay
          (stays knobs cpu p.end fault failed (drop made steps)))) in
          absurd cc)

  module _ (line : ℕ) (front : IsFront r knobs line) where
    abbrev upto : List Claimed
    upto = front.before ++ front.event ∷ []

    is_front : events_of r ≡ upto ++ front.rest
    is_front = front.whole ∙ sym (append_assoc front.before (front.event ∷ []) front.rest)

    front_record : IsRecord r.start r.floors r.tasks upto r.cpus
    front_record =
        record_front r.start r.floors r.tasks upto front.rest r.cpus
        (subst (λ es. IsRecord r.start r.floors r.tasks es r.cpus) is_front (is_record r o))

    front_steps : take (steps_to line (steps_at cpu (events_of r))) (steps_at cpu (events_of r)) ≡ steps_at cpu upto
    front_steps =
        let own = steps_up_to cpu 0 front.before front.rest front.event
        (subst (LinesRise 0) front.whole (is_record r o).lines_rise) in
        subst (λ es. take (steps_to line (steps_at cpu es)) (steps_at cpu es) ≡ steps_at cpu upto) (sym front.whole)
        (subst (λ n. take (steps_to n (steps_at cpu (front.before ++ front.event ∷ front.rest)))
        (steps_at cpu (front.before ++ front.event ∷ front.rest)) ≡ steps_at cpu upto) front.line_is own)

    -- the part that the replay has is that of the machine behind the line
    pub part_there : (made : ℕ) (part : Part) (since : Option ℕ)
        → made ≡ steps_to line (steps_at cpu (events_of r))
        → IsPartAfter (cut_of r cpu) knobs made part since → part_of (end_of r knobs line front) cpu ≡ part
    part_there made part since e p =
        let first : IsStartOf (cut r.start r.floors r.tasks upto cpu) p.start =
        record { part = p.is_start.part; since = p.is_start.since; page = p.is_start.page } in
        let replay : IsReplay knobs cpu p.start (steps_at cpu upto) p.end =
        subst (λ xs. IsReplay knobs cpu p.start xs p.end)
        (ap (λ n. take n (steps_at cpu (events_of r))) e ∙ front_steps) p.replay in
        (follows knobs r.start r.floors r.tasks upto cpu p.end front_record.is_start front_record.times_rise front.run
        (record { first = p.start; is_start = first; replay = replay })).1 ∙ sym p.part_is

  pub end_in_order : RunKeepsOrder → StartInOrder → (line : ℕ) (front : IsFront r knobs line)
      → IsInOrder (end_of r knobs line front)
  end_in_order keeps starts line front =
      let first = start_machine r.start r.floors r.tasks in
      let begun = starts r.start r.floors r.tasks (is_record r o).is_start in
      last_in_order first front.run.states begun
      (keeps knobs r.start first (front.before ++ front.event ∷ []) begun front.run)

-- the part that a replay has which went on up to a line is that of the machine behind the line
pub part_reached : (r : RecordView) (knobs : KnobsView) → IsRecordInOrder r → ReplayFollows → (cpu line : ℕ)
    → IsRun knobs r.start (start_machine r.start r.floors r.tasks) (events_of r)
    → (old new : StreamView) (was is : KnobsView) (from steps made : ℕ) (before page : PageView) (part : Part)
    → old ≡ cut_of r cpu → new ≡ old → was ≡ knobs → is ≡ was → from ≡ 0 → steps ≡ steps_to line old.steps
    → IsPageOf new is made page → GoesOn old was from before steps made page
    → ((since : Option ℕ) × IsPartAfter new is made part since)
    → (front : IsFront r knobs line) → part_of (end_of r knobs line front) cpu ≡ part
part_reached r knobs o follows cpu line run old new was is from steps made before page part a b c d e f p g q front =
    let stream : new ≡ cut_of r cpu = b ∙ a in
    let same : is ≡ knobs = d ∙ c in
    let count : steps ≡ steps_to line (steps_at cpu (events_of r)) =
    f ∙ ap (λ (s : StreamView). steps_to line s.steps) a in
    let paged : IsPageOf (cut_of r cpu) knobs made page =
    subst (λ s. IsPageOf s knobs made page) stream (subst (λ k. IsPageOf new k made page) same p) in
    let goes : GoesOn (cut_of r cpu) knobs 0 before (steps_to line (steps_at cpu (events_of r))) made page =
    subst (λ s. GoesOn s knobs 0 before (steps_to line (steps_at cpu (events_of r))) made page) a
    (subst (λ k. GoesOn old k 0 before (steps_to line (steps_at cpu (events_of r))) made page) c
    (subst (λ n. GoesOn old was n before (steps_to line (steps_at cpu (events_of r))) made page) e
    (subst (λ n. GoesOn old was from before n made page) count g))) in
    part_there r knobs o follows cpu run line front made part q.0
    (all_made r knobs o follows cpu run line made before page paged goes)
    (subst (λ s. IsPartAfter s knobs made part q.0) stream (subst (λ k. IsPartAfter new k made part q.0) same q.1))
