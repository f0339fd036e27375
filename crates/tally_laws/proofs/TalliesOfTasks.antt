-- Each tally on the pages of a run is of a task of the run: a page begins with those of its processor's tasks, and a
-- birth and an arrival alone bring one more, an arrival that of a pid that is alive.
use Rattle.std.proofs.Common.{◌≡◌, ℕ, zero, suc, ◌<◌, nat_eq, Bool, true, false, ◌||◌, cond, Some, is_some, inl, inr}
use Rattle.std.proofs.Common.{List, [], ◌∷◌, ◌++◌, Contains, map, filter, refl, sym, ap, ◌∙◌, subst, true≢false, arith}
use Rattle.std.specs.List.{AllByRecursion}
use Rattle.std.proofs.lemmas.Bool.{eq-eqb, or_left, or_right}
use Rattle.std.proofs.lemmas.List.Elements.{All-from_recursion}
use Rattle.cfs_model.specs.Knobs.{KnobsView}
use Rattle.cfs_model.specs.Machine.{Machine, put}
use Rattle.cfs_model.specs.Start.{task_of, start_machine}
use Rattle.cfs_model.specs.Claimed.{Claimed}
use Rattle.cfs_model.specs.Step.{Changes, IsStep}
use Rattle.cfs_model.specs.Run.{AreSteps}
use Rattle.cfs_model.specs.Order.{IsInOrder}
use Rattle.replay_model.specs.Cut.{touches, steps_at, tasks_at}
use Rattle.replay_model.specs.StepAt.{deed_at, step_at}
use Rattle.replay_model.specs.Roll.{named, roll_after}
use Rattle.replay_model.specs.Noted.{PageView, tallied, with_tally, new_tally}
use Rattle.replay_model.specs.Summary.{born_by, born_in, tasks_of_run}
use Rattle.tally_laws.specs.Totals.{tallies_below}
use Rattle.tally_laws.specs.Tallying.{TalliesOfTasks}
use Rattle.cfs_model.proofs.Moves.{put-same, put-other, same_or_not}
use Rattle.cfs_model.proofs.StartOrder.{start_in_order}
use Rattle.cfs_model.proofs.StepOrder.{step_in_order}
use Rattle.replay_laws.proofs.following.Roll.{start_roll, RollIs, roll_step, found_keys}
use Rattle.replay_laws.proofs.telling.FrontRun.{pages_tell_run}
use Rattle.tally_laws.proofs.Among.{is_among, among_append, among_once, among_at}
use Rattle.tally_laws.proofs.TalliesSaid.{has_tally, KeepsPid}
use Rattle.tally_laws.proofs.TalliesCharged.{charged_one, charge_keeps}
use Rattle.tally_laws.proofs.TalliesOfDeeds.{pick_one, pick_keeps}
use Rattle.tally_laws.proofs.TalliesAtStart.{idle_tallies}
use Rattle.tally_laws.proofs.TalliesKept.{Keeps, replay_keeps}
use Rattle.tally_laws.proofs.TalliesAddedUp.{page_end}
use Rattle.cfs_model.specs.declared.act.Act.{Act}
use Rattle.cfs_model.specs.declared.act.Act.TheVariants.{Switch, Wake, Born, Shift}
use Rattle.cfs_model.specs.declared.act.Way.TheVariants.{Stays, Sleeps, Ends}
use Rattle.cfs_model.specs.declared.task.Task.{Task}
use Rattle.replay_model.specs.declared.page.Tally.{Tally}
use Rattle.replay_model.specs.declared.step.Deed.{Deed}
use Rattle.replay_model.specs.declared.step.Deed.TheVariants as deed
use Rattle.replay_model.specs.declared.step.Step.{Step}
use Rattle.cfs_model.specs.declared.policy.Policy.{Policy}

-- a kind of pid, those of tallies, of an event that brings a tally, and of such a deed
module _ (K : ℕ → Type 0) where
  abbrev pub ArePidsOf : List Tally → Type 0
  ArePidsOf tallies = AllByRecursion (λ (tally : Tally). K tally.pid) tallies

  abbrev pub Brings : Act → Type 0
  Brings (Born cpu pid nice) = K pid
  Brings (Shift orig dest pid nice) = K pid
  Brings act = Unit {0}

  abbrev pub BringsHere : Deed → Type 0
  BringsHere (deed.Born pid nice policy) = K pid
  BringsHere (deed.Arrive pid nice orig policy) = K pid
  BringsHere other = Unit {0}

  of_map : (f : Tally → Tally) → KeepsPid f → (tallies : List Tally) → ArePidsOf tallies → ArePidsOf (map f tallies)
  of_map f keeps [] h = tt
  of_map f keeps (tally ∷ tallies) h = (subst K (sym (keeps tally)) h.0, of_map f keeps tallies h.1)

  of_append : (xs ys : List Tally) → ArePidsOf xs → ArePidsOf ys → ArePidsOf (xs ++ ys)
  of_append [] ys h k = k
  of_append (x ∷ xs) ys h k = (h.0, of_append xs ys h.1 k)

  of_with : (pid : ℕ) (tallies : List Tally) → K pid → ArePidsOf tallies → ArePidsOf (with_tally pid tallies)
  of_with pid tallies k h = go (has_tally tallies pid)
    where
      go : (b : Bool) → ArePidsOf (cond b tallies (tallies ++ new_tally pid ∷ []))
      go true = h
      go false = of_append tallies (new_tally pid ∷ []) h (k, tt)

  of_deed : (d : Deed) (tallies : List Tally) → BringsHere d → ArePidsOf tallies → ArePidsOf (tallied d tallies)
  of_deed (deed.Switch prev pn way zero nn) tallies k h = h
  of_deed (deed.Switch prev pn way (suc n) nn) tallies k h = of_map (pick_one n) (pick_keeps n) tallies h
  of_deed (deed.Wake pid nice) tallies k h = h
  of_deed (deed.Born pid nice policy) tallies k h = of_with pid tallies k h
  of_deed (deed.Leave pid nice dest) tallies k h = h
  of_deed (deed.Arrive pid nice orig policy) tallies k h = of_with pid tallies k h

  of_kept : Keeps ArePidsOf BringsHere
  of_kept = record {
    charge = λ part time charge tallies h. of_map (charged_one part time charge) (charge_keeps part time charge)
        tallies h;
    deed = of_deed;
  }

  -- the deeds of events
  brings_here : (cpu : ℕ) (policy : Policy) (act : Act) → Brings act → BringsHere (deed_at cpu policy act)
  brings_here cpu policy (Switch here prev pn way next nn) k = tt
  brings_here cpu policy (Wake here pid nice) k = tt
  brings_here cpu policy (Born here pid nice) k = k
  brings_here cpu policy (Shift orig dest pid nice) k = go (nat_eq orig cpu)
    where
      go : (b : Bool) → BringsHere (cond b (deed.Leave pid nice dest) (deed.Arrive pid nice orig policy))
      go true = tt
      go false = k

  steps_bring : (cpu : ℕ) (events : List Claimed)
      → AllByRecursion (λ (event : Claimed). Brings event.entry.act) events
      → AllByRecursion (λ (step : Step). BringsHere step.deed) (steps_at cpu events)
  steps_bring cpu [] h = tt
  steps_bring cpu (event ∷ events) h = go (touches cpu event) (steps_bring cpu events h.1)
    where
      go : (b : Bool) → AllByRecursion (λ (step : Step). BringsHere step.deed) (steps_at cpu events)
          → AllByRecursion (λ (step : Step). BringsHere step.deed)
          (map (step_at cpu) (cond b (event ∷ filter (touches cpu) events) (filter (touches cpu) events)))
      go true rest = (brings_here cpu event.policy event.entry.act h.0, rest)
      go false rest = rest

  -- the tallies at the start
  of_start : (cpu : ℕ) (tasks : List Task) → AllByRecursion (λ (t : Task). K t.pid) tasks
      → ArePidsOf (idle_tallies (tasks_at cpu tasks))
  of_start cpu [] h = tt
  of_start cpu (t ∷ tasks) h = go (nat_eq t.cpu cpu) (of_start cpu tasks h.1)
    where
      go : (b : Bool) → ArePidsOf (idle_tallies (tasks_at cpu tasks))
          → ArePidsOf (idle_tallies (cond b (t ∷ tasks_at cpu tasks) (tasks_at cpu tasks)))
      go true rest = (h.0, rest)
      go false rest = rest

  -- who is alive after an event was so before, or is born
  alive_after : (alive : ℕ → Bool) (act : Act) → ((pid : ℕ) → alive pid ≡ true → K pid)
      → ((pid : ℕ) → is_among (born_by act) pid ≡ true → K pid)
      → (pid : ℕ) → roll_after alive act pid ≡ true → K pid
  alive_after alive (Switch cpu zero pn way next nn) old born pid h = old pid h
  alive_after alive (Switch cpu (suc n) pn Stays next nn) old born pid h = old pid h
  alive_after alive (Switch cpu (suc n) pn Sleeps next nn) old born pid h = old pid h
  alive_after alive (Switch cpu (suc n) pn Ends next nn) old born pid h = elim (same_or_not pid (suc n)) [
    | inl e ↦ absurd (true≢false
        (sym h ∙ ap (put alive (suc n) false) e ∙ put-same alive (suc n) false))
    | inr ne ↦ old pid (sym (put-other alive (suc n) false pid ne) ∙ h)
  ]
  alive_after alive (Wake cpu task nice) old born pid h = old pid h
  alive_after alive (Born cpu task nice) old born pid h = elim (same_or_not pid task) [
    | inl e ↦ born pid (or_left (nat_eq task pid) false (eq-eqb task pid (sym e)))
    | inr ne ↦ old pid (sym (put-other alive task true pid ne) ∙ h)
  ]
  alive_after alive (Shift orig dest task nice) old born pid h = old pid h

  -- who comes to a processor is alive
  act_brings : (knobs : KnobsView) (m : Machine) (event : Claimed) (after : Machine) (alive : ℕ → Bool)
      → IsInOrder m → RollIs alive m → IsStep knobs m event after → ((pid : ℕ) → alive pid ≡ true → K pid)
      → ((pid : ℕ) → is_among (born_by event.entry.act) pid ≡ true → K pid) → Brings event.entry.act
  act_brings knobs m event after alive o roll s old born = go event.entry.act born s.changes
    where
      go : (act : Act) → ((pid : ℕ) → is_among (born_by act) pid ≡ true → K pid)
          → Changes knobs s.found act event.claim event.policy after → Brings act
      go (Switch cpu prev pn way next nn) b c = tt
      go (Wake cpu pid nice) b c = tt
      go (Born cpu pid nice) b c = b pid (or_left (nat_eq pid pid) false (eq-eqb pid pid refl))
      go (Shift orig dest pid nice) b c = old pid
          (sym (roll pid) ∙ sym (found_keys knobs m event after o s pid) ∙ ap is_some c.prio)

  events_bring : (knobs : KnobsView) (m : Machine) (events : List Claimed) (states : List Machine) (alive : ℕ → Bool)
      → IsInOrder m → RollIs alive m → AreSteps knobs m events states → ((pid : ℕ) → alive pid ≡ true → K pid)
      → ((pid : ℕ) → is_among (born_in events) pid ≡ true → K pid)
      → AllByRecursion (λ (event : Claimed). Brings event.entry.act) events
  events_bring knobs m [] states alive o roll steps old born = tt
  events_bring knobs m (event ∷ events) [] alive o roll steps old born = absurd steps
  events_bring knobs m (event ∷ events) (after ∷ states) alive o roll steps old born =
      let here : (pid : ℕ) → is_among (born_by event.entry.act) pid ≡ true → K pid =
      λ pid h. born pid (among_append (born_by event.entry.act) (born_in events) pid
      ∙ or_left (is_among (born_by event.entry.act) pid) (is_among (born_in events) pid) h) in
      let later : (pid : ℕ) → is_among (born_in events) pid ≡ true → K pid =
      λ pid h. born pid (among_append (born_by event.entry.act) (born_in events) pid
      ∙ or_right (is_among (born_by event.entry.act) pid) (is_among (born_in events) pid) h) in (
        act_brings knobs m event after alive o roll steps.0 old here,
        events_bring knobs after events states (roll_after alive event.entry.act)
            (step_in_order knobs m event after o steps.0) (roll_step alive knobs m event after o roll steps.0) steps.1
            (alive_after alive event.entry.act old here)
            later,
      )

  tasks_are : (tasks : List Task) → ((pid : ℕ) → is_among (map (λ (t : Task). t.pid) tasks) pid ≡ true → K pid)
      → AllByRecursion (λ (t : Task). K t.pid) tasks
  tasks_are [] h = tt
  tasks_are (t ∷ tasks) h = (
    h t.pid (or_left (nat_eq t.pid t.pid) (is_among (map (λ (t : Task). t.pid) tasks) t.pid) (eq-eqb t.pid t.pid refl)),
    tasks_are tasks (λ pid k. h pid
        (or_right (nat_eq t.pid pid) (is_among (map (λ (t : Task). t.pid) tasks) pid) k)),
  )

-- who is named at the start is among its tasks
named_among : (tasks : List Task) (pid : ℕ) → named tasks pid ≡ true
    → is_among (map (λ (t : Task). t.pid) tasks) pid ≡ true
named_among [] pid h = h
named_among (t ∷ tasks) pid h = go (nat_eq t.pid pid) h (named_among tasks pid)
  where
    go : (b : Bool) → is_some (cond b (Some t) (task_of tasks pid)) ≡ true
        → (named tasks pid ≡ true → is_among (map (λ (t : Task). t.pid) tasks) pid ≡ true)
        → (b || is_among (map (λ (t : Task). t.pid) tasks) pid) ≡ true
    go true h rest = refl
    go false h rest = rest h

-- a pid is of a task of the run
abbrev IsOfRun : List Task → List Claimed → ℕ → Type 0
IsOfRun tasks events pid = Contains (tasks_of_run tasks events) pid

pub tallies_of_tasks : TalliesOfTasks
tallies_of_tasks knobs start floors tasks events cpus pages r enough say =
    let run = pages_tell_run knobs start floors tasks events cpus pages r enough say in
    let brings = events_bring (IsOfRun tasks events) knobs (start_machine start floors tasks) events run.states
    (named tasks) (start_in_order start floors tasks r.is_start) (start_roll start floors tasks) run.steps
    (λ pid h. in_tasks pid (named_among tasks pid h))
    in_births in
    All-from_recursion (λ (tally : Tally). IsOfRun tasks events tally.pid) (tallies_below pages cpus)
    (below cpus (λ cpu k. page_of cpu k brings))
  where
    found : (pid : ℕ) → is_among (map (λ (t : Task). t.pid) tasks ++ born_in events) pid ≡ true
        → IsOfRun tasks events pid
    found pid h = among_at (tasks_of_run tasks events) pid
        (among_once (map (λ (t : Task). t.pid) tasks ++ born_in events) pid h)

    in_tasks : (pid : ℕ) → is_among (map (λ (t : Task). t.pid) tasks) pid ≡ true → IsOfRun tasks events pid
    in_tasks pid h = found pid (among_append (map (λ (t : Task). t.pid) tasks) (born_in events) pid
        ∙ or_left (is_among (map (λ (t : Task). t.pid) tasks) pid) (is_among (born_in events) pid) h)

    in_births : (pid : ℕ) → is_among (born_in events) pid ≡ true → IsOfRun tasks events pid
    in_births pid h = found pid (among_append (map (λ (t : Task). t.pid) tasks) (born_in events) pid
        ∙ or_right (is_among (map (λ (t : Task). t.pid) tasks) pid) (is_among (born_in events) pid) h)

    page_of : (cpu : ℕ) → cpu < cpus
        → AllByRecursion (λ (event : Claimed). Brings (IsOfRun tasks events) event.entry.act) events
        → ArePidsOf (IsOfRun tasks events) (pages cpu).tallies
    page_of cpu k brings =
        let e = page_end knobs start floors tasks events cpus pages r enough say cpu k in
        let K = IsOfRun tasks events in
        let first : ArePidsOf K e.first.page.tallies =
        subst (λ (page : PageView). ArePidsOf K page.tallies) (sym e.is_start.page)
        (of_start K cpu tasks (tasks_are K tasks in_tasks)) in
        subst (ArePidsOf K) (sym e.tallies)
        (replay_keeps (ArePidsOf K) (BringsHere K) (of_kept K) knobs cpu e.first (steps_at cpu events) e.last
        (steps_bring K cpu events brings) e.replay first)

    below : (n : ℕ) → ((cpu : ℕ) → cpu < n → ArePidsOf (IsOfRun tasks events) (pages cpu).tallies)
        → ArePidsOf (IsOfRun tasks events) (tallies_below pages n)
    below zero each = tt
    below (suc n) each = of_append (IsOfRun tasks events) (tallies_below pages n)
        (pages n).tallies (below n (λ cpu k. each cpu (omega arith))) (each n (omega arith))
