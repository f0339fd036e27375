-- What is told of each task of a record's run is what its waits are.
use Rattle.std.proofs.Common.{◌≡◌, ℕ, zero, suc, ◌+◌, ◌-◌, ◌<◌, ◌≤◌, inl, inr, Option, Some, None, IsSomeAnd, List, []}
use Rattle.std.proofs.Common.{◌∷◌, ◌++◌, map, drop, refl, sym, ap, ◌∙◌, subst, arith}
use Rattle.std.specs.Prelude.{slice_get, slice_index_or}
use Rattle.std.proofs.lemmas.Bool.{cases_lt}
use Rattle.cfs_model.specs.Claimed.{claimed, with_claim}
use Rattle.cfs_model.specs.Knobs.{KnobsView}
use Rattle.cfs_model.specs.Machine.{Machine}
use Rattle.cfs_model.specs.Order.{IsInOrder, IsStart}
use Rattle.cfs_model.specs.Run.{AreSteps, IsRun}
use Rattle.cfs_model.specs.Start.{task_of}
use Rattle.cfs_model.proofs.StartOrder.{start_in_order}
use Rattle.cfs_model.proofs.StepOrder.{apart_of, step_in_order}
use Rattle.cfs_model.specs.declared.act.Entry.{Entry}
use Rattle.cfs_model.specs.declared.charge_line.ChargeLine.{ChargeLine}
use Rattle.cfs_model.specs.declared.claim.Claim.{Claim}
use Rattle.cfs_model.specs.declared.nice_line.NiceLine.{NiceLine}
use Rattle.cfs_model.specs.declared.policy.Policy.{Policy}
use Rattle.cfs_model.specs.declared.task.Place.{Place}
use Rattle.cfs_model.specs.declared.task.Place.TheVariants.{Run, Wait as WaitPlace, Rest}
use Rattle.cfs_model.specs.declared.task.Task.{Task}
use Rattle.replay_model.proofs.StartFrom.{start_from}
use Rattle.sched_record.specs.Record.{RecordView, IsRecordInOrder, record_last_time}
use Rattle.sched_record.specs.RecordView.{policy_of}
use Rattle.waiting_times.specs.Moments.{edge, moment_at, moment_of, moments_of}
use Rattle.waiting_times.specs.Rows.{acted, along, at_start, fresh, row_along, standing_row, told_along, told_of}
use Rattle.waiting_times.specs.Waits.{AreStretches, AreWaitsOf, IsStretch, IsWaiting, IsWaitsOf, Stretch, WaitsIn}
use Rattle.waiting_times.specs.Waits.{first_state, said_events, told_by, wait_of}
use Rattle.waiting_times.specs.declared.moment.Moment.{Moment}
use Rattle.waiting_times.specs.declared.task_row.Stand.{Stand}
use Rattle.waiting_times.specs.declared.task_row.Stand.TheVariants.{Away, Runs, Waits}
use Rattle.waiting_times.specs.declared.task_row.TaskRow.{TaskRow}
use Rattle.waiting_times.specs.declared.task_waits.TaskWaits.{TaskWaits}
use Rattle.waiting_times.proofs.Following.{Follows, IsOpening, follows_end, follows_on}
use Rattle.waiting_times.proofs.Standing.{StandIs, running_waits_not}
use Rattle.waiting_times.proofs.Starting.{stand_found, start_is, start_stands}
use Rattle.waiting_times.proofs.Steps.{step_turned}
use Rattle.waiting_times.proofs.Stretches.{known_none}
use Rattle.waiting_times.proofs.Turning.{Turned, stand_to}

-- what is left of a list: its first, and what is left behind that
get_there : {X : Type 0} (xs : List X) (k : ℕ) (x : X) (ys : List X) → drop k xs ≡ x ∷ ys → slice_get xs k ≡ Some x
get_there [] zero x ys e = cc
get_there [] (suc k) x ys e = cc
get_there (y ∷ xs) zero x ys e = cc
get_there (y ∷ xs) (suc k) x ys e = get_there xs k x ys e

or_there : {X : Type 0} (xs : List X) (k : ℕ) (x d : X) (ys : List X) → drop k xs ≡ x ∷ ys
    → slice_index_or xs k d ≡ x
or_there [] zero x d ys e = cc
or_there [] (suc k) x d ys e = cc
or_there (y ∷ xs) zero x d ys e = cc
or_there (y ∷ xs) (suc k) x d ys e = or_there xs k x d ys e

drop_next : {X : Type 0} (xs : List X) (k : ℕ) (x : X) (ys : List X) → drop k xs ≡ x ∷ ys → drop (suc k) xs ≡ ys
drop_next [] zero x ys e = cc
drop_next [] (suc k) x ys e = cc
drop_next (y ∷ xs) zero x ys e = cc
drop_next (y ∷ xs) (suc k) x ys e = drop_next xs k x ys e

none_behind : {X : Type 0} (xs : List X) (n m : ℕ) → drop n xs ≡ [] → n ≤ m → slice_get xs m ≡ None
none_behind [] n m e le = refl
none_behind (x ∷ xs) zero m e le = cc
none_behind (x ∷ xs) (suc n) zero e le = absurd (omega arith)
none_behind (x ∷ xs) (suc n) (suc m) e le = none_behind xs n m e (omega arith)

module _ (knobs : KnobsView) (claims : List Claim) (nices : List NiceLine) (charges : List ChargeLine)
    (policy : Entry → Policy) (pid : ℕ) (states : List Machine) (moments : List Moment) (end : Moment) where
  abbrev pub holds : ℕ → Type 0
  holds = WaitsIn states pid

  abbrev pub IsToldOf : TaskRow → Type 0
  IsToldOf row = (stretches : List Stretch) × AreStretches holds stretches
      × (told_of end pid row ≡ told_by pid (map (wait_of moments) stretches))

  -- a state by its number
  state_up : (k : ℕ) (m : Machine) → slice_get states k ≡ Some m → IsWaiting pid m → holds k
  state_up k m e w = subst (λ o. IsSomeAnd o (IsWaiting pid)) (sym e) w

  state_down : (k : ℕ) (m : Machine) → slice_get states k ≡ Some m → holds k → IsWaiting pid m
  state_down k m e h = subst (λ o. IsSomeAnd o (IsWaiting pid)) e h

  none_past : (n m : ℕ) → drop n states ≡ [] → n ≤ m → holds m → ⊥
  none_past n m e le h = subst (λ o. IsSomeAnd o (IsWaiting pid)) (none_behind states n m e le) h

  bounded : (n : ℕ) → drop n states ≡ [] → (s : Stretch) → IsStretch holds s → s.to ≤ n
  bounded n e s h = let some = h.some in elim (cases_lt n s.to) [
    | inl past ↦ absurd (none_past n (s.to - 1) e (omega arith) (h.each (s.to - 1) (omega arith) (omega arith)))
    | inr within ↦ within
  ]

  pub walk : (entries : List Entry) (k : ℕ) (before : Machine) (afters : List Machine) (row : TaskRow)
      → IsInOrder before → AreSteps knobs before (claimed claims nices charges policy entries) afters
      → drop k states ≡ before ∷ afters → drop (suc k) moments ≡ map moment_of entries ++ end ∷ []
      → StandIs pid before row.stand → Follows holds moments k row → IsToldOf (along pid entries row)
  walk [] k before (m ∷ afters) row o steps e f stands follows = absurd steps
  walk [] k before [] row o steps e f stands follows =
      let past = drop_next states k before [] e in
      let is = or_there moments (suc k) end (edge 0) [] f in
      let told = follows_end holds moments k row follows pid (none_past (suc k) (suc k) past (omega arith))
      (bounded (suc k) past) in
      (told.0, told.1, subst (λ at. told_of at pid row ≡ told_by pid (map (wait_of moments) told.0)) is told.2)
  walk (entry ∷ entries) k before [] row o steps e f stands follows = absurd steps
  walk (entry ∷ entries) k before (m ∷ afters) row o steps e f stands follows =
      let event = with_claim claims nices charges policy entry in
      let now = acted pid entry row in
      let turned = step_turned (moment_of entry) knobs before event m o steps.0 pid row stands in
      let is = or_there moments (suc k) (moment_of entry) (edge 0) (map moment_of entries ++ end ∷ []) f in
      let here = get_there states k before (m ∷ afters) e in
      let past = drop_next states k before (m ∷ afters) e in
      let there = get_there states (suc k) m afters past in
      walk entries (suc k) m afters now (step_in_order knobs before event m o steps.0) steps.1 past
      (drop_next moments (suc k) (moment_of entry) (map moment_of entries ++ end ∷ []) f) turned.stand
      (follows_on holds moments k row follows pid before m now (state_up k before here) (state_down k before here)
      (state_up (suc k) m there) (state_down (suc k) m there)
      (subst (λ at. Turned at pid before m row now) (sym is) turned))

-- a task that waits at the start waits since the start
since_start : (start since : Moment) (o : Option Task) → stand_found start o Away ≡ Waits since → since ≡ start
since_start start since None e = cc
since_start start since (Some t) e = by_place t.place e
  where
    by_place : (place : Place) → stand_found start (Some (record t { place = place })) Away ≡ Waits since
        → since ≡ start
    by_place Run f = cc
    by_place WaitPlace f = cc
    by_place Rest f = cc

module _ (r : RecordView) (o : IsRecordInOrder r) (knobs : KnobsView)
    (run : IsRun knobs r.start (first_state r) (said_events r)) (pid : ℕ) where
  start : IsStart r.floors r.tasks
  start = start_from r.floors r.tasks o.companion.pids_rise o.companion.one_runs_a_cpu
      (λ k d h. (o.companion.tasks_in_limits k d h).v) o.companion.floors_in_limits

  abbrev states : List Machine
  states = first_state r ∷ run.states

  opening_start : (stand : Stand) → StandIs pid (first_state r) stand
      → ((since : Moment) → stand ≡ Waits since → since ≡ edge r.start)
      → IsOpening (WaitsIn states pid) (moments_of r) 0 stand
  opening_start Away s is = λ h. s.1 h.0 h.1
  opening_start Runs s is =
      running_waits_not (first_state r) (apart_of (first_state r) (start_in_order r.start r.floors r.tasks start)) pid
      s.0 s.1
  opening_start (Waits since) s is = (
    0,
    record {
      within = omega arith;
      each = λ n low high. let same : 0 ≡ n = omega arith in subst (WaitsIn states pid) same s;
      begins = λ n e. absurd (omega arith);
    },
    is since refl,
  )

  pub told_waits : IsWaitsOf r states pid (told_along r pid)
  told_waits =
      let stand = stand_found (edge r.start) (task_of r.tasks pid) Away in
      let row : TaskRow = at_start (edge r.start) r.tasks fresh pid in
      let is : row ≡ standing_row stand fresh = start_is (edge r.start) r.tasks start.pids_rise fresh pid in
      let stands = start_stands r.start r.floors r.tasks start.pids_rise pid (edge r.start) (task_of r.tasks pid)
      refl in
      let follows : Follows (WaitsIn states pid) (moments_of r) 0 row =
      subst (Follows (WaitsIn states pid) (moments_of r) 0) (sym is) (record {
        closed = [];
        known = known_none (WaitsIn states pid);
        numbers = record { times = refl; total = refl; longest = refl };
        opening = opening_start stand stands
            (λ since e. since_start (edge r.start) since (task_of r.tasks pid) e);
      }) in
      let told = walk knobs r.claims r.nices r.charges (policy_of r) pid states (moments_of r)
      (edge (record_last_time r)) r.events 0 (first_state r) run.states row
      (start_in_order r.start r.floors r.tasks start) run.steps refl refl
      (stand_to pid (first_state r) (standing_row stand fresh) row is stands) follows in
      record { stretches = told.0; are = told.1; is = told.2 }

-- the same of each pid
pub each_told : (r : RecordView) (all : List Machine)
    → ((pid : ℕ) → IsWaitsOf r all pid (told_along r pid)) → (pids : List ℕ)
    → AreWaitsOf r all pids (map (told_along r) pids)
each_told r all told [] = tt
each_told r all told (pid ∷ pids) = (told pid, each_told r all told pids)
