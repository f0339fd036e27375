-- What a record keeps, its cut for a processor keeps: filters and maps leave the order, and the last event comes last.
use Rattle.std.proofs.Common.{◌≡◌, ℕ, ◌-◌, ◌<◌, ◌≤◌, List, [], ◌∷◌, length, get_or, true, eqb, Option, Some, refl}
use Rattle.std.proofs.Common.{sym, ap, ◌∙◌, subst, arith, inl, inr, ◌⊎◌}
use Rattle.std.specs.Prelude.{All, filter, ℤ, pos, slice_get, slice_index_or}
use Rattle.std.specs.List.{AllPairs}
use Rattle.std.specs.Option.{option_map_or}
use Rattle.std.proofs.lemmas.Bool.{cond_both, eqb-true, cases_order}
use Rattle.std.proofs.lemmas.List.{get_or_default}
use Rattle.std.proofs.lemmas.List.Elements.{All-map, All-filter, All-weaker, filter_passes}
use Rattle.std.proofs.lemmas.Option.{slice_get-get_or}
use Rattle.cfs_model.specs.Charge.{IsInRange}
use Rattle.cfs_model.specs.Claimed.{charge_at, claim_at, claimed, nice_at, with_claim}
use Rattle.replay_model.specs.Cut.{cut, last_line_after, last_time_of, steps_at, tasks_at, touches}
use Rattle.replay_model.specs.StepAt.{charge_for, claim_for, deed_at, nice_for, step_at}
use Rattle.cfs_model.specs.declared.act.Act.{Act}
use Rattle.cfs_model.specs.declared.act.Act.TheVariants as act
use Rattle.cfs_model.specs.declared.act.Entry.{Entry}
use Rattle.cfs_model.specs.declared.claim.Claim.{Claim}
use Rattle.cfs_model.specs.declared.nice_line.NiceLine.{NiceLine}
use Rattle.cfs_model.specs.declared.charge_line.ChargeLine.{ChargeLine}
use Rattle.replay_model.specs.declared.step.Deed.{Deed}
use Rattle.replay_model.specs.declared.step.Deed.TheVariants.{Switch, Wake, Born, Leave, Arrive}
use Rattle.replay_model.specs.declared.step.Step.{Step}
use Rattle.cfs_model.specs.declared.task.Place.TheVariants.{Run}
use Rattle.cfs_model.specs.declared.task.Task.{Task}
use Rattle.cfs_model.specs.Order.{RunApart}
use Rattle.companion_file.specs.Companion.{CompanionView}
use Rattle.companion_file.specs.Order.{IsClaimInLimits, IsNiceLineInLimits, IsTaskInLimits, IsChargeLineInLimits}
use Rattle.companion_file.specs.Order.{IsCompanionInOrder}
use Rattle.sched_record.specs.RecordView.{RecordView, policy_of}
use Rattle.sched_record.specs.Kept.{IsRecordInOrder, IsNamed, tasks_of}
use Rattle.processor_stream.specs.StreamKept.{IsStream, OwnsCharge, OwnsClaim, OwnsNice, tasks_of_deed}
use Rattle.sched_record.specs.Stream.{cut_of}
use Rattle.sched_record.proofs.Pairs.{pairs_map, pairs_filter, found_in}
use Rattle.cfs_model.specs.declared.policy.Policy.{Policy}

-- what holds of each event's step holds of the steps
all_steps : (P : Step → Type 0) (cpu : ℕ) (claims : List Claim) (nices : List NiceLine) (charges : List ChargeLine)
    (policy : Entry → Policy) (events : List Entry)
    → All (λ event. P (step_at cpu (with_claim claims nices charges policy event))) events
    → All P (steps_at cpu (claimed claims nices charges policy events))
all_steps P cpu claims nices charges policy events all =
    All-map P (step_at cpu) (filter (touches cpu) (claimed claims nices charges policy events))
    (All-filter (touches cpu) (λ c. P (step_at cpu c)) (claimed claims nices charges policy events)
    (All-map (λ c. P (step_at cpu c)) (with_claim claims nices charges policy) events all))

pairs_steps : (R : Step → Step → Type 0) (cpu : ℕ) (claims : List Claim) (nices : List NiceLine) (charges : List
    ChargeLine)
    (policy : Entry → Policy) (events : List Entry)
    → AllPairs (λ a b. R (step_at cpu (with_claim claims nices charges policy a))
    (step_at cpu (with_claim claims nices charges policy b))) events
    → AllPairs R (steps_at cpu (claimed claims nices charges policy events))
pairs_steps R cpu claims nices charges policy events pairs =
    pairs_map R (step_at cpu) (filter (touches cpu) (claimed claims nices charges policy events))
    (pairs_filter (λ a b. R (step_at cpu a) (step_at cpu b)) (touches cpu) (claimed claims nices charges policy events)
    (pairs_map (λ a b. R (step_at cpu a) (step_at cpu b)) (with_claim claims nices charges policy) events pairs))

-- the last event's number, of those that rise or stay, is the greatest
greatest_last : (f : Entry → ℕ) (event : Entry) (events : List Entry) → AllPairs (λ a b. f a ≤ f b) (event ∷ events)
    → All (λ e. f e ≤ f (get_or (event ∷ events) (length events) event)) (event ∷ events)
greatest_last f event events pairs k d h = go (cases_order k (length events))
  where
    go : (k ≡ length events) ⊎ ((k < length events) ⊎ (length events < k))
        → f (get_or (event ∷ events) k d) ≤ f (get_or (event ∷ events) (length events) event)
    go (inl same) =
        let here = ap (λ n. f (get_or (event ∷ events) n d)) same in
        let default = ap f (get_or_default (event ∷ events) (length events) d event (omega arith)) in
        omega (arith, here, default)
    go (inr (inl before)) =
        let le = pairs k (length events) d before (omega arith) in
        let default = ap f (get_or_default (event ∷ events) (length events) d event (omega arith)) in
        omega (arith, le, default)
    go (inr (inr behind)) = absurd (omega arith)

last_time_is : (start : ℕ) (claims : List Claim) (nices : List NiceLine) (charges : List ChargeLine)
    (policy : Entry → Policy) (event : Entry) (events : List Entry)
    → last_time_of start (claimed claims nices charges policy (event ∷ events))
    ≡ (get_or (event ∷ events) (length events)
    event).time
last_time_is start claims nices charges policy event [] = refl
last_time_is start claims nices charges policy event (next ∷ events) =
    last_time_is event.time claims nices charges policy next events
    ∙ ap (λ (e : Entry). e.time) (get_or_default (next ∷ events) (length events) next event (omega arith))

last_line_is : (line : ℕ) (claims : List Claim) (nices : List NiceLine) (charges : List ChargeLine)
    (policy : Entry → Policy) (event : Entry) (events : List Entry)
    → last_line_after line (claimed claims nices charges policy (event ∷ events))
    ≡ (get_or (event ∷ events) (length events)
    event).line
last_line_is line claims nices charges policy event [] = refl
last_line_is line claims nices charges policy event (next ∷ events) =
    last_line_is event.line claims nices charges policy next events
    ∙ ap (λ (e : Entry). e.line) (get_or_default (next ∷ events) (length events) next event (omega arith))

-- the tasks that stand at a processor
tasks_here : (cpu : ℕ) (tasks : List Task) → All (λ task. task.cpu ≡ cpu) (tasks_at cpu tasks)
tasks_here cpu tasks =
    All-weaker (λ task. eqb task.cpu cpu ≡ true) (λ task. task.cpu ≡ cpu) (λ task e. eqb-true task.cpu cpu e)
    (tasks_at cpu tasks) (filter_passes (λ task. eqb task.cpu cpu) tasks)

one_runs : (cpu : ℕ) (tasks : List Task) → AllPairs RunApart tasks
    → AllPairs (λ t u. t.place ≡ Run → u.place ≡ Run → ⊥) (tasks_at cpu tasks)
one_runs cpu tasks apart i j d lt h runs runs' =
    let first = tasks_here cpu tasks i d (omega arith) in
    let second = tasks_here cpu tasks j d h in
    pairs_filter RunApart (λ (task : Task). eqb task.cpu cpu) tasks apart i j d lt h runs runs' (first ∙ sym second)

-- who is woken, born or migrated is in the deed
deed_named : (cpu : ℕ) (policy : Policy) (act : Act) → All (λ pid. 0 < pid) (tasks_of act)
    → All (λ pid. 0 < pid) (tasks_of_deed (deed_at cpu policy act))
deed_named cpu policy (act.Switch here prev prev_nice way next next_nice) named = named
deed_named cpu policy (act.Wake here pid nice) named = named
deed_named cpu policy (act.Born here pid nice) named = named
deed_named cpu policy (act.Shift orig dest pid nice) named =
    cond_both (eqb orig cpu) (Leave pid nice dest) (Arrive pid nice orig policy)
    (λ deed. All (λ pid. 0 < pid) (tasks_of_deed deed)) (λ _. named) (λ _. named)

-- a step's claim is the one on its line
claim_is : (deed : Deed) (found : Option Claim) (claim : Claim) → claim_for deed found ≡ Some claim → found ≡ Some claim
claim_is (Switch prev prev_nice way next next_nice) found claim e = e
claim_is (Wake pid nice) found claim e = e
claim_is (Born pid nice policy) found claim e = e
claim_is (Leave pid nice dest) found claim e = absurd cc
claim_is (Arrive pid nice orig policy) found claim e = e

owned : (cpu : ℕ) (claims : List Claim) (nices : List NiceLine) (charges : List ChargeLine)
    (policy : Entry → Policy) (event : Entry)
    → All IsClaimInLimits claims → (claim : Claim)
    → (step_at cpu (with_claim claims nices charges policy event)).claim ≡ Some claim
    → OwnsClaim (step_at cpu (with_claim claims nices charges policy event)) claim
owned cpu claims nices charges policy event limits claim e =
    let found = found_in IsClaimInLimits (λ (c : Claim). eqb c.line event.line) claims claim limits
    (claim_is (deed_at cpu (policy event) event.act) (claim_at claims event.line) claim e) in
    record { line = eqb-true claim.line event.line found.0; in_range = found.1.v }

-- a step's change of a nice value is the one on its line
change_found : (deed : Deed) (found : Option NiceLine) (change : NiceLine) → nice_for deed found ≡ Some change
    → found ≡ Some change
change_found (Switch prev prev_nice way next next_nice) found change e = e
change_found (Wake pid nice) found change e = e
change_found (Born pid nice policy) found change e = e
change_found (Leave pid nice dest) found change e = e
change_found (Arrive pid nice orig policy) found change e = absurd cc

owned_nice : (cpu : ℕ) (claims : List Claim) (nices : List NiceLine) (charges : List ChargeLine)
    (policy : Entry → Policy) (event : Entry)
    → All IsNiceLineInLimits nices → (change : NiceLine)
    → (step_at cpu (with_claim claims nices charges policy event)).nice ≡ Some change
    → OwnsNice (step_at cpu (with_claim claims nices charges policy event)) change
owned_nice cpu claims nices charges policy event limits change e =
    let found = found_in IsNiceLineInLimits (λ (n : NiceLine). eqb n.line event.line) nices change limits
    (change_found (deed_at cpu (policy event) event.act) (nice_at nices event.line) change e) in
    record { line = eqb-true change.line event.line found.0; in_range = found.1.nice }

-- a step's told charge is the one on its line
charge_found : (deed : Deed) (found : Option ChargeLine) (charge : ChargeLine) → charge_for deed found ≡ Some charge
    → found ≡ Some charge
charge_found (Switch prev prev_nice way next next_nice) found charge e = e
charge_found (Wake pid nice) found charge e = e
charge_found (Born pid nice idle) found charge e = e
charge_found (Leave pid nice dest) found charge e = e
charge_found (Arrive pid nice orig idle) found charge e = absurd cc

owned_charge : (cpu : ℕ) (claims : List Claim) (nices : List NiceLine) (charges : List ChargeLine)
    (policy : Entry → Policy) (event : Entry)
    → All IsChargeLineInLimits charges → (charge : ChargeLine)
    → (step_at cpu (with_claim claims nices charges policy event)).charge ≡ Some charge
    → OwnsCharge (step_at cpu (with_claim claims nices charges policy event)) charge
owned_charge cpu claims nices charges policy event limits charge e =
    let found = found_in IsChargeLineInLimits (λ (t : ChargeLine). eqb t.line event.line) charges charge limits
    (charge_found (deed_at cpu (policy event) event.act) (charge_at charges event.line) charge e) in
    record { line = eqb-true charge.line event.line found.0; in_range = found.1.v }

-- no event is behind the last
within_line : (claims : List Claim) (nices : List NiceLine) (charges : List ChargeLine)
    (policy : Entry → Policy) (events : List Entry)
    → AllPairs (λ a b. a.line < b.line) events
    → All (λ event. event.line ≤ last_line_after 0 (claimed claims nices charges policy events)) events
within_line claims nices charges policy [] rise = λ k d h. absurd (omega arith)
within_line claims nices charges policy (event ∷ events) rise =
    subst (λ n. All (λ e. e.line ≤ n) (event ∷ events)) (sym (last_line_is 0 claims nices charges policy event events))
    (greatest_last (λ (e : Entry). e.line) event events (λ i j d lt h. let below = rise i j d lt h in
    omega (arith, below)))

within_time : (start : ℕ) (claims : List Claim) (nices : List NiceLine) (charges : List ChargeLine)
    (policy : Entry → Policy) (events : List Entry)
    → AllPairs (λ a b. a.time ≤ b.time) events
    → All (λ event. event.time ≤ last_time_of start (claimed claims nices charges policy events)) events
within_time start claims nices charges policy [] in_time = λ k d h. absurd (omega arith)
within_time start claims nices charges policy (event ∷ events) in_time =
    subst (λ n. All (λ e. e.time ≤ n) (event ∷ events)) (sym (last_time_is start claims nices charges policy event
    events))
    (greatest_last (λ (e : Entry). e.time) event events in_time)

pub stream_of_record : (r : RecordView) (cpu : ℕ) → IsRecordInOrder r → cpu < r.cpus → IsStream (cut_of r cpu)
stream_of_record r cpu order below =
    let limits = order.companion in
    let has_floor : cpu < length r.floors = let each = limits.floor_for_each_cpu in omega (arith, each, below) in
    let named = order.events.named in
    record {
      here = tasks_here cpu r.tasks;
      runtimes = All-filter (λ task. eqb task.cpu cpu) (λ task. IsInRange task.v) r.tasks
          (All-weaker (IsTaskInLimits r.cpus) (λ task. IsInRange task.v) (λ task ok. ok.v) r.tasks
          limits.tasks_in_limits);
      pids_rise = pairs_filter (λ t u. t.pid < u.pid) (λ (task : Task). eqb task.cpu cpu) r.tasks limits.pids_rise;
      one_runs = one_runs cpu r.tasks limits.one_runs_a_cpu;
      floor = limits.floors_in_limits cpu (pos 0) has_floor;
      lines_rise = pairs_steps (λ a b. a.line < b.line) cpu r.claims r.nices r.charges (policy_of r) r.events
          order.events.lines_rise;
      lines_within = all_steps (λ step. step.line ≤ last_line_after 0 (claimed r.claims r.nices r.charges (policy_of
          r) r.events))
          cpu r.claims r.nices r.charges (policy_of r) r.events
          (within_line r.claims r.nices r.charges (policy_of r) r.events order.events.lines_rise);
      never_falls = pairs_steps (λ a b. a.time ≤ b.time) cpu r.claims r.nices r.charges (policy_of r) r.events
          order.events.never_falls;
      times_within = all_steps (λ step. (r.start ≤ step.time)
          × (step.time ≤ last_time_of r.start (claimed r.claims r.nices r.charges (policy_of r) r.events))) cpu r.claims
          r.nices r.charges (policy_of r) r.events
          (λ k d h. (
            order.started k d h,
            within_time r.start r.claims r.nices r.charges (policy_of r) r.events
                order.events.never_falls k d h,
          ));
      no_idle = all_steps (λ step. All (λ pid. 0 < pid) (tasks_of_deed step.deed)) cpu r.claims r.nices r.charges
          (policy_of r) r.events
          (All-weaker (λ event. IsNamed event.act) (λ event. All (λ pid. 0 < pid)
          (tasks_of_deed (deed_at cpu (policy_of r event) event.act)))
          (λ event ok. deed_named cpu (policy_of r event) event.act ok.no_idle) r.events named);
      claims = all_steps (λ step. (claim : Claim) → step.claim ≡ Some claim
          → OwnsClaim step claim) cpu r.claims r.nices r.charges (policy_of r) r.events
          (λ k d h. owned cpu r.claims r.nices r.charges (policy_of r) (get_or r.events k d) limits.claims_in_limits);
      nices = all_steps (λ step. (change : NiceLine) → step.nice ≡ Some change
          → OwnsNice step change) cpu r.claims r.nices r.charges (policy_of r) r.events
          (λ k d h. owned_nice cpu r.claims r.nices r.charges (policy_of r) (get_or r.events k d)
          limits.nices_in_limits);
      charges = all_steps (λ step. (charge : ChargeLine) → step.charge ≡ Some charge
          → OwnsCharge step charge) cpu r.claims r.nices r.charges (policy_of r) r.events
          (λ k d h. owned_charge cpu r.claims r.nices r.charges (policy_of r) (get_or r.events k d)
          limits.charges_in_limits);
    }

-- what a start state keeps, its cut for a processor keeps
pub stream_of_start : (c : CompanionView) (cpu : ℕ) → IsCompanionInOrder c → cpu < c.cpus
    → IsStream (cut c.start c.floors c.tasks [] cpu)
stream_of_start c cpu limits below =
    let has_floor : cpu < length c.floors = let each = limits.floor_for_each_cpu in omega (arith, each, below) in
    record {
      here = tasks_here cpu c.tasks;
      runtimes = All-filter (λ task. eqb task.cpu cpu) (λ task. IsInRange task.v) c.tasks
          (All-weaker (IsTaskInLimits c.cpus) (λ task. IsInRange task.v) (λ task ok. ok.v) c.tasks
          limits.tasks_in_limits);
      pids_rise = pairs_filter (λ t u. t.pid < u.pid) (λ (task : Task). eqb task.cpu cpu) c.tasks limits.pids_rise;
      one_runs = one_runs cpu c.tasks limits.one_runs_a_cpu;
      floor = limits.floors_in_limits cpu (pos 0) has_floor;
      lines_rise = λ i j d lt h. absurd (omega arith);
      lines_within = λ k d h. absurd (omega arith);
      never_falls = λ i j d lt h. absurd (omega arith);
      times_within = λ k d h. absurd (omega arith);
      no_idle = λ k d h. absurd (omega arith);
      claims = λ k d h. absurd (omega arith);
      nices = λ k d h. absurd (omega arith);
      charges = λ k d h. absurd (omega arith);
    }

-- that cut, part by part
pub start_cut_is : (of : CompanionView) (cpu : ℕ) (tasks all_tasks : List Task) (floor : ℤ) (floors : List ℤ)
    (start last_time : ℕ) (none steps : List Step)
    → all_tasks ≡ of.tasks → tasks ≡ tasks_at cpu all_tasks → floors ≡ of.floors
    → floor ≡ slice_index_or floors cpu (pos 0) → start ≡ of.start → last_time ≡ of.start → none ≡ [] → steps ≡ none
    → record {
      cpu = cpu;
      tasks = tasks;
      floor = floor;
      start = start;
      steps = steps;
      last_time = last_time;
      last_line = 0;
    } ≡ cut of.start of.floors of.tasks [] cpu
start_cut_is of cpu tasks all_tasks floor floors start last_time none steps a b c d e h i j =
    parts (b ∙ ap (tasks_at cpu) a) (d ∙ ap (λ fs. slice_index_or fs cpu (pos 0)) c) e h (j ∙ i)
  where
    parts : tasks ≡ tasks_at cpu of.tasks → floor ≡ slice_index_or of.floors cpu (pos 0) → start ≡ of.start
        → last_time ≡ of.start → steps ≡ []
        → record {
          cpu = cpu;
          tasks = tasks;
          floor = floor;
          start = start;
          steps = steps;
          last_time = last_time;
          last_line = 0;
        } ≡ cut of.start of.floors of.tasks [] cpu
    parts t l s p u = cc

-- the reader's words for the last event
pub same_last_time : (start : ℕ) (claims : List Claim) (nices : List NiceLine) (charges : List ChargeLine)
    (policy : Entry → Policy) (events : List Entry)
    → option_map_or (λ event. event.time) (slice_get events (length events - 1)) start ≡ last_time_of start
    (claimed claims nices charges policy events)
same_last_time start claims nices charges policy [] = refl
same_last_time start claims nices charges policy (event ∷ events) =
    ap (λ found. option_map_or (λ (e : Entry). e.time) found start)
    (slice_get-get_or (event ∷ events) (length (event ∷ events) - 1) event (omega arith))
    ∙ ap (λ n. (get_or (event ∷ events) n event).time) (omega arith)
    ∙ sym (last_time_is start claims nices charges policy event events)

pub same_last_line : (claims : List Claim) (nices : List NiceLine) (charges : List ChargeLine)
    (policy : Entry → Policy) (events : List Entry)
    → option_map_or (λ event. event.line) (slice_get events (length events - 1)) 0 ≡ last_line_after 0
    (claimed claims nices charges policy events)
same_last_line claims nices charges policy [] = refl
same_last_line claims nices charges policy (event ∷ events) =
    ap (λ found. option_map_or (λ (e : Entry). e.line) found 0)
    (slice_get-get_or (event ∷ events) (length (event ∷ events) - 1) event (omega arith))
    ∙ ap (λ n. (get_or (event ∷ events) n event).line) (omega arith)
    ∙ sym (last_line_is 0 claims nices charges policy event events)

-- a cut, part by part, each from a part of the record that was read
pub cut_is : (r : RecordView) (cpu : ℕ) (tasks all_tasks : List Task) (floor : ℤ) (floors : List ℤ) (start : ℕ)
    (steps : List Step) (last_time last_line : ℕ)
    → all_tasks ≡ r.tasks → tasks ≡ tasks_at cpu all_tasks → floors ≡ r.floors
    → floor ≡ slice_index_or floors cpu (pos 0) → start ≡ r.start
    → steps ≡ steps_at cpu (claimed r.claims r.nices r.charges (policy_of r) r.events)
    → last_time ≡ option_map_or (λ event. event.time) (slice_get r.events (length r.events - 1)) r.start
    → last_line ≡ option_map_or (λ event. event.line) (slice_get r.events (length r.events - 1)) 0
    → record {
      cpu = cpu;
      tasks = tasks;
      floor = floor;
      start = start;
      steps = steps;
      last_time = last_time;
      last_line = last_line;
    } ≡ cut_of r cpu
cut_is r cpu tasks all_tasks floor floors start steps last_time last_line a b c d e h i j =
    let tasks_are : tasks ≡ tasks_at cpu r.tasks = b ∙ ap (tasks_at cpu) a in
    let floor_is : floor ≡ slice_index_or r.floors cpu (pos 0) = d ∙ ap (λ fs. slice_index_or fs cpu (pos 0)) c in
    let time_is : last_time ≡ last_time_of r.start (claimed r.claims r.nices r.charges (policy_of r) r.events) = i
    ∙ same_last_time r.start r.claims r.nices r.charges (policy_of r) r.events in
    let line_is : last_line ≡ last_line_after 0 (claimed r.claims r.nices r.charges (policy_of r) r.events) = j
    ∙ same_last_line r.claims r.nices r.charges (policy_of r) r.events in
    parts tasks_are floor_is e h time_is line_is
  where
    parts : tasks ≡ tasks_at cpu r.tasks → floor ≡ slice_index_or r.floors cpu (pos 0) → start ≡ r.start
        → steps ≡ steps_at cpu (claimed r.claims r.nices r.charges (policy_of r) r.events)
        → last_time ≡ last_time_of r.start (claimed r.claims r.nices r.charges (policy_of r) r.events)
        → last_line ≡ last_line_after 0 (claimed r.claims r.nices r.charges (policy_of r) r.events)
        → record {
          cpu = cpu;
          tasks = tasks;
          floor = floor;
          start = start;
          steps = steps;
          last_time = last_time;
          last_line = last_line;
        } ≡ cut_of r cpu
    parts t l s p u v = cc
