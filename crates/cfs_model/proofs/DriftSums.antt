-- How drifts change: a step changes the drift of the task that a charge is told of by what that strays from the exact
-- one, sets that of a task that comes to a processor to none, and leaves every other.
use Rattle.std.proofs.Common.{◌≡◌, ◌≢◌, ℕ, zero, suc, true, false, cond, Option, Some, None, ℤ, pos}
use Rattle.std.proofs.Common.{◌+ℤ◌, ◌-ℤ◌, ◌⊎◌, inl, inr, List, [], ◌∷◌, refl, sym, ap, ◌∙◌, subst, arith}
use Rattle.std.proofs.lemmas.Int.{ints}
use Rattle.std.proofs.lemmas.Bool.{eq-eqb, ne_eqb}
use Rattle.std.specs.List.{AllByRecursion}
use Rattle.std.specs.Option.{option_map_or}
use Rattle.cfs_model.specs.Knobs.{KnobsView}
use Rattle.cfs_model.specs.Machine.{Pairs, Machine, pairs_of, put, with_pairs, put_pair, without_task, with_move}
use Rattle.cfs_model.specs.Claimed.{Claimed}
use Rattle.cfs_model.specs.Touch.{touched}
use Rattle.cfs_model.specs.Told.{drift_after, IsWithin, ChargesAs}
use Rattle.cfs_model.specs.Lifted.{charged, charged_runtime, IsLiftedAt, IsLifted}
use Rattle.cfs_model.specs.Reniced.{home_of}
use Rattle.cfs_model.specs.Step.{after_prev, after_next, Changes, IsStep}
use Rattle.cfs_model.specs.Run.{AreSteps, last_of}
use Rattle.cfs_model.specs.ToldLaws.{stray_by, strayed, Brings, DriftsBeginAnew, DriftAddsUp, SumsAreWithin}
use Rattle.cfs_model.specs.ToldLaws.{AreDriftsWithin, DriftsAreWithin}
use Rattle.cfs_model.proofs.Moves.{put-same, put-other, same_or_not}
use Rattle.cfs_model.proofs.Renice.{reniced_is}
use Rattle.cfs_model.specs.declared.act.Act.{Act}
use Rattle.cfs_model.specs.declared.act.Act.TheVariants.{Switch, Wake, Born, Shift}
use Rattle.cfs_model.specs.declared.act.Way.{Way}
use Rattle.cfs_model.specs.declared.act.Way.TheVariants.{Stays, Sleeps, Ends}
use Rattle.cfs_model.specs.declared.charge_line.ChargeLine.{ChargeLine}
use Rattle.cfs_model.specs.declared.claim.Claim.{Claim}
use Rattle.cfs_model.specs.declared.task.Place.{Place}
use Rattle.cfs_model.specs.declared.task.Place.TheVariants.{Run, Wait, Rest}
use Rattle.cfs_model.specs.declared.policy.Policy.{Policy}

add_nothing : (d : ℤ) → d ≡ d +ℤ pos 0
add_nothing d = omega (arith, ints)

-- the exact value of a task that runs
exact_of : (m : Machine) (cpu time pid : ℕ) (v : ℤ) → m.running cpu pid ≡ true
    → (charged m cpu time).runtime pid ≡ Some v → charged_runtime m cpu time pid ≡ Some v
exact_of m cpu time pid v runs e =
    sym (ap (λ b. cond b (charged_runtime m cpu time pid) (m.runtime pid)) runs) ∙ e

-- a charge changes the drift by what it strays
told_drift : (bound time : ℕ) (charge : Option ChargeLine) (cpu : ℕ) (m told : Machine)
    → ChargesAs bound charge cpu m (charged m cpu time) told → (pid : ℕ)
    → told.drift pid ≡ m.drift pid +ℤ stray_by m cpu time charge pid
told_drift bound time None cpu m told c pid = ap (λ (x : Machine). x.drift pid) c ∙ add_nothing (m.drift pid)
told_drift bound time (Some charge) cpu m told c pid =
    ap (λ (x : Machine). x.drift pid) c.1 ∙ go (same_or_not pid charge.pid)
  where
    drift : ℤ
    drift = drift_after (m.drift charge.pid) charge.v c.0.exact

    strays : ℕ → ℤ
    strays p = option_map_or (λ exact. charge.v -ℤ exact) (charged_runtime m cpu time p) (pos 0)

    exactly : strays charge.pid ≡ charge.v -ℤ c.0.exact
    exactly = ap (λ o. option_map_or (λ exact. charge.v -ℤ exact) o (pos 0))
        (exact_of m cpu time charge.pid c.0.exact c.0.runs c.0.charged)

    go : (pid ≡ charge.pid) ⊎ (pid ≢ charge.pid)
        → put m.drift charge.pid drift pid ≡ m.drift pid +ℤ stray_by m cpu time (Some charge) pid
    go (inl e) =
        ap (put m.drift charge.pid drift) e ∙ put-same m.drift charge.pid drift
        ∙ ap (λ d. m.drift charge.pid +ℤ d) (sym exactly)
        ∙ ap (λ p. m.drift p +ℤ strays p) (sym e)
        ∙ ap (λ b. m.drift pid +ℤ cond b (strays pid) (pos 0)) (sym (eq-eqb charge.pid pid (sym e)))
    go (inr ne) =
        put-other m.drift charge.pid drift pid ne ∙ add_nothing (m.drift pid)
        ∙ ap (λ b. m.drift pid +ℤ cond b (strays pid) (pos 0)) (sym (ne_eqb charge.pid pid (λ e. ne (sym e))))

lifted_at_drift : (bound time : ℕ) (charge : Option ChargeLine) (cpu : ℕ) (m after : Machine)
    → IsLiftedAt bound time charge cpu m after → (pid : ℕ)
    → after.drift pid ≡ m.drift pid +ℤ stray_by m cpu time charge pid
lifted_at_drift bound time charge cpu m after l pid =
    ap (λ (x : Machine). x.drift pid) l.result ∙ told_drift bound time charge cpu m l.told l.charges pid

untold_drift : (bound time : ℕ) (cpus : List ℕ) (m after : Machine) → IsLifted bound time None cpus m after → (pid : ℕ)
    → after.drift pid ≡ m.drift pid
untold_drift bound time [] m after l pid = ap (λ (x : Machine). x.drift pid) l
untold_drift bound time (cpu ∷ cpus) m after l pid =
    untold_drift bound time cpus l.0 after l.2 pid ∙ lifted_at_drift bound time None cpu m l.0 l.1 pid
    ∙ sym (add_nothing (m.drift pid))

lifted_drift : (bound time : ℕ) (charge : Option ChargeLine) (act : Act) (m after : Machine)
    → IsLifted bound time charge (touched act) m after → (pid : ℕ)
    → after.drift pid ≡ m.drift pid +ℤ stray_by m (home_of act) time charge pid
lifted_drift bound time charge (Switch cpu prev prev_nice way next next_nice) m after l pid =
    untold_drift bound time [] l.0 after l.2 pid ∙ lifted_at_drift bound time charge cpu m l.0 l.1 pid
lifted_drift bound time charge (Wake cpu other nice) m after l pid =
    untold_drift bound time [] l.0 after l.2 pid ∙ lifted_at_drift bound time charge cpu m l.0 l.1 pid
lifted_drift bound time charge (Born cpu other nice) m after l pid =
    untold_drift bound time [] l.0 after l.2 pid ∙ lifted_at_drift bound time charge cpu m l.0 l.1 pid
lifted_drift bound time charge (Shift orig dest other nice) m after l pid =
    untold_drift bound time (dest ∷ []) l.0 after l.2 pid ∙ lifted_at_drift bound time charge orig m l.0 l.1 pid

pub drift-with_pairs : (m : Machine) (place : Place) (s : Pairs) → (with_pairs m place s).drift ≡ m.drift
drift-with_pairs m Run s = refl
drift-with_pairs m Wait s = refl
drift-with_pairs m Rest s = refl

pub drift-with_move : (m : Machine) (pid : ℕ) (from : Place) (orig : ℕ) (to : Place) (dest : ℕ)
    → (with_move m pid from orig to dest).drift ≡ m.drift
drift-with_move m pid from orig to dest =
    let left = without_task m from orig pid in
    drift-with_pairs left to (put_pair (pairs_of left to) dest pid true)
    ∙ drift-with_pairs m from (put_pair (pairs_of m from) orig pid false)

pub drift-after_prev : (m : Machine) (cpu prev : ℕ) (way : Way) → (after_prev m cpu prev way).drift ≡ m.drift
drift-after_prev m cpu zero way = refl
drift-after_prev m cpu (suc n) Stays = refl
drift-after_prev m cpu (suc n) Sleeps = refl
drift-after_prev m cpu (suc n) Ends = refl

pub drift-after_next : (m : Machine) (cpu next : ℕ) → (after_next m cpu next).drift ≡ m.drift
drift-after_next m cpu zero = refl
drift-after_next m cpu (suc n) = refl

-- an event brings a pid or not
brings_or_not : (act : Act) (pid : ℕ) → Brings act pid ⊎ (¬ Brings act pid)
brings_or_not (Switch cpu prev prev_nice way next next_nice) pid = inr (λ h. h)
brings_or_not (Wake cpu other nice) pid = inr (λ h. h)
brings_or_not (Born cpu other nice) pid = same_or_not other pid
brings_or_not (Shift orig dest other nice) pid = same_or_not other pid

-- an event's own change leaves the drifts of those that it doesn't bring
change_keeps : (knobs : KnobsView) (m : Machine) (act : Act) (claim : Option Claim) (policy : Policy) (after : Machine)
    → Changes knobs m act claim policy after → (pid : ℕ) → (¬ Brings act pid) → after.drift pid ≡ m.drift pid
change_keeps knobs m (Switch cpu prev prev_nice way next next_nice) claim policy after s pid stays =
    ap (λ (x : Machine). x.drift pid) s.result
    ∙ ap (λ f. f pid) (drift-after_next (after_prev m cpu prev way) cpu next ∙ drift-after_prev m cpu prev way)
change_keeps knobs m (Wake cpu other nice) claim policy after (inl s) pid stays =
    ap (λ (x : Machine). x.drift pid) s.result
change_keeps knobs m (Wake cpu other nice) claim policy after (inr s) pid stays =
    ap (λ (x : Machine). x.drift pid) s.result
change_keeps knobs m (Born cpu other nice) claim policy after s pid stays =
    ap (λ (x : Machine). x.drift pid) s.result ∙ put-other m.drift other (pos 0) pid (λ e. stays (sym e))
change_keeps knobs m (Shift orig dest other nice) claim policy after s pid stays =
    let moved = with_move m other s.place orig s.place dest in
    ap (λ (x : Machine). x.drift pid) s.result ∙ put-other moved.drift other (pos 0) pid (λ e. stays (sym e))
    ∙ ap (λ f. f pid) (drift-with_move m other s.place orig s.place dest)

-- and who is brought has none
change_brings : (knobs : KnobsView) (m : Machine) (act : Act) (claim : Option Claim) (policy : Policy) (after : Machine)
    → Changes knobs m act claim policy after → (pid : ℕ) → Brings act pid → after.drift pid ≡ pos 0
change_brings knobs m (Switch cpu prev prev_nice way next next_nice) claim policy after s pid brings = absurd brings
change_brings knobs m (Wake cpu other nice) claim policy after s pid brings = absurd brings
change_brings knobs m (Born cpu other nice) claim policy after s pid brings =
    ap (λ (x : Machine). x.drift pid) s.result ∙ ap (put m.drift other (pos 0)) (sym brings)
    ∙ put-same m.drift other (pos 0)
change_brings knobs m (Shift orig dest other nice) claim policy after s pid brings =
    let moved = with_move m other s.place orig s.place dest in
    ap (λ (x : Machine). x.drift pid) s.result ∙ ap (put moved.drift other (pos 0)) (sym brings)
    ∙ put-same moved.drift other (pos 0)

pub drifts_begin_anew : DriftsBeginAnew
drifts_begin_anew knobs before event after pid s brings =
    change_brings knobs s.found event.entry.act event.claim event.policy after s.changes pid brings

-- a change of a nice value changes no drift
found_drift : (knobs : KnobsView) (before : Machine) (event : Claimed) (after : Machine)
    → (s : IsStep knobs before event after) → (pid : ℕ) → s.found.drift pid ≡ s.lifted.drift pid
found_drift knobs before event after s pid =
    ap (λ (m : Machine). m.drift pid) (reniced_is (home_of event.entry.act) event.nice s.lifted s.found s.is_reniced)

-- over a step the drift of a task that isn't brought grows by what it strays
step_drift : (knobs : KnobsView) (before : Machine) (event : Claimed) (after : Machine) (pid : ℕ)
    → IsStep knobs before event after → (¬ Brings event.entry.act pid)
    → after.drift pid
    ≡ before.drift pid +ℤ stray_by before (home_of event.entry.act) event.entry.time event.charge pid
step_drift knobs before event after pid s stays =
    change_keeps knobs s.found event.entry.act event.claim event.policy after s.changes pid stays
    ∙ found_drift knobs before event after s pid
    ∙ lifted_drift knobs.drift event.entry.time event.charge event.entry.act before s.lifted s.is_lifted pid

along : (d s t : ℤ) → (d +ℤ s) +ℤ t ≡ d +ℤ (s +ℤ t)
along d s t = omega (arith, ints)

pub drift_adds_up : DriftAddsUp
drift_adds_up knobs first [] [] pid stays steps = add_nothing (first.drift pid)
drift_adds_up knobs first [] (m ∷ states) pid stays steps = absurd steps
drift_adds_up knobs first (event ∷ events) [] pid stays steps = absurd steps
drift_adds_up knobs first (event ∷ events) (m ∷ states) pid stays steps =
    drift_adds_up knobs m events states pid stays.1 steps.1
    ∙ ap (λ d. d +ℤ strayed m events states pid) (step_drift knobs first event m pid steps.0 stays.0)
    ∙ along (first.drift pid) (stray_by first (home_of event.entry.act) event.entry.time event.charge pid)
    (strayed m events states pid)

none_within : (bound : ℕ) → IsWithin bound (pos 0)
none_within bound = (omega (arith, ints), omega (arith, ints))

-- a charge keeps the drifts within its bound
told_within : (bound time : ℕ) (charge : Option ChargeLine) (cpu : ℕ) (m told : Machine)
    → ChargesAs bound charge cpu m (charged m cpu time) told → (pid : ℕ) → IsWithin bound (m.drift pid)
    → IsWithin bound (told.drift pid)
told_within bound time None cpu m told c pid h = subst (λ (x : Machine). IsWithin bound (x.drift pid)) (sym c) h
told_within bound time (Some charge) cpu m told c pid h =
    subst (λ (x : Machine). IsWithin bound (x.drift pid)) (sym c.1) (go (same_or_not pid charge.pid))
  where
    drift : ℤ
    drift = drift_after (m.drift charge.pid) charge.v c.0.exact

    go : (pid ≡ charge.pid) ⊎ (pid ≢ charge.pid) → IsWithin bound (put m.drift charge.pid drift pid)
    go (inl e) = subst (IsWithin bound) (sym (ap (put m.drift charge.pid drift) e ∙ put-same m.drift charge.pid drift))
        c.0.within
    go (inr ne) = subst (IsWithin bound) (sym (put-other m.drift charge.pid drift pid ne)) h

lifted_within : (bound time : ℕ) (charge : Option ChargeLine) (cpus : List ℕ) (m after : Machine)
    → IsLifted bound time charge cpus m after → (pid : ℕ) → IsWithin bound (m.drift pid)
    → IsWithin bound (after.drift pid)
lifted_within bound time charge [] m after l pid h = subst (λ (x : Machine). IsWithin bound (x.drift pid)) (sym l) h
lifted_within bound time charge (cpu ∷ cpus) m after l pid h =
    lifted_within bound time None cpus l.0 after l.2 pid
    (subst (λ (x : Machine). IsWithin bound (x.drift pid)) (sym l.1.result)
    (told_within bound time charge cpu m l.1.told l.1.charges pid h))

-- and so does a step
pub step_within : (knobs : KnobsView) (before : Machine) (event : Claimed) (after : Machine)
    → IsStep knobs before event after → (pid : ℕ) → IsWithin knobs.drift (before.drift pid)
    → IsWithin knobs.drift (after.drift pid)
step_within knobs before event after s pid h = elim (brings_or_not event.entry.act pid) [
  | inl brings ↦ subst (IsWithin knobs.drift) (sym (drifts_begin_anew knobs before event after pid s brings))
      (none_within knobs.drift)
  | inr stays ↦ subst (IsWithin knobs.drift)
      (sym (change_keeps knobs s.found event.entry.act event.claim event.policy after s.changes pid stays
      ∙ found_drift knobs before event after s pid))
      (lifted_within knobs.drift event.entry.time event.charge (touched event.entry.act) before s.lifted s.is_lifted pid
      h)
]

steps_within : (knobs : KnobsView) (first : Machine) (events : List Claimed) (states : List Machine)
    → AreSteps knobs first events states → AreDriftsWithin knobs.drift first
    → AllByRecursion (AreDriftsWithin knobs.drift) states
steps_within knobs first [] [] steps h = tt
steps_within knobs first [] (m ∷ states) steps h = absurd steps
steps_within knobs first (event ∷ events) [] steps h = absurd steps
steps_within knobs first (event ∷ events) (m ∷ states) steps h =
    let here : AreDriftsWithin knobs.drift m = λ pid. step_within knobs first event m steps.0 pid (h pid) in
    (here, steps_within knobs m events states steps.1 here)

pub drifts_are_within : DriftsAreWithin
drifts_are_within knobs start first events h run = steps_within knobs first events run.states run.steps h

-- of one pid, at the end
last_within : (knobs : KnobsView) (first : Machine) (events : List Claimed) (states : List Machine) (pid : ℕ)
    → AreSteps knobs first events states → IsWithin knobs.drift (first.drift pid)
    → IsWithin knobs.drift ((last_of first states).drift pid)
last_within knobs first [] [] pid steps h = h
last_within knobs first [] (m ∷ states) pid steps h = absurd steps
last_within knobs first (event ∷ events) [] pid steps h = absurd steps
last_within knobs first (event ∷ events) (m ∷ states) pid steps h =
    last_within knobs m events states pid steps.1 (step_within knobs first event m steps.0 pid h)

nothing_and : (s : ℤ) → pos 0 +ℤ s ≡ s
nothing_and s = omega (arith, ints)

pub sums_are_within : SumsAreWithin
sums_are_within knobs first events states pid stays steps none =
    subst (IsWithin knobs.drift)
    (drift_adds_up knobs first events states pid stays steps
    ∙ ap (λ d. d +ℤ strayed first events states pid) none ∙ nothing_and (strayed first events states pid))
    (last_within knobs first events states pid steps (subst (IsWithin knobs.drift) (sym none) (none_within
    knobs.drift)))
