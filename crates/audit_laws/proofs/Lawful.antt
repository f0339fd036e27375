-- Each step of a run from a start in order is lawful.
use Rattle.std.proofs.Common.{◌≡◌, ◌≢◌, ℕ, suc, zero, ◌-◌, ◌*◌, ◌/◌, Bool, true, false, if◌then◌else◌, IsTrue}
use Rattle.std.proofs.Common.{Option, Some, None, ℤ, pos, ◌+ℤ◌, ◌≤ℤ◌, List, [], ◌∷◌, inl, inr, refl, sym, ap, ◌∙◌}
use Rattle.std.proofs.Common.{subst}
use Rattle.std.specs.Prelude.{⊤}
use Rattle.std.proofs.lemmas.Bool.{false≢true}
use Rattle.cfs_model.proofs.Moves.{pair_cases, put-other, put-same}
use Rattle.cfs_model.proofs.ToldCharge.{untold_is}
use Rattle.cfs_model.specs.Claimed.{Claimed}
use Rattle.cfs_model.specs.Laws.{StartInOrder, StepKeepsOrder}
use Rattle.cfs_model.specs.Lifted.{IsLifted, IsLiftedAt, charged, charged_runtime, cost_at}
use Rattle.cfs_model.specs.Machine.{Machine, Stands, put_pair, with_drift, with_floor, with_runtime}
use Rattle.cfs_model.specs.Nice.{task_weight}
use Rattle.cfs_model.specs.Order.{IsInOrder}
use Rattle.cfs_model.specs.Run.{AreSteps}
use Rattle.cfs_model.specs.Knobs.{KnobsView}
use Rattle.cfs_model.specs.Start.{start_machine}
use Rattle.cfs_model.specs.Step.{Changes, IsStep, after_prev}
use Rattle.cfs_model.specs.Told.{IsWithin, drift_after}
use Rattle.cfs_model.specs.Touch.{touched}
use Rattle.cfs_model.specs.declared.act.Act.{Act}
use Rattle.cfs_model.specs.declared.act.Act.TheVariants.{Switch, Wake, Born, Shift}
use Rattle.cfs_model.specs.declared.charge_line.ChargeLine.{ChargeLine}
use Rattle.cfs_model.specs.declared.claim.Claim.{Claim}
use Rattle.cfs_model.specs.declared.task.Place.TheVariants.{Run, Wait}
use Rattle.ticket_book.specs.SaidEvents.{events_of}
use Rattle.audit_laws.specs.LawsOfAYes.{AreLawful, IsAmong, IsChargedAs, IsLawful, IsOrderly, IsPickedWithin}
use Rattle.audit_laws.specs.LawsOfAYes.{IsToldOf, TextsStartOrderly, YesIsLawful}
use Rattle.audit_laws.proofs.Starts.{start_of_texts}
use Rattle.cfs_model.specs.declared.policy.Policy.{Policy}

pub orderly_of : (m : Machine) → IsInOrder m → IsOrderly m
orderly_of m o = record {
  one_processor = λ pid cpu other a b. (o.one_place pid Run Run cpu other a b).1;
  one_queue = λ pid cpu other a b. (o.one_place pid Wait Wait cpu other a b).1;
  not_both = λ pid cpu other a b. (let same = (o.one_place pid Run Wait cpu other a b).0 in cc);
  one_runs = o.one_runs;
}

-- a choice that is settled
if_so : {A : Type 0} (b : Bool) (x y : A) → IsTrue b → (if b then x else y) ≡ x
if_so true x y h = refl
if_so false x y h = absurd (false≢true h)

if_not : {A : Type 0} (b : Bool) (x y : A) → ¬ IsTrue b → (if b then x else y) ≡ y
if_not true x y h = absurd (h refl)
if_not false x y h = refl

-- what who runs has behind a charge
charged_is : (m : Machine) (cpu time pid : ℕ) (nice v : ℤ) → m.nice pid ≡ Some nice → m.runtime pid ≡ Some v
    → charged_runtime m cpu time pid ≡ Some (v +ℤ pos (cost_at m cpu time nice (m.policy pid)))
charged_is m cpu time pid nice v e f = rw (e, f) refl

-- the processors differ
abbrev AreApart : List ℕ → Type 0
AreApart [] = ⊤
AreApart (cpu ∷ cpus) = (¬ IsAmong cpu cpus) × AreApart cpus

-- the machine behind the first of some lifts
abbrev first_lift : ℕ → ℕ → Machine → ℤ → Machine
first_lift time cpu before floor = with_floor (charged before cpu time) cpu floor

-- where nothing is told, who runs at none of the processors stays
untold_stay : (bound time : ℕ) (cpus : List ℕ) (before after : Machine) → IsLifted bound time None cpus before after
    → (pid : ℕ) → ((cpu : ℕ) → IsAmong cpu cpus → ¬ Stands before Run cpu pid)
    → after.runtime pid ≡ before.runtime pid
untold_stay bound time [] before after l pid none = ap (λ (m : Machine). m.runtime pid) l
untold_stay bound time (one ∷ cpus) before after l pid none =
    let rest = subst (λ b. IsLifted bound time None cpus b after) (untold_is bound time one before l.0 l.1) l.2 in
    untold_stay bound time cpus (first_lift time one before l.1.floor) after rest pid (λ cpu h. none cpu (inr h))
    ∙ if_not (before.running one pid) (charged_runtime before one time pid) (before.runtime pid) (none one (inl refl))

-- and nobody's drift changes
untold_drift : (bound time : ℕ) (cpus : List ℕ) (before after : Machine) → IsLifted bound time None cpus before after
    → (pid : ℕ) → after.drift pid ≡ before.drift pid
untold_drift bound time [] before after l pid = ap (λ (m : Machine). m.drift pid) l
untold_drift bound time (one ∷ cpus) before after l pid =
    let rest = subst (λ b. IsLifted bound time None cpus b after) (untold_is bound time one before l.0 l.1) l.2 in
    untold_drift bound time cpus (first_lift time one before l.1.floor) after rest pid

-- the machine behind the first of some lifts, where a charge is told
abbrev told_lift : ℕ → ℕ → ChargeLine → ℤ → Machine → ℤ → Machine
told_lift time cpu line exact before floor =
    with_floor (with_drift (with_runtime (charged before cpu time) line.pid line.v) line.pid
    (drift_after (before.drift line.pid) line.v exact)) cpu floor

told_lift_is : (bound time cpu : ℕ) (line : ChargeLine) (before after : Machine)
    (l : IsLiftedAt bound time (Some line) cpu before after)
    → after ≡ told_lift time cpu line l.charges.0.exact before l.floor
told_lift_is bound time cpu line before after l = l.result ∙ ap (λ m. with_floor m cpu l.floor) l.charges.1

others_stay : (bound time : ℕ) (charge : Option ChargeLine) (cpus : List ℕ) (before after : Machine)
    → IsLifted bound time charge cpus before after → (pid : ℕ)
    → ((cpu : ℕ) → IsAmong cpu cpus → ¬ Stands before Run cpu pid) → after.runtime pid ≡ before.runtime pid
others_stay bound time None cpus before after l pid none = untold_stay bound time cpus before after l pid none
others_stay bound time (Some line) [] before after l pid none = ap (λ (m : Machine). m.runtime pid) l
others_stay bound time (Some line) (one ∷ cpus) before after l pid none =
    let exact = l.1.charges.0.exact in
    let rest = subst (λ b. IsLifted bound time None cpus b after) (told_lift_is bound time one line before l.0 l.1) l.2
    in
    let other : pid ≢ line.pid =
    (λ e. none one (inl refl) (subst (λ p. Stands before Run one p) (sym e) l.1.charges.0.runs)) in
    untold_stay bound time cpus (told_lift time one line exact before l.1.floor) after rest pid
    (λ cpu h. none cpu (inr h))
    ∙ put-other (charged before one time).runtime line.pid (Some line.v) pid other
    ∙ if_not (before.running one pid) (charged_runtime before one time pid) (before.runtime pid) (none one (inl refl))

-- a task runs on one processor alone
abbrev RunsOnce : Machine → Type 0
RunsOnce m = (pid cpu other : ℕ) → Stands m Run cpu pid → Stands m Run other pid → cpu ≡ other

untold_quotients : (bound time : ℕ) (cpus : List ℕ) (before after : Machine) → AreApart cpus → RunsOnce before
    → IsLifted bound time None cpus before after → (cpu pid : ℕ) (nice v : ℤ) → IsAmong cpu cpus
    → Stands before Run cpu pid
    → before.nice pid ≡ Some nice → before.runtime pid ≡ Some v
    → after.runtime pid ≡ Some (v +ℤ pos ((time - before.mark cpu) * 1024 / task_weight nice (before.policy pid)))
untold_quotients bound time [] before after apart once l cpu pid nice v among runs e f = absurd among
untold_quotients bound time (one ∷ cpus) before after apart once l cpu pid nice v (inl same) runs e f =
    let rest = subst (λ b. IsLifted bound time None cpus b after) (untold_is bound time one before l.0 l.1) l.2 in
    let here : Stands before Run one pid = subst (λ n. Stands before Run n pid) same runs in
    let charge : after.runtime pid ≡ Some (v +ℤ pos (cost_at before one time nice (before.policy pid))) =
    untold_stay bound time cpus (first_lift time one before l.1.floor) after rest pid
    (λ other h at. apart.0 (subst (λ n. IsAmong n cpus) (once pid other one at here) h))
    ∙ if_so (before.running one pid) (charged_runtime before one time pid) (before.runtime pid) here
    ∙ charged_is before one time pid nice v e f in
    subst (λ n. after.runtime pid
    ≡ Some (v +ℤ pos ((time - before.mark n) * 1024 / task_weight nice (before.policy pid))))
    (sym same) charge
untold_quotients bound time (one ∷ cpus) before after apart once l cpu pid nice v (inr among) runs e f =
    let rest = subst (λ b. IsLifted bound time None cpus b after) (untold_is bound time one before l.0 l.1) l.2 in
    let other : cpu ≢ one = (λ same. apart.0 (subst (λ n. IsAmong n cpus) same among)) in
    let elsewhere : ¬ Stands before Run one pid = (λ at. other (once pid cpu one runs at)) in
    let kept = if_not (before.running one pid) (charged_runtime before one time pid) (before.runtime pid) elsewhere
    ∙ f in
    subst (λ n. after.runtime pid ≡ Some (v +ℤ pos ((time - n) * 1024 / task_weight nice (before.policy pid))))
    (put-other before.mark one time cpu other)
    (untold_quotients bound time cpus (first_lift time one before l.1.floor) after apart.1 once rest cpu pid nice v
    among runs e
    kept)

quotients : (bound time : ℕ) (charge : Option ChargeLine) (cpus : List ℕ) (before after : Machine) → AreApart cpus
    → RunsOnce before → IsLifted bound time charge cpus before after → (cpu pid : ℕ) (nice v : ℤ) → IsAmong cpu cpus
    → Stands before Run cpu pid → before.nice pid ≡ Some nice → before.runtime pid ≡ Some v → ¬ IsToldOf charge pid
    → after.runtime pid ≡ Some (v +ℤ pos ((time - before.mark cpu) * 1024 / task_weight nice (before.policy pid)))
quotients bound time None cpus before after apart once l cpu pid nice v among runs e f untold =
    untold_quotients bound time cpus before after apart once l cpu pid nice v among runs e f
quotients bound time (Some line) [] before after apart once l cpu pid nice v among runs e f untold = absurd among
quotients bound time (Some line) (one ∷ cpus) before after apart once l cpu pid nice v (inl same) runs e f untold =
    let exact = l.1.charges.0.exact in
    let rest = subst (λ b. IsLifted bound time None cpus b after) (told_lift_is bound time one line before l.0 l.1) l.2
    in
    let here : Stands before Run one pid = subst (λ n. Stands before Run n pid) same runs in
    let charge : after.runtime pid ≡ Some (v +ℤ pos (cost_at before one time nice (before.policy pid))) =
    untold_stay bound time cpus (told_lift time one line exact before l.1.floor) after rest pid
    (λ other h at. apart.0 (subst (λ n. IsAmong n cpus) (once pid other one at here) h))
    ∙ put-other (charged before one time).runtime line.pid (Some line.v) pid (λ same_pid. untold (sym same_pid))
    ∙ if_so (before.running one pid) (charged_runtime before one time pid) (before.runtime pid) here
    ∙ charged_is before one time pid nice v e f in
    subst (λ n. after.runtime pid
    ≡ Some (v +ℤ pos ((time - before.mark n) * 1024 / task_weight nice (before.policy pid))))
    (sym same) charge
quotients bound time (Some line) (one ∷ cpus) before after apart once l cpu pid nice v (inr among) runs e f untold =
    let exact = l.1.charges.0.exact in
    let rest = subst (λ b. IsLifted bound time None cpus b after) (told_lift_is bound time one line before l.0 l.1) l.2
    in
    let other : cpu ≢ one = (λ same. apart.0 (subst (λ n. IsAmong n cpus) same among)) in
    let elsewhere : ¬ Stands before Run one pid = (λ at. other (once pid cpu one runs at)) in
    let kept = put-other (charged before one time).runtime line.pid (Some line.v) pid
    (λ same_pid. untold (sym same_pid))
    ∙ if_not (before.running one pid) (charged_runtime before one time pid) (before.runtime pid) elsewhere ∙ f in
    subst (λ n. after.runtime pid ≡ Some (v +ℤ pos ((time - n) * 1024 / task_weight nice (before.policy pid))))
    (put-other before.mark one time cpu other)
    (untold_quotients bound time cpus (told_lift time one line exact before l.1.floor) after apart.1 once rest cpu pid
    nice v among runs e kept)

-- of whom a charge is told, who runs at the first of the processors
told_runs : (bound time : ℕ) (line : ChargeLine) (cpus : List ℕ) (before after : Machine) → cpus ≢ []
    → IsLifted bound time (Some line) cpus before after
    → (cpu : ℕ) × IsAmong cpu cpus × Stands before Run cpu line.pid
told_runs bound time line [] before after some l = absurd (some refl)
told_runs bound time line (one ∷ cpus) before after some l = (one, inl refl, l.1.charges.0.runs)

one_value : (u v : ℤ) → Some u ≡ Some v → u ≡ v
one_value u v e = cc

charged_as : (bound time : ℕ) (line : ChargeLine) (cpus : List ℕ) (before after : Machine) → cpus ≢ [] → AreApart cpus
    → RunsOnce before → IsLifted bound time (Some line) cpus before after → (cpu : ℕ) (nice v : ℤ)
    → Stands before Run cpu line.pid → before.nice line.pid ≡ Some nice → before.runtime line.pid ≡ Some v
    → IsChargedAs bound time cpu line nice v before after
charged_as bound time line [] before after some apart once l cpu nice v runs e f = absurd (some refl)
charged_as bound time line (one ∷ cpus) before after some apart once l cpu nice v runs e f =
    let t = l.1.charges.0 in
    let behind = told_lift time one line t.exact before l.1.floor in
    let rest = subst (λ b. IsLifted bound time None cpus b after) (told_lift_is bound time one line before l.0 l.1) l.2
    in
    let exact : t.exact ≡ v +ℤ pos (cost_at before one time nice (before.policy line.pid)) = one_value t.exact _
    (sym t.charged
    ∙ if_so (before.running one line.pid) (charged_runtime before one time line.pid) (before.runtime line.pid) t.runs
    ∙ charged_is before one time line.pid nice v e f) in
    let drift : after.drift line.pid ≡ drift_after (before.drift line.pid) line.v t.exact =
    untold_drift bound time cpus behind after rest line.pid
    ∙ put-same before.drift line.pid (drift_after (before.drift line.pid) line.v t.exact) in
    record {
      runtime = untold_stay bound time cpus behind after rest line.pid
          (λ other h at. apart.0 (subst (λ n. IsAmong n cpus) (once line.pid other one at t.runs) h))
          ∙ put-same (charged before one time).runtime line.pid (Some line.v);
      rises = subst (λ x. x ≤ℤ line.v) (one_value t.own v (sym t.runtime ∙ f)) t.rises;
      drift = drift ∙ ap (λ x. drift_after (before.drift line.pid) line.v x) (exact
          ∙ ap (λ n. v +ℤ pos ((time - before.mark n) * 1024 / task_weight nice (before.policy line.pid)))
          (sym (once line.pid cpu one runs t.runs)));
      within = subst (IsWithin bound) (sym drift) t.within;
    }

-- an event touches a processor
touches_some : (act : Act) → touched act ≢ []
touches_some (Switch cpu prev prev_nice way next next_nice) = λ e. cc
touches_some (Wake cpu pid nice) = λ e. cc
touches_some (Born cpu pid nice) = λ e. cc
touches_some (Shift orig dest pid nice) = λ e. cc

-- the processors that an event touches differ
touched_apart : (knobs : KnobsView) (m : Machine) (act : Act) (claim : Option Claim) (policy : Policy) (after : Machine)
    → Changes knobs m act claim policy after → AreApart (touched act)
touched_apart knobs m (Switch cpu prev prev_nice way next next_nice) claim policy after c = ((λ h. h), tt)
touched_apart knobs m (Wake cpu pid nice) claim policy after c = ((λ h. h), tt)
touched_apart knobs m (Born cpu pid nice) claim policy after c = ((λ h. h), tt)
touched_apart knobs m (Shift orig dest pid nice) claim policy after c =
    ((λ h. elim h [ inl same ↦ c.differ same | inr wrong ↦ wrong ]), ((λ h. h), tt))

-- the next task is in the one set and not in the other
now_runs : (m : Machine) (cpu pid : ℕ) → IsTrue (put_pair m.running cpu pid true cpu pid)
now_runs m cpu pid = elim (pair_cases m.running cpu pid true cpu pid) [
  | inl h ↦ h.2
  | inr h ↦ absurd (h.0 (refl, refl))
]

waited : (m : Machine) (cpu pid other : ℕ) → IsTrue (put_pair m.waiting cpu pid false cpu other)
    → IsTrue (m.waiting cpu other)
waited m cpu pid other waits = elim (pair_cases m.waiting cpu pid false cpu other) [
  | inl h ↦ absurd (false≢true (sym h.2 ∙ waits))
  | inr h ↦ sym h.1 ∙ waits
]

pick_of : (knobs : KnobsView) (m : Machine) (act : Act) (claim : Option Claim) (policy : Policy) (after : Machine)
    → Changes knobs m act claim policy after → IsPickedWithin knobs.granularity act after
pick_of knobs m (Switch cpu prev prev_nice way zero next_nice) claim policy after c = tt
pick_of knobs m (Switch cpu prev prev_nice way (suc n) next_nice) claim policy after c =
    let found = after_prev m cpu prev way in
    subst (λ a. IsPickedWithin knobs.granularity (Switch cpu prev prev_nice way (suc n) next_nice) a) (sym c.result) (
      now_runs found cpu (suc n),
      (c.pick.0, c.pick.1, (λ other w waits is. c.pick.3 other w (waited found cpu (suc n) other waits) is)),
    )
pick_of knobs m (Wake cpu pid nice) claim policy after c = tt
pick_of knobs m (Born cpu pid nice) claim policy after c = tt
pick_of knobs m (Shift orig dest pid nice) claim policy after c = tt

-- a step from a machine in order
lawful_step : StepKeepsOrder → (knobs : KnobsView) (before : Machine) (event : Claimed) (after : Machine)
    → IsInOrder before → IsStep knobs before event after → IsLawful knobs before event after
lawful_step keeps knobs before event after o s = record {
  lifted = s.lifted;
  is_lifted = s.is_lifted;
  charges = record {
    quotient = quotients knobs.drift event.entry.time event.charge (touched event.entry.act) before s.lifted
        (touched_apart knobs s.found event.entry.act event.claim event.policy after s.changes)
        (orderly_of before o).one_processor s.is_lifted;
    runs = λ line is. told_runs knobs.drift event.entry.time line (touched event.entry.act) before s.lifted
        (touches_some event.entry.act) (subst (λ c. IsLifted knobs.drift event.entry.time c (touched event.entry.act)
        before s.lifted) is s.is_lifted);
    told = λ line is. charged_as knobs.drift event.entry.time line (touched event.entry.act) before s.lifted
        (touches_some event.entry.act)
        (touched_apart knobs s.found event.entry.act event.claim event.policy after s.changes)
        (orderly_of before o).one_processor (subst (λ c. IsLifted knobs.drift event.entry.time c
        (touched event.entry.act) before s.lifted) is s.is_lifted);
    others = others_stay knobs.drift event.entry.time event.charge (touched event.entry.act) before s.lifted
        s.is_lifted;
  };
  pick = pick_of knobs s.found event.entry.act event.claim event.policy after s.changes;
  orderly = orderly_of after (keeps knobs before event after o s);
}

lawful_steps : StepKeepsOrder → (knobs : KnobsView) (before : Machine) (events : List Claimed) (states : List Machine)
    → IsInOrder before → AreSteps knobs before events states → AreLawful knobs before events states
lawful_steps keeps knobs before [] [] o s = tt
lawful_steps keeps knobs before [] (m ∷ states) o s = absurd s
lawful_steps keeps knobs before (event ∷ events) [] o s = absurd s
lawful_steps keeps knobs before (event ∷ events) (after ∷ states) o s = (
  lawful_step keeps knobs before event after o s.0,
  lawful_steps keeps knobs after events states (keeps knobs before event after o s.0) s.1,
)

pub texts_start_orderly : StartInOrder → TextsStartOrderly
texts_start_orderly starts trace companion r is =
    orderly_of (start_machine r.start r.floors r.tasks)
    (starts r.start r.floors r.tasks (start_of_texts trace companion r is))

pub yes_is_lawful : StepKeepsOrder → StartInOrder → YesIsLawful
yes_is_lawful keeps starts knobs trace companion r summary is scheduled =
    lawful_steps keeps knobs (start_machine r.start r.floors r.tasks) (events_of r) scheduled.run.states
    (starts r.start r.floors r.tasks (start_of_texts trace companion r is)) scheduled.run.steps
