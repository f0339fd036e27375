-- Whom a picked task was above at the place of a granularity: the first who waits in the part that the step left, which
-- the machine behind its event has.
use Rattle.std.proofs.Common.{◌≡◌, ◌↔◌, ◌==◌, ℕ, ◌<◌, Bool, true, false, IsTrue, Option, Some, None, ℤ, List, [], ◌∷◌}
use Rattle.std.proofs.Common.{◌++◌, if◌then◌else◌, inl, inr, sym, subst, true≢false, arith}
use Rattle.std.specs.BTreeSet.{IsLowerBound, contains}
use Rattle.std.specs.Prelude.{MatchOption}
use Rattle.std.specs.List.{list_any}
use Rattle.std.proofs.lemmas.Bool.Decides.{eqb_tells}
use Rattle.cfs_model.specs.Claimed.{Claimed}
use Rattle.cfs_model.specs.Laws.{RunKeepsOrder, StartInOrder}
use Rattle.cfs_model.specs.Machine.{Machine}
use Rattle.cfs_model.specs.Order.{IsInOrder, IsStart}
use Rattle.cfs_model.specs.Run.{last_of}
use Rattle.cfs_model.specs.Touch.{touched}
use Rattle.cfs_model.specs.declared.act.Act.{Act}
use Rattle.cfs_model.specs.declared.act.Act.TheVariants.{Switch, Wake, Born, Shift}
use Rattle.cfs_model.specs.declared.policy.Policy.{Policy}
use Rattle.cfs_model.specs.declared.setting.Setting.TheVariants.{Granularity}
use Rattle.least_places.specs.Left.{IsLeastIfAny, IsLeastOf, IsLeft}
use Rattle.least_places.proofs.LeftThere.{last_in_order}
use Rattle.least_places.proofs.Waiting.{first_waits, nobody_waits}
use Rattle.need_laws.specs.RiseEvents.{IsEventOf}
use Rattle.replay_model.specs.Needs.{IsPickNeed}
use Rattle.replay_model.specs.Part.{Part, part_of}
use Rattle.replay_model.specs.StepAt.{deed_at}
use Rattle.replay_model.specs.declared.step.Deed.TheVariants.{Leave, Arrive}
use Rattle.replay_model.specs.declared.step.Step.{Step}
use Rattle.runqueue.specs.Entities.{by_runtime, waiting_runtime, waiting_task}
use Rattle.runqueue.specs.declared.waiting_task.WaitingTask.{WaitingTask}
use Rattle.window_audit.specs.Audit.{Beginning}
use Rattle.least_audit.specs.Pursuit.{IsFirstWaiting}
use Rattle.least_audit.specs.SoFar.{IsOverAt, first_machine}

-- the first who waits in a part is the least who waits at its processor
least_waiting : (m : Machine) → IsInOrder m → (cpu : ℕ) (left : Part) (over : Option ℕ) → part_of m cpu ≡ left
    → IsFirstWaiting left over → IsLeastIfAny m cpu over
least_waiting m o cpu left over there first = go over first.first_is
  where
    set : (v : ℤ) (pid : ℕ) → IsTrue (contains by_runtime first.waiting (waiting_task v pid))
        ↔ (waiting_runtime ((part_of m cpu).tasks pid) ≡ Some v)
    set = subst (λ (p : Part). (v : ℤ) (pid : ℕ) → IsTrue (contains by_runtime first.waiting (waiting_task v pid))
        ↔ (waiting_runtime (p.tasks pid) ≡ Some v)) (sym there) first.are

    go : (one : Option ℕ)
        → MatchOption one ((k : WaitingTask) → ¬ IsTrue (contains by_runtime first.waiting k))
        (λ pid. (k : WaitingTask) × (k.pid ≡ pid) × IsTrue (contains by_runtime first.waiting k)
        × IsLowerBound by_runtime first.waiting k) → IsLeastIfAny m cpu one
    go None none = nobody_waits m o cpu first.waiting set none
    go (Some pid) some =
        subst (IsLeastOf m cpu) some.1 (first_waits m o cpu first.waiting set some.0 some.2 some.3)

-- only a switch needs a granularity, and it is its own processor's
left_by : (m : Machine) (act : Act) (cpu : ℕ) (policy : Policy) (over : Option ℕ) (part : Part) (need : ℕ)
    → list_any (λ other. other == cpu) (touched act) ≡ true → IsPickNeed part (deed_at cpu policy act) need → 0 < need
    → IsLeastIfAny m cpu over → IsLeft m act over
left_by m (Switch here prev prev_nice way next next_nice) cpu policy over part need touch pick some left =
    elim (eqb_tells here cpu) [
      | inl same ↦ subst (λ c. IsLeastIfAny m c over) (sym same.1) left
      | inr other ↦ absurd (not_here (here == cpu) other.0 touch)
    ]
  where
    not_here : (b : Bool) → b ≡ false → list_any (λ (x : Bool). x) (b ∷ []) ≡ true → ⊥
    not_here true e t = absurd (true≢false e)
    not_here false e t = absurd (true≢false (sym t))
left_by m (Wake here pid nice) cpu policy over part need touch pick some left =
    absurd (let n : need ≡ 0 = pick in omega (arith, n, some))
left_by m (Born here pid nice) cpu policy over part need touch pick some left =
    absurd (let n : need ≡ 0 = pick in omega (arith, n, some))
left_by m (Shift orig dest pid nice) cpu policy over part need touch pick some left =
    absurd (go (orig == cpu) pick)
  where
    go : (b : Bool) → IsPickNeed part (if b then Leave pid nice dest else Arrive pid nice orig policy) need → ⊥
    go true n = (let e : need ≡ 0 = n in omega (arith, e, some))
    go false n = (let e : need ≡ 0 = n in omega (arith, e, some))

module _ (keeps : RunKeepsOrder) (starts : StartInOrder) (of : Beginning) (is_start : IsStart of.floors of.tasks) where
  -- a step that needs a granularity leaves waiting whom its part has first
  pub left_over : (events : List Claimed) (cpu : ℕ) (step : Step) (left found : Part) (need : ℕ) (over : Option ℕ)
      → (e : IsEventOf of.start of.floors of.tasks events cpu step left) → IsPickNeed found step.deed need → 0 < need
      → IsFirstWaiting left over → IsOverAt of e.front e.event Granularity over
  left_over events cpu step left found need over e pick some first knobs run =
      let begun = starts of.start of.floors of.tasks is_start in
      let m = last_of (first_machine of) run.states in
      let order = last_in_order (first_machine of) run.states begun
      (keeps knobs of.start (first_machine of) (e.front ++ e.event ∷ []) begun run) in
      left_by m e.event.entry.act cpu e.event.policy over found need e.touch
      (subst (λ (s : Step). IsPickNeed found s.deed need) e.is pick) some
      (least_waiting m order cpu left over (e.part knobs run) first)
