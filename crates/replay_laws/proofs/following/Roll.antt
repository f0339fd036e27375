-- The roll of births and ends tells who stands somewhere in the machine: whoever has a nice value.
use Rattle.std.proofs.Common.{◌≡◌, ℕ, zero, suc, Bool, true, false, Option, Some, None, is_some, ℤ, inl, inr, List, []}
use Rattle.std.proofs.Common.{◌∷◌, refl, sym, ap, ◌∙◌, subst, true≢false, option_map}
use Rattle.cfs_model.specs.Knobs.{KnobsView}
use Rattle.cfs_model.specs.Machine.{Machine, put, put_pair, pairs_of, without_task}
use Rattle.cfs_model.specs.Claimed.{Claimed}
use Rattle.cfs_model.specs.Touch.{touched}
use Rattle.cfs_model.specs.Lifted.{charged, IsLifted}
use Rattle.cfs_model.specs.Reniced.{home_of}
use Rattle.cfs_model.specs.Step.{after_prev, after_next, Changes, IsStep}
use Rattle.cfs_model.specs.Order.{IsInOrder}
use Rattle.cfs_model.specs.Start.{task_of, start_machine}
use Rattle.replay_model.specs.Roll.{roll_after, BirthIsNew, named}
use Rattle.part_laws.specs.TouchedParts.{BornNowhere}
use Rattle.cfs_model.proofs.Moves.{put-same, put-other, same_or_not}
use Rattle.cfs_model.proofs.KeptOrder.{lifted_apart}
use Rattle.cfs_model.proofs.ToldCharge.{told_is}
use Rattle.cfs_model.proofs.StepOrder.{nice-with_pairs, apart_of}
use Rattle.cfs_model.proofs.Renice.{reniced_keys}
use Rattle.cfs_model.specs.declared.act.Act.{Act}
use Rattle.cfs_model.specs.declared.act.Act.TheVariants.{Switch, Wake, Born, Shift}
use Rattle.cfs_model.specs.declared.act.Way.{Way}
use Rattle.cfs_model.specs.declared.act.Way.TheVariants.{Stays, Sleeps, Ends}
use Rattle.cfs_model.specs.declared.charge_line.ChargeLine.{ChargeLine}
use Rattle.cfs_model.specs.declared.claim.Claim.{Claim}
use Rattle.cfs_model.specs.declared.task.Task.{Task}
use Rattle.cfs_model.specs.declared.policy.Policy.{Policy}

-- the pids with a nice value are those alive
abbrev pub RollIs : (ℕ → Bool) → Machine → Type 0
RollIs alive m = (pid : ℕ) → is_some (m.nice pid) ≡ alive pid

lifted_nice : (bound time : ℕ) (charge : Option ChargeLine) (cpus : List ℕ) (before lifted : Machine)
    → IsLifted bound time charge cpus before lifted → lifted.nice ≡ before.nice
lifted_nice bound time charge [] before lifted l = ap (λ m. m.nice) l
lifted_nice bound time charge (cpu ∷ cpus) before lifted l =
    lifted_nice bound time None cpus l.0 lifted l.2 ∙ ap (λ m. m.nice) l.1.result
    ∙ ap (λ m. m.nice) (told_is bound charge cpu before (charged before cpu time) l.1.told l.1.charges)

put_roll : (f : ℕ → Option ℤ) (alive : ℕ → Bool) (pid : ℕ) (o : Option ℤ) (b : Bool) → is_some o ≡ b
    → ((q : ℕ) → is_some (f q) ≡ alive q) → (q : ℕ) → is_some (put f pid o q) ≡ put alive pid b q
put_roll f alive pid o b e h q = elim (same_or_not q pid) [
  | inl same ↦ ap (λ x. is_some (put f pid o x)) same ∙ ap is_some (put-same f pid o) ∙ e ∙ sym (put-same alive pid b)
      ∙ ap (put alive pid b) (sym same)
  | inr ne ↦ ap is_some (put-other f pid o q ne) ∙ h q ∙ sym (put-other alive pid b q ne)
]

prev_roll : (alive : ℕ → Bool) (m : Machine) (cpu prev : ℕ) (pn : ℤ) (way : Way) (next : ℕ) (nn : ℤ) → RollIs alive m
    → RollIs (roll_after alive (Switch cpu prev pn way next nn)) (after_prev m cpu prev way)
prev_roll alive m cpu zero pn way next nn h = h
prev_roll alive m cpu (suc n) pn Stays next nn h = h
prev_roll alive m cpu (suc n) pn Sleeps next nn h = h
prev_roll alive m cpu (suc n) pn Ends next nn h = put_roll m.nice alive (suc n) None false refl h

next_roll : (alive : ℕ → Bool) (m : Machine) (cpu next : ℕ) → RollIs alive m → RollIs alive (after_next m cpu next)
next_roll alive m cpu zero h = h
next_roll alive m cpu (suc n) h = h

change_roll : (alive : ℕ → Bool) (knobs : KnobsView) (m : Machine) (act : Act) (claim : Option Claim) (policy : Policy)
    (after : Machine)
    → RollIs alive m → Changes knobs m act claim policy after → RollIs (roll_after alive act) after
change_roll alive knobs m (Switch cpu prev pn way next nn) claim policy after h s =
    subst (RollIs (roll_after alive (Switch cpu prev pn way next nn))) (sym s.result)
    (next_roll (roll_after alive (Switch cpu prev pn way next nn)) (after_prev m cpu prev way) cpu next
    (prev_roll alive m cpu prev pn way next nn h))
change_roll alive knobs m (Wake cpu pid nice) claim policy after h (inl s) = subst (RollIs alive) (sym s.result) h
change_roll alive knobs m (Wake cpu pid nice) claim policy after h (inr s) = subst (RollIs alive) (sym s.result) h
change_roll alive knobs m (Born cpu pid nice) claim policy after h s = subst
    (RollIs (roll_after alive (Born cpu pid nice)))
    (sym s.result) (put_roll m.nice alive pid (Some nice) true refl h)
change_roll alive knobs m (Shift orig dest pid nice) claim policy after h s =
    subst (RollIs alive) (sym s.result)
    (λ q. ap (λ f. is_some (f q))
    (nice-with_pairs (without_task m s.place orig pid) s.place
    (put_pair (pairs_of (without_task m s.place orig pid) s.place) dest pid true)
    ∙ nice-with_pairs m s.place (put_pair (pairs_of m s.place) orig pid false)) ∙ h q)

-- the same pids have a nice value in the machine as an event finds it
pub found_keys : (knobs : KnobsView) (m : Machine) (event : Claimed) (after : Machine) → IsInOrder m
    → (s : IsStep knobs m event after) → (q : ℕ) → is_some (s.found.nice q) ≡ is_some (m.nice q)
found_keys knobs m event after o s q =
    let act = event.entry.act in
    let time = event.entry.time in
    reniced_keys (home_of act) event.nice s.lifted s.found s.is_reniced
    (lifted_apart knobs.drift time event.charge (touched act) m s.lifted s.is_lifted (apart_of m o)) q
    ∙ ap (λ f. is_some (f q)) (lifted_nice knobs.drift time event.charge (touched act) m s.lifted s.is_lifted)

-- the roll after a step
pub roll_step : (alive : ℕ → Bool) (knobs : KnobsView) (m : Machine) (event : Claimed) (after : Machine) → IsInOrder m
    → RollIs alive m → IsStep knobs m event after → RollIs (roll_after alive event.entry.act) after
roll_step alive knobs m event after o h s =
    change_roll alive knobs s.found event.entry.act event.claim event.policy after
    (λ q. found_keys knobs m event after o s q ∙ h q) s.changes

-- who isn't alive stands nowhere
pub born_nowhere : (alive : ℕ → Bool) (m : Machine) → IsInOrder m → RollIs alive m → (act : Act) → BirthIsNew alive act
    → BornNowhere m act
born_nowhere alive m o h (Switch cpu prev pn way next nn) new = tt
born_nowhere alive m o h (Wake cpu pid nice) new = tt
born_nowhere alive m o h (Shift orig dest pid nice) new = tt
born_nowhere alive m o h (Born cpu pid nice) new = λ place other k. true≢false
    (sym ((o.nices pid).1 (place, other, k)) ∙ h pid ∙ new)

-- at the start those whom it names are alive
pub start_roll : (start : ℕ) (floors : List ℤ) (tasks : List Task)
    → RollIs (named tasks) (start_machine start floors tasks)
start_roll start floors tasks pid = go (task_of tasks pid)
  where
    go : (o : Option Task) → is_some (option_map (λ (t : Task). t.nice) o) ≡ is_some o
    go None = refl
    go (Some t) = refl
