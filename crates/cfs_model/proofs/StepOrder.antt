-- A step keeps the order of a machine: each case places one task anew, or two in turn, or lets one end.
use Rattle.std.proofs.Common.{◌≡◌, ◌≢◌, ℕ, zero, suc, true, false, Option, Some, None, IsSome, is_some, ℤ, pos}
use Rattle.std.proofs.Common.{◌+ℤ◌}
use Rattle.std.proofs.Common.{◌-ℤ◌, inl, inr, List, [], ◌∷◌, refl, sym, ap, ◌∙◌, subst}
use Rattle.std.specs.List.{AllByRecursion}
use Rattle.cfs_model.specs.Knobs.{KnobsView}
use Rattle.cfs_model.specs.Machine.{Pairs, Machine, pairs_of, Stands, NobodyStands, with_pairs, put_pair, with_task}
use Rattle.cfs_model.specs.Machine.{without_task, with_move, with_runtime, with_nice, without_values, with_policy}
use Rattle.cfs_model.specs.Machine.{with_drift}
use Rattle.cfs_model.specs.Claimed.{Claimed}
use Rattle.cfs_model.specs.Touch.{touched}
use Rattle.cfs_model.specs.Reniced.{home_of}
use Rattle.cfs_model.specs.Step.{IsCurrent, IsPick, after_prev, after_next, IsMigration, MovesBy, Changes, IsStep}
use Rattle.cfs_model.specs.Run.{AreSteps}
use Rattle.cfs_model.specs.Order.{IsInOrder}
use Rattle.cfs_model.proofs.Moves.{put-same, put-other, IsPutAt, IsGone, join_placed, leave_gone, move_placed}
use Rattle.cfs_model.proofs.KeptOrder.{IsApart, same_sets, stands_same, apart_values, lifted_apart, placed_apart}
use Rattle.cfs_model.proofs.KeptOrder.{gone_apart}
use Rattle.cfs_model.proofs.Renice.{reniced_apart}
use Rattle.cfs_model.specs.declared.act.Act.{Act}
use Rattle.cfs_model.specs.declared.act.Act.TheVariants.{Switch, Wake, Born, Shift}
use Rattle.cfs_model.specs.declared.act.Way.{Way}
use Rattle.cfs_model.specs.declared.act.Way.TheVariants.{Stays, Sleeps, Ends}
use Rattle.cfs_model.specs.declared.claim.Claim.{Claim}
use Rattle.cfs_model.specs.declared.claim.ClaimSort.{ClaimSort}
use Rattle.cfs_model.specs.declared.claim.ClaimSort.TheVariants.{At, Pass}
use Rattle.cfs_model.specs.declared.task.Place.{Place}
use Rattle.cfs_model.specs.declared.task.Place.TheVariants.{Run, Wait, Rest}
use Rattle.cfs_model.specs.declared.policy.Policy.{Policy}

-- what is placed, or gone, in a machine is so in another with the same sets
pub placed_same : (m between after : Machine) (pid : ℕ) (to : Place) (dest : ℕ)
    → ((r : Place) → pairs_of after r ≡ pairs_of between r)
    → IsPutAt m between pid to dest → IsPutAt m after pid to dest
placed_same m between after pid to dest e p = record {
  itself = stands_same after between (λ r. sym (e r)) to dest pid p.itself;
  cases = λ r d q h. p.cases r d q (stands_same between after e r d q h);
  kept = λ r d q ne h. stands_same after between (λ r. sym (e r)) r d q (p.kept r d q ne h);
}

pub gone_same : (m between after : Machine) (pid : ℕ) → ((r : Place) → pairs_of after r ≡ pairs_of between r)
    → IsGone m between pid → IsGone m after pid
gone_same m between after pid e p = record {
  cases = λ r d q h. p.cases r d q (stands_same between after e r d q h);
  kept = λ r d q ne h. stands_same after between (λ r. sym (e r)) r d q (p.kept r d q ne h);
}

-- where a pid stands, it stands alone
pub alone : (m : Machine) → IsApart m → (place : Place) (cpu pid : ℕ) → Stands m place cpu pid → (r : Place) (d : ℕ)
    → Stands m r d pid → (r ≡ place) × (d ≡ cpu)
alone m a place cpu pid h r d k = a.one_place pid r place d cpu k h

-- a running task that waits or rests: the order is kept, and nobody runs at its processor
paused_apart : (m : Machine) (cpu pid : ℕ) (to : Place) (after : Machine) → IsApart m → Stands m Run cpu pid
    → to ≢ Run → IsPutAt m after pid to cpu
    → after.runtime ≡ m.runtime → after.nice ≡ m.nice → IsApart after × NobodyStands after Run cpu
paused_apart m cpu pid to after a runs pauses p e f = (
  placed_apart m after pid to cpu p a (λ x. absurd (pauses x))
      (subst (λ g. IsSome (g pid)) (sym e) ((a.runtimes pid).1 (Run, cpu, runs))) (λ q _. ap (λ g. g q) e)
      (subst (λ g. IsSome (g pid)) (sym f) ((a.nices pid).1 (Run, cpu, runs))) (λ q _. ap (λ g. g q) f),
  (λ q h. elim (p.cases Run cpu q h) [ inl x ↦ pauses (sym x.1) | inr x ↦ x.0 (a.one_runs cpu q pid x.1 runs) ]),
)

pub prev_apart : (m : Machine) (cpu prev : ℕ) (way : Way) → IsApart m → IsCurrent m cpu prev
    → IsApart (after_prev m cpu prev way) × NobodyStands (after_prev m cpu prev way) Run cpu
prev_apart m cpu zero way a current = (a, current)
prev_apart m cpu (suc n) Stays a current =
    paused_apart m cpu (suc n) Wait (with_move m (suc n) Run cpu Wait cpu) a current (λ e. cc)
    (move_placed m (suc n) Run cpu Wait cpu (alone m a Run cpu (suc n) current)) refl refl
prev_apart m cpu (suc n) Sleeps a current =
    paused_apart m cpu (suc n) Rest (with_move m (suc n) Run cpu Rest cpu) a current (λ e. cc)
    (move_placed m (suc n) Run cpu Rest cpu (alone m a Run cpu (suc n) current)) refl refl
prev_apart m cpu (suc n) Ends a current =
    let between = without_task m Run cpu (suc n) in
    let after = without_values between (suc n) in
    let g = gone_same m between after (suc n) (same_sets between after refl refl refl) (leave_gone m (suc n) Run cpu
    (alone m a Run cpu (suc n) current)) in (
      gone_apart m after (suc n) g a
          (put-same m.runtime (suc n) None) (put-other m.runtime (suc n) None)
          (put-same m.nice (suc n) None) (put-other m.nice (suc n) None),
      (λ q h. let x = g.cases Run cpu q h in x.0 (a.one_runs cpu q (suc n) x.1 current)),
    )

next_apart : (granularity : ℕ) (m : Machine) (cpu next : ℕ) → IsApart m → NobodyStands m Run cpu
    → IsPick granularity m cpu next → IsApart (after_next m cpu next)
next_apart granularity m cpu zero a nobody pick = a
next_apart granularity m cpu (suc n) a nobody pick =
    placed_apart m (with_move m (suc n) Wait cpu Run cpu) (suc n) Run cpu
    (move_placed m (suc n) Wait cpu Run cpu (alone m a Wait cpu (suc n) pick.2)) a (λ _. nobody)
    ((a.runtimes (suc n)).1 (Wait, cpu, pick.2)) (λ q _. refl)
    ((a.nices (suc n)).1 (Wait, cpu, pick.2)) (λ q _. refl)

-- a task that is placed at a value
valued_apart : (m between : Machine) (pid : ℕ) (to : Place) (dest : ℕ) (v : ℤ) → IsApart m
    → IsPutAt m between pid to dest → (to ≡ Run → ⊥)
    → between.runtime ≡ m.runtime → between.nice ≡ m.nice → IsSome (m.nice pid) → IsApart (with_runtime between pid v)
valued_apart m between pid to dest v a p pauses e f some =
    let after = with_runtime between pid v in
    placed_apart m after pid to dest (placed_same m between after pid to dest
    (same_sets between after refl refl refl) p) a (λ x. absurd (pauses x))
    (ap is_some (put-same between.runtime pid (Some v))) (λ q ne. put-other between.runtime pid (Some v) q ne
    ∙ ap (λ g. g q) e)
    (subst (λ g. IsSome (g pid)) (sym f) some) (λ q _. ap (λ g. g q) f)

born_apart : (m : Machine) (cpu pid : ℕ) (nice : ℤ) (policy : Policy) (v : ℤ) → IsApart m → ((place : Place) (other : ℕ)
    → ¬ Stands m place other pid)
    → IsApart
    (with_drift (with_policy (with_nice (with_runtime (with_task m Wait cpu pid) pid v) pid nice) pid policy) pid
    (pos 0))
born_apart m cpu pid nice policy v a nowhere =
    let between = with_task m Wait cpu pid in
    let after = with_drift (with_policy (with_nice (with_runtime between pid v) pid nice) pid policy) pid (pos 0) in
    placed_apart m after pid Wait cpu (placed_same m between after pid Wait cpu
    (same_sets between after refl refl refl) (join_placed m pid Wait cpu nowhere)) a (λ x. absurd cc)
    (ap is_some (put-same m.runtime pid (Some v))) (put-other m.runtime pid (Some v))
    (ap is_some (put-same m.nice pid (Some nice))) (put-other m.nice pid (Some nice))

no_run : (place : Place) (sort : ClaimSort) → MovesBy place sort → place ≡ Run → ⊥
no_run Run At moves e = moves
no_run Run Pass moves e = moves
no_run Wait sort moves e = cc
no_run Rest sort moves e = cc

-- a changed set changes no map
pub runtime-with_pairs : (m : Machine) (place : Place) (s : Pairs) → (with_pairs m place s).runtime ≡ m.runtime
runtime-with_pairs m Run s = refl
runtime-with_pairs m Wait s = refl
runtime-with_pairs m Rest s = refl

pub nice-with_pairs : (m : Machine) (place : Place) (s : Pairs) → (with_pairs m place s).nice ≡ m.nice
nice-with_pairs m Run s = refl
nice-with_pairs m Wait s = refl
nice-with_pairs m Rest s = refl

pub policy-with_pairs : (m : Machine) (place : Place) (s : Pairs) → (with_pairs m place s).policy ≡ m.policy
policy-with_pairs m Run s = refl
policy-with_pairs m Wait s = refl
policy-with_pairs m Rest s = refl

some_of : (o : Option ℤ) (n : ℤ) → o ≡ Some n → IsSome o
some_of o n e = ap is_some e

moved_apart : (m : Machine) (orig dest pid : ℕ) (nice : ℤ) (claim : Option Claim) (policy : Policy) (after : Machine)
    → IsApart m → IsMigration m orig dest pid nice claim policy after → IsApart after
moved_apart m orig dest pid nice claim policy after a s =
    let left = without_task m s.place orig pid in
    let placed = with_runtime (with_move m pid s.place orig s.place dest) pid ((s.own -ℤ m.floor orig) +ℤ m.floor dest)
    in
    let anew = with_drift placed pid (pos 0) in
    subst IsApart (sym s.result)
    (apart_values placed anew (same_sets placed anew refl refl refl) (λ q. refl) (λ q. refl)
    (valued_apart m (with_move m pid s.place orig s.place dest) pid s.place dest
    ((s.own -ℤ m.floor orig) +ℤ m.floor dest) a
    (move_placed m pid s.place orig s.place dest (alone m a s.place orig pid s.stands))
    (no_run s.place s.sort s.moves)
    (runtime-with_pairs left s.place (put_pair (pairs_of left s.place) dest pid true) ∙ runtime-with_pairs m s.place
    (put_pair (pairs_of m s.place) orig pid false))
    (nice-with_pairs left s.place (put_pair (pairs_of left s.place) dest pid true) ∙ nice-with_pairs m s.place
    (put_pair (pairs_of m s.place) orig pid false))
    (some_of (m.nice pid) nice s.prio)))

-- an event's own change keeps the order
change_apart : (knobs : KnobsView) (m : Machine) (act : Act) (claim : Option Claim) (policy : Policy) (after : Machine)
    → IsApart m → Changes knobs m act claim policy after → IsApart after
change_apart knobs m (Switch cpu prev prev_nice way next next_nice) claim policy after a s =
    let p = prev_apart m cpu prev way a s.current in
    subst IsApart (sym s.result) (next_apart knobs.granularity (after_prev m cpu prev way) cpu next p.0 p.1 s.pick)
change_apart knobs m (Wake cpu pid nice) claim policy after a (inl s) = subst IsApart (sym s.result) a
change_apart knobs m (Wake cpu pid nice) claim policy after a (inr s) =
    subst IsApart (sym s.result)
    (valued_apart m (with_move m pid Rest cpu Wait cpu) pid Wait cpu s.placed a
    (move_placed m pid Rest cpu Wait cpu (alone m a Rest cpu pid s.rests)) (λ e. cc) refl refl
    (some_of (m.nice pid) nice s.prio))
change_apart knobs m (Born cpu pid nice) claim policy after a s = subst IsApart (sym s.result)
    (born_apart m cpu pid nice policy s.placed a s.nowhere)
change_apart knobs m (Shift orig dest pid nice) claim policy after a s =
    moved_apart m orig dest pid nice claim policy after a s

pub apart_of : (m : Machine) → IsInOrder m → IsApart m
apart_of m o = record { one_place = o.one_place; one_runs = o.one_runs; runtimes = o.runtimes; nices = o.nices }

pub step_in_order : (knobs : KnobsView) (before : Machine) (event : Claimed) (after : Machine) → IsInOrder before
    → IsStep knobs before event after → IsInOrder after
step_in_order knobs before event after o s =
    let lifted = lifted_apart knobs.drift event.entry.time event.charge (touched event.entry.act) before s.lifted
    s.is_lifted
    (apart_of before o) in
    let found = reniced_apart (home_of event.entry.act) event.nice s.lifted s.found s.is_reniced lifted in
    let a = change_apart knobs s.found event.entry.act event.claim event.policy after found s.changes in
    record {
      one_place = a.one_place;
      one_runs = a.one_runs;
      runtimes = a.runtimes;
      nices = a.nices;
      in_range = s.in_range;
    }

pub steps_in_order : (knobs : KnobsView) (first : Machine) (events : List Claimed) (states : List Machine)
    → IsInOrder first → AreSteps knobs first events states → AllByRecursion IsInOrder states
steps_in_order knobs first [] [] o steps = tt
steps_in_order knobs first [] (m ∷ states) o steps = absurd steps
steps_in_order knobs first (event ∷ events) [] o steps = absurd steps
steps_in_order knobs first (event ∷ events) (m ∷ states) o steps =
    let p = step_in_order knobs first event m o steps.0 in (p, steps_in_order knobs m events states p steps.1)
