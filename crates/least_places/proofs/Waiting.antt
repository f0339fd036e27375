-- The first of those who wait in a runqueue is the least of those who wait at its processor in a machine in order.
use Rattle.std.proofs.Common.{◌≡◌, ◌↔◌, ℕ, ◌≤◌, ◌<◌, Bool, true, false, IsTrue, IsSome, Option, Some, None, ℤ, ◌<ℤ◌}
use Rattle.std.proofs.Common.{◌⊎◌, inl, inr, List, [], ◌∷◌, length, refl, sym, true≢false, arith}
use Rattle.std.specs.BTreeMap.{is_at}
use Rattle.std.specs.List.{list_any}
use Rattle.std.specs.BTreeSet.{BTreeSet, IsLowerBound, btree_set_len, contains}
use Rattle.std.specs.Ordering.{MatchOrdering, int_cmp, is_gt, nat_cmp, ordering_then}
use Rattle.std.specs.declared.cmp.Ordering.{Ordering}
use Rattle.std.specs.declared.cmp.Ordering.TheVariants.{Less, Equal, Greater}
use Rattle.std.proofs.lemmas.Bool.{cases_Bool}
use Rattle.std.proofs.lemmas.Cmp.{int_ranked, ranked}
use Rattle.cfs_model.specs.Machine.{Machine, NobodyStands, Stands}
use Rattle.cfs_model.specs.Order.{IsInOrder}
use Rattle.cfs_model.specs.declared.policy.Policy.{Policy}
use Rattle.cfs_model.specs.declared.task.Place.TheVariants.{Run, Wait}
use Rattle.replay_model.specs.Part.{entity_at, entity_by, place_by}
use Rattle.runqueue.specs.Entities.{by_runtime, waiting_runtime, waiting_task}
use Rattle.runqueue.specs.declared.waiting_task.WaitingTask.{WaitingTask}
use Rattle.least_places.specs.Left.{IsLeastOf}

-- who has a waiting virtual runtime by its flags and values waits, and has this one
waits_by : (policy : Policy) (drift : ℤ) (runs waits rests : Bool) (nice runtime : Option ℤ) (v : ℤ)
    → waiting_runtime (entity_by policy drift (place_by runs waits rests) nice runtime) ≡ Some v
    → (waits ≡ true) × (runtime ≡ Some v)
waits_by policy drift true waits rests (Some nice) (Some w) v e = cc
waits_by policy drift true waits rests (Some nice) None v e = cc
waits_by policy drift true waits rests None runtime v e = cc
waits_by policy drift false true rests (Some nice) (Some w) v e = (refl, e)
waits_by policy drift false true rests (Some nice) None v e = cc
waits_by policy drift false true rests None runtime v e = cc
waits_by policy drift false false true (Some nice) (Some w) v e = cc
waits_by policy drift false false true (Some nice) None v e = cc
waits_by policy drift false false true None runtime v e = cc
waits_by policy drift false false false nice runtime v e = cc

-- and the other way
by_waits : (policy : Policy) (drift : ℤ) (runs waits rests : Bool) (nice runtime : Option ℤ) (v : ℤ)
    → runs ≡ false → waits ≡ true → IsSome nice → runtime ≡ Some v
    → waiting_runtime (entity_by policy drift (place_by runs waits rests) nice runtime) ≡ Some v
by_waits policy drift runs waits rests None runtime v r w n e = absurd (true≢false (sym n))
by_waits policy drift true waits rests (Some nice) runtime v r w n e = absurd (true≢false r)
by_waits policy drift false false rests (Some nice) runtime v r w n e = absurd (true≢false (sym w))
by_waits policy drift false true rests (Some nice) None v r w n e = cc
by_waits policy drift false true rests (Some nice) (Some x) v r w n e = e

-- no key is in an empty set
pub no_keys : (a : BTreeSet WaitingTask) → (0 < btree_set_len a → ⊥) → (k : WaitingTask)
    → contains by_runtime a k ≡ false
no_keys a none k = go a.keys none
  where
    go : (ks : List WaitingTask) → (0 < length ks → ⊥) → list_any (is_at (by_runtime k)) ks ≡ false
    go [] h = refl
    go (x ∷ xs) h = absurd (h (omega arith))

some_of : (o : Option ℤ) → IsSome o → (v : ℤ) × (o ≡ Some v)
some_of None h = absurd (true≢false (sym h))
some_of (Some v) h = (v, refl)

-- one that isn't behind another in the runqueue has a lesser virtual runtime, or the same and no greater pid
first_of : (v w : ℤ) (pid other : ℕ) → is_gt (by_runtime (waiting_task v pid) (waiting_task w other)) ≡ false
    → (v <ℤ w) ⊎ ((v ≡ w) × (pid ≤ other))
first_of v w pid other e =
    go (int_cmp v w) (nat_cmp pid other) (int_ranked v w (int_cmp v w) refl)
    (ranked pid other (nat_cmp pid other) refl) e
  where
    go : (o p : Ordering) → MatchOrdering o (v <ℤ w) (v ≡ w) (w <ℤ v)
        → MatchOrdering p (pid < other) (pid ≡ other) (other < pid)
        → is_gt (ordering_then o p) ≡ false → (v <ℤ w) ⊎ ((v ≡ w) × (pid ≤ other))
    go Less p h k e = inl h
    go Greater p h k e = absurd cc
    go Equal Less h k e = inr (h, omega (arith, k))
    go Equal Equal h k e = inr (h, omega (arith, k))
    go Equal Greater h k e = absurd cc

module _ (m : Machine) (o : IsInOrder m) (cpu : ℕ) (waiting : BTreeSet WaitingTask)
    (set : (v : ℤ) (pid : ℕ) → IsTrue (contains by_runtime waiting (waiting_task v pid))
    ↔ (waiting_runtime (entity_at m cpu pid) ≡ Some v)) where
  entity_waits : (pid : ℕ) (v : ℤ) → waiting_runtime (entity_at m cpu pid) ≡ Some v
      → Stands m Wait cpu pid × (m.runtime pid ≡ Some v)
  entity_waits pid v e =
      waits_by (m.policy pid) (m.drift pid) (m.running cpu pid) (m.waiting cpu pid) (m.resting cpu pid) (m.nice pid)
      (m.runtime pid) v e

  runs_not : (pid : ℕ) → Stands m Wait cpu pid → m.running cpu pid ≡ false
  runs_not pid waits = elim (cases_Bool (m.running cpu pid)) [
    | inl runs ↦ (let same = o.one_place pid Run Wait cpu cpu runs waits in absurd cc)
    | inr other ↦ other
  ]

  waits_entity : (pid : ℕ) (v : ℤ) → Stands m Wait cpu pid → m.runtime pid ≡ Some v
      → waiting_runtime (entity_at m cpu pid) ≡ Some v
  waits_entity pid v waits e =
      by_waits (m.policy pid) (m.drift pid) (m.running cpu pid) (m.waiting cpu pid) (m.resting cpu pid) (m.nice pid)
      (m.runtime pid) v (runs_not pid waits) waits ((o.nices pid).1 (Wait, cpu, waits)) e

  pub first_waits : (k : WaitingTask) → IsTrue (contains by_runtime waiting k) → IsLowerBound by_runtime waiting k
      → IsLeastOf m cpu k.pid
  first_waits k member least =
      let at = entity_waits k.pid k.v ((set k.v k.pid).0 member) in
      record {
        runtime = k.v;
        waits = at.0;
        has = at.1;
        least = λ other v waits has. first_of k.v v k.pid other
            (least (waiting_task v other) ((set v other).1 (waits_entity other v waits has)));
      }

  pub nobody_waits : ((k : WaitingTask) → ¬ IsTrue (contains by_runtime waiting k)) → NobodyStands m Wait cpu
  nobody_waits none pid waits =
      let v = some_of (m.runtime pid) ((o.runtimes pid).1 (Wait, cpu, waits)) in
      none (waiting_task v.0 pid) ((set v.0 pid).1 (waits_entity pid v.0 waits v.1))
