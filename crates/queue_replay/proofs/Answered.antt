-- What a runqueue answers of a pid, and what the part says.
use Rattle.std.proofs.Common.{◌≡◌, ◌≢◌, ◌↔◌, ℕ, zero, suc, Bool, true, false, not, IsTrue, Option, Some, None, is_none}
use Rattle.std.proofs.Common.{is_some, option_map, ℤ, pos, ◌-ℤ◌, ◌≤ℤ◌, refl, sym, ap, ◌∙◌, subst, arith}
use Rattle.std.specs.Int.{int_max}
use Rattle.std.proofs.lemmas.Int.{ints, clamps}
use Rattle.std.proofs.lemmas.Bool.{false≢true, not-true, not_from_false}
use Rattle.std.proofs.lemmas.Option.{same_Some}
use Rattle.replay_model.specs.Part.{Part, Entity, IsIn, NobodyIn}
use Rattle.replay_model.specs.PartWords.{PartIdles}
use Rattle.replay_model.specs.ClaimTests.{IsInWakeBounds}
use Rattle.replay_model.specs.Needs.{IsLeastWaiting}
use Rattle.replay_model.specs.QueueTests.{HasOtherNice, IsRunner}
use Rattle.cfs_model.specs.declared.task.Place.TheVariants.{Run, Wait, Rest}
use Rattle.runqueue.specs.declared.sched_entity.SchedEntity.{SchedEntity}
use Rattle.queue_replay.specs.Picks.{IdlesBeside}
use Rattle.runqueue.specs.Queue.{IsTheRunner}
use Rattle.runqueue.specs.Tasks.{entity_of}
use Rattle.runqueue.proofs.Parts.{its_place}

-- the task of a pid as the part has it
pub entity_told : (task : Option SchedEntity) (t : SchedEntity) (o : Option Entity) → task ≡ Some t
    → option_map entity_of task ≡ o
    → Some (entity_of t) ≡ o
entity_told task t o is e = sym (ap (option_map entity_of) is) ∙ e

-- a task of this pid, where one has it
pub some_task : (part : Part) (pid : ℕ) (t : SchedEntity) (P : Entity → Type 0) (b : Bool)
    → Some (entity_of t) ≡ part.tasks pid
    → (IsTrue b ↔ P (entity_of t)) → (IsTrue b ↔ ((s : Entity) × (part.tasks pid ≡ Some s) × P s))
some_task part pid t P b e same = (
  (λ h. (entity_of t, sym e, same.0 h)),
  (λ h. same.1 (subst P (same_Some h.0 (entity_of t) (sym h.1 ∙ sym e)) h.2)),
)

-- another nice value
pub other_nice : (part : Part) (pid : ℕ) (t : SchedEntity) (nice : ℤ) (b : Bool) → Some (entity_of t) ≡ part.tasks pid
    → (IsTrue b ↔ (t.nice ≢ nice)) → (IsTrue b ↔ HasOtherNice part pid nice)
other_nice part pid t nice b e same = (
  (λ h. record { task = entity_of t; stands = sym e; other = same.0 h }),
  (λ h. same.1 (subst (λ (s : Entity). s.nice ≢ nice) (same_Some h.task (entity_of t) (sym h.stands ∙ sym e)) h.other)),
)

-- a task outside its wakeup's bounds
pub outside : (part : Part) (credit : ℕ) (floor v : ℤ) (pid : ℕ) (t : SchedEntity) (b : Bool)
    → Some (entity_of t) ≡ part.tasks pid → t.place ≡ Rest
    → (IsTrue b ↔ IsInWakeBounds credit floor t.v v)
    → (IsTrue (not b) ↔ ((s : Entity) × (part.tasks pid ≡ Some s) × (s.place ≡ Rest)
    × (¬ IsInWakeBounds credit floor s.runtime v)))
outside part credit floor v pid t b e rests same = (
  (λ h. (entity_of t, sym e, rests, λ k. false≢true (sym (not-true b h) ∙ same.1 k))),
  (λ h. not_from_false b (false_or b (λ k. h.3 (subst (λ (s : Entity). IsInWakeBounds credit floor s.runtime v)
      (same_Some (entity_of t) h.0 (e ∙ h.1)) (same.0 k))))),
)
  where
    false_or : (c : Bool) → (c ≡ true → ⊥) → c ≡ false
    false_or true f = absurd (f refl)
    false_or false f = refl

-- pid 0 is what runs where nobody does
pub is_runner : (part : Part) (runner : Option SchedEntity) → IsTheRunner part runner → (pid : ℕ) → pid ≡ 0 → (b : Bool)
    → b ≡ is_none runner
    → (IsTrue b ↔ IsRunner part pid)
is_runner part runner ran (suc n) e b same = absurd (omega (arith, e))
is_runner part None nobody zero e b same = ((λ h. nobody), (λ h. same))
is_runner part (Some t) ran zero e b same = (
  (λ h. absurd (false≢true (sym same ∙ h))),
  (λ nobody. absurd (nobody t.pid (ap its_place ran.0 ∙ ap Some ran.1))),
)

pub task_runs : (part : Part) (pid : ℕ) → pid ≢ 0 → (b : Bool) → (IsTrue b ↔ IsIn part Run pid)
    → (IsTrue b ↔ IsRunner part pid)
task_runs part zero ne b same = absurd (ne refl)
task_runs part (suc n) ne b same = same

pub idles_beside : (part : Part) (next : ℕ) (v : ℤ) → next ≡ 0 → IsLeastWaiting part v → IdlesBeside part next 0
idles_beside part (suc n) v e w = absurd (omega (arith, e))
idles_beside part zero v e w = ((w.pid, ap its_place w.stands ∙ ap Some w.waits), refl)

pub idles_not : (part : Part) (next : ℕ) → NobodyIn part Wait → (pid : ℕ) → ¬ IdlesBeside part next pid
idles_not part (suc n) nobody pid h = h
idles_not part zero nobody pid h = nobody h.0.0 h.0.1

-- the bounds of a wakeup, one by one
pub in_bounds : (credit : ℕ) (floor own v : ℤ) (b : Bool) → own ≤ℤ v → v ≤ℤ int_max own floor
    → (IsTrue b ↔ ((floor -ℤ pos credit) ≤ℤ v)) → (IsTrue b ↔ IsInWakeBounds credit floor own v)
in_bounds credit floor own v b from to same = (
  (λ h. let low = same.0 h in (omega (arith, ints, clamps), to)),
  (λ h. same.1 (let k = h.0 in omega (arith, ints, clamps))),
)

-- whether nobody runs beside a waiting task
pub idles : (part : Part) (runner : Option SchedEntity) (v : ℤ) → IsTheRunner part runner → is_some runner ≡ false
    → IsLeastWaiting part v → PartIdles part
idles part (Some t) v ran none w = absurd cc
idles part None v nobody none w = record {
  nobody_runs = nobody;
  pid = w.pid;
  waits = ap its_place w.stands
      ∙ ap Some w.waits;
}

pub busy : (part : Part) (runner : Option SchedEntity) → IsTheRunner part runner → is_some runner ≡ true
    → ¬ PartIdles part
busy part None nobody some idles = absurd cc
busy part (Some t) ran some idles = idles.nobody_runs t.pid (ap its_place ran.0 ∙ ap Some ran.1)

pub unwaited : (part : Part) → NobodyIn part Wait → ¬ PartIdles part
unwaited part none idles = none idles.pid idles.waits
