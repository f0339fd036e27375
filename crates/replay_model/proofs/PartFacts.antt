-- What a processor's part and the machine's sets say of one another.
use Rattle.std.proofs.Common.{◌≡◌, ◌≢◌, ℕ, Bool, true, false, Option, Some, None, IsSome, is_some, option_map, ℤ, ◌⊎◌}
use Rattle.std.proofs.Common.{inl, inr, refl, sym, ap, ◌∙◌, subst, true≢false}
use mathlib.Core.Path.{fun_ext}
use Rattle.cfs_model.specs.Machine.{Machine, pairs_of, Stands, put}
use Rattle.replay_model.specs.Part.{Part, Entity, place_by, entity_by, entity_at, part_of, charged_in, charged_part}
use Rattle.replay_model.specs.Part.{told_in, told_part}
use Rattle.replay_model.specs.Part.{place_in, IsLiftedPart, IsIn}
use Rattle.cfs_model.proofs.KeptOrder.{IsApart}
use Rattle.cfs_model.proofs.Moves.{put-same, put-other, same_or_not}
use Rattle.cfs_model.specs.declared.charge_line.ChargeLine.{ChargeLine}
use Rattle.cfs_model.specs.declared.task.Place.{Place}
use Rattle.cfs_model.specs.declared.task.Place.TheVariants.{Run, Wait, Rest}
use Rattle.cfs_model.specs.declared.policy.Policy.{Policy}

-- two parts that agree on each pid, the floor and the mark are one
pub same_part : (p q : Part) → ((pid : ℕ) → p.tasks pid ≡ q.tasks pid) → p.floor ≡ q.floor → p.mark ≡ q.mark → p ≡ q
same_part p q e f g =
    let h : p.tasks ≡ q.tasks = fun_ext e in
    ap (λ t. record { tasks = t; floor = p.floor; mark = p.mark }) h
    ∙ ap (λ x. record { tasks = q.tasks; floor = x; mark = p.mark }) f
    ∙ ap (λ x. record { tasks = q.tasks; floor = q.floor; mark = x }) g

-- who stands where, by a task's three flags
abbrev flags_of : Place → Bool → Bool → Bool → Bool
flags_of Run r w s = r
flags_of Wait r w s = w
flags_of Rest r w s = s

place_is : (r w s : Bool) (place : Place) → place_by r w s ≡ Some place → flags_of place r w s ≡ true
place_is true w s Run e = refl
place_is true w s Wait e = absurd cc
place_is true w s Rest e = absurd cc
place_is false true s Run e = absurd cc
place_is false true s Wait e = refl
place_is false true s Rest e = absurd cc
place_is false false true Run e = absurd cc
place_is false false true Wait e = absurd cc
place_is false false true Rest e = refl
place_is false false false place e = absurd cc

-- a task's parts
pub record AreOf (s : Entity) (policy : Policy) (drift : ℤ) (place : Option Place) (nice v : Option ℤ) : Type 0 where
  pub policy_is : policy ≡ s.policy
  pub drift_is : drift ≡ s.drift
  pub place_is : place ≡ Some s.place
  pub nice_is : nice ≡ Some s.nice
  pub runtime_is : v ≡ Some s.runtime

pub parts_of : (policy : Policy) (drift : ℤ) (place : Option Place) (nice v : Option ℤ) (s : Entity)
    → entity_by policy drift place nice v ≡ Some s → AreOf s policy drift place nice v
parts_of policy drift None nice v s e = absurd cc
parts_of policy drift (Some place) None v s e = absurd cc
parts_of policy drift (Some place) (Some nice) None s e = absurd cc
parts_of policy drift (Some place) (Some nice) (Some v) s e =
    let f : record { place = place; nice = nice; policy = policy; runtime = v; drift = drift } ≡ s = cc in
    record {
      policy_is = ap (λ x. x.policy) f;
      drift_is = ap (λ x. x.drift) f;
      place_is = ap (λ x. Some x.place) f;
      nice_is = ap (λ x. Some x.nice) f;
      runtime_is = ap
          (λ x. Some x.runtime) f;
    }

pairs_by : (m : Machine) (cpu pid : ℕ) (place : Place)
    → flags_of place (m.running cpu pid) (m.waiting cpu pid) (m.resting cpu pid) ≡ pairs_of m place cpu pid
pairs_by m cpu pid Run = refl
pairs_by m cpu pid Wait = refl
pairs_by m cpu pid Rest = refl

-- a task of the part stands in the machine, with its values
pub record StandsAs (m : Machine) (cpu pid : ℕ) (s : Entity) : Type 0 where
  pub stands : Stands m s.place cpu pid
  pub nice : m.nice pid ≡ Some s.nice
  pub policy : m.policy pid ≡ s.policy
  pub drift : m.drift pid ≡ s.drift
  pub runtime : m.runtime pid ≡ Some s.runtime

pub stands_as : (m : Machine) (cpu pid : ℕ) (s : Entity) → entity_at m cpu pid ≡ Some s → StandsAs m cpu pid s
stands_as m cpu pid s e =
    let p = parts_of (m.policy pid) (m.drift pid)
    (place_by (m.running cpu pid) (m.waiting cpu pid) (m.resting cpu pid)) (m.nice pid) (m.runtime pid) s e in
    record {
      stands = sym (pairs_by m cpu pid s.place)
          ∙ place_is (m.running cpu pid) (m.waiting cpu pid) (m.resting cpu pid) s.place p.place_is;
      nice = p.nice_is;
      policy = p.policy_is;
      drift = p.drift_is;
      runtime = p.runtime_is;
    }

-- a pid that is in one set alone is in that set's place
place_alone : (r w s : Bool) (place : Place) → flags_of place r w s ≡ true
    → ((other : Place) → flags_of other r w s ≡ true → other ≡ place) → place_by r w s ≡ Some place
place_alone true w s place h alone = ap Some (alone Run refl)
place_alone false true s place h alone = ap Some (alone Wait refl)
place_alone false false true place h alone = ap Some (alone Rest refl)
place_alone false false false Run h alone = absurd (true≢false (sym h))
place_alone false false false Wait h alone = absurd (true≢false (sym h))
place_alone false false false Rest h alone = absurd (true≢false (sym h))

-- a pid that stands in one place alone is of the part
pub stander_at : (m : Machine) (place : Place) (cpu pid : ℕ) (nice v : ℤ) → Stands m place cpu pid
    → ((other : Place) → Stands m other cpu pid → other ≡ place)
    → m.nice pid ≡ Some nice → m.runtime pid ≡ Some v
    → entity_at m cpu pid
    ≡ Some (record { place = place; nice = nice; policy = m.policy pid; runtime = v; drift = m.drift pid })
stander_at m place cpu pid nice v h alone e f =
    let at : place_by (m.running cpu pid) (m.waiting cpu pid) (m.resting cpu pid) ≡ Some place =
    place_alone (m.running cpu pid) (m.waiting cpu pid) (m.resting cpu pid) place (pairs_by m cpu pid place ∙ h)
    (λ other k. alone other (sym (pairs_by m cpu pid other) ∙ k)) in
    ap (λ x. entity_by (m.policy pid) (m.drift pid) x (m.nice pid) (m.runtime pid)) at
    ∙ ap (λ x. entity_by (m.policy pid) (m.drift pid) (Some place) x (m.runtime pid)) e
    ∙ ap (λ x. entity_by (m.policy pid) (m.drift pid) (Some place) (Some nice) x) f

-- a task that stands in an ordered machine is of the part
pub is_stander : (m : Machine) → IsApart m → (place : Place) (cpu pid : ℕ) (nice v : ℤ) → Stands m place cpu pid
    → m.nice pid ≡ Some nice → m.runtime pid ≡ Some v
    → entity_at m cpu pid
    ≡ Some (record { place = place; nice = nice; policy = m.policy pid; runtime = v; drift = m.drift pid })
is_stander m a place cpu pid nice v h e f =
    stander_at m place cpu pid nice v h (λ other k. (a.one_place pid other place cpu cpu k h).0) e f

some_value : (o : Option ℤ) → IsSome o → (v : ℤ) × (o ≡ Some v)
some_value None h = absurd (true≢false (sym h))
some_value (Some v) h = (v, refl)

-- whoever stands in an ordered machine has values
pub values_of : (m : Machine) → IsApart m → (place : Place) (cpu pid : ℕ) → Stands m place cpu pid
    → (s : Entity) × (s.place ≡ place) × (entity_at m cpu pid ≡ Some s) × StandsAs m cpu pid s
values_of m a place cpu pid h =
    let n = some_value (m.nice pid) ((a.nices pid).1 (place, cpu, h)) in
    let v = some_value (m.runtime pid) ((a.runtimes pid).1 (place, cpu, h)) in
    let s : Entity = record { place = place; nice = n.0; policy = m.policy pid; runtime = v.0; drift = m.drift pid } in
    let known : StandsAs m cpu pid s = record { stands = h; nice = n.1; policy = refl; drift = refl; runtime = v.1 } in
    (s, refl, is_stander m a place cpu pid n.0 v.0 h n.1 v.1, known)

-- who stands nowhere at the processor has no place there
pub no_place : (m : Machine) (cpu pid : ℕ) → ((place : Place) → ¬ Stands m place cpu pid)
    → place_by (m.running cpu pid) (m.waiting cpu pid) (m.resting cpu pid) ≡ None
no_place m cpu pid h = go (place_by (m.running cpu pid) (m.waiting cpu pid) (m.resting cpu pid)) refl
  where
    go : (o : Option Place) → place_by (m.running cpu pid) (m.waiting cpu pid) (m.resting cpu pid) ≡ o
        → place_by (m.running cpu pid) (m.waiting cpu pid) (m.resting cpu pid) ≡ None
    go None e = e
    go (Some place) e = absurd
        (h place (sym (pairs_by m cpu pid place)
        ∙ place_is (m.running cpu pid) (m.waiting cpu pid) (m.resting cpu pid) place e))

-- who stands nowhere at the processor is none of the part
pub no_stander : (m : Machine) (cpu pid : ℕ) → ((place : Place) → ¬ Stands m place cpu pid)
    → entity_at m cpu pid ≡ None
no_stander m cpu pid h = ap (λ p. entity_by (m.policy pid) (m.drift pid) p (m.nice pid) (m.runtime pid))
    (no_place m cpu pid h)

-- a pid is in a place of the part where it stands there in the machine, and where it is so a task of the part says so
pub is_in : (m : Machine) → IsApart m → (place : Place) (cpu pid : ℕ) → Stands m place cpu pid
    → IsIn (part_of m cpu) place pid
is_in m a place cpu pid h =
    let s = values_of m a place cpu pid h in
    ap (option_map (λ (t : Entity). t.place)) s.2 ∙ ap Some s.1

-- the task of a pid that is in a place of a part
pub task_in : (part : Part) (place : Place) (pid : ℕ) → IsIn part place pid
    → (s : Entity) × (part.tasks pid ≡ Some s) × (s.place ≡ place)
task_in part place pid h = go (part.tasks pid) refl
  where
    go : (o : Option Entity) → part.tasks pid ≡ o → (s : Entity) × (part.tasks pid ≡ Some s) × (s.place ≡ place)
    go None e = absurd (let k : None ≡ Some place = sym (ap (option_map (λ (t : Entity). t.place)) e) ∙ h in cc)
    go (Some s) e = (
      s,
      e,
      (let k : Some s.place ≡ Some place = sym (ap (option_map (λ (t : Entity). t.place)) e) ∙ h in cc),
    )

pub stands_at : (m : Machine) (place : Place) (cpu pid : ℕ) → IsIn (part_of m cpu) place pid → Stands m place cpu pid
stands_at m place cpu pid h =
    let s = task_in (part_of m cpu) place pid h in
    subst (λ x. Stands m x cpu pid) s.2 (stands_as m cpu pid s.0 s.1).stands

-- who stands there stands there as charged
pub told_some : (charge : Option ChargeLine) (part : Part) (pid : ℕ)
    → is_some ((told_part charge part).tasks pid) ≡ is_some (part.tasks pid)
told_some None part pid = refl
told_some (Some charge) part pid = go (same_or_not pid charge.pid)
  where
    told : Option Entity
    told = option_map (told_in charge.v) (part.tasks charge.pid)

    same : (o : Option Entity) → is_some (option_map (told_in charge.v) o) ≡ is_some o
    same None = refl
    same (Some s) = refl

    go : (pid ≡ charge.pid) ⊎ (pid ≢ charge.pid) → is_some (put part.tasks charge.pid told pid) ≡ is_some
        (part.tasks pid)
    go (inl e) = ap is_some (ap (put part.tasks charge.pid told) e ∙ put-same part.tasks charge.pid told)
        ∙ same (part.tasks charge.pid) ∙ ap (λ p. is_some (part.tasks p)) (sym e)
    go (inr ne) = ap is_some (put-other part.tasks charge.pid told pid ne)

abbrev place_of : Option Entity → Option Place
place_of o = option_map (λ (s : Entity). s.place) o

-- a charge and a lift move nobody
told_place : (charge : Option ChargeLine) (part : Part) (pid : ℕ)
    → place_in (told_part charge part) pid ≡ place_in part pid
told_place None part pid = refl
told_place (Some charge) part pid = go (same_or_not pid charge.pid)
  where
    told : Option Entity
    told = option_map (told_in charge.v) (part.tasks charge.pid)

    same : (o : Option Entity) → place_of (option_map (told_in charge.v) o) ≡ place_of o
    same None = refl
    same (Some s) = refl

    go : (pid ≡ charge.pid) ⊎ (pid ≢ charge.pid) → place_of (put part.tasks charge.pid told pid) ≡ place_of
        (part.tasks pid)
    go (inl e) = ap place_of (ap (put part.tasks charge.pid told) e ∙ put-same part.tasks charge.pid told)
        ∙ same (part.tasks charge.pid) ∙ ap (λ p. place_of (part.tasks p)) (sym e)
    go (inr ne) = ap place_of (put-other part.tasks charge.pid told pid ne)

pub place_lifted : (time : ℕ) (charge : Option ChargeLine) (part lifted : Part) → IsLiftedPart time charge part lifted
    → (pid : ℕ) → place_in lifted pid ≡ place_in part pid
place_lifted time charge part lifted l pid =
    ap (λ (x : Part). place_of (x.tasks pid)) l.result ∙ told_place charge (charged_part part time) pid
    ∙ go (part.tasks pid)
  where
    go : (o : Option Entity) → place_of (option_map (charged_in part time) o) ≡ place_of o
    go None = refl
    go (Some s) = refl
