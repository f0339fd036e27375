-- The start that a companion names is in order: as pids rise, who stands somewhere is the task that is found by its
-- pid.
use Rattle.std.proofs.Common.{◌≡◌, ℕ, zero, suc, ◌<◌, nat_eq, Bool, true, false, cond, ◌&&◌, ◌||◌, Option, Some, None}
use Rattle.std.proofs.Common.{IsSome, is_some, option_map, ℤ, pos, ◌⊎◌, ◌↔◌, inl, inr, List, [], ◌∷◌, slice_index_or}
use Rattle.std.proofs.Common.{refl, sym, ap, ◌∙◌, subst, true≢false, arith}
use Rattle.std.proofs.lemmas.Bool.{eq-eqb, ne_eqb, eqb-true}
use Rattle.std.proofs.lemmas.Int.{ints}
use Rattle.std.specs.List.{AllByRecursion}
use Rattle.cfs_model.specs.Charge.{IsInRange}
use Rattle.cfs_model.specs.Machine.{pairs_of, Stands}
use Rattle.cfs_model.specs.Start.{place_eq, named_in, task_of, start_machine}
use Rattle.cfs_model.specs.Order.{StandsSomewhere, IsInOrder, RunTogether, PidsRise, OneRuns, IsStart}
use Rattle.cfs_model.specs.declared.task.Place.{Place}
use Rattle.cfs_model.specs.declared.task.Place.TheVariants.{Run, Wait, Rest}
use Rattle.cfs_model.specs.declared.task.Task.{Task}

pub or_cases : (x y : Bool) → (x || y) ≡ true → (x ≡ true) ⊎ (y ≡ true)
or_cases true y h = inl refl
or_cases false y h = inr h

and_parts : (x y : Bool) → (x && y) ≡ true → (x ≡ true) × (y ≡ true)
and_parts true y h = (refl, h)
and_parts false y h = absurd (true≢false (sym h))

place_eq_is : (r s : Place) → place_eq r s ≡ true → r ≡ s
place_eq_is Run Run h = refl
place_eq_is Wait Wait h = refl
place_eq_is Rest Rest h = refl
place_eq_is Run Wait h = absurd (true≢false (sym h))
place_eq_is Run Rest h = absurd (true≢false (sym h))
place_eq_is Wait Run h = absurd (true≢false (sym h))
place_eq_is Wait Rest h = absurd (true≢false (sym h))
place_eq_is Rest Run h = absurd (true≢false (sym h))
place_eq_is Rest Wait h = absurd (true≢false (sym h))

place_eq_refl : (r : Place) → place_eq r r ≡ true
place_eq_refl Run = refl
place_eq_refl Wait = refl
place_eq_refl Rest = refl

-- the test of one task
abbrev pub names : Place → ℕ → ℕ → Task → Bool
names place cpu pid t = nat_eq t.pid pid && (nat_eq t.cpu cpu && place_eq t.place place)

pub names_is : (place : Place) (cpu pid : ℕ) (t : Task) → names place cpu pid t ≡ true → (t.pid ≡ pid) × (t.cpu ≡ cpu)
    × (t.place ≡ place)
names_is place cpu pid t h =
    let a = and_parts (nat_eq t.pid pid) (nat_eq t.cpu cpu && place_eq t.place place) h in
    let b = and_parts (nat_eq t.cpu cpu) (place_eq t.place place) a.1 in
    (eqb-true t.pid pid a.0, eqb-true t.cpu cpu b.0, place_eq_is t.place place b.1)

-- a pid that is named among tasks of greater pids is greater
named_above : (n : ℕ) (tasks : List Task) (place : Place) (cpu pid : ℕ) → AllByRecursion
    (λ (u : Task). n < u.pid) tasks → named_in tasks place cpu pid ≡ true → n < pid
named_above n [] place cpu pid above h = absurd (true≢false (sym h))
named_above n (t ∷ tasks) place cpu pid above h =
    elim (or_cases (names place cpu pid t) (named_in tasks place cpu pid) h) [
      | inl x ↦ subst (λ p. n < p) (names_is place cpu pid t x).0 above.0
      | inr x ↦ named_above n tasks place cpu pid above.1 x
    ]

-- who stands somewhere is the task found by its pid
pub named_task : (tasks : List Task) → PidsRise tasks → (place : Place) (cpu pid : ℕ)
    → named_in tasks place cpu pid ≡ true
    → (t : Task) × (task_of tasks pid ≡ Some t) × (t.cpu ≡ cpu) × (t.place ≡ place)
named_task [] rise place cpu pid h = absurd (true≢false (sym h))
named_task (t ∷ tasks) rise place cpu pid h =
    elim (or_cases (names place cpu pid t) (named_in tasks place cpu pid) h) [
      | inl x ↦
          let is = names_is place cpu pid t x in
          (t, ap (λ b. cond b (Some t) (task_of tasks pid)) (eq-eqb t.pid pid is.0), is.1, is.2)
      | inr x ↦
          let rest = named_task tasks rise.1 place cpu pid x in
          let above : t.pid < pid = named_above t.pid tasks place cpu pid rise.0 x in
          let ne : t.pid ≡ pid → ⊥ = λ e. absurd (omega arith) in
          (rest.0, ap (λ b. cond b (Some t) (task_of tasks pid)) (ne_eqb t.pid pid ne) ∙ rest.1, rest.2, rest.3)
    ]

-- the task found by a pid stands there
pub task_named : (tasks : List Task) (pid : ℕ) (t : Task) → task_of tasks pid ≡ Some t
    → named_in tasks t.place t.cpu pid ≡ true
task_named [] pid t e = cc
task_named (u ∷ tasks) pid t e = go (nat_eq u.pid pid) refl e (task_named tasks pid t)
  where
    go : (b : Bool) → nat_eq u.pid pid ≡ b → cond b (Some u) (task_of tasks pid) ≡ Some t
        → (task_of tasks pid ≡ Some t → named_in tasks t.place t.cpu pid ≡ true)
        → named_in (u ∷ tasks) t.place t.cpu pid ≡ true
    go true h f later =
        let same : u ≡ t = cc in
        ap (λ x. (x && (nat_eq u.cpu t.cpu && place_eq u.place t.place)) || named_in tasks t.place t.cpu pid) h
        ∙ ap (λ x. (x && place_eq u.place t.place) || named_in tasks t.place t.cpu pid)
        (eq-eqb u.cpu t.cpu (ap (λ (w : Task). w.cpu) same))
        ∙ ap (λ x. x || named_in tasks t.place t.cpu pid) (ap (λ (w : Task). place_eq w.place t.place) same
        ∙ place_eq_refl t.place)
    go false h f later = ap (λ x.
        (x && (nat_eq u.cpu t.cpu && place_eq u.place t.place)) || named_in tasks t.place t.cpu pid) h ∙ later f

-- nobody runs beside a running task
none_together : (t : Task) (tasks : List Task) (pid : ℕ) → AllByRecursion (λ (u : Task). ¬ RunTogether t u) tasks
    → t.place ≡ Run → named_in tasks Run t.cpu pid ≡ true → ⊥
none_together t [] pid apart runs h = true≢false (sym h)
none_together t (u ∷ tasks) pid apart runs h =
    elim (or_cases (names Run t.cpu pid u) (named_in tasks Run t.cpu pid) h) [
      | inl x ↦ let is = names_is Run t.cpu pid u x in apart.0 (runs, is.2, sym is.1)
      | inr x ↦ none_together t tasks pid apart.1 runs x
    ]

start_one_runs : (tasks : List Task) → OneRuns tasks → (cpu pid other : ℕ) → named_in tasks Run cpu pid ≡ true
    → named_in tasks Run cpu other ≡ true → pid ≡ other
start_one_runs [] one cpu pid other h k = absurd (true≢false (sym h))
start_one_runs (t ∷ tasks) one cpu pid other h k =
    elim (or_cases (names Run cpu pid t) (named_in tasks Run cpu pid) h) [
      | inl x ↦ let is = names_is Run cpu pid t x in elim (or_cases (names Run cpu other t)
          (named_in tasks Run cpu other) k) [
            | inl y ↦ sym is.0 ∙ (names_is Run cpu other t y).0
            | inr y ↦ absurd (none_together t tasks other one.0 is.2 (subst (λ c. named_in tasks Run c other ≡ true)
                (sym is.1) y))
          ]
      | inr x ↦ elim (or_cases (names Run cpu other t) (named_in tasks Run cpu other) k) [
        | inl y ↦ let is = names_is Run cpu other t y in absurd (none_together t tasks pid one.0 is.2
            (subst (λ c. named_in tasks Run c pid ≡ true) (sym is.1) x))
        | inr y ↦ start_one_runs tasks one.1 cpu pid other x y
      ]
    ]

start_runtimes : (tasks : List Task) → AllByRecursion (λ (t : Task). IsInRange t.v) tasks → (pid : ℕ) (v : ℤ)
    → option_map (λ (t : Task). t.v) (task_of tasks pid) ≡ Some v → IsInRange v
start_runtimes [] within pid v e = cc
start_runtimes (t ∷ tasks) within pid v e = go (nat_eq t.pid pid) e (start_runtimes tasks within.1 pid v)
  where
    go : (b : Bool) → option_map (λ (u : Task). u.v) (cond b (Some t) (task_of tasks pid)) ≡ Some v
        → (option_map (λ (u : Task). u.v) (task_of tasks pid) ≡ Some v → IsInRange v) → IsInRange v
    go true f later = let same : t.v ≡ v = cc in subst IsInRange same within.0
    go false f later = later f

start_floors : (floors : List ℤ) → AllByRecursion IsInRange floors → (cpu : ℕ)
    → IsInRange (slice_index_or floors cpu (pos 0))
start_floors [] within cpu = (omega (arith, ints), omega (arith, ints))
start_floors (f ∷ floors) within zero = within.0
start_floors (f ∷ floors) within (suc cpu) = start_floors floors within.1 cpu

-- the sets of the start
start_pairs : (start : ℕ) (floors : List ℤ) (tasks : List Task) (place : Place)
    → pairs_of (start_machine start floors tasks) place ≡ named_in tasks place
start_pairs start floors tasks Run = refl
start_pairs start floors tasks Wait = refl
start_pairs start floors tasks Rest = refl

-- a map over the tasks found by their pids is over who stands
start_keys : (start : ℕ) (floors : List ℤ) (tasks : List Task) → PidsRise tasks → (f : Task → ℤ) (pid : ℕ)
    → IsSome (option_map f (task_of tasks pid)) ↔ StandsSomewhere (start_machine start floors tasks) pid
start_keys start floors tasks rise f pid = (
  (λ h. go (task_of tasks pid) refl h),
  (λ w.
      let found = named_task tasks rise w.0 w.1 pid (ap (λ s. s w.1 pid) (sym (start_pairs start floors tasks w.0))
      ∙ w.2) in
      ap (λ o. is_some (option_map f o)) found.1),
)
  where
    go : (o : Option Task) → task_of tasks pid ≡ o → IsSome (option_map f o) → StandsSomewhere
        (start_machine start floors tasks) pid
    go None e h = absurd (true≢false (sym h))
    go (Some t) e h = (
      t.place,
      t.cpu,
      ap (λ s. s t.cpu pid) (start_pairs start floors tasks t.place)
          ∙ task_named tasks pid t e,
    )

one_task : (o : Option Task) (t u : Task) → o ≡ Some t → o ≡ Some u → t ≡ u
one_task o t u e f = cc

pub start_in_order : (start : ℕ) (floors : List ℤ) (tasks : List Task) → IsStart floors tasks
    → IsInOrder (start_machine start floors tasks)
start_in_order start floors tasks s =
    let named = λ (place : Place) (cpu pid : ℕ) (h : Stands (start_machine start floors tasks) place cpu pid).
    named_task tasks s.pids_rise place cpu pid (ap (λ s. s cpu pid) (sym (start_pairs start floors tasks place)) ∙ h) in
    record {
      one_place = λ pid r o c d h k.
          let a = named r c pid h in
          let b = named o d pid k in
          let same : a.0 ≡ b.0 = one_task (task_of tasks pid) a.0 b.0 a.1 b.1 in
          (sym a.3 ∙ ap (λ (t : Task). t.place) same ∙ b.3, sym a.2 ∙ ap (λ (t : Task). t.cpu) same ∙ b.2);
      one_runs = λ c p q h k. start_one_runs tasks s.one_runs c p q h k;
      runtimes = start_keys start floors tasks s.pids_rise (λ t. t.v);
      nices = start_keys start floors tasks s.pids_rise (λ t. t.nice);
      in_range = record {
        runtimes = start_runtimes tasks s.runtimes_in_range;
        floors = start_floors floors s.floors_in_range;
      };
    }
