-- A runqueue at the start, task by task: the pids rise, and at most one of the tasks runs.
use Rattle.std.proofs.Common.{◌≡◌, ◌≢◌, ℕ, ◌+◌, ◌<◌, Bool, false, eqb, List, [], ◌∷◌, ◌++◌, length, map, take, get_or}
use Rattle.std.proofs.Common.{All, Some, None, option_map, ℤ, inl, inr, refl, sym, ap, ◌∙◌, subst, arith}
use Rattle.std.specs.List.{find, AllPairs}
use Rattle.std.proofs.lemmas.Bool.{ne_eqb, cond-false}
use Rattle.std.proofs.lemmas.List.{get_or-map, get_or-take, get_or_default, length-map, length-take-le, map-append}
use Rattle.std.proofs.lemmas.List.{take_more}
use Rattle.std.proofs.lemmas.List.Elements.{All-head, All-tail}
use Rattle.std.proofs.lemmas.Option.{same_Some}
use Rattle.cfs_model.specs.Start.{task_of}
use Rattle.cfs_model.specs.declared.task.Place.TheVariants.{Run}
use Rattle.cfs_model.specs.declared.task.Task.{Task}
use Rattle.replay_model.specs.Deeds.{with_entity}
use Rattle.replay_model.specs.Part.{NobodyIn, Part}
use Rattle.replay_model.specs.PartWords.{start_part}
use Rattle.cfs_model.specs.Machine.{put}
use Rattle.runqueue.specs.Tasks.{entity_from, RisesByPid}
use Rattle.runqueue.proofs.Parts.{its_place, same_tasks}
use Rattle.runqueue.specs.TaskRows.{with_pid, with_pid_at}
use Rattle.pid_table.proofs.Changes.{no_index}
use Rattle.runqueue.proofs.TaskOf.{stands, stands_pushed, contains, option_cases}

find_none : (p : Task → Bool) (xs : List Task) → All (λ t. p t ≡ false) xs → find p xs ≡ None
find_none p [] none = refl
find_none p (x ∷ xs) none =
    cond-false (p x) (Some x) (find p xs) (All-head (λ t. p t ≡ false) x xs none)
    ∙ find_none p xs (All-tail (λ t. p t ≡ false) x xs none)

module _ (tasks : List Task) (i : ℕ) (t : Task) (within : i < length tasks) (is : t ≡ get_or tasks i t) where
  -- none of those before has the pid
  pub before_none : RisesByPid tasks → task_of (take i tasks) t.pid ≡ None
  before_none rise =
      find_none (λ u. eqb u.pid t.pid) (take i tasks) (λ k d h.
      let n : length (take i tasks) ≡ i = length-take-le i tasks (omega (arith, within)) in
      let below : k < i = omega (arith, n, h) in
      let e : get_or (take i tasks) k d ≡ get_or tasks k t = get_or-take i tasks k d below
      ∙ get_or_default tasks k d t (omega (arith, below, within)) in
      ne_eqb _ _ (λ f.
      let r : (get_or tasks k t).pid < (get_or tasks i t).pid = rise k i t below within in
      let g : (get_or tasks k t).pid ≡ t.pid = sym (ap (λ (x : Task). x.pid) e) ∙ f in
      let j : t.pid ≡ (get_or tasks i t).pid = ap (λ (x : Task). x.pid) is in
      absurd (omega (arith, r, g, j))))

  -- none of those before runs, where it does
  pub before_idle : AllPairs (λ t u. t.place ≡ Run → u.place ≡ Run → ⊥) tasks → t.place ≡ Run → (floor : ℤ) (mark : ℕ)
      → (part : Part) → part ≡ start_part (take i tasks) floor mark → NobodyIn part Run
  before_idle one runs floor mark part same pid ran =
      let s : its_place (stands (take i tasks) pid) ≡ Some Run = sym (ap (λ (p : Part). its_place (p.tasks pid)) same)
      ∙ ran in
      elim (option_cases (task_of (take i tasks) pid)) [
        | inl none ↦ let f : None ≡ Some Run = sym (ap (λ o. its_place (option_map entity_from o)) none)
            ∙ s in absurd cc
        | inr some ↦
            let c = contains (take i tasks) pid some.0 some.1 in
            let n : length (take i tasks) ≡ i = length-take-le i tasks (omega (arith, within)) in
            let below : c.0 < i = (let h = c.1 in omega (arith, n, h)) in
            let e : get_or tasks c.0 t ≡ some.0 =
            get_or_default tasks c.0 t some.0 (omega (arith, below, within))
            ∙ sym (get_or-take i tasks c.0 some.0 below) ∙ c.2 in
            let there : some.0.place ≡ Run =
            same_Some some.0.place Run (sym (ap (λ o. its_place (option_map entity_from o)) some.1) ∙ s) in
            let R : Task → Type 0 = λ x. x.place ≡ Run in
            absurd (one c.0 i t below within (subst R (sym e) there) (subst R is runs))
      ]

  -- one task more
  pub one_task_more : RisesByPid tasks → (floor : ℤ) (mark : ℕ)
      → with_entity (start_part (take i tasks) floor mark) t.pid (Some (entity_from t)) ≡ start_part
      (take (i + 1) tasks) floor mark
  one_task_more rise floor mark =
      sym (same_tasks (stands (take i tasks ++ t ∷ []))
      (put (stands (take i tasks)) t.pid (Some (entity_from t))) floor mark
      (stands_pushed (take i tasks) t (before_none rise)))
      ∙ ap (λ l. start_part l floor mark) (ap (λ x. take i tasks ++ x ∷ []) is ∙ sym (take_more tasks i t within))

  -- one pid more
  pub one_pid_more : RisesByPid tasks
      → with_pid t.pid (map (λ (u : Task). u.pid) (take i tasks)) ≡ map (λ (u : Task). u.pid) (take (i + 1) tasks)
  one_pid_more rise =
      let before : List ℕ = map (λ (u : Task). u.pid) (take i tasks) in
      let n : length (take i tasks) ≡ i = length-take-le i tasks (omega (arith, within)) in
      let none : All (λ (other : ℕ). other ≢ t.pid) before = λ k d h e.
      let w : k < i = subst (λ m. k < m) (length-map (take i tasks) (λ (u : Task). u.pid) ∙ n) h in
      let p : get_or tasks k t ≡ get_or (take i tasks) k t = sym (get_or-take i tasks k t w) in
      let same : (get_or tasks k t).pid ≡ t.pid = ap (λ (u : Task). u.pid) p
      ∙ sym (get_or-map (λ (u : Task). u.pid) (take i tasks) k t d (subst (λ m. k < m) (sym n) w)) ∙ e in
      let r : (get_or tasks k t).pid < (get_or tasks i t).pid = rise k i t w within in
      let q : (get_or tasks i t).pid ≡ t.pid = ap (λ (u : Task). u.pid) (sym is) in
      absurd (omega (arith, r, q, same)) in
      ap (λ o. with_pid_at o t.pid before) (no_index before t.pid none)
      ∙ sym (map-append (λ (u : Task). u.pid) (take i tasks) (t ∷ []))
      ∙ ap (map (λ (u : Task). u.pid)) (ap (λ u. take i tasks ++ u ∷ []) is ∙ sym (take_more tasks i t within))
