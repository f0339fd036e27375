-- The part of the start at a processor is that of the processor's own tasks.
use Rattle.std.proofs.Common.{◌≡◌, ℕ, ◌<◌, nat_eq, Bool, true, false, cond, Option, Some, None, option_map}
use Rattle.std.proofs.Common.{option_and_then, ℤ, pos, List, [], ◌∷◌, find, slice_index_or, refl, sym, ap, ◌∙◌, subst}
use Rattle.std.proofs.Common.{arith}
use Rattle.std.proofs.lemmas.Bool.{ne_eqb, eqb-true, eqb-false}
use Rattle.std.specs.List.{AllByRecursion}
use Rattle.std.specs.Option.{option_map_or}
use Rattle.cfs_model.specs.Machine.{Stands}
use Rattle.cfs_model.specs.Start.{named_in, task_of, start_machine}
use Rattle.cfs_model.specs.Order.{PidsRise, IsStart}
use Rattle.replay_model.specs.Part.{Entity, entity_at, part_of}
use Rattle.replay_model.specs.PartWords.{start_part}
use Rattle.replay_model.specs.Cut.{tasks_at}
use Rattle.cfs_model.proofs.StartOrder.{named_task, task_named, start_in_order}
use Rattle.cfs_model.proofs.StepOrder.{apart_of}
use Rattle.replay_model.proofs.PartFacts.{same_part, is_stander, no_stander}
use Rattle.cfs_model.specs.declared.task.Place.{Place}
use Rattle.cfs_model.specs.declared.task.Place.TheVariants.{Run, Wait, Rest}
use Rattle.cfs_model.specs.declared.task.Task.{Task}
use Rattle.cfs_model.specs.declared.policy.Policy.TheVariants.{Normal}

-- a task, if it is one of this processor
abbrev kept_at : ℕ → Task → Option Task
kept_at cpu t = cond (nat_eq t.cpu cpu) (Some t) None

-- among greater pids this one isn't
none_above : (n : ℕ) (tasks : List Task) → AllByRecursion (λ (u : Task). n < u.pid) tasks → task_of tasks n ≡ None
none_above n [] h = refl
none_above n (t ∷ tasks) h =
    ap (λ b. cond b (Some t) (task_of tasks n)) (ne_eqb t.pid n (λ e. let k : n < t.pid = h.0 in omega arith))
    ∙ none_above n tasks h.1

-- the task of a pid among those of a processor is its task, if that is of the processor
found_at : (tasks : List Task) → PidsRise tasks → (cpu pid : ℕ)
    → find (λ (t : Task). nat_eq t.pid pid) (tasks_at cpu tasks) ≡ option_and_then (kept_at cpu) (task_of tasks pid)
found_at [] rise cpu pid = refl
found_at (t ∷ tasks) rise cpu pid = go (nat_eq t.pid pid) (nat_eq t.cpu cpu) refl refl (found_at tasks rise.1 cpu pid)
  where
    go : (b c : Bool) → nat_eq t.pid pid ≡ b → nat_eq t.cpu cpu ≡ c
        → find (λ (t : Task). nat_eq t.pid pid) (tasks_at cpu tasks) ≡ option_and_then (kept_at cpu) (task_of tasks pid)
        → find (λ (t : Task). nat_eq t.pid pid) (tasks_at cpu (t ∷ tasks)) ≡ option_and_then (kept_at cpu)
        (task_of (t ∷ tasks) pid)
    go true true e f h = rw (f, e) (rw f refl)
    go false true e f h = rw (f, e) h
    go false false e f h = rw (f, e) h
    go true false e f h = rw (f, e)
        (rw f (h ∙ ap (option_and_then (kept_at cpu))
        (ap (task_of tasks) (sym (eqb-true t.pid pid e)) ∙ none_above t.pid tasks rise.0)))

pub named_there : (start : ℕ) (floors : List ℤ) (tasks : List Task) (place : Place) (cpu pid : ℕ)
    → Stands (start_machine start floors tasks) place cpu pid → named_in tasks place cpu pid ≡ true
named_there start floors tasks Run cpu pid h = h
named_there start floors tasks Wait cpu pid h = h
named_there start floors tasks Rest cpu pid h = h

stands_named : (start : ℕ) (floors : List ℤ) (tasks : List Task) (place : Place) (cpu pid : ℕ)
    → named_in tasks place cpu pid ≡ true → Stands (start_machine start floors tasks) place cpu pid
stands_named start floors tasks Run cpu pid h = h
stands_named start floors tasks Wait cpu pid h = h
stands_named start floors tasks Rest cpu pid h = h

abbrev stander_at_start : Task → Entity
stander_at_start t = record { place = t.place; nice = t.nice; policy = t.policy; runtime = t.v; drift = pos 0 }

start_stander : (start : ℕ) (floors : List ℤ) (tasks : List Task) → IsStart floors tasks → (cpu pid : ℕ)
    → entity_at (start_machine start floors tasks) cpu pid ≡ option_map stander_at_start
    (option_and_then (kept_at cpu) (task_of tasks pid))
start_stander start floors tasks s cpu pid = go (task_of tasks pid) refl
  where
    at : (t : Task) → task_of tasks pid ≡ Some t → (b : Bool) → nat_eq t.cpu cpu ≡ b
        → entity_at (start_machine start floors tasks) cpu pid ≡ option_map stander_at_start (cond b (Some t) None)
    at t e true f =
        let h : Stands (start_machine start floors tasks) t.place cpu pid = stands_named start floors tasks t.place cpu
        pid (subst (λ x. named_in tasks t.place x pid ≡ true) (eqb-true t.cpu cpu f) (task_named tasks pid t e)) in
        is_stander (start_machine start floors tasks)
        (apart_of (start_machine start floors tasks) (start_in_order start floors tasks s)) t.place cpu pid t.nice
        t.v h
        (ap (option_map (λ (x : Task). x.nice)) e) (ap (option_map (λ (x : Task). x.v)) e)
        ∙ ap (λ x. Some (record { place = t.place; nice = t.nice; policy = x; runtime = t.v; drift = pos 0 }))
        (ap (λ o. option_map_or (λ (x : Task). x.policy) o Normal) e)
    at t e false f =
        no_stander (start_machine start floors tasks) cpu pid (λ place h.
        let w = named_task tasks s.pids_rise place cpu pid (named_there start floors tasks place cpu pid h) in
        let same : Some w.0 ≡ Some t = sym w.1 ∙ e in
        let k : w.0 ≡ t = cc in
        eqb-false t.cpu cpu f (ap (λ (x : Task). x.cpu) (sym k) ∙ w.2))

    go : (o : Option Task) → task_of tasks pid ≡ o
        → entity_at (start_machine start floors tasks) cpu pid ≡ option_map stander_at_start
        (option_and_then (kept_at cpu) o)
    go None e =
        no_stander (start_machine start floors tasks) cpu pid (λ place h.
        let w = named_task tasks s.pids_rise place cpu pid (named_there start floors tasks place cpu pid h) in
        let k : None ≡ Some w.0 = sym e ∙ w.1 in
        absurd cc)
    go (Some t) e = at t e (nat_eq t.cpu cpu) refl

pub start_part_is : (start : ℕ) (floors : List ℤ) (tasks : List Task) → IsStart floors tasks → (cpu : ℕ)
    → part_of (start_machine start floors tasks) cpu ≡ start_part (tasks_at cpu tasks)
    (slice_index_or floors cpu (pos 0)) start
start_part_is start floors tasks s cpu =
    same_part (part_of (start_machine start floors tasks) cpu)
    (start_part (tasks_at cpu tasks) (slice_index_or floors cpu (pos 0)) start)
    (λ pid. start_stander start floors tasks s cpu pid
    ∙ ap (option_map stander_at_start) (sym (found_at tasks s.pids_rise cpu pid))) refl refl
