-- Maps over pids that differ at one of them, and parts of a machine that agree on each pid.
use Rattle.std.proofs.Common.{◌≡◌, ℕ, cond, eqb, Option, option_map, ℤ, inl, inr, sym, ap, ◌∙◌}
use mathlib.Core.Path.{fun_ext}
use Rattle.std.proofs.lemmas.Bool.{cases_eq, eq-eqb, cond-true}
use Rattle.cfs_model.specs.Machine.{put}
use Rattle.cfs_model.proofs.Moves.{put-other}
use Rattle.replay_model.specs.Deeds.{with_entity}
use Rattle.replay_model.specs.Part.{Part, Entity}
use Rattle.cfs_model.specs.declared.task.Place.{Place}

-- a part with these tasks
abbrev pub part_with : (ℕ → Option Entity) → ℤ → ℕ → Part
part_with tasks floor mark = record { tasks = tasks; floor = floor; mark = mark }

-- where one stands, if it does
abbrev pub its_place : Option Entity → Option Place
its_place o = option_map (λ s. s.place) o

-- parts that agree on each pid are one
pub same_tasks : (f g : ℕ → Option Entity) (floor : ℤ) (mark : ℕ) → ((pid : ℕ) → f pid ≡ g pid)
    → part_with f floor mark ≡ part_with g floor mark
same_tasks f g floor mark e = let h : f ≡ g = fun_ext e in ap (λ t. part_with t floor mark) h

-- a map with one value changed, at the key
pub put-at : {A : Type 0} (f : ℕ → A) (key : ℕ) (x : A) (q : ℕ) → q ≡ key → put f key x q ≡ x
unfolding put
put-at f key x q e = cond-true (eqb q key) x (f q) (eq-eqb q key e)

-- two such maps that agreed at a key agree there
pub put-under : {A : Type 0} (f g : ℕ → A) (key : ℕ) (x : A) (q : ℕ) → f q ≡ g q → put f key x q ≡ put g key x q
unfolding put
put-under f g key x q e = ap (λ y. cond (eqb q key) x y) e

-- a part stays where one stands as before
pub written_over : (part : Part) (pid : ℕ) (s : Option Entity) → s ≡ part.tasks pid → part ≡ with_entity part pid s
written_over part pid s e =
    same_tasks part.tasks (put part.tasks pid s) part.floor part.mark (λ q.
    elim (cases_eq q pid) [
      | inl same ↦ ap part.tasks same ∙ sym e ∙ sym (put-at part.tasks pid s q same)
      | inr other ↦ sym (put-other part.tasks pid s q other)
    ])
