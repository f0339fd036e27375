-- Where a task stands in a machine, as a row says it.
use Rattle.std.proofs.Common.{◌≡◌, ◌≢◌, ℕ, ◌⊎◌, inl, inr, ◌↔◌, refl, sym, ap, ◌∙◌, subst}
use Rattle.cfs_model.specs.Machine.{Machine, pairs_of, Stands}
use Rattle.cfs_model.proofs.Moves.{IsPutAt, IsGone}
use Rattle.cfs_model.proofs.KeptOrder.{IsApart, stands_same}
use Rattle.cfs_model.specs.declared.task.Place.{Place}
use Rattle.cfs_model.specs.declared.task.Place.TheVariants.{Run, Wait, Rest}
use Rattle.waiting_times.specs.Waits.{IsWaiting}
use Rattle.waiting_times.specs.declared.moment.Moment.{Moment}
use Rattle.waiting_times.specs.declared.task_row.Stand.{Stand}
use Rattle.waiting_times.specs.declared.task_row.Stand.TheVariants.{Away, Runs, Waits}

abbrev pub StandIs : ℕ → Machine → Stand → Type 0
StandIs pid m Away = ((cpu : ℕ) → ¬ Stands m Run cpu pid) × ((cpu : ℕ) → ¬ Stands m Wait cpu pid)
StandIs pid m Runs = (cpu : ℕ) × Stands m Run cpu pid
StandIs pid m (Waits since) = (cpu : ℕ) × Stands m Wait cpu pid

-- a task stands as before
pub record Unmoved (pid : ℕ) (m after : Machine) : Type 0 where
  pub kept : (place : Place) (cpu : ℕ) → Stands m place cpu pid → Stands after place cpu pid
  pub came : (place : Place) (cpu : ℕ) → Stands after place cpu pid → Stands m place cpu pid

pub unmoved_none : (pid : ℕ) (m : Machine) → Unmoved pid m m
unmoved_none pid m = record { kept = λ place cpu h. h; came = λ place cpu h. h }

pub unmoved_both : (pid : ℕ) (m mid after : Machine) → Unmoved pid m mid → Unmoved pid mid after → Unmoved pid m after
unmoved_both pid m mid after u v = record {
  kept = λ place cpu h. v.kept place cpu (u.kept place cpu h);
  came = λ place cpu h. u.came place cpu (v.came place cpu h);
}

pub unmoved_sets : (pid : ℕ) (m after : Machine) → ((r : Place) → pairs_of after r ≡ pairs_of m r)
    → Unmoved pid m after
unmoved_sets pid m after e = record {
  kept = λ place cpu h. stands_same after m (λ r. sym (e r)) place cpu pid h;
  came = λ place cpu h. stands_same m after e place cpu pid h;
}

pub unmoved_put : (m after : Machine) (pid : ℕ) (to : Place) (dest : ℕ) → IsPutAt m after pid to dest → (q : ℕ)
    → q ≢ pid → Unmoved q m after
unmoved_put m after pid to dest p q ne = record {
  kept = λ place cpu h. p.kept place cpu q ne h;
  came = λ place cpu h. elim (p.cases place cpu q h) [ inl x ↦ absurd (ne x.0) | inr x ↦ x.1 ];
}

pub unmoved_gone : (m after : Machine) (pid : ℕ) → IsGone m after pid → (q : ℕ) → q ≢ pid → Unmoved q m after
unmoved_gone m after pid g q ne = record {
  kept = λ place cpu h. g.kept place cpu q ne h;
  came = λ place cpu h. (g.cases place cpu q h).1;
}

pub unmoved_stand : (pid : ℕ) (m after : Machine) (stand : Stand) → Unmoved pid m after → StandIs pid m stand
    → StandIs pid after stand
unmoved_stand pid m after Away u s = (λ cpu h. s.0 cpu (u.came Run cpu h), λ cpu h. s.1 cpu (u.came Wait cpu h))
unmoved_stand pid m after Runs u s = (s.0, u.kept Run s.0 s.1)
unmoved_stand pid m after (Waits since) u s = (s.0, u.kept Wait s.0 s.1)

pub unmoved_waiting : (pid : ℕ) (m after : Machine) → Unmoved pid m after → IsWaiting pid m ↔ IsWaiting pid after
unmoved_waiting pid m after u = ((λ w. (w.0, u.kept Wait w.0 w.1)), (λ w. (w.0, u.came Wait w.0 w.1)))

run_wait : Run ≡ Wait → ⊥
run_wait e = cc

pub rest_wait : Rest ≡ Wait → ⊥
rest_wait e = cc

rest_run : Rest ≡ Run → ⊥
rest_run e = cc

-- who is put somewhere stands nowhere else
pub not_placed : (m after : Machine) (pid : ℕ) (to : Place) (dest : ℕ) → IsPutAt m after pid to dest → (place : Place)
    → place ≢ to → (cpu : ℕ) → ¬ Stands after place cpu pid
not_placed m after pid to dest p place ne cpu h = elim (p.cases place cpu pid h) [ inl x ↦ ne x.1 | inr x ↦ x.0 refl ]

module _ (m : Machine) (a : IsApart m) (pid : ℕ) where
  pub running_waits_not : (cpu : ℕ) → Stands m Run cpu pid → ¬ IsWaiting pid m
  running_waits_not cpu h w = run_wait (a.one_place pid Run Wait cpu w.0 h w.1).0

  pub resting_waits_not : (cpu : ℕ) → Stands m Rest cpu pid → ¬ IsWaiting pid m
  resting_waits_not cpu h w = rest_wait (a.one_place pid Rest Wait cpu w.0 h w.1).0

  pub stand_runs : (cpu : ℕ) (stand : Stand) → Stands m Run cpu pid → StandIs pid m stand → stand ≡ Runs
  stand_runs cpu Away h s = absurd (s.0 cpu h)
  stand_runs cpu Runs h s = refl
  stand_runs cpu (Waits since) h s = absurd (running_waits_not cpu h s)

  pub stand_waits : (cpu : ℕ) (stand : Stand) → Stands m Wait cpu pid → StandIs pid m stand
      → (since : Moment) × (stand ≡ Waits since)
  stand_waits cpu Away h s = absurd (s.1 cpu h)
  stand_waits cpu Runs h s = absurd (running_waits_not s.0 s.1 (cpu, h))
  stand_waits cpu (Waits since) h s = (since, refl)

  pub stand_rests : (cpu : ℕ) (stand : Stand) → Stands m Rest cpu pid → StandIs pid m stand → stand ≡ Away
  stand_rests cpu Away h s = refl
  stand_rests cpu Runs h s = absurd (rest_run (a.one_place pid Rest Run cpu s.0 h s.1).0)
  stand_rests cpu (Waits since) h s = absurd (resting_waits_not cpu h s)
