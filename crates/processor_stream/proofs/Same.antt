-- `==` of tasks, of steps and of streams answers whether they are the same.
use Rattle.std.proofs.Common.{◌≡◌, Decides, Option, Some, None, refl}
use Rattle.std.specs.Option.{option_eq}
use Rattle.std.proofs.lemmas.Bool.Decides.{Decides-eqb, Decides-int_eq, Decides-and, Decides-like}
use Rattle.std.proofs.lemmas.Slice.Eq.{slice_eq-Decides}
use Rattle.replay_model.specs.Cut.{StreamView}
use Rattle.cfs_model.specs.declared.act.Way.{Way}
use Rattle.cfs_model.specs.declared.act.Way.TheVariants.{Stays, Sleeps, Ends}
use Rattle.cfs_model.specs.declared.claim.Claim.{Claim}
use Rattle.cfs_model.specs.declared.claim.ClaimSort.{ClaimSort}
use Rattle.cfs_model.specs.declared.claim.ClaimSort.TheVariants.{At, Pass}
use Rattle.cfs_model.specs.declared.nice_line.NiceLine.{NiceLine}
use Rattle.cfs_model.specs.declared.charge_line.ChargeLine.{ChargeLine}
use Rattle.replay_model.specs.declared.step.Deed.{Deed}
use Rattle.replay_model.specs.declared.step.Deed.TheVariants.{Switch, Wake, Born, Leave, Arrive}
use Rattle.replay_model.specs.declared.step.Step.{Step}
use Rattle.cfs_model.proofs.Deciding.{place_decides, policies_decide}
use Rattle.cfs_model.specs.declared.task.Task.{Task}
use Rattle.processor_stream.specs.Same.{is_same}
use Rattle.cfs_model.specs.contracts.act.WayPartialEq.TheImpl as way_eq
use Rattle.cfs_model.specs.contracts.claim.ClaimPartialEq.TheImpl as claim_eq
use Rattle.cfs_model.specs.contracts.claim.ClaimSortPartialEq.TheImpl as sort_eq
use Rattle.cfs_model.specs.contracts.nice_line.NiceLinePartialEq.TheImpl as nice_eq
use Rattle.cfs_model.specs.contracts.charge_line.ChargeLinePartialEq.TheImpl as charge_eq
use Rattle.replay_model.specs.contracts.step.DeedPartialEq.TheImpl as deed_eq
use Rattle.replay_model.specs.contracts.step.StepPartialEq.TheImpl as step_eq
use Rattle.cfs_model.specs.contracts.task.TaskPartialEq.TheImpl as task_eq

way_decides : (a b : Way) → Decides ((way_eq.ghosts).eq a b) (a ≡ b)
way_decides Stays Stays = (λ _. refl, λ _. refl)
way_decides Sleeps Sleeps = (λ _. refl, λ _. refl)
way_decides Ends Ends = (λ _. refl, λ _. refl)
way_decides a b = (λ h. cc, λ h. cc)

sort_decides : (a b : ClaimSort) → Decides ((sort_eq.ghosts).eq a b) (a ≡ b)
sort_decides At At = (λ _. refl, λ _. refl)
sort_decides Pass Pass = (λ _. refl, λ _. refl)
sort_decides a b = (λ h. cc, λ h. cc)

claim_decides : (a b : Claim) → Decides ((claim_eq.ghosts).eq a b) (a ≡ b)
claim_decides a b =
    Decides-like _ (λ h i. record { line = h.0 i; pid = h.1.0 i; v = h.1.1.0 i; sort = h.1.1.1 i })
    (λ e. (cc, (cc, (cc, cc))))
    (Decides-and _ _ (Decides-eqb a.line b.line) (Decides-and _ _ (Decides-eqb a.pid b.pid)
    (Decides-and _ _ (Decides-int_eq a.v b.v) (sort_decides a.sort b.sort))))

option_decides : (a b : Option Claim) → Decides (option_eq (claim_eq.ghosts).eq a b) (a ≡ b)
option_decides None None = (λ _. refl, λ _. refl)
option_decides (Some a) (Some b) = Decides-like _ (λ h. cc) (λ e. cc) (claim_decides a b)
option_decides a b = (λ h. cc, λ h. cc)

nice_decides : (a b : NiceLine) → Decides ((nice_eq.ghosts).eq a b) (a ≡ b)
nice_decides a b =
    Decides-like _ (λ h i. record { line = h.0 i; pid = h.1.0 i; nice = h.1.1 i }) (λ e. (cc, (cc, cc)))
    (Decides-and _ _ (Decides-eqb a.line b.line) (Decides-and _ _ (Decides-eqb a.pid b.pid)
    (Decides-int_eq a.nice b.nice)))

change_decides : (a b : Option NiceLine) → Decides (option_eq (nice_eq.ghosts).eq a b) (a ≡ b)
change_decides None None = (λ _. refl, λ _. refl)
change_decides (Some a) (Some b) = Decides-like _ (λ h. cc) (λ e. cc) (nice_decides a b)
change_decides a b = (λ h. cc, λ h. cc)

charge_decides : (a b : ChargeLine) → Decides ((charge_eq.ghosts).eq a b) (a ≡ b)
charge_decides a b =
    Decides-like _ (λ h i. record { line = h.0 i; pid = h.1.0 i; v = h.1.1 i }) (λ e. (cc, (cc, cc)))
    (Decides-and _ _ (Decides-eqb a.line b.line) (Decides-and _ _ (Decides-eqb a.pid b.pid) (Decides-int_eq a.v b.v)))

told_decides : (a b : Option ChargeLine) → Decides (option_eq (charge_eq.ghosts).eq a b) (a ≡ b)
told_decides None None = (λ _. refl, λ _. refl)
told_decides (Some a) (Some b) = Decides-like _ (λ h. cc) (λ e. cc) (charge_decides a b)
told_decides a b = (λ h. cc, λ h. cc)

deed_decides : (a b : Deed) → Decides ((deed_eq.ghosts).eq a b) (a ≡ b)
deed_decides (Switch prev prev_nice way next next_nice) (Switch prev' prev_nice' way' next' next_nice') =
    Decides-like _ (λ h. cc) (λ e. (cc, (cc, (cc, (cc, cc)))))
    (Decides-and _ _ (Decides-eqb prev prev') (Decides-and _ _ (Decides-int_eq prev_nice prev_nice')
    (Decides-and _ _ (way_decides way way') (Decides-and _ _ (Decides-eqb next next')
    (Decides-int_eq next_nice next_nice')))))
deed_decides (Wake pid nice) (Wake pid' nice') =
    Decides-like _ (λ h. cc) (λ e. (cc, cc)) (Decides-and _ _ (Decides-eqb pid pid') (Decides-int_eq nice nice'))
deed_decides (Born pid nice policy) (Born pid' nice' policy') =
    Decides-like _ (λ h. cc) (λ e. (cc, (cc, cc)))
    (Decides-and _ _ (Decides-eqb pid pid') (Decides-and _ _ (Decides-int_eq nice nice') (policies_decide policy
    policy')))
deed_decides (Leave pid nice dest) (Leave pid' nice' dest') =
    Decides-like _ (λ h. cc) (λ e. (cc, (cc, cc)))
    (Decides-and _ _ (Decides-eqb pid pid') (Decides-and _ _ (Decides-int_eq nice nice') (Decides-eqb dest dest')))
deed_decides (Arrive pid nice orig policy) (Arrive pid' nice' orig' policy') =
    Decides-like _ (λ h. cc) (λ e. (cc, (cc, (cc, cc))))
    (Decides-and _ _ (Decides-eqb pid pid') (Decides-and _ _ (Decides-int_eq nice nice')
    (Decides-and _ _ (Decides-eqb orig orig') (policies_decide policy policy'))))
deed_decides a b = (λ h. cc, λ h. cc)

pub task_decides : (a b : Task) → Decides ((task_eq.ghosts).eq a b) (a ≡ b)
task_decides a b =
    Decides-like _ (λ h i. record {
      pid = h.0 i;
      nice = h.1.0 i;
      policy = h.1.1.0 i;
      cpu = h.1.1.1.0 i;
      place = h.1.1.1.1.0 i;
      v = h.1.1.1.1.1 i;
    })
    (λ e. (cc, (cc, (cc, (cc, (cc, cc))))))
    (Decides-and _ _ (Decides-eqb a.pid b.pid) (Decides-and _ _ (Decides-int_eq a.nice b.nice)
    (Decides-and _ _ (policies_decide a.policy b.policy)
    (Decides-and _ _ (Decides-eqb a.cpu b.cpu) (Decides-and _ _ (place_decides a.place b.place)
    (Decides-int_eq a.v b.v))))))

pub step_decides : (a b : Step) → Decides ((step_eq.ghosts).eq a b) (a ≡ b)
step_decides a b =
    Decides-like _ (λ h i. record {
      line = h.0 i;
      time = h.1.0 i;
      deed = h.1.1.0 i;
      claim = h.1.1.1.0 i;
      nice = h.1.1.1.1.0 i;
      charge = h.1.1.1.1.1 i;
    })
    (λ e. (cc, (cc, (cc, (cc, (cc, cc))))))
    (Decides-and _ _ (Decides-eqb a.line b.line) (Decides-and _ _ (Decides-eqb a.time b.time)
    (Decides-and _ _ (deed_decides a.deed b.deed) (Decides-and _ _ (option_decides a.claim b.claim)
    (Decides-and _ _ (change_decides a.nice b.nice) (told_decides a.charge b.charge))))))

-- two streams hold the same where each of what they hold is equal
pub is_same_decides : (a b : StreamView) → Decides (is_same a b) (a ≡ b)
is_same_decides a b =
    Decides-like _ (λ h i. record {
      cpu = h.0 i;
      tasks = h.1.0 i;
      floor = h.1.1.0 i;
      start = h.1.1.1.0 i;
      steps = h.1.1.1.1.0 i;
      last_time = h.1.1.1.1.1.0 i;
      last_line = h.1.1.1.1.1.1 i;
    }) (λ e. (cc, (cc, (cc, (cc, (cc, (cc, cc)))))))
    (Decides-and _ _ (Decides-eqb a.cpu b.cpu) (Decides-and _ _ (slice_eq-Decides task_decides a.tasks b.tasks _ refl)
    (Decides-and _ _ (Decides-int_eq a.floor b.floor) (Decides-and _ _ (Decides-eqb a.start b.start)
    (Decides-and _ _ (slice_eq-Decides step_decides a.steps b.steps _ refl)
    (Decides-and _ _ (Decides-eqb a.last_time b.last_time) (Decides-eqb a.last_line b.last_line)))))))
