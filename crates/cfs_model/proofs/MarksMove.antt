-- Marks move with the lift alone: along the touched processors each mark becomes the time, and stays so.
use Rattle.std.proofs.Common.{◌≡◌, ◌≢◌, ℕ, zero, suc, true, false, ◌⊎◌, inl, inr, List, [], ◌∷◌, Option, None}
use Rattle.std.proofs.Common.{refl}
use Rattle.std.proofs.Common.{sym, ap, ◌∙◌, subst}
use Rattle.std.specs.List.{AllByRecursion}
use Rattle.cfs_model.specs.Laws.{MarksMove}
use Rattle.cfs_model.specs.Knobs.{KnobsView}
use Rattle.cfs_model.specs.Machine.{Pairs, Machine, pairs_of, put, with_pairs, put_pair, without_task}
use Rattle.cfs_model.specs.Touch.{touched}
use Rattle.cfs_model.specs.Lifted.{charged, IsLiftedAt, IsLifted}
use Rattle.cfs_model.specs.Reniced.{home_of}
use Rattle.cfs_model.specs.Step.{after_prev, after_next, Changes}
use Rattle.cfs_model.proofs.Moves.{put-same, put-other, same_or_not}
use Rattle.cfs_model.proofs.Renice.{reniced_is}
use Rattle.cfs_model.proofs.ToldCharge.{told_is}
use Rattle.cfs_model.specs.declared.act.Act.{Act}
use Rattle.cfs_model.specs.declared.act.Act.TheVariants.{Switch, Wake, Born, Shift}
use Rattle.cfs_model.specs.declared.act.Way.{Way}
use Rattle.cfs_model.specs.declared.act.Way.TheVariants.{Stays, Sleeps, Ends}
use Rattle.cfs_model.specs.declared.charge_line.ChargeLine.{ChargeLine}
use Rattle.cfs_model.specs.declared.claim.Claim.{Claim}
use Rattle.cfs_model.specs.declared.task.Place.{Place}
use Rattle.cfs_model.specs.declared.task.Place.TheVariants.{Run, Wait, Rest}
use Rattle.cfs_model.specs.declared.policy.Policy.{Policy}

-- a lift of one processor moves its mark
mark_at : (bound time : ℕ) (charge : Option ChargeLine) (c : ℕ) (m after : Machine)
    → IsLiftedAt bound time charge c m after → (cpu : ℕ) → after.mark cpu ≡ put m.mark c time cpu
mark_at bound time charge c m after l cpu =
    ap (λ (x : Machine). x.mark cpu) l.result
    ∙ ap (λ (x : Machine). x.mark cpu) (told_is bound charge c m (charged m c time) l.told l.charges)

-- a mark that is the time stays so
mark_kept : (bound time : ℕ) (charge : Option ChargeLine) (cpus : List ℕ) (m after : Machine)
    → IsLifted bound time charge cpus m after → (cpu : ℕ) → m.mark cpu ≡ time → after.mark cpu ≡ time
mark_kept bound time charge [] m after l cpu h = ap (λ (x : Machine). x.mark cpu) l ∙ h
mark_kept bound time charge (c ∷ cpus) m after l cpu h =
    mark_kept bound time None cpus l.0 after l.2 cpu (mark_at bound time charge c m l.0 l.1 cpu
    ∙ go (same_or_not cpu c))
  where
    go : (cpu ≡ c) ⊎ (cpu ≢ c) → put m.mark c time cpu ≡ time
    go (inl e) = ap (put m.mark c time) e ∙ put-same m.mark c time
    go (inr ne) = put-other m.mark c time cpu ne ∙ h

-- every mark of a lifted processor is the time
marks_moved : (bound time : ℕ) (charge : Option ChargeLine) (cpus : List ℕ) (m after : Machine)
    → IsLifted bound time charge cpus m after → AllByRecursion (λ cpu. after.mark cpu ≡ time) cpus
marks_moved bound time charge [] m after l = tt
marks_moved bound time charge (c ∷ cpus) m after l = (
  mark_kept bound time None cpus l.0 after l.2 c (mark_at bound time charge c m l.0 l.1 c ∙ put-same m.mark c time),
  marks_moved bound time None cpus l.0 after l.2,
)

-- and another mark is as it was
marks_stay : (bound time : ℕ) (charge : Option ChargeLine) (cpus : List ℕ) (m after : Machine)
    → IsLifted bound time charge cpus m after → (cpu : ℕ) → AllByRecursion (λ other. cpu ≢ other) cpus
    → after.mark cpu ≡ m.mark cpu
marks_stay bound time charge [] m after l cpu h = ap (λ (x : Machine). x.mark cpu) l
marks_stay bound time charge (c ∷ cpus) m after l cpu h =
    marks_stay bound time None cpus l.0 after l.2 cpu h.1 ∙ mark_at bound time charge c m l.0 l.1 cpu
    ∙ put-other m.mark c time cpu h.0

pub mark-with_pairs : (m : Machine) (place : Place) (s : Pairs) → (with_pairs m place s).mark ≡ m.mark
mark-with_pairs m Run s = refl
mark-with_pairs m Wait s = refl
mark-with_pairs m Rest s = refl

mark-after_prev : (m : Machine) (cpu prev : ℕ) (way : Way) → (after_prev m cpu prev way).mark ≡ m.mark
mark-after_prev m cpu zero way = refl
mark-after_prev m cpu (suc n) Stays = refl
mark-after_prev m cpu (suc n) Sleeps = refl
mark-after_prev m cpu (suc n) Ends = refl

mark-after_next : (m : Machine) (cpu next : ℕ) → (after_next m cpu next).mark ≡ m.mark
mark-after_next m cpu zero = refl
mark-after_next m cpu (suc n) = refl

-- an event's own change leaves the marks
pub same_marks : (knobs : KnobsView) (m : Machine) (act : Act) (claim : Option Claim) (policy : Policy) (after :
    Machine)
    → Changes knobs m act claim policy after → after.mark ≡ m.mark
same_marks knobs m (Switch cpu prev prev_nice way next next_nice) claim policy after s =
    ap (λ (x : Machine). x.mark) s.result ∙ mark-after_next (after_prev m cpu prev way) cpu next
    ∙ mark-after_prev m cpu prev way
same_marks knobs m (Wake cpu pid nice) claim policy after (inl s) = ap (λ (x : Machine). x.mark) s.result
same_marks knobs m (Wake cpu pid nice) claim policy after (inr s) = ap (λ (x : Machine). x.mark) s.result
same_marks knobs m (Born cpu pid nice) claim policy after s = ap (λ (x : Machine). x.mark) s.result
same_marks knobs m (Shift orig dest pid nice) claim policy after s =
    let left = without_task m s.place orig pid in
    ap (λ (x : Machine). x.mark) s.result
    ∙ mark-with_pairs left s.place (put_pair (pairs_of left s.place) dest pid true)
    ∙ mark-with_pairs m s.place (put_pair (pairs_of m s.place) orig pid false)

pub marks_move : MarksMove
marks_move knobs before event after s =
    let same = same_marks knobs s.found event.entry.act event.claim event.policy after s.changes
    ∙ ap (λ (m : Machine). m.mark) (reniced_is (home_of event.entry.act) event.nice s.lifted s.found s.is_reniced) in (
      subst (λ (f : ℕ → ℕ). AllByRecursion (λ cpu. f cpu ≡ event.entry.time) (touched event.entry.act)) (sym same)
          (marks_moved knobs.drift event.entry.time event.charge (touched event.entry.act) before s.lifted
          s.is_lifted),
      (λ cpu h. ap (λ (f : ℕ → ℕ). f cpu) same ∙ marks_stay knobs.drift event.entry.time event.charge
          (touched event.entry.act) before s.lifted s.is_lifted cpu h),
    )
