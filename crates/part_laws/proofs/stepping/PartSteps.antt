-- A step of the machine by an event that touches one processor, from the step of the part there.
use Rattle.std.proofs.Common.{◌≡◌, ℕ, Option, [], ◌∷◌, refl, sym, ap, ◌∙◌, subst}
use Rattle.cfs_model.specs.Knobs.{KnobsView}
use Rattle.cfs_model.specs.Machine.{Machine, Stands}
use Rattle.cfs_model.specs.Touch.{touched}
use Rattle.cfs_model.specs.Lifted.{IsLiftedAt, IsLifted}
use Rattle.cfs_model.specs.Reniced.{home_of, IsReniced}
use Rattle.cfs_model.specs.Step.{after_prev, after_next, Changes, IsStep}
use Rattle.replay_model.specs.Part.{part_of, IsLiftedPart}
use Rattle.replay_model.specs.Deeds.{reniced}
use Rattle.replay_model.specs.AfterDeed.{after_deed}
use Rattle.replay_model.specs.QueueTests.{IsWrongCharge, IsStrangeNice}
use Rattle.replay_model.specs.Tests.{NoneHolds, late_tests}
use Rattle.replay_model.specs.StepAt.{deed_at, claim_for, step_at}
use Rattle.part_laws.specs.TouchedParts.{BornNowhere, OthersStay}
use Rattle.part_laws.specs.PartSteps.{MachineSteps}
use Rattle.cfs_model.proofs.KeptOrder.{IsApart, stands_same, lifted_apart}
use Rattle.cfs_model.proofs.ToldCharge.{lifted_pairs}
use Rattle.cfs_model.proofs.StepOrder.{apart_of, step_in_order}
use Rattle.cfs_model.proofs.Range.{lifted_range, change_range}
use Rattle.cfs_model.proofs.Renice.{reniced_apart, reniced_range}
use Rattle.replay_model.proofs.Clear.{IsClear, clear_of, stands_of}
use Rattle.part_laws.proofs.stepping.PartLift.{lift_exists}
use Rattle.part_laws.proofs.stepping.PartRenice.{renice_exists, reniced_stood, home_is, nice_is, charge_is}
use Rattle.part_laws.proofs.stepping.PartSwitch.{switch_part, switch_exists}
use Rattle.part_laws.proofs.stepping.PartPlaced.{wake_part, wake_exists, birth_part, birth_exists}
use Rattle.cfs_model.specs.declared.act.Act.{Act}
use Rattle.cfs_model.specs.declared.act.Act.TheVariants.{Switch, Wake, Born, Shift}
use Rattle.cfs_model.specs.declared.charge_line.ChargeLine.{ChargeLine}
use Rattle.cfs_model.specs.declared.claim.Claim.{Claim}
use Rattle.cfs_model.specs.declared.task.Place.{Place}
use Rattle.cfs_model.specs.declared.policy.Policy.{Policy}

-- an event's own change, and the parts after it
pub record ChangesPart (knobs : KnobsView) (m : Machine) (cpu : ℕ) (act : Act) (claim : Option Claim) (policy : Policy)
    : Type 0 where
  pub after : Machine
  pub changes : Changes knobs m act claim policy after
  pub here : part_of after cpu ≡ after_deed (part_of m cpu) (deed_at cpu policy act)
      (claim_for (deed_at cpu policy act) claim)
  pub others : OthersStay m after cpu

pub heads : (a b : ℕ) → a ∷ [] ≡ b ∷ [] → a ≡ b
heads a b e = cc

change_exists : (knobs : KnobsView) (m : Machine) → IsApart m
    → (cpu : ℕ) (act : Act) (claim : Option Claim) (policy : Policy)
    → touched act ≡ cpu ∷ [] → BornNowhere m act
    → IsClear knobs cpu (part_of m cpu) (deed_at cpu policy act) (claim_for (deed_at cpu policy act) claim)
    → ChangesPart knobs m cpu act claim policy
change_exists knobs m a cpu (Switch here prev pn way next nn) claim policy t b =
    subst (λ x. IsClear knobs x (part_of m x) (deed_at x policy (Switch here prev pn way next nn)) claim
    → ChangesPart knobs m x (Switch here prev pn way next nn) claim policy)
    (heads here cpu t)
    (λ c. let s = switch_exists knobs m a here prev pn way next nn claim c in
    let after = after_next (after_prev m here prev way) here next in
    let p = switch_part knobs m a here prev pn way next nn claim after s in
    record { after = after; changes = s; here = p.0; others = p.1 })
change_exists knobs m a cpu (Wake here pid nice) claim policy t b =
    subst (λ x. IsClear knobs x (part_of m x) (deed_at x policy (Wake here pid nice)) claim
    → ChangesPart knobs m x (Wake here pid nice) claim policy)
    (heads here cpu t)
    (λ c. let s = wake_exists knobs m a here pid nice claim c in
    let p = wake_part knobs m a here pid nice claim s.0 s.1 in
    record { after = s.0; changes = s.1; here = p.0; others = p.1 })
change_exists knobs m a cpu (Born here pid nice) claim policy t b =
    subst (λ x. IsClear knobs x (part_of m x) (deed_at x policy (Born here pid nice)) claim
    → ChangesPart knobs m x (Born here pid nice) claim policy)
    (heads here cpu t)
    (λ c. let s = birth_exists knobs m here pid nice claim policy c b in
    let p = birth_part knobs m here pid nice claim policy s.0 s.1 in
    record { after = s.0; changes = s.1; here = p.0; others = p.1 })
change_exists knobs m a cpu (Shift orig dest pid nice) claim policy t b = absurd cc

-- a lift leaves everybody where they stood
lifted_sets : (bound time : ℕ) (charge : Option ChargeLine) (cpu : ℕ) (m lifted : Machine)
    → IsLiftedAt bound time charge cpu m lifted → (place : Place) (d pid : ℕ) → Stands lifted place d pid
    → Stands m place d pid
lifted_sets bound time charge cpu m lifted l place d pid h =
    stands_same m lifted (lifted_pairs bound time charge cpu m lifted l) place d pid h

found_nowhere : (m found : Machine) → ((place : Place) (d pid : ℕ) → Stands found place d pid → Stands m place d pid)
    → (act : Act) → BornNowhere m act → BornNowhere found act
found_nowhere m found stood (Switch here prev pn way next nn) b = tt
found_nowhere m found stood (Wake here pid nice) b = tt
found_nowhere m found stood (Born here pid nice) b = λ place other h. b place other (stood place other pid h)
found_nowhere m found stood (Shift orig dest pid nice) b = tt

pub machine_steps : MachineSteps
machine_steps knobs before event cpu part o r c t b s =
    let act = event.entry.act in
    let time = event.entry.time in
    let charge = event.charge in
    let told = charge_is act event.policy cpu charge t in
    let f = s.passes.is_found in
    let l = lift_exists before (apart_of before o) knobs.drift time charge cpu f.lifted s.passes.in_range
    (subst (λ x. (pid : ℕ) → ¬ IsWrongCharge knobs.drift (part_of before cpu) time x pid) told s.passes.told)
    (subst (λ x. IsLiftedPart time x (part_of before cpu) f.lifted) told f.is_lifted) in
    let lifted : IsLifted knobs.drift time charge (touched act) before l.0 =
    subst (λ cpus. IsLifted knobs.drift time charge cpus before l.0) (sym t) (l.0, l.1, refl) in
    let a = lifted_apart knobs.drift time charge (touched act) before l.0 lifted (apart_of before o) in
    let nice = nice_is act event.policy cpu event.nice t in
    let n = renice_exists l.0 a cpu event.nice s.found
    (f.is_reniced ∙ ap (λ x. reniced x f.lifted) nice ∙ ap (reniced event.nice) (sym l.2))
    (subst (λ x. (pid : ℕ) → ¬ IsStrangeNice s.found x pid) nice
    (stands_of knobs cpu s.found (step_at cpu event) s.passes.none)) in
    let renices : IsReniced (home_of act) event.nice l.0 n.0 = subst (λ x. IsReniced x event.nice l.0 n.0)
    (sym (home_is act cpu t)) n.1 in
    let clear = clear_of knobs cpu (part_of n.0 cpu) (step_at cpu event)
    (subst (λ p. NoneHolds (late_tests knobs cpu p (step_at cpu event))) (sym n.2) s.passes.none) in
    let nowhere = found_nowhere before n.0 (λ place d pid h. lifted_sets knobs.drift time charge cpu before l.0 l.1
    place d pid (reniced_stood cpu event.nice l.0 n.0 n.1 place d pid h)) act b in
    let e = change_exists knobs n.0 (reniced_apart cpu event.nice l.0 n.0 n.1 a) cpu act event.claim event.policy t
    nowhere
    clear in
    let step : IsStep knobs before event e.after = record {
      lifted = l.0;
      is_lifted = lifted;
      found = n.0;
      is_reniced = renices;
      changes = e.changes;
      in_range = change_range knobs n.0 act event.claim event.policy e.after e.changes r
          (reniced_range cpu event.nice l.0 n.0 n.1
          (lifted_range knobs.drift time charge (touched act) before l.0 lifted c o.in_range));
    } in (
      e.after,
      step,
      step_in_order knobs before event e.after o step,
      e.here ∙ ap (λ p. after_deed p (deed_at cpu event.policy act) (claim_for (deed_at cpu event.policy act)
          event.claim))
          n.2
          ∙ sym s.result,
      (λ d ne. e.others d ne ∙ n.3 d ne ∙ l.3 d ne),
    )
