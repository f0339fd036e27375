-- A step of the machine by an event that touches one processor is a step of the part there, and other parts stay.
use Rattle.std.proofs.Common.{◌≡◌, ℕ, Option, [], ◌∷◌, sym, ap, ◌∙◌, subst}
use Rattle.cfs_model.specs.Knobs.{KnobsView}
use Rattle.cfs_model.specs.Machine.{Machine, Stands}
use Rattle.cfs_model.specs.Touch.{touched}
use Rattle.cfs_model.specs.Lifted.{IsLiftedAt, IsLifted}
use Rattle.cfs_model.specs.Reniced.{IsReniced}
use Rattle.cfs_model.specs.Step.{Changes}
use Rattle.replay_model.specs.Part.{part_of, IsLiftedPart}
use Rattle.replay_model.specs.Deeds.{reniced}
use Rattle.replay_model.specs.AfterDeed.{after_deed}
use Rattle.replay_model.specs.QueueTests.{IsWrongCharge, IsStrangeNice}
use Rattle.replay_model.specs.StepAt.{deed_at, claim_for, step_at}
use Rattle.part_laws.specs.TouchedParts.{BornNowhere, OthersStay}
use Rattle.part_laws.specs.PartSteps.{PartSteps}
use Rattle.cfs_model.proofs.KeptOrder.{IsApart, stands_same, lifted_apart}
use Rattle.cfs_model.proofs.ToldCharge.{lifted_pairs}
use Rattle.cfs_model.proofs.StepOrder.{apart_of}
use Rattle.cfs_model.proofs.Renice.{reniced_apart}
use Rattle.replay_model.proofs.Clear.{IsClear, none_of}
use Rattle.part_laws.proofs.stepping.PartLift.{lifted_here}
use Rattle.part_laws.proofs.stepping.PartRenice.{reniced_here, reniced_stands, home_is, nice_is, charge_is}
use Rattle.part_laws.proofs.stepping.PartSwitch.{switch_part}
use Rattle.part_laws.proofs.stepping.SwitchClear.{switch_clear}
use Rattle.part_laws.proofs.stepping.PartPlaced.{wake_part, birth_part}
use Rattle.part_laws.proofs.stepping.PlacedClear.{wake_clear, birth_clear}
use Rattle.part_laws.proofs.stepping.PartSteps.{heads}
use Rattle.cfs_model.specs.declared.act.Act.{Act}
use Rattle.cfs_model.specs.declared.act.Act.TheVariants.{Switch, Wake, Born, Shift}
use Rattle.cfs_model.specs.declared.charge_line.ChargeLine.{ChargeLine}
use Rattle.cfs_model.specs.declared.claim.Claim.{Claim}
use Rattle.cfs_model.specs.declared.task.Place.{Place}
use Rattle.cfs_model.specs.declared.policy.Policy.{Policy}

-- what an event's own change says of the parts
record SaysParts (knobs : KnobsView) (m : Machine) (cpu : ℕ) (act : Act) (claim : Option Claim) (policy : Policy)
    (after : Machine) : Type 0 where
  clear : IsClear knobs cpu (part_of m cpu) (deed_at cpu policy act) (claim_for (deed_at cpu policy act) claim)
  here : part_of after cpu ≡ after_deed (part_of m cpu) (deed_at cpu policy act) (claim_for (deed_at cpu policy act)
      claim)
  others : OthersStay m after cpu
  nowhere : BornNowhere m act

change_says : (knobs : KnobsView) (m : Machine) → IsApart m
    → (cpu : ℕ) (act : Act) (claim : Option Claim) (policy : Policy) (after : Machine) → touched act ≡ cpu ∷ []
    → Changes knobs m act claim policy after
    → SaysParts knobs m cpu act claim policy after
change_says knobs m a cpu (Switch here prev pn way next nn) claim policy after t s =
    let p = switch_part knobs m a here prev pn way next nn claim after s in
    subst (λ x. SaysParts knobs m x (Switch here prev pn way next nn) claim policy after) (heads here cpu t)
    (record {
      clear = switch_clear knobs m a here prev pn way next nn claim after s;
      here = p.0;
      others = p.1;
      nowhere =
          tt;
    })
change_says knobs m a cpu (Wake here pid nice) claim policy after t s =
    let p = wake_part knobs m a here pid nice claim after s in
    subst (λ x. SaysParts knobs m x (Wake here pid nice) claim policy after) (heads here cpu t)
    (record { clear = wake_clear knobs m a here pid nice claim after s; here = p.0; others = p.1; nowhere = tt })
change_says knobs m a cpu (Born here pid nice) claim policy after t s =
    let p = birth_part knobs m here pid nice claim policy after s in
    subst (λ x. SaysParts knobs m x (Born here pid nice) claim policy after) (heads here cpu t)
    (record {
      clear = birth_clear knobs m here pid nice claim policy after s;
      here = p.0;
      others = p.1;
      nowhere = s.nowhere;
    })
change_says knobs m a cpu (Shift orig dest pid nice) claim policy after t s = absurd cc

-- who stands somewhere stands there in the lifted machine too
pub still_stands : (m lifted : Machine) (bound time : ℕ) (charge : Option ChargeLine) (cpu : ℕ)
    → IsLiftedAt bound time charge cpu m lifted → (place : Place) (d pid : ℕ) → Stands m place d pid
    → Stands lifted place d pid
still_stands m lifted bound time charge cpu l place d pid h =
    stands_same lifted m (λ r. sym (lifted_pairs bound time charge cpu m lifted l r)) place d pid h

nowhere_before : (m found : Machine) → ((place : Place) (d pid : ℕ) → Stands m place d pid → Stands found place d pid)
    → (act : Act) → BornNowhere found act → BornNowhere m act
nowhere_before m found still (Switch here prev pn way next nn) b = tt
nowhere_before m found still (Wake here pid nice) b = tt
nowhere_before m found still (Born here pid nice) b = λ place other h. b place other (still place other pid h)
nowhere_before m found still (Shift orig dest pid nice) b = tt

pub part_steps : PartSteps
part_steps knobs before after event cpu o t s =
    let act = event.entry.act in
    let time = event.entry.time in
    let charge = event.charge in
    let one : IsLifted knobs.drift time charge (cpu ∷ []) before s.lifted = subst
    (λ cpus. IsLifted knobs.drift time charge cpus before s.lifted) t s.is_lifted in
    let l : IsLiftedAt knobs.drift time charge cpu before s.lifted =
    subst (λ x. IsLiftedAt knobs.drift time charge cpu before x) (sym one.2) one.1 in
    let h = lifted_here before (apart_of before o) knobs.drift time charge cpu s.lifted l in
    let told = charge_is act event.policy cpu charge t in
    let a = lifted_apart knobs.drift time charge (touched act) before s.lifted s.is_lifted (apart_of before o) in
    let r : IsReniced cpu event.nice s.lifted s.found = subst (λ x. IsReniced x event.nice s.lifted s.found)
    (home_is act cpu t) s.is_reniced in
    let n = reniced_here s.lifted a cpu event.nice s.found r in
    let nice = nice_is act event.policy cpu event.nice t in
    let c = change_says knobs s.found (reniced_apart cpu event.nice s.lifted s.found r a) cpu act event.claim
    event.policy after t s.changes in (
      nowhere_before before s.found
          (λ place d pid k. reniced_stands cpu event.nice s.lifted s.found r place d pid
          (still_stands before s.lifted knobs.drift time charge cpu l place d pid k)) act c.nowhere,
      record {
        found = part_of s.found cpu;
        passes = record {
          in_range = h.0;
          told = subst (λ x. (pid : ℕ) → ¬ IsWrongCharge knobs.drift (part_of before cpu) time x pid) (sym told) h.3;
          is_found = record {
            lifted = part_of s.lifted cpu;
            is_lifted = subst (λ x. IsLiftedPart time x (part_of before cpu) (part_of s.lifted cpu)) (sym told) h.1;
            is_reniced = n.0 ∙ ap (λ x. reniced x (part_of s.lifted cpu)) (sym nice);
          };
          none = none_of knobs cpu (part_of s.found cpu) (step_at cpu event)
              (subst (λ x. (pid : ℕ) → ¬ IsStrangeNice (part_of s.found cpu) x pid) (sym nice) n.2) c.clear;
        };
        result = c.here;
      },
      (λ d ne. c.others d ne ∙ n.1 d ne ∙ h.2 d ne),
    )
