-- A step of the machine at any processor: a step of the part where the event touches it, and else none.
use Rattle.std.proofs.Common.{◌≡◌, ◌≢◌, ℕ, nat_eq, Bool, true, false, ◌||◌, ℤ, ◌⊎◌, inl, inr, List, [], ◌∷◌, refl, sym}
use Rattle.std.proofs.Common.{ap, ◌∙◌, subst}
use Rattle.std.proofs.lemmas.Bool.{eq-eqb, ne_eqb}
use Rattle.std.specs.List.{list_any}
use Rattle.cfs_model.specs.Knobs.{KnobsView}
use Rattle.cfs_model.specs.Machine.{Machine}
use Rattle.cfs_model.specs.Claimed.{Claimed}
use Rattle.cfs_model.specs.Touch.{touched}
use Rattle.cfs_model.specs.Step.{IsStep}
use Rattle.cfs_model.specs.Order.{IsInOrder}
use Rattle.replay_model.specs.Part.{part_of}
use Rattle.replay_model.specs.Cut.{touches}
use Rattle.replay_model.specs.StepAt.{step_at}
use Rattle.part_laws.specs.TouchedParts.{PartStep}
use Rattle.cfs_model.proofs.Moves.{same_or_not}
use Rattle.part_laws.proofs.stepping.PartForward.{part_steps}
use Rattle.part_laws.proofs.migrating.MigrationSteps.{parts_migrate}
use Rattle.cfs_model.specs.declared.act.Act.{Act}
use Rattle.cfs_model.specs.declared.act.Act.TheVariants.{Switch, Wake, Born, Shift}

-- what a step says of the part at a processor
abbrev pub StepsAt : KnobsView → Machine → Claimed → Machine → ℕ → Type 0
StepsAt knobs before event after cpu =
    ((touches cpu event ≡ true) × PartStep knobs cpu (part_of before cpu) (step_at cpu event) (part_of after cpu))
    ⊎ ((touches cpu event ≡ false) × (part_of after cpu ≡ part_of before cpu))

any_of : (cpu : ℕ) (act : Act) (cpus : List ℕ) → touched act ≡ cpus
    → list_any (λ other. nat_eq other cpu) (touched act) ≡ list_any (λ other. nat_eq other cpu) cpus
any_of cpu act cpus e = ap (list_any (λ other. nat_eq other cpu)) e

hit : (a cpu : ℕ) (rest : Bool) → a ≡ cpu → (nat_eq a cpu || rest) ≡ true
hit a cpu rest e = ap (λ b. b || rest) (eq-eqb a cpu e)

miss : (a cpu : ℕ) (rest : Bool) → a ≢ cpu → (nat_eq a cpu || rest) ≡ rest
miss a cpu rest ne = ap (λ b. b || rest) (ne_eqb a cpu ne)

-- an event that touches one processor
steps_one : (knobs : KnobsView) (before : Machine) (event : Claimed) (after : Machine) (cpu here : ℕ) → IsInOrder before
    → IsStep knobs before event after → touched event.entry.act ≡ here ∷ []
    → StepsAt knobs before event after cpu
steps_one knobs before event after cpu here o s t =
    let p = part_steps knobs before after event here o t s in
    elim (same_or_not here cpu) [
      | inl e ↦ inl (
        any_of cpu event.entry.act (here ∷ []) t ∙ hit here cpu false e,
        subst (λ x. PartStep knobs x (part_of before x) (step_at x event) (part_of after x)) e p.1,
      )
      | inr ne ↦ inr (any_of cpu event.entry.act (here ∷ []) t ∙ miss here cpu false ne, p.2 cpu (λ e. ne (sym e)))
    ]

-- a migration
steps_two : (knobs : KnobsView) (before : Machine) (event : Claimed) (after : Machine) (cpu orig dest pid : ℕ) (nice
    : ℤ)
    → IsInOrder before → IsStep knobs before event after
    → event.entry.act ≡ Shift orig dest pid nice → StepsAt knobs before event after cpu
steps_two knobs before event after cpu orig dest pid nice o s e =
    let p = parts_migrate knobs before after event orig dest pid nice o e s in
    let t = any_of cpu event.entry.act (orig ∷ dest ∷ []) (ap touched e) in
    elim (same_or_not orig cpu) [
      | inl f ↦ inl (
        t ∙ hit orig cpu (nat_eq dest cpu || false) f,
        subst
            (λ x. PartStep knobs x (part_of before x) (step_at x event) (part_of after x)) f p.1.leave,
      )
      | inr ne ↦ elim (same_or_not dest cpu) [
        | inl f ↦ inl (
          t ∙ miss orig cpu (nat_eq dest cpu || false) ne
              ∙ hit dest cpu false f,
          subst
              (λ x. PartStep knobs x (part_of before x) (step_at x event) (part_of after x)) f p.1.arrive,
        )
        | inr other ↦ inr (
          t ∙ miss orig cpu (nat_eq dest cpu || false) ne
              ∙ miss dest cpu false other,
          p.2 cpu (λ f. ne (sym f)) (λ f. other (sym f)),
        )
      ]
    ]

pub steps_at_cpu : (knobs : KnobsView) (before : Machine) (event : Claimed) (after : Machine) → IsInOrder before
    → IsStep knobs before event after → (cpu : ℕ) → StepsAt knobs before event after cpu
steps_at_cpu knobs before event after o s cpu = go event.entry.act refl
  where
    go : (act : Act) → event.entry.act ≡ act → StepsAt knobs before event after cpu
    go (Switch here prev pn way next nn) e = steps_one knobs before event after cpu here o s (ap touched e)
    go (Wake here pid nice) e = steps_one knobs before event after cpu here o s (ap touched e)
    go (Born here pid nice) e = steps_one knobs before event after cpu here o s (ap touched e)
    go (Shift orig dest pid nice) e = steps_two knobs before event after cpu orig dest pid nice o s e
