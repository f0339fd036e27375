-- No floor is lowered: a lift takes a maximum with the floor itself, and neither a change of a nice value nor an
-- event's own change names a floor.
use Rattle.std.proofs.Common.{◌≡◌, ◌≢◌, ℕ, zero, suc, true, false, ℤ, ◌≤ℤ◌, ◌⊎◌, inl, inr, List, [], ◌∷◌, Option}
use Rattle.std.proofs.Common.{None}
use Rattle.std.proofs.Common.{refl, sym, ap, ◌∙◌, subst, arith}
use Rattle.std.proofs.lemmas.Int.{ints, clamps}
use Rattle.std.specs.Int.{int_max}
use Rattle.cfs_model.specs.Knobs.{KnobsView}
use Rattle.cfs_model.specs.Machine.{Pairs, Machine, pairs_of, put, with_pairs, put_pair, without_task}
use Rattle.cfs_model.specs.Claimed.{Claimed}
use Rattle.cfs_model.specs.Touch.{touched}
use Rattle.cfs_model.specs.Lifted.{charged, IsRaised, IsLiftedAt, IsLifted}
use Rattle.cfs_model.specs.Reniced.{home_of}
use Rattle.cfs_model.specs.Step.{after_prev, after_next, Changes, IsStep}
use Rattle.cfs_model.proofs.Moves.{put-same, put-other, same_or_not}
use Rattle.cfs_model.proofs.Renice.{reniced_is}
use Rattle.cfs_model.proofs.ToldCharge.{told_is}
use Rattle.cfs_model.specs.declared.act.Act.{Act}
use Rattle.cfs_model.specs.declared.act.Act.TheVariants.{Switch, Wake, Born, Shift}
use Rattle.cfs_model.specs.declared.act.Way.{Way}
use Rattle.cfs_model.specs.declared.act.Way.TheVariants.{Stays, Sleeps, Ends}
use Rattle.cfs_model.specs.declared.charge_line.ChargeLine.{ChargeLine}
use Rattle.cfs_model.specs.declared.claim.Claim.{Claim}
use Rattle.cfs_model.specs.declared.task.Place.{Place}
use Rattle.cfs_model.specs.declared.task.Place.TheVariants.{Run, Wait, Rest}
use Rattle.cfs_model.specs.declared.policy.Policy.{Policy}

above_self : (f v : ℤ) → f ≤ℤ int_max f v
above_self f v = omega (arith, ints, clamps)

same_above : (f g : ℤ) → g ≡ f → f ≤ℤ g
same_above f g e = omega (arith, ints)

≤ℤ_trans : (a b c : ℤ) → a ≤ℤ b → b ≤ℤ c → a ≤ℤ c
≤ℤ_trans a b c h k = omega (arith, ints)

raised_above : (m : Machine) (cpu : ℕ) (f : ℤ) → IsRaised m cpu f → m.floor cpu ≤ℤ f
raised_above m cpu f (inl a) = same_above (m.floor cpu) f a.1
raised_above m cpu f (inr a) = subst (λ x. m.floor cpu ≤ℤ x) (sym a.2) (above_self (m.floor cpu) a.0)

lifted_at_above : (bound time : ℕ) (charge : Option ChargeLine) (at : ℕ) (m after : Machine)
    → IsLiftedAt bound time charge at m after → (cpu : ℕ) → m.floor cpu ≤ℤ after.floor cpu
lifted_at_above bound time charge at m after l cpu =
    subst (λ (f : ℕ → ℤ). f cpu ≤ℤ after.floor cpu)
    (ap (λ (x : Machine). x.floor) (told_is bound charge at m (charged m at time) l.told l.charges))
    (subst (λ (x : Machine). l.told.floor cpu ≤ℤ x.floor cpu) (sym l.result) (go (same_or_not cpu at)))
  where
    go : (cpu ≡ at) ⊎ (cpu ≢ at) → l.told.floor cpu ≤ℤ put l.told.floor at l.floor cpu
    go (inl e) = subst (λ c. l.told.floor c ≤ℤ put l.told.floor at l.floor c) (sym e)
        (subst (λ x. l.told.floor at ≤ℤ x) (sym (put-same l.told.floor at l.floor))
        (raised_above l.told at l.floor l.raised))
    go (inr ne) = same_above (l.told.floor cpu) (put l.told.floor at l.floor cpu)
        (put-other l.told.floor at l.floor cpu ne)

lifted_above : (bound time : ℕ) (charge : Option ChargeLine) (cpus : List ℕ) (m after : Machine)
    → IsLifted bound time charge cpus m after → (cpu : ℕ) → m.floor cpu ≤ℤ after.floor cpu
lifted_above bound time charge [] m after l cpu =
    same_above (m.floor cpu) (after.floor cpu) (ap (λ (x : Machine). x.floor cpu) l)
lifted_above bound time charge (c ∷ cpus) m after l cpu =
    ≤ℤ_trans (m.floor cpu) (l.0.floor cpu) (after.floor cpu) (lifted_at_above bound time charge c m l.0 l.1 cpu)
    (lifted_above bound time None cpus l.0 after l.2 cpu)

pub floor-with_pairs : (m : Machine) (place : Place) (s : Pairs) → (with_pairs m place s).floor ≡ m.floor
floor-with_pairs m Run s = refl
floor-with_pairs m Wait s = refl
floor-with_pairs m Rest s = refl

floor-after_prev : (m : Machine) (cpu prev : ℕ) (way : Way) → (after_prev m cpu prev way).floor ≡ m.floor
floor-after_prev m cpu zero way = refl
floor-after_prev m cpu (suc n) Stays = refl
floor-after_prev m cpu (suc n) Sleeps = refl
floor-after_prev m cpu (suc n) Ends = refl

floor-after_next : (m : Machine) (cpu next : ℕ) → (after_next m cpu next).floor ≡ m.floor
floor-after_next m cpu zero = refl
floor-after_next m cpu (suc n) = refl

-- an event's own change leaves the floors
pub same_floors : (knobs : KnobsView) (m : Machine) (act : Act) (claim : Option Claim) (policy : Policy) (after :
    Machine)
    → Changes knobs m act claim policy after → after.floor ≡ m.floor
same_floors knobs m (Switch cpu prev prev_nice way next next_nice) claim policy after s =
    ap (λ (x : Machine). x.floor) s.result ∙ floor-after_next (after_prev m cpu prev way) cpu next
    ∙ floor-after_prev m cpu prev way
same_floors knobs m (Wake cpu pid nice) claim policy after (inl s) = ap (λ (x : Machine). x.floor) s.result
same_floors knobs m (Wake cpu pid nice) claim policy after (inr s) = ap (λ (x : Machine). x.floor) s.result
same_floors knobs m (Born cpu pid nice) claim policy after s = ap (λ (x : Machine). x.floor) s.result
same_floors knobs m (Shift orig dest pid nice) claim policy after s =
    let left = without_task m s.place orig pid in
    ap (λ (x : Machine). x.floor) s.result
    ∙ floor-with_pairs left s.place (put_pair (pairs_of left s.place) dest pid true)
    ∙ floor-with_pairs m s.place (put_pair (pairs_of m s.place) orig pid false)

pub floors_rise : (knobs : KnobsView) (before : Machine) (event : Claimed) (after : Machine)
    → IsStep knobs before event after → (cpu : ℕ) → before.floor cpu ≤ℤ after.floor cpu
floors_rise knobs before event after s cpu =
    subst (λ f. before.floor cpu ≤ℤ f cpu) (sym
    (same_floors knobs s.found event.entry.act event.claim event.policy after s.changes
    ∙ ap (λ (m : Machine). m.floor) (reniced_is (home_of event.entry.act) event.nice s.lifted s.found
    s.is_reniced)))
    (lifted_above knobs.drift event.entry.time event.charge (touched event.entry.act) before s.lifted s.is_lifted cpu)
