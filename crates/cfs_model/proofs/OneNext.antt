-- At most one next machine: the least virtual runtime is one value, so the floor and with it the lifted machine are
-- one; and each case's conditions say its result, where the claim keeps the cases of a wakeup and of a migration apart.
use Rattle.std.proofs.Common.{◌≡◌, ℕ, ℤ, pos, ◌+ℤ◌, ◌-ℤ◌, ◌≤ℤ◌, Option, Some, None, ◌⊎◌, inl, inr, List, [], ◌∷◌}
use Rattle.std.proofs.Common.{refl}
use Rattle.std.proofs.Common.{sym, ap, ap₂, ◌∙◌, subst, arith}
use Rattle.std.proofs.lemmas.Int.{ints}
use Rattle.std.specs.Int.{int_max}
use Rattle.cfs_model.specs.Knobs.{KnobsView}
use Rattle.cfs_model.specs.Machine.{Machine, with_floor, with_move, with_runtime, with_nice, with_task, with_policy}
use Rattle.cfs_model.specs.Machine.{with_drift}
use Rattle.cfs_model.specs.Claimed.{Claimed, ClaimSays}
use Rattle.cfs_model.specs.Touch.{touched}
use Rattle.cfs_model.specs.Lifted.{charged, IsLeast, IsRaised, IsLiftedAt, IsLifted}
use Rattle.cfs_model.specs.Reniced.{home_of, IsReniced}
use Rattle.cfs_model.specs.Step.{IsWakeQueued, IsWakeResting, IsMigration, MovesBy, Changes, IsStep}
use Rattle.cfs_model.specs.Run.{AreSteps}
use Rattle.cfs_model.proofs.Renice.{one_reniced}
use Rattle.cfs_model.proofs.ToldCharge.{one_told}
use Rattle.cfs_model.specs.declared.act.Act.{Act}
use Rattle.cfs_model.specs.declared.act.Act.TheVariants.{Switch, Wake, Born, Shift}
use Rattle.cfs_model.specs.declared.charge_line.ChargeLine.{ChargeLine}
use Rattle.cfs_model.specs.declared.claim.Claim.{Claim}
use Rattle.cfs_model.specs.declared.claim.ClaimSort.{ClaimSort}
use Rattle.cfs_model.specs.declared.claim.ClaimSort.TheVariants.{At, Pass}
use Rattle.cfs_model.specs.declared.task.Place.{Place}
use Rattle.cfs_model.specs.declared.task.Place.TheVariants.{Run, Wait, Rest}
use Rattle.cfs_model.specs.declared.policy.Policy.{Policy}

≤ℤ_antisymm : (v w : ℤ) → v ≤ℤ w → w ≤ℤ v → v ≡ w
≤ℤ_antisymm v w p q = omega (arith, ints)

-- there is one least virtual runtime
one_least_runtime : (m : Machine) (cpu : ℕ) (v w : ℤ) → IsLeast m cpu v → IsLeast m cpu w → v ≡ w
one_least_runtime m cpu v w p q = ≤ℤ_antisymm v w (p.least q.pid w q.queued q.runtime)
    (q.least p.pid v p.queued p.runtime)

one_raised : (m : Machine) (cpu : ℕ) (f g : ℤ) → IsRaised m cpu f → IsRaised m cpu g → f ≡ g
one_raised m cpu f g (inl a) (inl b) = a.1 ∙ sym b.1
one_raised m cpu f g (inl a) (inr b) = absurd (a.0 b.1.pid b.1.queued)
one_raised m cpu f g (inr a) (inl b) = absurd (b.0 a.1.pid a.1.queued)
one_raised m cpu f g (inr a) (inr b) = a.2 ∙ ap (λ v. int_max (m.floor cpu) v) (one_least_runtime m cpu a.0 b.0 a.1 b.1)
    ∙ sym b.2

one_lifted_at : (bound more time : ℕ) (charge : Option ChargeLine) (cpu : ℕ) (before after other : Machine)
    → IsLiftedAt bound time charge cpu before after → IsLiftedAt more time charge cpu before other → after ≡ other
one_lifted_at bound more time charge cpu before after other a b =
    let same = one_told bound more charge cpu before (charged before cpu time) a.told b.told a.charges b.charges in
    a.result
    ∙ ap₂ (λ m f. with_floor m cpu f) same
    (one_raised b.told cpu a.floor b.floor (subst (λ m. IsRaised m cpu a.floor) same a.raised) b.raised)
    ∙ sym b.result

-- there is one lifted machine, whatever the bounds
pub one_lifted : (bound more time : ℕ) (charge : Option ChargeLine) (cpus : List ℕ) (before after other : Machine)
    → IsLifted bound time charge cpus before after → IsLifted more time charge cpus before other → after ≡ other
one_lifted bound more time charge [] before after other a b = a ∙ sym b
one_lifted bound more time charge (cpu ∷ cpus) before after other a b =
    one_lifted bound more time None cpus b.0 after other
    (subst (λ m. IsLifted bound time None cpus m after)
    (one_lifted_at bound more time charge cpu before a.0 b.0 a.1 b.1) a.2) b.2

-- a claim says one value
one_said : (claim : Option Claim) (sort other : ClaimSort) (pid : ℕ) (v w : ℤ) → ClaimSays claim sort pid v
    → ClaimSays claim other pid w → (sort ≡ other) × (v ≡ w)
one_said None sort other pid v w a b = absurd a
one_said (Some claim) sort other pid v w a b = (sym a.0 ∙ b.0, sym a.2 ∙ b.2)

none_said : (claim : Option Claim) (sort : ClaimSort) (pid : ℕ) (v : ℤ) → claim ≡ None → ClaimSays claim sort pid v → ⊥
none_said None sort pid v e a = a
none_said (Some claim) sort pid v e a = cc

one_place : (place other : Place) (sort : ClaimSort) → MovesBy place sort → MovesBy other sort → place ≡ other
one_place Wait Wait sort a b = refl
one_place Rest Rest sort a b = refl
one_place Wait Rest At a b = absurd b
one_place Wait Rest Pass a b = absurd a
one_place Rest Wait At a b = absurd a
one_place Rest Wait Pass a b = absurd b
one_place Run Run sort a b = refl
one_place Run Wait At a b = absurd a
one_place Run Wait Pass a b = absurd a
one_place Run Rest At a b = absurd a
one_place Run Rest Pass a b = absurd a
one_place Wait Run At a b = absurd b
one_place Wait Run Pass a b = absurd b
one_place Rest Run At a b = absurd b
one_place Rest Run Pass a b = absurd b

one_waken : (knobs : KnobsView) (m : Machine) (cpu pid : ℕ) (nice : ℤ) (claim : Option Claim) (after other : Machine)
    → IsWakeQueued m cpu pid nice claim after ⊎ IsWakeResting knobs m cpu pid nice claim after
    → IsWakeQueued m cpu pid nice claim other ⊎ IsWakeResting knobs m cpu pid nice claim other → after ≡ other
one_waken knobs m cpu pid nice claim after other (inl a) (inl b) = a.result ∙ sym b.result
one_waken knobs m cpu pid nice claim after other (inl a) (inr b) = absurd
    (none_said claim At pid b.placed a.no_claim b.claimed)
one_waken knobs m cpu pid nice claim after other (inr a) (inl b) = absurd
    (none_said claim At pid a.placed b.no_claim a.claimed)
one_waken knobs m cpu pid nice claim after other (inr a) (inr b) =
    a.result ∙ ap (with_runtime (with_move m pid Rest cpu Wait cpu) pid)
    (one_said claim At At pid a.placed b.placed a.claimed b.claimed).1 ∙ sym b.result

one_move : (m : Machine) (orig dest pid : ℕ) (nice : ℤ) (claim : Option Claim) (policy : Policy) (after other : Machine)
    → IsMigration m orig dest pid nice claim policy after → IsMigration m orig dest pid nice claim policy other
    → after ≡ other
one_move m orig dest pid nice claim policy after other a b =
    let said = one_said claim a.sort b.sort pid ((a.own -ℤ m.floor orig) +ℤ m.floor dest)
    ((b.own -ℤ m.floor orig) +ℤ m.floor dest) a.claimed b.claimed in
    a.result
    ∙ ap₂ (λ place v. with_drift (with_runtime (with_move m pid place orig place dest) pid v) pid (pos 0))
    (one_place a.place b.place b.sort (subst (λ sort. MovesBy a.place sort) said.0 a.moves) b.moves) said.1
    ∙ sym b.result

-- an event changes the machine that it finds in one way
pub one_change : (knobs : KnobsView) (m : Machine) (act : Act) (claim : Option Claim) (policy : Policy)
    (after other : Machine)
    → Changes knobs m act claim policy after → Changes knobs m act claim policy other → after ≡ other
one_change knobs m (Switch cpu prev prev_nice way next next_nice) claim policy after other a b = a.result ∙ sym b.result
one_change knobs m (Wake cpu pid nice) claim policy after other a b = one_waken knobs m cpu pid nice claim after
    other a b
one_change knobs m (Born cpu pid nice) claim policy after other a b =
    a.result ∙ ap (λ v. with_drift
    (with_policy (with_nice (with_runtime (with_task m Wait cpu pid) pid v) pid nice) pid policy) pid (pos 0))
    (one_said claim At At pid a.placed b.placed a.claimed b.claimed).1 ∙ sym b.result
one_change knobs m (Shift orig dest pid nice) claim policy after other a b =
    one_move m orig dest pid nice claim policy after other a b

-- there is one machine as an event finds it, at any settings
pub one_found : (knobs more : KnobsView) (before : Machine) (event : Claimed) (after other : Machine)
    → (a : IsStep knobs before event after) → (b : IsStep more before event other) → a.found ≡ b.found
one_found knobs more before event after other a b =
    one_reniced (home_of event.entry.act) event.nice b.lifted a.found b.found
    (subst (λ m. IsReniced (home_of event.entry.act) event.nice m a.found)
    (one_lifted knobs.drift more.drift event.entry.time event.charge (touched event.entry.act) before a.lifted b.lifted
    a.is_lifted b.is_lifted)
    a.is_reniced)
    b.is_reniced

pub one_next : (knobs : KnobsView) (before : Machine) (event : Claimed) (after other : Machine)
    → IsStep knobs before event after → IsStep knobs before event other → after ≡ other
one_next knobs before event after other a b =
    one_change knobs b.found event.entry.act event.claim event.policy after other
    (subst (λ m. Changes knobs m event.entry.act event.claim event.policy after)
    (one_found knobs knobs before event after other a b)
    a.changes)
    b.changes

pub one_list : (knobs : KnobsView) (first : Machine) (events : List Claimed) (states others : List Machine)
    → AreSteps knobs first events states → AreSteps knobs first events others → states ≡ others
one_list knobs first [] [] [] a b = refl
one_list knobs first [] [] (m ∷ others) a b = absurd b
one_list knobs first [] (m ∷ states) others a b = absurd a
one_list knobs first (event ∷ events) [] others a b = absurd a
one_list knobs first (event ∷ events) (m ∷ states) [] a b = absurd b
one_list knobs first (event ∷ events) (m ∷ states) (n ∷ others) a b =
    let e = one_next knobs first event m n a.0 b.0 in
    ap₂ (λ x xs. x ∷ xs) e (one_list knobs n events states others (subst (λ x. AreSteps knobs x events states) e a.1)
    b.1)
