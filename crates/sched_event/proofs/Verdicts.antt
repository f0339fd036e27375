-- The answer for a text's parts: the tests in their order give the first cause that holds, and no other cause or event.
use Rattle.std.proofs.Common.{◌≡◌, Bool, true, false, List, [], ◌∷◌, ℤ, pos, ◌-ℤ◌, ◌<ℤ◌, Result, Ok, Err, refl, sym}
use Rattle.std.proofs.Common.{subst, arith, inl, inr}
use Rattle.std.specs.Prelude.{IsTrue, IsFalse, int_lt}
use Rattle.std.specs.List.{AllByRecursion}
use Rattle.std.proofs.lemmas.Int.{ints}
use Rattle.sched_event.specs.declared.fault.EventFault.{EventFault}
use Rattle.sched_event.specs.declared.fault.EventFault.TheVariants.{BadFields, NumberRange, RealTime, PrioRange}
use Rattle.sched_event.specs.declared.fault.EventFault.TheVariants.{IdleNamed}
use Rattle.sched_event.specs.Ranges.{IsFair, Leftmost}
use Rattle.sched_event.specs.Event.{EventView}
use Rattle.sched_event.specs.Judging.{◌>>=◌, nice_of_priority}

-- ---- one prio

-- a prio is too low, too high, or a fair task's
pub data PrioCase (prio : ℤ) : Type 0 where
  low : prio <ℤ pos 100 → nice_of_priority prio ≡ Err RealTime → PrioCase prio
  high : pos 139 <ℤ prio → nice_of_priority prio ≡ Err PrioRange → PrioCase prio
  fair : IsFair prio → nice_of_priority prio ≡ Ok (prio -ℤ pos 120) → PrioCase prio

pub prio_case : (prio : ℤ) → PrioCase prio
prio_case prio = by_tests (int_lt prio (pos 100)) (int_lt (pos 139) prio) refl refl
  where
    by_tests : (b c : Bool) → int_lt prio (pos 100) ≡ b → int_lt (pos 139) prio ≡ c → PrioCase prio
    by_tests true c p q = low (grind (arith, ints)) (rw p refl)
    by_tests false true p q = high (grind (arith, ints)) (rw (p, q) refl)
    by_tests false false p q = fair (grind (arith, ints), grind (arith, ints)) (rw (p, q) refl)

low_prio : (prio : ℤ) → prio <ℤ pos 100 → nice_of_priority prio ≡ Err RealTime
low_prio prio lt =
    elim (prio_case prio) [
      | low p e ↦ e
      | high p e ↦ absurd (omega (arith, ints))
      | fair p e ↦ absurd (omega (arith, ints))
    ]

high_prio : (prio : ℤ) → pos 139 <ℤ prio → nice_of_priority prio ≡ Err PrioRange
high_prio prio lt =
    elim (prio_case prio) [
      | low p e ↦ absurd (omega (arith, ints))
      | high p e ↦ e
      | fair p e ↦ absurd (omega (arith, ints))
    ]

fair_prio : (prio : ℤ) → IsFair prio → nice_of_priority prio ≡ Ok (prio -ℤ pos 120)
fair_prio prio is =
    elim (prio_case prio) [
      | low p e ↦ absurd (omega (arith, ints))
      | high p e ↦ absurd (omega (arith, ints))
      | fair p e ↦ e
    ]

-- ---- the tests, for any numbers, prios and event

abbrev past_prios : List ℤ → Bool → EventView → Result EventView EventFault
past_prios [] true event = Err IdleNamed
past_prios [] false event = Ok event
past_prios (prio ∷ prios) idle event = nice_of_priority prio >>= λ nice. past_prios prios idle event

abbrev pub decided : Bool → List ℤ → Bool → EventView → Result EventView EventFault
decided true prios idle event = Err NumberRange
decided false prios idle event = past_prios prios idle event

-- what an answer says of the prios and of the idle task
abbrev MeetsInRange : List ℤ → Bool → EventView → Result EventView EventFault → Type 0
MeetsInRange prios idle event (Ok read) = AllByRecursion IsFair prios × IsFalse idle × (read ≡ event)
MeetsInRange prios idle event (Err BadFields) = ⊥
MeetsInRange prios idle event (Err NumberRange) = ⊥
MeetsInRange prios idle event (Err RealTime) = Leftmost (λ prio. prio <ℤ pos 100) prios
MeetsInRange prios idle event (Err PrioRange) = Leftmost (λ prio. pos 139 <ℤ prio) prios
MeetsInRange prios idle event (Err IdleNamed) = AllByRecursion IsFair prios × IsTrue idle

-- what an answer says of the numbers too
abbrev pub Meets : Bool → List ℤ → Bool → EventView → Result EventView EventFault → Type 0
Meets out prios idle event (Ok read) = IsFalse out × MeetsInRange prios idle event (Ok read)
Meets out prios idle event (Err NumberRange) = IsTrue out
Meets out prios idle event (Err fault) = IsFalse out × MeetsInRange prios idle event (Err fault)

meets_fair : (prio : ℤ) (prios : List ℤ) (idle : Bool) (event : EventView) (answer : Result EventView EventFault)
    → IsFair prio → MeetsInRange prios idle event answer → MeetsInRange (prio ∷ prios) idle event answer
meets_fair prio prios idle event (Ok read) is tells = ((is, tells.0), tells.1, tells.2)
meets_fair prio prios idle event (Err BadFields) is tells = tells
meets_fair prio prios idle event (Err NumberRange) is tells = tells
meets_fair prio prios idle event (Err RealTime) is tells = inr (is, tells)
meets_fair prio prios idle event (Err PrioRange) is tells = inr (is, tells)
meets_fair prio prios idle event (Err IdleNamed) is tells = ((is, tells.0), tells.1)

past_meets : (prios : List ℤ) (idle : Bool) (event : EventView)
    → MeetsInRange prios idle event (past_prios prios idle event)
past_meets [] true event = (tt, refl)
past_meets [] false event = (tt, refl, refl)
past_meets (prio ∷ prios) idle event = on (past_meets prios idle event) (prio_case prio)
  where
    on : MeetsInRange prios idle event (past_prios prios idle event) → PrioCase prio
        → MeetsInRange (prio ∷ prios) idle event (nice_of_priority prio >>= λ nice. past_prios prios idle event)
    on others (low p e) = subst (λ (r : Result ℤ EventFault). MeetsInRange (prio ∷ prios) idle event
        (r >>= λ nice. past_prios prios idle event)) (sym e) (inl p)
    on others (high p e) = subst (λ (r : Result ℤ EventFault). MeetsInRange (prio ∷ prios) idle event
        (r >>= λ nice. past_prios prios idle event)) (sym e) (inl p)
    on others (fair p e) = subst (λ (r : Result ℤ EventFault). MeetsInRange (prio ∷ prios) idle event
        (r >>= λ nice. past_prios prios idle event)) (sym e)
        (meets_fair prio prios idle event (past_prios prios idle event) p others)

past_fair : (prios : List ℤ) (idle : Bool) (event : EventView) → AllByRecursion IsFair prios
    → past_prios prios idle event ≡ past_prios [] idle event
past_fair [] idle event all = refl
past_fair (prio ∷ prios) idle event all = rw (fair_prio prio all.0) (past_fair prios idle event all.1)

past_low : (prios : List ℤ) (idle : Bool) (event : EventView) → Leftmost (λ prio. prio <ℤ pos 100) prios
    → past_prios prios idle event ≡ Err RealTime
past_low [] idle event left = absurd left
past_low (prio ∷ prios) idle event (inl p) = rw (low_prio prio p) refl
past_low (prio ∷ prios) idle event (inr on) = rw (fair_prio prio on.0) (past_low prios idle event on.1)

past_high : (prios : List ℤ) (idle : Bool) (event : EventView) → Leftmost (λ prio. pos 139 <ℤ prio) prios
    → past_prios prios idle event ≡ Err PrioRange
past_high [] idle event left = absurd left
past_high (prio ∷ prios) idle event (inl p) = rw (high_prio prio p) refl
past_high (prio ∷ prios) idle event (inr on) = rw (fair_prio prio on.0) (past_high prios idle event on.1)

with_numbers : (prios : List ℤ) (idle : Bool) (event : EventView) (answer : Result EventView EventFault)
    → MeetsInRange prios idle event answer → Meets false prios idle event answer
with_numbers prios idle event (Ok read) tells = (refl, tells)
with_numbers prios idle event (Err BadFields) tells = absurd tells
with_numbers prios idle event (Err NumberRange) tells = absurd tells
with_numbers prios idle event (Err RealTime) tells = (refl, tells)
with_numbers prios idle event (Err PrioRange) tells = (refl, tells)
with_numbers prios idle event (Err IdleNamed) tells = (refl, tells)

-- the tests' answer is so
pub decided_meets : (out : Bool) (prios : List ℤ) (idle : Bool) (event : EventView)
    → Meets out prios idle event (decided out prios idle event)
decided_meets true prios idle event = refl
decided_meets false prios idle event = with_numbers prios idle event (past_prios prios idle event)
    (past_meets prios idle event)

-- what is so is the tests' answer
pub decided_only : (out : Bool) (prios : List ℤ) (idle : Bool) (event : EventView)
    (answer : Result EventView EventFault) → Meets out prios idle event answer → answer ≡ decided out prios idle event
decided_only out prios idle event (Ok read) meets =
    rw (meets.0, past_fair prios idle event meets.1.0, meets.1.1, meets.1.2) refl
decided_only out prios idle event (Err BadFields) meets = absurd meets.1
decided_only out prios idle event (Err NumberRange) meets = rw meets refl
decided_only out prios idle event (Err RealTime) meets = rw meets.0 (sym (past_low prios idle event meets.1))
decided_only out prios idle event (Err PrioRange) meets = rw meets.0 (sym (past_high prios idle event meets.1))
decided_only out prios idle event (Err IdleNamed) meets =
    rw (meets.0, past_fair prios idle event meets.1.0, meets.1.1) refl
