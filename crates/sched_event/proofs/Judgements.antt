-- Each event's tests, in the order of the code, are the tests of the numbers and of the prios that are looked at.
use Rattle.std.proofs.Common.{◌≡◌, ℕ, Bool, true, false, eqb, Result, Ok, refl}
use Rattle.std.specs.Prelude.{IsTrue, nat_lt}
use Rattle.std.specs.List.{AllByRecursion}
use Rattle.text_parts.specs.Numerals.{value_of}
use Rattle.sched_event.specs.declared.fault.EventFault.{EventFault}
use Rattle.sched_event.specs.Texts.{SwitchText, WakeupText, MigrationText, EventText, switch, wakeup, wakeup_new}
use Rattle.sched_event.specs.Texts.{migration}
use Rattle.cfs_model.specs.Limits.{greatest_pid, greatest_processor}
use Rattle.sched_event.specs.Ranges.{prio_of, is_out_of_range, prios_of, IsFair, names_idle}
use Rattle.sched_event.specs.Event.{EventView, WakeupView, woken, born, wakeup_of, event_of}
use Rattle.sched_event.specs.Judging.{◌>>=◌, number_within, printed_nice, switch_judged, wakeup_judged}
use Rattle.sched_event.specs.Judging.{migration_judged, judged}
use Rattle.sched_event.proofs.Verdicts.{PrioCase, low, high, fair, prio_case, decided}

-- the answer of the tests for a text's parts
abbrev pub decided_of : ℕ → EventText → Result EventView EventFault
decided_of cpu text = decided (is_out_of_range text) (prios_of text) (names_idle text) (event_of cpu text)

wakeup_is_decided : (make : WakeupView → EventView) (t : WakeupText)
    → (wakeup_judged t >>= λ read. Ok (make read)) ≡ decided (is_out_of_range (wakeup t)) (prios_of (wakeup t))
    (names_idle (wakeup t)) (make (wakeup_of t))
unfolding wakeup_judged number_within printed_nice
wakeup_is_decided make t = by_tests (nat_lt greatest_pid (value_of t.pid))
    (nat_lt greatest_processor (value_of t.target)) (eqb (value_of t.pid) 0) refl refl refl (prio_case (prio_of t.prio))
  where
    by_tests : (far_pid far_cpu idle : Bool) → nat_lt greatest_pid (value_of t.pid) ≡ far_pid
        → nat_lt greatest_processor (value_of t.target) ≡ far_cpu → eqb (value_of t.pid) 0 ≡ idle
        → PrioCase (prio_of t.prio)
        → (wakeup_judged t >>= λ read. Ok (make read)) ≡ decided (is_out_of_range (wakeup t)) (prios_of (wakeup t))
        (names_idle (wakeup t)) (make (wakeup_of t))
    by_tests true far_cpu idle p q r prio = rw p refl
    by_tests false true idle p q r prio = rw (p, q) refl
    by_tests false false true p q r prio = rw (p, q, r) refl
    by_tests false false false p q r (low lt e) = rw (p, q, r, e) refl
    by_tests false false false p q r (high lt e) = rw (p, q, r, e) refl
    by_tests false false false p q r (fair is e) = rw (p, q, r, e) refl

migration_is_decided : (cpu : ℕ) (t : MigrationText) → judged cpu (migration t) ≡ decided_of cpu (migration t)
unfolding judged migration_judged number_within printed_nice
migration_is_decided cpu t =
    by_tests (nat_lt greatest_pid (value_of t.pid)) (nat_lt greatest_processor (value_of t.orig))
    (nat_lt greatest_processor (value_of t.dest)) (eqb (value_of t.pid) 0) refl refl refl refl
    (prio_case (prio_of t.prio))
  where
    by_tests : (far_pid far_orig far_dest idle : Bool) → nat_lt greatest_pid (value_of t.pid) ≡ far_pid
        → nat_lt greatest_processor (value_of t.orig) ≡ far_orig
        → nat_lt greatest_processor (value_of t.dest) ≡ far_dest
        → eqb (value_of t.pid) 0 ≡ idle → PrioCase (prio_of t.prio)
        → judged cpu (migration t) ≡ decided_of cpu (migration t)
    by_tests true far_orig far_dest idle p q r s prio = rw p refl
    by_tests false true far_dest idle p q r s prio = rw (p, q) refl
    by_tests false false true idle p q r s prio = rw (p, q, r) refl
    by_tests false false false true p q r s prio = rw (p, q, r, s) refl
    by_tests false false false false p q r s (low lt e) = rw (p, q, r, s, e) refl
    by_tests false false false false p q r s (high lt e) = rw (p, q, r, s, e) refl
    by_tests false false false false p q r s (fair is e) = rw (p, q, r, s, e) refl

switch_is_decided : (cpu : ℕ) (t : SwitchText) → judged cpu (switch t) ≡ decided_of cpu (switch t)
unfolding judged switch_judged number_within printed_nice
switch_is_decided cpu t =
    by_tests (nat_lt greatest_pid (value_of t.prev)) (nat_lt greatest_pid (value_of t.next)) (eqb (value_of t.prev) 0)
    (eqb (value_of t.next) 0) refl refl refl refl
    (prio_case (prio_of t.prev_prio)) (prio_case (prio_of t.next_prio))
  where
    by_tests : (far_prev far_next from_idle to_idle : Bool) → nat_lt greatest_pid (value_of t.prev) ≡ far_prev
        → nat_lt greatest_pid (value_of t.next) ≡ far_next → eqb (value_of t.prev) 0 ≡ from_idle
        → eqb (value_of t.next) 0 ≡ to_idle → PrioCase (prio_of t.prev_prio) → PrioCase (prio_of t.next_prio)
        → judged cpu (switch t) ≡ decided_of cpu (switch t)
    by_tests true far_next from_idle to_idle p q r s prev next = rw p refl
    by_tests false true from_idle to_idle p q r s prev next = rw (p, q) refl
    by_tests false false true true p q r s prev next = rw (p, q, r, s) refl
    by_tests false false true false p q r s prev (low lt e) = rw (p, q, r, s, e) refl
    by_tests false false true false p q r s prev (high lt e) = rw (p, q, r, s, e) refl
    by_tests false false true false p q r s prev (fair is e) = rw (p, q, r, s, e) refl
    by_tests false false false to_idle p q r s (low lt e) next = rw (p, q, r, e) refl
    by_tests false false false to_idle p q r s (high lt e) next = rw (p, q, r, e) refl
    by_tests false false false true p q r s (fair is e) next = rw (p, q, r, s, e) refl
    by_tests false false false false p q r s (fair is e) (low lt f) = rw (p, q, r, s, e, f) refl
    by_tests false false false false p q r s (fair is e) (high lt f) = rw (p, q, r, s, e, f) refl
    by_tests false false false false p q r s (fair is e) (fair js f) = rw (p, q, r, s, e, f) refl

-- the answer for any text's parts is the tests' answer
pub judged_is_decided : (cpu : ℕ) (text : EventText) → judged cpu text ≡ decided_of cpu text
unfolding judged
judged_is_decided cpu (switch t) = switch_is_decided cpu t
judged_is_decided cpu (wakeup t) = wakeup_is_decided woken t
judged_is_decided cpu (wakeup_new t) = wakeup_is_decided born t
judged_is_decided cpu (migration t) = migration_is_decided cpu t

-- where the idle task is named, no prio is looked at
pub idle_unlooked : (text : EventText) → IsTrue (names_idle text) → AllByRecursion IsFair (prios_of text)
idle_unlooked (switch t) e = absurd cc
idle_unlooked (wakeup t) e = rw e tt
idle_unlooked (wakeup_new t) e = rw e tt
idle_unlooked (migration t) e = rw e tt
