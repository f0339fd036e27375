-- An event that was read names pids in range, and no idle task where it mustn't.
use Rattle.std.proofs.Common.{◌≡◌, ℕ, ◌<◌, ◌≤◌, eqb, false, List, [], ◌∷◌, Ok, arith, subst, sym}
use Rattle.std.specs.Prelude.{All, IsFalse, nat_lt}
use Rattle.std.specs.List.{list_any}
use Rattle.std.proofs.lemmas.Bool.{or_parts, ltb-false, eqb-false}
use Rattle.std.proofs.lemmas.List.Elements.{All-nil, All-cons}
use Rattle.cfs_model.specs.Limits.{greatest_pid, greatest_processor}
use Rattle.cfs_model.specs.declared.act.Entry.{Entry}
use Rattle.sched_event.specs.Event.{EventAnswer, EventView, event_of, act_of}
use Rattle.sched_event.specs.Ranges.{is_out_of_range, names_idle, pids_named, cpus_named}
use Rattle.sched_event.specs.Texts.{EventText, switch, wakeup, wakeup_new, migration}
use Rattle.ftrace_line.specs.declared.kinds.Which.{Which}
use Rattle.text_parts.specs.Numerals.{value_of}
use Rattle.sched_record.specs.Kept.{IsNamed}
use Rattle.sched_record.specs.Said.{SaysEvent}

none_above : (most : ℕ) (xs : List ℕ) → list_any (nat_lt most) xs ≡ false → All (λ x. x ≤ most) xs
none_above most [] e = All-nil (λ x. x ≤ most)
none_above most (x ∷ xs) e =
    let parts = or_parts (nat_lt most x) (list_any (nat_lt most) xs) e in
    All-cons (λ x. x ≤ most) x xs (ltb-false most x parts.0) (none_above most xs parts.1)

not_idle : (pid : ℕ) → eqb pid 0 ≡ false → All (λ pid. 0 < pid) (pid ∷ [])
not_idle pid e = let ne = eqb-false pid 0 e in All-cons (λ pid. 0 < pid) pid [] (omega (arith, ne))
    (All-nil (λ pid. 0 < pid))

in_range : (text : EventText) → IsFalse (is_out_of_range text) → All (λ pid. pid ≤ greatest_pid) (pids_named text)
in_range text inside =
    none_above greatest_pid (pids_named text) (or_parts (list_any (nat_lt greatest_pid) (pids_named text))
    (list_any (nat_lt greatest_processor) (cpus_named text)) inside).0

text_named : (cpu : ℕ) (text : EventText) → IsFalse (is_out_of_range text) → IsFalse (names_idle text)
    → IsNamed (act_of (event_of cpu text))
text_named cpu (switch text) inside awake = record {
  in_range = in_range (switch text) inside;
  no_idle = All-nil (λ pid. 0 < pid);
}
text_named cpu (wakeup text) inside awake = record {
  in_range = in_range (wakeup text) inside;
  no_idle = not_idle (value_of text.pid) awake;
}
text_named cpu (wakeup_new text) inside awake = record {
  in_range = in_range (wakeup_new text) inside;
  no_idle = not_idle (value_of text.pid) awake;
}
text_named cpu (migration text) inside awake = record {
  in_range = in_range (migration text) inside;
  no_idle = not_idle (value_of text.pid) awake;
}

event_named : (cpu : ℕ) (which : Which) (rest : List ℕ) (event : EventView) → EventAnswer cpu which rest (Ok event)
    → IsNamed (act_of event)
event_named cpu which rest event is = subst (λ e. IsNamed (act_of e)) (sym is.5) (text_named cpu is.0 is.2 is.4)

pub says_named : (number : ℕ) (line : List ℕ) (entry : Entry) → SaysEvent number line entry → IsNamed entry.act
says_named number line entry says = subst IsNamed (sym says.act)
    (event_named says.cpu says.which says.rest says.event says.text)
