-- Testing the numbers and the prios of a text in their order (the ranges and the prios of fair tasks are this
-- project's profile). What is answered so is the relation of Event.
use Rattle.std.specs.Prelude.{◌≡◌, ℕ, ◌==◌, if◌then◌else◌, nat_lt, int_lt, ℤ, pos, ◌-ℤ◌, List, Option, Some, None}
use Rattle.std.specs.Prelude.{Result, Ok, Err}
use Rattle.ftrace_line.specs.declared.kinds.Which.{Which}
use Rattle.cfs_model.specs.Limits.{greatest_pid, greatest_processor, idle_pid}
use Rattle.text_parts.specs.Numerals.{value_of}
use Rattle.sched_event.specs.declared.fault.EventFault.{EventFault}
use Rattle.sched_event.specs.declared.fault.EventFault.TheVariants.{BadFields, NumberRange, RealTime, PrioRange}
use Rattle.sched_event.specs.declared.fault.EventFault.TheVariants.{IdleNamed}
use Rattle.sched_event.specs.Texts.{Prio, SwitchText, WakeupText, MigrationText, EventText, switch, wakeup, wakeup_new}
use Rattle.sched_event.specs.Texts.{migration}
use Rattle.sched_event.specs.Ranges.{prio_of}
use Rattle.sched_event.specs.Event.{SwitchView, WakeupView, MigrationView, EventView, switched, woken, born, migrated}
use Rattle.sched_event.specs.Reading.{text_at}

-- a test, and another at what it let through
infixl 10 ◌>>=◌
abbrev pub ◌>>=◌ : {A B : Type 0} → Result A EventFault → (A → Result B EventFault) → Result B EventFault
(Ok x) >>= f = f x
(Err fault) >>= f = Err fault

-- what a function answered, seen by view, is what the tests give
abbrev pub Judges : {X Y : Type 0} → (X → Y) → Result X EventFault → Result Y EventFault → Type 0
Judges view (Ok x) judged = judged ≡ Ok (view x)
Judges view (Err fault) judged = judged ≡ Err fault

-- the number that digits stand for, where it isn't above the most
unfoldable pub number_within : ℕ → List ℕ → Result ℕ EventFault
number_within most digits = if nat_lt most (value_of digits) then Err NumberRange else Ok (value_of digits)

-- the nice value of a fair task's prio
abbrev pub nice_of_priority : ℤ → Result ℤ EventFault
nice_of_priority prio = if int_lt prio (pos 100) then Err RealTime else if int_lt (pos 139) prio then Err PrioRange else
    Ok (prio -ℤ pos 120)

-- the nice value of a pid's printed prio: that of the idle task isn't looked at, and counts as 120
unfoldable pub printed_nice : ℕ → Prio → Result ℤ EventFault
printed_nice pid prio = nice_of_priority (if pid == idle_pid then pos 120 else prio_of prio)

-- a switch, by its numbers and then by its prios
unfoldable pub switch_judged : ℕ → SwitchText → Result SwitchView EventFault
switch_judged cpu text = do
  prev ← number_within greatest_pid text.prev
  next ← number_within greatest_pid text.next
  prev_nice ← printed_nice prev text.prev_prio
  next_nice ← printed_nice next text.next_prio
  Ok (record {
    cpu = cpu;
    prev_name = text.prev_name;
    prev = prev;
    prev_nice = prev_nice;
    prev_state = text.prev_state;
    next_name = text.next_name;
    next = next;
    next_nice = next_nice;
  })

-- a wakeup, by its numbers, then by its prio, then by its pid
unfoldable pub wakeup_judged : WakeupText → Result WakeupView EventFault
wakeup_judged text = do
  pid ← number_within greatest_pid text.pid
  target ← number_within greatest_processor text.target
  nice ← printed_nice pid text.prio
  if pid == idle_pid then Err IdleNamed else Ok (record { name = text.name; pid = pid; nice = nice; target = target })

-- a migration, in the same order
unfoldable pub migration_judged : MigrationText → Result MigrationView EventFault
migration_judged text = do
  pid ← number_within greatest_pid text.pid
  orig ← number_within greatest_processor text.orig
  dest ← number_within greatest_processor text.dest
  nice ← printed_nice pid text.prio
  if pid == idle_pid then Err IdleNamed else Ok (record {
    name = text.name;
    pid = pid;
    nice = nice;
    orig = orig;
    dest = dest;
  })

-- the answer for a text's parts
unfoldable pub judged : ℕ → EventText → Result EventView EventFault
judged cpu (switch text) = switch_judged cpu text >>= λ read. Ok (switched read)
judged cpu (wakeup text) = wakeup_judged text >>= λ read. Ok (woken read)
judged cpu (wakeup_new text) = wakeup_judged text >>= λ read. Ok (born read)
judged cpu (migration text) = migration_judged text >>= λ read. Ok (migrated read)

-- the answer for the parts that were read, if any
abbrev pub judged_if_read : ℕ → Option EventText → Result EventView EventFault
judged_if_read cpu None = Err BadFields
judged_if_read cpu (Some text) = judged cpu text

-- the answer for a text
unfoldable pub answer_at : ℕ → Which → List ℕ → Result EventView EventFault
answer_at cpu which rest = judged_if_read cpu (text_at which rest)
