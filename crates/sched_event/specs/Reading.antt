-- Reading the four events' texts from left to right, as lists of bytes (the print formats of the scheduler's trace
-- events). What is read so is the relation of Texts.
use Rattle.std.specs.Prelude.{ℕ, zero, suc, ◌==◌, Bool, true, false, if◌then◌else◌, List, [], ◌∷◌, codes, length, min}
use Rattle.std.specs.Prelude.{take, drop, Option, Some, None, option_map}
use Rattle.std.specs.List.{prefix_len}
use Rattle.ftrace_line.specs.declared.kinds.Which.{Which}
use Rattle.ftrace_line.specs.declared.kinds.Which.TheVariants as kinds
use Rattle.text_parts.specs.Numerals.{is_digit}
use Rattle.text_parts.specs.Pieces.{begins_with}
use Rattle.text_parts.specs.Reading.{◌>>=◌, after_text, if_at_end}
use Rattle.sched_event.specs.Texts.{Prio, SwitchText, WakeupText, MigrationText, EventText, switch, wakeup, wakeup_new}
use Rattle.sched_event.specs.Texts.{migration, is_dark}

-- the bytes at the front that pass a test, at least one, and what follows them
unfoldable pub run_at : (ℕ → Bool) → List ℕ → Option (List ℕ × List ℕ)
run_at test text = if prefix_len test text == 0 then None else Some
    (take (prefix_len test text) text, drop (prefix_len test text) text)

-- whether a minus sign stands at the front, and what follows it
unfoldable pub sign_at : List ℕ → Bool × List ℕ
sign_at [] = (false, [])
sign_at (byte ∷ bytes) = if byte == 45 then (true, bytes) else (false, byte ∷ bytes)

-- the last index up to a limit at which a key stands
unfoldable pub last_index : ℕ → List ℕ → List ℕ → Option ℕ
last_index zero key text = if begins_with key text then Some 0 else None
last_index (suc limit) key text = if begins_with key (drop (suc limit) text) then Some (suc limit) else last_index limit
    key text

-- the digits behind a key
unfoldable pub numeral_behind : List ℕ → List ℕ → Option (List ℕ × List ℕ)
numeral_behind key text = do
  after ← after_text key text
  run_at is_digit after

-- the letters of a state behind a key
unfoldable pub state_behind : List ℕ → List ℕ → Option (List ℕ × List ℕ)
state_behind key text = do
  after ← after_text key text
  run_at is_dark after

-- the prio behind a key
unfoldable pub prio_behind : List ℕ → List ℕ → Option (Prio × List ℕ)
prio_behind key text = do
  after ← after_text key text
  digits ← run_at is_digit (sign_at after).1
  Some (record { minus = (sign_at after).0; digits = digits.0 }, digits.1)

-- the name behind a key: it ends at the last index within fifteen bytes at which the next key stands
unfoldable pub name_behind : List ℕ → List ℕ → List ℕ → Option (List ℕ × List ℕ)
name_behind key next text = do
  after ← after_text key text
  index ← last_index (min 15 (length after)) next after
  Some (take index after, drop index after)

-- a reader's answer, or nothing and the text as it was
abbrev pub or_nothing : List ℕ → Option (List ℕ × List ℕ) → Option (List ℕ) × List ℕ
or_nothing text None = (None, text)
or_nothing text (Some read) = (Some read.0, read.1)

-- the digits behind a key, where they stand there
unfoldable pub optional_behind : List ℕ → List ℕ → Option (List ℕ) × List ℕ
optional_behind key text = or_nothing text (numeral_behind key text)

-- the parts of a switch
unfoldable pub switch_at : List ℕ → Option SwitchText
switch_at text = do
  prev_name ← name_behind (codes "prev_comm=") (codes " prev_pid=") text
  prev ← numeral_behind (codes " prev_pid=") prev_name.1
  prev_prio ← prio_behind (codes " prev_prio=") prev.1
  prev_state ← state_behind (codes " prev_state=") prev_prio.1
  next_name ← name_behind (codes " ==> next_comm=") (codes " next_pid=") prev_state.1
  next ← numeral_behind (codes " next_pid=") next_name.1
  next_prio ← prio_behind (codes " next_prio=") next.1
  if_at_end next_prio.1 (record {
    prev_name = prev_name.0;
    prev = prev.0;
    prev_prio = prev_prio.0;
    prev_state = prev_state.0;
    next_name = next_name.0;
    next = next.0;
    next_prio = next_prio.0;
  })

-- the parts of a wakeup
unfoldable pub wakeup_at : List ℕ → Option WakeupText
wakeup_at text = do
  name ← name_behind (codes "comm=") (codes " pid=") text
  pid ← numeral_behind (codes " pid=") name.1
  prio ← prio_behind (codes " prio=") pid.1
  target ← numeral_behind (codes " target_cpu=") (optional_behind (codes " success=") prio.1).1
  if_at_end target.1 (record {
    name = name.0;
    pid = pid.0;
    prio = prio.0;
    success = (optional_behind (codes " success=") prio.1).0;
    target = target.0;
  })

-- the parts of a migration
unfoldable pub migration_at : List ℕ → Option MigrationText
migration_at text = do
  name ← name_behind (codes "comm=") (codes " pid=") text
  pid ← numeral_behind (codes " pid=") name.1
  prio ← prio_behind (codes " prio=") pid.1
  orig ← numeral_behind (codes " orig_cpu=") prio.1
  dest ← numeral_behind (codes " dest_cpu=") orig.1
  if_at_end dest.1 (record { name = name.0; pid = pid.0; prio = prio.0; orig = orig.0; dest = dest.0 })

-- the parts of an event's text
unfoldable pub text_at : Which → List ℕ → Option EventText
text_at kinds.Switch rest = option_map switch (switch_at rest)
text_at kinds.Wakeup rest = option_map wakeup (wakeup_at rest)
text_at kinds.WakeupNew rest = option_map wakeup_new (wakeup_at rest)
text_at kinds.MigrateTask rest = option_map migration (migration_at rest)
