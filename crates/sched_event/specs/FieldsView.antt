-- What is seen of a text's parts in memory: slices are the bytes that they point to.
use Rattle.std.specs.Prelude.{ℕ, List, Option, option_map}
use denote.Ref.{Bor}
use Rattle.sched_event.specs.declared.fields.PrioFields.{PrioFields}
use Rattle.sched_event.specs.declared.numeral.Numeral.{Numeral}
use Rattle.sched_event.specs.declared.switch.SwitchFields.{SwitchFields}
use Rattle.sched_event.specs.declared.wakeup.WakeupFields.{WakeupFields}
use Rattle.sched_event.specs.declared.migration.MigrationFields.{MigrationFields}
use Rattle.sched_event.specs.Texts.{Prio, SwitchText, WakeupText, MigrationText}

-- a slice and what follows it
abbrev pub pair : Bor (List ℕ) × Bor (List ℕ) → List ℕ × List ℕ
pair found = (found.0.now, found.1.now)

-- a numeral and what follows it
abbrev pub numeral_pair : Numeral × Bor (List ℕ) → List ℕ × List ℕ
numeral_pair found = (found.0.digits.now, found.1.now)

-- a prio
abbrev pub prio_fields_view : PrioFields → Prio
prio_fields_view prio = record { minus = prio.minus; digits = prio.numeral.digits.now }

-- a prio and what follows it
abbrev pub prio_pair : PrioFields × Bor (List ℕ) → Prio × List ℕ
prio_pair found = (prio_fields_view found.0, found.1.now)

-- digits, where they were found, and what follows them
abbrev pub optional_pair : Option Numeral × Bor (List ℕ) → Option (List ℕ) × List ℕ
optional_pair found = (option_map (λ numeral. numeral.digits.now) found.0, found.1.now)

-- the parts of a switch
abbrev pub switch_fields_view : SwitchFields → SwitchText
switch_fields_view fields = record {
  prev_name = fields.prev_name.now;
  prev = fields.prev.digits.now;
  prev_prio = prio_fields_view fields.prev_prio;
  prev_state = fields.prev_state.now;
  next_name = fields.next_name.now;
  next = fields.next.digits.now;
  next_prio = prio_fields_view fields.next_prio;
}

-- the parts of a wakeup
abbrev pub wakeup_fields_view : WakeupFields → WakeupText
wakeup_fields_view fields = record {
  name = fields.name.now;
  pid = fields.pid.digits.now;
  prio = prio_fields_view fields.prio;
  success = option_map (λ numeral. numeral.digits.now) fields.success;
  target = fields.target.digits.now;
}

-- the parts of a migration
abbrev pub migration_fields_view : MigrationFields → MigrationText
migration_fields_view fields = record {
  name = fields.name.now;
  pid = fields.pid.digits.now;
  prio = prio_fields_view fields.prio;
  orig = fields.orig.digits.now;
  dest = fields.dest.digits.now;
}
