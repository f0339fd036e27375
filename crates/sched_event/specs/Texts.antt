-- The texts of the four events (ftrace.rst; the print formats of sched_switch, sched_wakeup, sched_wakeup_new and
-- sched_migrate_task): what a text's parts are, and that they make up all of it.
use Rattle.std.specs.Prelude.{◌≡◌, ℕ, ◌≤◌, ◌==◌, not, Bool, if◌then◌else◌, List, [], ◌∷◌, ◌++◌, codes, length, Option}
use Rattle.std.specs.Prelude.{Some, None, IfSome}
use Rattle.ftrace_line.specs.declared.kinds.Which.{Which}
use Rattle.ftrace_line.specs.declared.kinds.Which.TheVariants as kinds
use Rattle.text_parts.specs.Numerals.{IsNumeral}
use Rattle.text_parts.specs.Pieces.{IsRunOf, joined}

-- a task's name: at most fifteen bytes of any kind, spaces and keys among them
abbrev pub IsName : List ℕ → Type 0
IsName name = length name ≤ 15

-- a byte that isn't a space
abbrev pub is_dark : ℕ → Bool
is_dark byte = not (byte == 32)

-- the letters of a task's state: one or more bytes, none of them a space
abbrev pub IsState : List ℕ → Type 0
IsState state = IsRunOf is_dark state

-- a printed prio: its sign and its digits
pub record Prio : Type 0 where
  pub minus : Bool
  pub digits : List ℕ

-- the bytes of a prio: `-` where it has a sign, and digits
abbrev pub prio_text : Prio → List ℕ
prio_text prio = if prio.minus then 45 ∷ prio.digits else prio.digits

-- the parts of a switch: a name, the digits of a pid, a prio and a state for the task that leaves, and a name, the
-- digits of a pid and a prio for the one that comes
pub record SwitchText : Type 0 where
  pub prev_name : List ℕ
  pub prev : List ℕ
  pub prev_prio : Prio
  pub prev_state : List ℕ
  pub next_name : List ℕ
  pub next : List ℕ
  pub next_prio : Prio

-- a text is a switch of these parts
pub record IsSwitchText (rest : List ℕ) (text : SwitchText) : Type 0 where
  pub prev_name : IsName text.prev_name
  pub prev : IsNumeral text.prev
  pub prev_prio : IsNumeral text.prev_prio.digits
  pub prev_state : IsState text.prev_state
  pub next_name : IsName text.next_name
  pub next : IsNumeral text.next
  pub next_prio : IsNumeral text.next_prio.digits
  pub whole : rest ≡ joined (codes "prev_comm=" ∷ text.prev_name ∷ codes " prev_pid=" ∷ text.prev ∷ codes
      " prev_prio=" ∷ prio_text text.prev_prio
      ∷ codes " prev_state=" ∷ text.prev_state ∷ codes " ==> next_comm=" ∷ text.next_name ∷ codes
      " next_pid=" ∷ text.next ∷ codes " next_prio=" ∷ prio_text text.next_prio ∷ [])

-- the parts of a wakeup: the task's name, the digits of its pid, its prio, the digits of `success` where it is
-- printed, and those of the target processor
pub record WakeupText : Type 0 where
  pub name : List ℕ
  pub pid : List ℕ
  pub prio : Prio
  pub success : Option (List ℕ)
  pub target : List ℕ

-- the field `success`, which older kernels print and newer ones leave out
abbrev pub success_text : Option (List ℕ) → List ℕ
success_text None = []
success_text (Some digits) = codes " success=" ++ digits

-- a text is a wakeup of these parts, of a task that slept or of a new one
pub record IsWakeupText (rest : List ℕ) (text : WakeupText) : Type 0 where
  pub name : IsName text.name
  pub pid : IsNumeral text.pid
  pub prio : IsNumeral text.prio.digits
  pub success : IfSome text.success IsNumeral
  pub target : IsNumeral text.target
  pub whole : rest ≡ joined (codes "comm=" ∷ text.name ∷ codes " pid=" ∷ text.pid ∷ codes " prio=" ∷ prio_text text.prio
      ∷ success_text text.success ∷ codes " target_cpu=" ∷ text.target ∷ [])

-- the parts of a migration: the task's name, the digits of its pid, its prio, and the digits of the two processors
pub record MigrationText : Type 0 where
  pub name : List ℕ
  pub pid : List ℕ
  pub prio : Prio
  pub orig : List ℕ
  pub dest : List ℕ

-- a text is a migration of these parts
pub record IsMigrationText (rest : List ℕ) (text : MigrationText) : Type 0 where
  pub name : IsName text.name
  pub pid : IsNumeral text.pid
  pub prio : IsNumeral text.prio.digits
  pub orig : IsNumeral text.orig
  pub dest : IsNumeral text.dest
  pub whole : rest ≡ joined (codes "comm=" ∷ text.name ∷ codes " pid=" ∷ text.pid ∷ codes " prio=" ∷ prio_text text.prio
      ∷ codes " orig_cpu=" ∷ text.orig ∷ codes " dest_cpu=" ∷ text.dest ∷ [])

-- the parts of an event's text
pub data EventText : Type 0 where
  switch : SwitchText → EventText
  wakeup : WakeupText → EventText
  wakeup_new : WakeupText → EventText
  migration : MigrationText → EventText

-- the text behind an event's name has these parts
abbrev pub Reads : Which → List ℕ → EventText → Type 0
Reads kinds.Switch rest (switch text) = IsSwitchText rest text
Reads kinds.Wakeup rest (wakeup text) = IsWakeupText rest text
Reads kinds.WakeupNew rest (wakeup_new text) = IsWakeupText rest text
Reads kinds.MigrateTask rest (migration text) = IsMigrationText rest text
Reads _ rest _ = ⊥
