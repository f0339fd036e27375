-- The four events of the scheduler as they are read (the print formats of the scheduler's trace events).
use Rattle.std.specs.Prelude.{ℕ, ℤ, List}

-- a switch: its processor, the task that leaves with the letters of its state, and the one that comes
pub record SwitchView : Type 0 where
  pub cpu : ℕ
  pub prev_name : List ℕ
  pub prev : ℕ
  pub prev_nice : ℤ
  pub prev_state : List ℕ
  pub next_name : List ℕ
  pub next : ℕ
  pub next_nice : ℤ

-- a wakeup: the task, and the processor whose runqueue it enters
pub record WakeupView : Type 0 where
  pub name : List ℕ
  pub pid : ℕ
  pub nice : ℤ
  pub target : ℕ

-- a migration: the task, and the processors that it goes from and to
pub record MigrationView : Type 0 where
  pub name : List ℕ
  pub pid : ℕ
  pub nice : ℤ
  pub orig : ℕ
  pub dest : ℕ

-- an event
pub data EventView : Type 0 where
  switched : SwitchView → EventView
  woken : WakeupView → EventView
  born : WakeupView → EventView
  migrated : MigrationView → EventView
