-- A charge that the companion tells. Kernels of this scheduler print what they charge, by clocks that they read some
-- microseconds before or after a line's time; what is told stands in place of the exact charge, and in sum a task may
-- stray from exact charging by at most a bound. Sources: sched-design-CFS.rst, "The rbtree" (the time that a task just
-- ran is added to its virtual runtime, which so never falls); events.rst, the event sched_stat_runtime. That charges
-- are told on an event's line, and the bound on their sum, is this project's profile.
use Rattle.std.specs.Prelude.{◌≡◌, ℕ, Option, Some, None, ℤ, pos, neg_ℤ, ◌+ℤ◌, ◌-ℤ◌, ◌≤ℤ◌}
use Rattle.cfs_model.specs.Machine.{Machine, Stands, with_runtime, with_drift}
use Rattle.cfs_model.specs.declared.charge_line.ChargeLine.{ChargeLine}
use Rattle.cfs_model.specs.declared.task.Place.TheVariants.{Run}

-- the drift of a task that is told to have one virtual runtime where exact charging gives it another
abbrev pub drift_after : ℤ → ℤ → ℤ → ℤ
drift_after drift told exact = drift +ℤ (told -ℤ exact)

-- a drift is at most the bound, up or down
abbrev pub IsWithin : ℕ → ℤ → Type 0
IsWithin bound drift = (neg_ℤ (pos bound) ≤ℤ drift) × (drift ≤ℤ pos bound)

-- the charge is of the task that runs at the processor, doesn't lower its virtual runtime, and leaves its drift within
-- the bound; exactly is the machine before with who runs there charged exactly
pub record IsTold (bound : ℕ) (charge : ChargeLine) (cpu : ℕ) (before exactly : Machine) : Type 0 where
  pub runs : Stands before Run cpu charge.pid
  pub own : ℤ
  pub runtime : before.runtime charge.pid ≡ Some own
  pub rises : own ≤ℤ charge.v
  pub exact : ℤ
  pub charged : exactly.runtime charge.pid ≡ Some exact
  pub within : IsWithin bound (drift_after (before.drift charge.pid) charge.v exact)

-- after is before with who runs at the processor charged: exactly, or as told
abbrev pub ChargesAs : ℕ → Option ChargeLine → ℕ → Machine → Machine → Machine → Type 0
ChargesAs bound None cpu before exactly after = after ≡ exactly
ChargesAs bound (Some charge) cpu before exactly after =
    (told : IsTold bound charge cpu before exactly)
    × (after ≡ with_drift (with_runtime exactly charge.pid charge.v) charge.pid
    (drift_after (before.drift charge.pid) charge.v told.exact))
