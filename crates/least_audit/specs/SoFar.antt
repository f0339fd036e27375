-- The least settings of the events so far, and where each is needed first (this project's profile).
use Rattle.std.specs.Prelude.{◌≡◌, ℕ, ◌<◌, Option, Some, None, List, [], ◌∷◌, ◌++◌}
use Rattle.cfs_model.specs.Claimed.{Claimed}
use Rattle.cfs_model.specs.Knobs.{KnobsView, value_at}
use Rattle.cfs_model.specs.Least.{AreLeast}
use Rattle.cfs_model.specs.Machine.{Machine}
use Rattle.cfs_model.specs.Run.{IsRun, last_of}
use Rattle.cfs_model.specs.Start.{start_machine}
use Rattle.cfs_model.specs.declared.setting.Setting.{Setting}
use Rattle.cfs_model.specs.declared.setting.Setting.TheVariants.{Granularity}
use Rattle.least_places.specs.Left.{IsLeft}
use Rattle.least_places.specs.Place.{place_at}
use Rattle.least_places.specs.declared.place.Place.{Place}
use Rattle.need_laws.specs.Places.{NeedsAt}
use Rattle.window_audit.specs.Audit.{Beginning}
use Rattle.least_audit.specs.Pursuers.{needs_behind}
use Rattle.least_audit.specs.declared.figures.Figures.{Figures}
use Rattle.least_audit.specs.declared.pursuer.Pursuer.{Pursuer}

-- the machine that they begin with
abbrev pub first_machine : Beginning → Machine
first_machine of = start_machine of.start of.floors of.tasks

-- whom the picked task was above, at the place of a granularity; other settings' places have nobody
abbrev pub IsOverAt : Beginning → List Claimed → Claimed → Setting → Option ℕ → Type 0
IsOverAt of front event Granularity over =
    (knobs : KnobsView) (run : IsRun knobs of.start (first_machine of) (front ++ event ∷ []))
    → IsLeft (last_of (first_machine of) run.states) event.entry.act over
IsOverAt of front event _ over = over ≡ None

-- the place of a setting among the least settings of some events
pub record IsPlaceSoFar (of : Beginning) (events : List Claimed) (least : KnobsView) (which : Setting) (place : Place)
    : Type 0 where
  pub some : 0 < value_at least which
  pub needs : NeedsAt of.start of.floors of.tasks events least which place.line place.cpu place.pid
  pub front : List Claimed
  pub event : Claimed
  pub rest : List Claimed
  pub whole : events ≡ front ++ event ∷ rest
  pub line : event.entry.line ≡ place.line
  pub time : event.entry.time ≡ place.time
  pub over : IsOverAt of front event which place.over

-- one of which nothing is needed has none
abbrev pub IsPlacedSoFar : Beginning → List Claimed → KnobsView → Setting → Option Place → Type 0
IsPlacedSoFar of events least which None = value_at least which ≡ 0
IsPlacedSoFar of events least which (Some place) = IsPlaceSoFar of events least which place

-- the least settings of some events, and the place of each
pub record AreFiguresOf (of : Beginning) (events : List Claimed) (pursuers : List Pursuer) (figures : Figures) : Type 0
  where
    pub needs : figures.least ≡ needs_behind of events pursuers
    pub least : AreLeast of.start (first_machine of) events figures.least
    pub places : (which : Setting) → IsPlacedSoFar of events figures.least which (place_at figures.places which)
