-- Which step of a processor may be the place of a setting, and since when it may idle there (this project's profile).
use Rattle.std.specs.Prelude.{ℕ, ◌==◌, if◌then◌else◌, nat_lt, Option, Some, None, option_map, List}
use Rattle.cfs_model.specs.Knobs.{value_at}
use Rattle.cfs_model.specs.declared.setting.Setting.{Setting}
use Rattle.cfs_model.specs.declared.setting.Setting.TheVariants.{Granularity}
use Rattle.queue_replay.specs.Windowed.{WindowedView}
use Rattle.least_audit.specs.Pursuers.{rises_of, view_at}
use Rattle.least_audit.specs.Rises.{rise_at}
use Rattle.least_audit.specs.declared.pursuer.Idling.{Idling}
use Rattle.least_audit.specs.declared.pursuer.Pursuer.{Pursuer}
use Rattle.least_audit.specs.declared.pursuer.RiseAt.{RiseAt}
use Rattle.least_audit.specs.declared.rise.Rise.{Rise}
use Rattle.least_audit.specs.declared.rise.Rises.{Rises}

abbrev pub at_cpu : ℕ → Rise → RiseAt
at_cpu cpu rise = record { cpu = cpu; rise = rise }

-- where a processor needs so much of a setting, the step at which its needs rose to that
abbrev pub rise_to : Setting → ℕ → WindowedView → Rises → Option RiseAt
rise_to which value replay rises =
    if value_at replay.needs which == value
    then option_map (at_cpu replay.cpu) (rise_at rises which) else None

abbrev pub rises_to : Setting → ℕ → List Pursuer → ℕ → Option RiseAt
rises_to which value pursuers cpu = rise_to which value (view_at pursuers cpu) (rises_of pursuers cpu)

abbrev pub line_of : RiseAt → ℕ
line_of at = at.rise.step.line

-- whom a picked task was above at such a step, where it is a granularity that rose
abbrev pub over_of : Setting → Rise → Option ℕ
over_of Granularity rise = rise.over
over_of _ rise = None

-- since when it idled at a step, where there was one
abbrev pub since_of : Option Rise → Option ℕ
since_of None = None
since_of (Some rise) = rise.since

abbrev pub idling_at : ℕ → ℕ → Idling
idling_at cpu since = record { cpu = cpu; since = since }

-- since when a processor idled that needs more of the slack than a bound; else since when it still idles
abbrev pub idling_of : ℕ → WindowedView → Rises → Option Idling
idling_of bound replay rises =
    option_map (idling_at replay.cpu)
    (if nat_lt bound replay.needs.slack then since_of rises.slack else replay.state.since)

abbrev pub idlings_of : ℕ → List Pursuer → ℕ → Option Idling
idlings_of bound pursuers cpu = idling_of bound (view_at pursuers cpu) (rises_of pursuers cpu)

abbrev pub begin_of : Idling → ℕ
begin_of idling = idling.since
