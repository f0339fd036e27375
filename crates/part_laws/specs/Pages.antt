-- A stream has one page by its first steps (this project's profile).
use Rattle.std.specs.Prelude.{◌≡◌, ℕ}
use Rattle.cfs_model.specs.Knobs.{KnobsView}
use Rattle.replay_model.specs.PartWords.{start_part, OneRunsIn}
use Rattle.replay_model.specs.Cut.{StreamView}
use Rattle.replay_model.specs.Noted.{PageView}
use Rattle.replay_model.specs.Page.{IsPageOf}

-- where at most one of its tasks runs, a stream has at most one page by its first steps
abbrev pub OnePage : Type 0
OnePage = (stream : StreamView) (knobs : KnobsView) (made : ℕ) (page other : PageView)
    → OneRunsIn (start_part stream.tasks stream.floor stream.start)
    → IsPageOf stream knobs made page → IsPageOf stream knobs made other → page ≡ other
