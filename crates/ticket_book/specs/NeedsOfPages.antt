-- What the pages of a record's processors need of the settings (this project's profile).
use Rattle.std.specs.Prelude.{◌≡◌, ℕ, zero, suc, Some, List, [], ◌∷◌, slice_get}
use Rattle.cfs_model.specs.Knobs.{KnobsView}
use Rattle.queue_replay.specs.Needing.{HasNeeds}
use Rattle.queue_replay.specs.Replay.{ReplayView}
use Rattle.replay_model.specs.Needs.{only_slack}

-- the needs on the page of a processor, of some pages in the order of their numbers; none behind the last
abbrev pub needs_at : List ReplayView → ℕ → KnobsView
needs_at [] cpu = only_slack 0
needs_at (page ∷ pages) zero = page.needs
needs_at (page ∷ pages) (suc cpu) = needs_at pages cpu

-- the needs on each page are those of its replay
abbrev pub HaveNeeds : List ReplayView → Type 0
HaveNeeds pages = (cpu : ℕ) (page : ReplayView) → slice_get pages cpu ≡ Some page
    → HasNeeds page.stream page.knobs page.made page.page page.needs
