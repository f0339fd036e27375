-- How far a page's stream keeps up with a record that is dealt event by event (this project's profile).
use Rattle.std.specs.Prelude.{◌≡◌, ◌≢◌, ℕ, Option, Some, None, List, [], length, slice_get, take}
use Rattle.cfs_model.specs.Claimed.{Claimed}
use Rattle.replay_model.specs.Cut.{steps_at}
use Rattle.replay_model.specs.declared.step.Step.{Step}
use Rattle.queue_replay.specs.Replay.{ReplayView}
use Rattle.ticket_book.specs.Book.{page_at}
use Rattle.ticket_book.specs.declared.cursor.Cursor.{Cursor}
use Rattle.ticket_book.specs.declared.cursor.Cursor.TheVariants.{At, Apart}

-- the steps of the page at an index; where there is no page there are none
abbrev pub steps_in : Option ReplayView → List Step
steps_in None = []
steps_in (Some page) = page.stream.steps

-- the steps dealt so far are the first of these, up to the index; or they aren't the first of these
abbrev pub IsCursor : List Step → List Step → Cursor → Type 0
IsCursor steps dealt (At index) = (index ≡ length dealt) × (dealt ≡ take index steps)
IsCursor steps dealt Apart = dealt ≢ take (length dealt) steps

-- the cursor of a processor, if it has one, is that of the page at its index
abbrev pub IsFollowed : List (Option ReplayView) → List Cursor → ℕ → List Step → Type 0
IsFollowed slots cursors cpu dealt =
    (cursor : Cursor) → slice_get cursors cpu ≡ Some cursor → IsCursor (steps_in (page_at slots cpu)) dealt cursor

-- so is each, with these events dealt
abbrev pub AreFollowed : List (Option ReplayView) → List Cursor → List Claimed → Type 0
AreFollowed slots cursors events = (cpu : ℕ) → IsFollowed slots cursors cpu (steps_at cpu events)
