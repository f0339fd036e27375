-- Which of a book's pages are the record's own (this project's profile).
use Rattle.std.specs.Prelude.{◌≡◌, ◌↔◌, ℕ, Bool, IsTrue, ⊤, if◌then◌else◌, Option, Some, None, List, option_map}
use Rattle.std.specs.Prelude.{slice_get}
use Rattle.cfs_model.specs.Knobs.{KnobsView}
use Rattle.queue_replay.specs.Replay.{ReplayView}
use Rattle.sched_record.specs.Record.{RecordView}
use Rattle.ticket_book.specs.Book.{page_at}
use Rattle.ticket_book.specs.Whole.{IsOwnPageOf}

-- each page is of the record's stream for its slot's processor, with these settings
abbrev pub AreOwn : KnobsView → RecordView → List (Option ReplayView) → Type 0
AreOwn knobs r slots = (cpu : ℕ) (page : ReplayView) → page_at slots cpu ≡ Some page → IsOwnPageOf knobs r cpu page

-- the word on the page at a slot is right: it is true just where that page is the record's own; where there is no page
-- any word is
abbrev pub IsToldOwn : KnobsView → RecordView → ℕ → Option ReplayView → Bool → Type 0
IsToldOwn knobs r cpu None own = ⊤
IsToldOwn knobs r cpu (Some page) own = IsTrue own ↔ IsOwnPageOf knobs r cpu page

-- so are the words on the pages at these slots, in the order of the processors
abbrev pub AreToldOwn : KnobsView → RecordView → List (Option ReplayView) → List Bool → Type 0
AreToldOwn knobs r slots owns =
    (cpu : ℕ) (own : Bool) → slice_get owns cpu ≡ Some own → IsToldOwn knobs r cpu (page_at slots cpu) own

-- the line of the fault of the page at a slot, where the page is told to be the record's own and has a fault
abbrev pub own_line : Bool → Option ReplayView → Option ℕ
own_line own None = None
own_line own (Some page) = if own then option_map (λ fault. fault.line) page.page.fault else None
