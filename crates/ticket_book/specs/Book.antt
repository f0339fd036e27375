-- A book of pages, as contracts see it (this project's profile).
use Rattle.std.specs.Prelude.{◌≡◌, ℕ, ◌<◌, ◌≤◌, min, Option, Some, None, Result, Ok, Err, List, [], ◌∷◌, length}
use Rattle.std.specs.Prelude.{slice_get, slice_index_or}
use Rattle.cfs_model.specs.Limits.{most_processors}
use Rattle.replay_model.specs.declared.page.StepFault.{StepFault}
use Rattle.queue_replay.specs.Replay.{ReplayView}
use Rattle.ticket_book.specs.declared.post_fault.PostFault.{PostFault}
use Rattle.ticket_book.specs.declared.post_fault.PostFault.TheVariants.{Outside, Twice}

-- the word for the line of a fault where there is none
abbrev pub no_fault : ℕ
no_fault = 18446744073709551615

-- the line of a fault
abbrev pub line_of_fault : Option StepFault → ℕ
line_of_fault None = no_fault
line_of_fault (Some fault) = fault.line

-- the line of the fault of the page at a slot, if there is a page and it has a fault
abbrev pub slot_line : Option ReplayView → ℕ
slot_line None = no_fault
slot_line (Some page) = line_of_fault page.page.fault

-- the least line of a fault on the pages at some slots
abbrev pub least_line : List (Option ReplayView) → ℕ
least_line [] = no_fault
least_line (slot ∷ slots) = min (slot_line slot) (least_line slots)

-- the page at the slot of a processor, if there is one; behind the last there is none
abbrev pub page_at : List (Option ReplayView) → ℕ → Option ReplayView
page_at slots cpu = slice_index_or slots cpu None

-- what every book keeps: it has a slot for each of its processors, where a page of that processor alone can stand, and
-- the least line is the one over its pages
pub record IsBook (slots : List (Option ReplayView)) (least : ℕ) : Type 0 where
  pub some : 0 < length slots
  pub at_most : length slots ≤ most_processors
  pub own : (cpu : ℕ) (page : ReplayView) → page_at slots cpu ≡ Some page → page.stream.cpu ≡ cpu
  pub least_is : least ≡ least_line slots

-- why no page can be posted to a slot, if so: there is no such slot, or it has a page
abbrev pub refusal_at : Option (Option ReplayView) → Option PostFault
refusal_at None = Some Outside
refusal_at (Some (Some page)) = Some Twice
refusal_at (Some None) = None

-- why a page of a processor can't be posted, if so
abbrev pub post_refusal : List (Option ReplayView) → ℕ → Option PostFault
post_refusal slots cpu = refusal_at (slice_get slots cpu)

-- why a post was refused, if it was
abbrev pub refusal_in : Result ℕ (ReplayView × PostFault) → Option PostFault
refusal_in (Ok line) = None
refusal_in (Err back) = Some back.1
