-- The book of a record that comes in windows, as contracts see it (this project's profile).
use Rattle.std.specs.Prelude.{◌≡◌, ℕ, List, map}
use Rattle.cfs_model.specs.Claimed.{Claimed}
use Rattle.cfs_model.specs.declared.task.Task.{Task}
use Rattle.replay_model.specs.Roll.{named, roll_of}
use Rattle.ticket_book.specs.Alive.{alive_view}
use Rattle.ticket_book.specs.RunSums.{AreSumsOf}
use Rattle.ticket_book.specs.declared.window_book.WindowBook.{WindowBook}

-- how many events the windows so far had
abbrev pub events_in : WindowBook → ℕ
events_in book = book.sums.events

-- the book is that of these events so far, from these tasks on
pub record IsBookOf (tasks : List Task) (so_far : List Claimed) (book : WindowBook) : Type 0 where
  pub alive : (pid : ℕ) → alive_view book.alive pid ≡ roll_of (named tasks) so_far pid
  pub sums : AreSumsOf tasks (map (λ event. event.entry) so_far) book.sums
