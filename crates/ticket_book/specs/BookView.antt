-- A book, as contracts see it: a slot for each of its processors, each empty or with a page (this project's profile).
use Rattle.std.specs.Prelude.{List, Option}
use Rattle.queue_replay.specs.Replay.{ReplayView}
use Rattle.ticket_book.specs.declared.book.Book.{Book}

-- the slots of a book, in the order of their processors
abbrev pub book_view : Book → List (Option ReplayView)
book_view book = book.slots.items
