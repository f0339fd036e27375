-- A page that a book accepts finds its slot empty, so the book has just one page more.
use Rattle.std.proofs.Common.{◌≡◌, ℕ, zero, suc, ◌+◌, List, [], ◌∷◌, set, replicate, Option, Some, None, refl, ap}
use Rattle.std.specs.Prelude.{slice_get}
use Rattle.queue_replay.specs.Replay.{ReplayView}
use Rattle.ticket_book.specs.Book.{post_refusal}
use Rattle.ticket_book.proofs.BookSlots.{room}
use Rattle.audit_crew.specs.Filled.{filled}

fills : (slots : List (Option ReplayView)) (cpu : ℕ) (page : ReplayView) → slice_get slots cpu ≡ Some None
    → filled (set slots cpu (Some page)) ≡ filled slots + 1
fills [] cpu page e = absurd cc
fills (None ∷ slots) zero page e = refl
fills (Some other ∷ slots) zero page e = absurd cc
fills (None ∷ slots) (suc cpu) page e = fills slots cpu page e
fills (Some other ∷ slots) (suc cpu) page e = ap (λ n. n + 1) (fills slots cpu page e)

-- a page that isn't refused is one page more
pub one_page_more : (slots : List (Option ReplayView)) (cpu : ℕ) (page : ReplayView) → None ≡ post_refusal slots cpu
    → filled (set slots cpu (Some page)) ≡ filled slots + 1
one_page_more slots cpu page e = fills slots cpu page (room slots cpu e)

-- a new book has none
pub none_filled : (cpus : ℕ) → filled (replicate cpus None) ≡ 0
none_filled zero = refl
none_filled (suc cpus) = none_filled cpus
