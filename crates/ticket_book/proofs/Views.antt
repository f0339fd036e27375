-- What is told of the page at an index in a list of what has pages.
use Rattle.std.proofs.Common.{◌≡◌, ℕ, zero, suc, ◌<◌, List, [], ◌∷◌, length, map, get_or, ap, sym, arith}
use Rattle.replay_model.specs.Noted.{PageView}
use Rattle.ticket_book.specs.Told.{view_at}

-- the page that is read at an index
pub view_here : {P : Type 0} (page_of : P → PageView) (pages : List P) (k : ℕ) (page : P) → k < length pages
    → page ≡ get_or pages k page → view_at (map page_of pages) k ≡ page_of page
view_here page_of [] k page h e = absurd (omega arith)
view_here page_of (p ∷ pages) zero page h e = ap page_of (sym e)
view_here page_of (p ∷ pages) (suc k) page h e = view_here page_of pages k page (omega arith) e
