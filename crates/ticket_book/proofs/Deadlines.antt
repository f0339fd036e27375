-- Deadlines along a list of pages: the first, and the lowest processor that is late.
use Rattle.std.proofs.Common.{◌≡◌, ℕ, ◌+◌, ◌<◌, true, false, Option, Some, None, List, length, map, get_or, refl, sym}
use Rattle.std.proofs.Common.{ap}
use Rattle.std.proofs.Common.{◌∙◌, subst, below_more, arith}
use Rattle.std.proofs.lemmas.Bool.{ltb-false, le-ltb}
use Rattle.std.proofs.lemmas.List.{length-map}
use Rattle.sched_record.specs.Lesser.{lesser_of}
use Rattle.replay_model.specs.Noted.{PageView}
use Rattle.ticket_book.specs.Told.{view_at}
use Rattle.ticket_book.specs.Idling.{IsFrom, IsFirstLate, NoneFirst, NoneLate, deadline_on, is_past}
use Rattle.ticket_book.proofs.Views.{view_here}

-- what isn't before a deadline isn't before an earlier one
from_earlier : (one other deadline : Option ℕ) → IsFrom one deadline → IsFrom (lesser_of one other) deadline
from_earlier one other None h = tt
from_earlier None other (Some d) h = absurd h
from_earlier (Some one) None (Some d) h = h
from_earlier (Some one) (Some other) (Some d) h = omega (arith, h)

from_other : (one other : Option ℕ) → IsFrom (lesser_of one other) other
from_other one None = tt
from_other None (Some other) = omega arith
from_other (Some one) (Some other) = omega arith

module _ {P : Type 0} (page_of : P → PageView) (pages : List P) (k : ℕ) (page : P) (h : k < length pages)
    (e : page ≡ get_or pages k page) where
  -- one more page
  pub one_deadline : (first : Option ℕ) → NoneFirst (map page_of pages) first k
      → NoneFirst (map page_of pages) (lesser_of first (deadline_on (page_of page))) (k + 1)
  one_deadline first before =
      below_more _ _
      (λ cpu lt. from_earlier first (deadline_on (page_of page)) (deadline_on (view_at (map page_of pages) cpu))
      (before cpu lt))
      (subst (λ view. IsFrom (lesser_of first (deadline_on (page_of page))) (deadline_on view))
      (sym (view_here page_of pages k page h e))
      (from_other first (deadline_on (page_of page))))

  -- one more page that isn't late
  pub one_in_time : (time : ℕ) → is_past time (deadline_on (page_of page)) ≡ false
      → NoneLate (map page_of pages) time k → NoneLate (map page_of pages) time (k + 1)
  one_in_time time late before =
      below_more _ _ before
      (ap (λ view. is_past time (deadline_on view)) (view_here page_of pages k page h e) ∙ late)

  -- the first that is
  pub first_late : (time : ℕ) → is_past time (deadline_on (page_of page)) ≡ true
      → NoneLate (map page_of pages) time k → IsFirstLate (map page_of pages) time k
  first_late time late before = record {
    within = (let n = length-map pages page_of in omega (arith, n));
    late = ap (λ view. is_past time (deadline_on view)) (view_here page_of pages k page h e) ∙ late;
    lowest = before;
  }

past_from : (time : ℕ) (first deadline : Option ℕ) → IsFrom first deadline → is_past time first ≡ false
    → is_past time deadline ≡ false
past_from time first None h k = refl
past_from time None (Some d) h k = absurd h
past_from time (Some first) (Some d) h k = let a = ltb-false first time k in le-ltb d time (omega (arith, a, h))

-- where the first deadline isn't before a time, none is
pub none_late : (pages : List PageView) (time count : ℕ) (first : Option ℕ) → NoneFirst pages first count
    → is_past time first ≡ false → NoneLate pages time count
none_late pages time count first from h cpu lt = past_from time first (deadline_on (view_at pages cpu)) (from cpu lt) h
