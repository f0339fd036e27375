-- The slots of a book: what a page that is put at an empty one changes. Only its own line can become the least, since
-- an empty slot has the greatest line of all.
use Rattle.std.proofs.Common.{◌≡◌, ℕ, zero, suc, ◌<◌, ◌≤◌, min, List, [], ◌∷◌, length, set, replicate, Option, Some}
use Rattle.std.proofs.Common.{None, refl, sym, ap, ◌∙◌, arith, inl, inr, ◌⊎◌, ◌≢◌}
use Rattle.std.specs.Prelude.{slice_get}
use Rattle.std.proofs.lemmas.Bool.{cases_eq}
use Rattle.std.proofs.lemmas.List.{get_or-set_same, get_or-set_other, length-replicate, length-set}
use Rattle.std.proofs.lemmas.Option.{slice_get_within, none-some, same_Some}
use Rattle.cfs_model.specs.Limits.{most_processors}
use Rattle.queue_replay.specs.Replay.{ReplayView}
use Rattle.ticket_book.specs.Book.{IsBook, line_of_fault, least_line, no_fault, slot_line, page_at, refusal_at}
use Rattle.ticket_book.specs.Book.{post_refusal}

room_at : (found : Option (Option ReplayView)) → None ≡ refusal_at found → found ≡ Some None
room_at None e = absurd cc
room_at (Some (Some page)) e = absurd cc
room_at (Some None) e = refl

-- a page that isn't refused finds an empty slot
pub room : (slots : List (Option ReplayView)) (cpu : ℕ) → None ≡ post_refusal slots cpu
    → slice_get slots cpu ≡ Some None
room slots cpu e = room_at (slice_get slots cpu) e

pub least_of_empty : (n : ℕ) → least_line (replicate n None) ≡ no_fault
least_of_empty zero = refl
least_of_empty (suc n) = ap (λ line. min no_fault line) (least_of_empty n)

pub least_within : (slots : List (Option ReplayView)) → least_line slots ≤ no_fault
least_within [] = omega arith
least_within (slot ∷ slots) = omega (arith, least_within slots)

-- the least line with one more page
pub least_put : (slots : List (Option ReplayView)) (cpu : ℕ) (page : ReplayView) → slice_get slots cpu ≡ Some None
    → least_line (set slots cpu (Some page)) ≡ min (least_line slots) (line_of_fault page.page.fault)
least_put [] cpu page e = absurd cc
least_put (slot ∷ slots) zero page e =
    let is_empty : slot ≡ None = same_Some slot None e in
    let empty : slot_line slot ≡ no_fault = ap slot_line is_empty in
    omega (arith, least_within slots, empty)
least_put (slot ∷ slots) (suc cpu) page e = omega (arith, least_put slots cpu page e)

own_slot_put : (slots : List (Option ReplayView)) (cpu : ℕ) (page : ReplayView) → cpu < length slots
    → page.stream.cpu ≡ cpu
    → ((other : ℕ) (p : ReplayView) → page_at slots other ≡ Some p → p.stream.cpu ≡ other)
    → (other : ℕ) (p : ReplayView) → page_at (set slots cpu (Some page)) other ≡ Some p → p.stream.cpu ≡ other
own_slot_put slots cpu page h is own other p e = go (cases_eq other cpu)
  where
    go : (other ≡ cpu) ⊎ (other ≢ cpu) → p.stream.cpu ≡ other
    go (inl same) =
        let here : page_at (set slots cpu (Some page)) other ≡ Some page =
        ap (page_at (set slots cpu (Some page))) same ∙ get_or-set_same slots cpu (Some page) None h in
        let same_page : page ≡ p = same_Some page p (sym here ∙ e) in
        ap (λ (q : ReplayView). q.stream.cpu) (sym same_page) ∙ is ∙ sym same
    go (inr not) = own other p (sym (get_or-set_other slots cpu other (Some page) None not) ∙ e)

-- a book with one more page
pub book_put : (slots : List (Option ReplayView)) (least cpu : ℕ) (page : ReplayView) → IsBook slots least
    → slice_get slots cpu ≡ Some None → page.stream.cpu ≡ cpu
    → IsBook (set slots cpu (Some page)) (min least (line_of_fault page.page.fault))
book_put slots least cpu page book empty is =
    let h = slice_get_within slots cpu None empty in
    let same = length-set slots cpu (Some page) in
    record {
      some = let some = book.some in omega (arith, some, same);
      at_most = let most = book.at_most in omega (arith, most, same);
      own = own_slot_put slots cpu page h is book.own;
      least_is = ap (λ line. min line (line_of_fault page.page.fault)) book.least_is
          ∙ sym (least_put slots cpu page empty);
    }

pub no_page_there : (cpus cpu : ℕ) → page_at (replicate cpus None) cpu ≡ None
no_page_there zero cpu = refl
no_page_there (suc cpus) zero = refl
no_page_there (suc cpus) (suc cpu) = no_page_there cpus cpu

-- a book without pages
pub empty_book : (cpus : ℕ) → 0 < cpus → cpus ≤ most_processors → IsBook (replicate cpus None) no_fault
empty_book cpus some most =
    let empty : Option ReplayView = None in
    let count = length-replicate cpus empty in
    record {
      some = omega (arith, some, count);
      at_most = omega (arith, most, count);
      own = λ cpu page e. absurd (none-some page (sym (no_page_there cpus cpu) ∙ e));
      least_is = sym (least_of_empty cpus);
    }
