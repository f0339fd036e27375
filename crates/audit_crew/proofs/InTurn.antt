-- The whole pages of a record's processors, posted in turn: each finds its slot empty, and none is made again.
use Rattle.std.proofs.Common.{◌≡◌, ◌≢◌, ℕ, zero, suc, ◌+◌, ◌<◌, ◌≤◌, ◌⊎◌, inl, inr, List, [], ◌∷◌, length, set}
use Rattle.std.proofs.Common.{replicate, Option, Some, None, Result, Ok, Err, sym, ap, ◌∙◌, subst, arith}
use Rattle.std.specs.Prelude.{OnOk}
use Rattle.std.proofs.lemmas.Bool.{cases_eq, cases_lt}
use Rattle.std.proofs.lemmas.List.{get_or-set_same, get_or-set_other, length-replicate, length-set}
use Rattle.std.proofs.lemmas.Option.{none-some, same_Some}
use Rattle.cfs_model.specs.Knobs.{KnobsView}
use Rattle.replay_model.specs.Cut.{StreamView}
use Rattle.queue_replay.specs.Replay.{ReplayView}
use Rattle.sched_record.specs.Record.{RecordView}
use Rattle.ticket_book.specs.Book.{page_at, post_refusal, refusal_at, refusal_in}
use Rattle.ticket_book.specs.Own.{AreOwn}
use Rattle.ticket_book.specs.Remade.{AreRemade, Suffices}
use Rattle.ticket_book.specs.Whole.{IsOwnPageOf, IsWholePageOf}
use Rattle.ticket_book.specs.declared.post_fault.PostFault.{PostFault}
use Rattle.ticket_book.proofs.BookSlots.{no_page_there}
use Rattle.ticket_book.proofs.CoreKept.{none_remade}
use Rattle.ticket_book.proofs.Gathering.{whole_suffices}

-- at a slot stands the whole page of a processor of the record
abbrev IsWholeAt : KnobsView → RecordView → ℕ → Option ReplayView → Type 0
IsWholeAt knobs r cpu slot = (page : ReplayView) × (slot ≡ Some page) × IsWholePageOf knobs r cpu page

-- of the record's processors the first so many have their whole pages, and the others none
pub record AreFirst (knobs : KnobsView) (r : RecordView) (slots : List (Option ReplayView)) (count : ℕ) : Type 0 where
  pub one_each : length slots ≡ r.cpus
  pub whole : (cpu : ℕ) → cpu < count → IsWholeAt knobs r cpu (page_at slots cpu)
  pub empty : (cpu : ℕ) → count ≤ cpu → page_at slots cpu ≡ None

-- a new book
pub none_posted : (knobs : KnobsView) (r : RecordView) → AreFirst knobs r (replicate r.cpus None) 0
none_posted knobs r = record {
  one_each = length-replicate r.cpus empty;
  whole = λ cpu h. absurd (omega arith);
  empty = λ cpu h. no_page_there r.cpus cpu;
}
  where
    empty : Option ReplayView
    empty = None

-- an empty slot takes a page
taken : (slots : List (Option ReplayView)) (cpu : ℕ) → cpu < length slots → page_at slots cpu ≡ None
    → post_refusal slots cpu ≡ None
taken [] cpu h e = absurd (omega arith)
taken (slot ∷ slots) zero h e = ap (λ (p : Option ReplayView). refusal_at (Some p)) e
taken (slot ∷ slots) (suc cpu) h e = taken slots cpu (omega arith) e

-- so that the next page is posted
pub one_more_page : (knobs : KnobsView) (r : RecordView) (slots after : List (Option ReplayView)) (cpu : ℕ)
    (page : ReplayView)
    (answer : Result ℕ (ReplayView × PostFault)) → AreFirst knobs r slots cpu → cpu < r.cpus
    → IsWholePageOf knobs r cpu page → refusal_in answer ≡ post_refusal slots page.stream.cpu
    → OnOk answer (after ≡ set slots page.stream.cpu (Some page)) → AreFirst knobs r after (cpu + 1)
one_more_page knobs r slots after cpu page answer first within whole refused added = go answer refused added
  where
    own : page.stream.cpu ≡ cpu
    own = ap (λ (s : StreamView). s.cpu) whole.stream

    inside : cpu < length slots
    inside = let each = first.one_each in omega (arith, each, within)

    accepted : post_refusal slots page.stream.cpu ≡ None
    accepted = ap (post_refusal slots) own ∙ taken slots cpu inside (first.empty cpu (omega arith))

    put : List (Option ReplayView)
    put = set slots cpu (Some page)

    stands : (other : ℕ) → other < cpu + 1 → IsWholeAt knobs r other (page_at put other)
    stands other h = case (cases_eq other cpu)
      where
        case : (other ≡ cpu) ⊎ (other ≢ cpu) → IsWholeAt knobs r other (page_at put other)
        case (inl same) = (
          page,
          ap (page_at put) same ∙ get_or-set_same slots cpu (Some page) None inside,
          subst (λ (n : ℕ). IsWholePageOf knobs r n page) (sym same) whole,
        )
        case (inr not) =
            subst (IsWholeAt knobs r other) (sym (get_or-set_other slots cpu other (Some page) None not))
            (first.whole other (omega (arith, h, not)))

    posted : AreFirst knobs r put (cpu + 1)
    posted = record {
      one_each = length-set slots cpu (Some page) ∙ first.one_each;
      whole = stands;
      empty = λ other h.
          (get_or-set_other slots cpu other (Some page) None (λ same. absurd (omega (arith, h, same)))
          ∙ first.empty other (omega (arith, h)));
    }

    go : (o : Result ℕ (ReplayView × PostFault)) → refusal_in o ≡ post_refusal slots page.stream.cpu
        → OnOk o (after ≡ set slots page.stream.cpu (Some page)) → AreFirst knobs r after (cpu + 1)
    go (Ok line) refused added =
        subst (λ (ps : List (Option ReplayView)). AreFirst knobs r ps (cpu + 1))
        (sym (added ∙ ap (λ (n : ℕ). set slots n (Some page)) own)) posted
    go (Err back) refused added = absurd (none-some back.1 (sym (refused ∙ accepted)))

-- so all pages are the record's own
pub first_are_own : (knobs : KnobsView) (r : RecordView) (slots : List (Option ReplayView))
    → AreFirst knobs r slots r.cpus
    → AreOwn knobs r slots
first_are_own knobs r slots all cpu page e = go (cases_lt cpu r.cpus)
  where
    go : (cpu < r.cpus) ⊎ (r.cpus ≤ cpu) → IsOwnPageOf knobs r cpu page
    go (inl below) =
        let at = all.whole cpu below in
        subst (λ (p : ReplayView). IsOwnPageOf knobs r cpu p) (same_Some at.0 page (sym at.1 ∙ e))
        (record { stream = at.2.stream; knobs_are = at.2.knobs_are })
    go (inr above) = absurd (none-some page (sym (all.empty cpu above) ∙ e))

-- of the pages of all processors none is made again
pub no_page_remade : (knobs : KnobsView) (r : RecordView) (slots : List (Option ReplayView)) (count : ℕ)
    → AreFirst knobs r slots r.cpus → AreRemade knobs r slots count → count ≡ 0
no_page_remade knobs r slots count all remade =
    none_remade knobs r slots r.cpus count (λ cpu h. suffices cpu (all.whole cpu h)) remade
  where
    suffices : (cpu : ℕ) → IsWholeAt knobs r cpu (page_at slots cpu) → Suffices knobs r slots cpu (page_at slots cpu)
    suffices cpu w = subst (Suffices knobs r slots cpu) (sym w.1) (whole_suffices knobs r slots cpu w.0 w.2)
