-- The largest needs of a list of pages, page after page.
use Rattle.std.proofs.Common.{◌≡◌, ℕ, zero, suc, ◌+◌, ◌<◌, Some, List, [], ◌∷◌, length, get_or, inl, inr, sym, ap, ◌∙◌}
use Rattle.std.proofs.Common.{subst, arith}
use Rattle.std.specs.Prelude.{slice_get}
use Rattle.std.proofs.lemmas.Bool.{cases_lt}
use Rattle.std.proofs.lemmas.Option.{same_Some, slice_get-get_or, slice_get_within}
use Rattle.cfs_model.specs.Least.{larger}
use Rattle.cfs_model.specs.Knobs.{KnobsView}
use Rattle.queue_replay.specs.Needing.{HasNeeds}
use Rattle.queue_replay.specs.Replay.{ReplayView}
use Rattle.replay_model.specs.Needs.{largest}
use Rattle.ticket_book.specs.NeedsOfPages.{HaveNeeds, needs_at}

-- one page has the needs of its replay
abbrev IsNeeding : ReplayView → Type 0
IsNeeding page = HasNeeds page.stream page.knobs page.made page.page page.needs

-- of so many pages these are the largest needs, and each has those of its replay
pub record AreLargest (pages : List ReplayView) (count : ℕ) (needs : KnobsView) : Type 0 where
  pub largest_is : needs ≡ largest (needs_at pages) count
  pub have : (cpu : ℕ) (page : ReplayView) → cpu < count → slice_get pages cpu ≡ Some page → IsNeeding page

-- the needs on the page at an index
pub needs_there : (pages : List ReplayView) (cpu : ℕ) (page : ReplayView) → slice_get pages cpu ≡ Some page
    → needs_at pages cpu ≡ page.needs
needs_there [] cpu page is = cc
needs_there (p ∷ pages) zero page is = let same : p ≡ page = cc in ap (λ p. p.needs) same
needs_there (p ∷ pages) (suc cpu) page is = needs_there pages cpu page is

-- one page more
pub one_larger : (pages : List ReplayView) (i : ℕ) (page : ReplayView) → i < length pages → page ≡ get_or pages i page
    → IsNeeding page → (before after own : KnobsView) → own ≡ page.needs → after ≡ larger before own
    → AreLargest pages i before → AreLargest pages (i + 1) after
one_larger pages i page within is needing before after own own_is more l = record {
  largest_is =
      let next : suc i ≡ i + 1 = omega arith in
      more ∙ ap (λ s. larger s own) l.largest_is
      ∙ ap (λ s. larger (largest (needs_at pages) i) s) (own_is ∙ sym (needs_there pages i page stands))
      ∙ ap (largest (needs_at pages)) next;
  have = λ cpu other below at. elim (cases_lt cpu i) [
    | inl less ↦ l.have cpu other less at
    | inr not_less ↦
        let here : i ≡ cpu = omega (arith, below, not_less) in
        subst IsNeeding (same_Some page other (sym stands ∙ ap (slice_get pages) here ∙ at)) needing
  ];
}
  where
    stands : slice_get pages i ≡ Some page
    stands = slice_get-get_or pages i page within ∙ ap Some (sym is)

-- all pages
pub all_larger : (pages : List ReplayView) (count : ℕ) (needs : KnobsView) → count ≡ length pages
    → AreLargest pages count needs → (needs ≡ largest (needs_at pages) (length pages)) × HaveNeeds pages
all_larger pages count needs all l = (
  l.largest_is ∙ ap (largest (needs_at pages)) all,
  λ cpu page at. l.have cpu page (let h = slice_get_within pages cpu page at in omega (arith, h, all)) at,
)
