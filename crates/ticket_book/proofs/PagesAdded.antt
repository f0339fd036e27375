-- The tallies of a list of pages, added page after page.
use Rattle.std.proofs.Common.{◌≡◌, ℕ, zero, suc, ◌+◌, ◌<◌, ◌≤◌, List, [], ◌∷◌, ◌++◌, length, map, get_or, All, inl, inr}
use Rattle.std.proofs.Common.{refl, sym, ap, ◌∙◌, subst, append_assoc, arith}
use Rattle.std.proofs.lemmas.Bool.{cases_lt}
use Rattle.std.proofs.lemmas.List.{append-nil}
use Rattle.std.proofs.lemmas.List.Elements.{All-map, All-weaker}
use Rattle.replay_model.specs.Noted.{PageView, new_tally}
use Rattle.tally_laws.specs.Totals.{tallies_below, total_of}
use Rattle.replay_model.specs.declared.page.Tally.{Tally}
use Rattle.ticket_book.specs.Tallying.{FitsTally, with_tallies}
use Rattle.ticket_book.specs.Told.{view_at}
use Rattle.ticket_book.proofs.Adding.{add_more, more_fit, same_tally}
use Rattle.ticket_book.proofs.Views.{view_here}

-- the tallies of the first pages are a front of those of more
below_front : (pages : ℕ → PageView) (few many : ℕ) → few ≤ many
    → (rest : List Tally) × (tallies_below pages few ++ rest ≡ tallies_below pages many)
below_front pages few zero h =
    let none : few ≡ zero = omega arith in
    ([], append-nil (tallies_below pages few) ∙ ap (tallies_below pages) none)
below_front pages few (suc many) h = elim (cases_lt few (suc many)) [
  | inl below ↦
      let front = below_front pages few many (omega arith) in (
        front.0 ++ (pages many).tallies,
        sym (append_assoc (tallies_below pages few) front.0 (pages many).tallies)
            ∙ ap (λ l. l ++ (pages many).tallies) front.1,
      )
  | inr above ↦
      let all : few ≡ suc many = omega arith in
      ([], append-nil (tallies_below pages few) ∙ ap (tallies_below pages) all)
]

module _ {P : Type 0} (page_of : P → PageView) (pages : List P) (i : ℕ) (page : P) (within : i < length pages)
    (is : page ≡ get_or pages i page)
    (tallies : List Tally) (are : tallies ≡ (page_of page).tallies) (old sums : List Tally)
    (before : sums ≡ map (with_tallies (tallies_below (view_at (map page_of pages)) i)) old) where
  -- one page more
  more_below : tallies_below (view_at (map page_of pages)) i ++ tallies ≡ tallies_below (view_at (map page_of pages))
      (i + 1)
  more_below =
      let next : suc i ≡ i + 1 = omega arith in
      ap (λ l. tallies_below (view_at (map page_of pages)) i ++ l) (are
      ∙ ap (λ view. view.tallies) (sym (view_here page_of pages i page within is)))
      ∙ ap (tallies_below (view_at (map page_of pages))) next

  pub page_fits : All (λ sum. FitsTally (with_tallies (tallies_below (view_at (map page_of pages)) (length pages))
      sum)) old
      → All (λ sum. FitsTally (with_tallies tallies sum)) sums
  page_fits fits =
      let front = below_front (view_at (map page_of pages)) (i + 1) (length pages) (omega arith) in
      more_fit (tallies_below (view_at (map page_of pages)) i) tallies front.0 old sums before
      (subst (λ l. All (λ sum. FitsTally (with_tallies l sum)) old)
      (sym (ap (λ l. l ++ front.0) more_below ∙ front.1)) fits)

  pub page_added : (now : List Tally) → now ≡ map (with_tallies tallies) sums
      → now ≡ map (with_tallies (tallies_below (view_at (map page_of pages)) (i + 1))) old
  page_added now added =
      add_more (tallies_below (view_at (map page_of pages)) i) tallies old sums now before added
      ∙ ap (λ l. map (with_tallies l) old) more_below

-- what some tallies say of a task that has done nothing yet
total_added : (tallies : List Tally) (pid : ℕ) → with_tallies tallies (new_tally pid) ≡ total_of tallies pid
total_added tallies pid =
    same_tally (with_tallies tallies (new_tally pid)) (total_of tallies pid) refl (omega arith) (omega arith)
    (omega arith)

pub totals_fit : (tallies : List Tally) (pids : List ℕ) → All (λ pid. FitsTally (total_of tallies pid)) pids
    → All (λ sum. FitsTally (with_tallies tallies sum)) (map new_tally pids)
totals_fit tallies pids fits =
    All-map (λ sum. FitsTally (with_tallies tallies sum)) new_tally pids
    (All-weaker (λ pid. FitsTally (total_of tallies pid)) (λ pid. FitsTally (with_tallies tallies (new_tally pid)))
    (λ pid fit. subst FitsTally (sym (total_added tallies pid)) fit) pids fits)

pub totals_added : (tallies : List Tally) (pids : List ℕ)
    → map (with_tallies tallies) (map new_tally pids) ≡ map (total_of tallies) pids
totals_added tallies [] = refl
totals_added tallies (pid ∷ pids) =
    ap (λ t. t ∷ map (with_tallies tallies) (map new_tally pids)) (total_added tallies pid)
    ∙ ap (λ ts. total_of tallies pid ∷ ts) (totals_added tallies pids)
