-- One more event dealt to all cursors: at a processor that it touches one more step came, at the others none. A
-- migration is dealt to its two ends in turn, and neither changes the other's cursor.
use Rattle.std.proofs.Common.{◌≡◌, ◌≢◌, ℕ, zero, suc, ◌<◌, ◌≤◌, List, [], ◌∷◌, ◌++◌, length, get_or, set, Option, Some}
use Rattle.std.proofs.Common.{refl, sym, ap, ◌∙◌, subst, arith}
use Rattle.std.specs.Prelude.{slice_get}
use Rattle.std.proofs.lemmas.Option.{same_Some, slice_get-get_or, slice_get_past}
use Rattle.replay_model.specs.declared.step.Step.{Step}
use Rattle.queue_replay.specs.Replay.{ReplayView}
use Rattle.ticket_book.specs.Book.{page_at}
use Rattle.ticket_book.specs.Cursor.{IsCursor, IsFollowed, steps_in}
use Rattle.ticket_book.specs.declared.cursor.Cursor.{Cursor}

set_here : {X : Type 0} (xs : List X) (i : ℕ) (x : X) → i < length xs → slice_get (set xs i x) i ≡ Some x
set_here [] i x h = absurd (omega arith)
set_here (y ∷ ys) zero x h = refl
set_here (y ∷ ys) (suc i) x h = set_here ys i x (omega arith)

pub set_elsewhere : {X : Type 0} (xs : List X) (i j : ℕ) (x : X) → j ≢ i → slice_get (set xs i x) j ≡ slice_get xs j
set_elsewhere [] i j x ne = refl
set_elsewhere (y ∷ ys) zero zero x ne = absurd (ne refl)
set_elsewhere (y ∷ ys) zero (suc j) x ne = refl
set_elsewhere (y ∷ ys) (suc i) zero x ne = refl
set_elsewhere (y ∷ ys) (suc i) (suc j) x ne = set_elsewhere ys i j x (λ e. ne (ap suc e))

-- one more step at a processor that has a cursor
pub followed_here : (slots : List (Option ReplayView)) (cursors : List Cursor) (cpu : ℕ) (steps dealt : List Step)
    (start new : Cursor) (step : Step)
    → steps ≡ steps_in (page_at slots cpu) → cpu < length cursors
    → (IsCursor steps dealt (get_or cursors cpu start) → IsCursor steps (dealt ++ step ∷ []) new)
    → IsFollowed slots cursors cpu dealt → IsFollowed slots (set cursors cpu new) cpu (dealt ++ step ∷ [])
followed_here slots cursors cpu steps dealt start new step same h after followed cursor e =
    let is : new ≡ cursor = same_Some new cursor (sym (set_here cursors cpu new h) ∙ e) in
    let before : IsCursor (steps_in (page_at slots cpu)) dealt (get_or cursors cpu start) =
    followed (get_or cursors cpu start) (slice_get-get_or cursors cpu start h) in
    let now : IsCursor steps (dealt ++ step ∷ []) new =
    after (subst (λ (s : List Step). IsCursor s dealt (get_or cursors cpu start)) (sym same) before) in
    subst (λ (c : Cursor). IsCursor (steps_in (page_at slots cpu)) (dealt ++ step ∷ []) c) is
    (subst (λ (s : List Step). IsCursor s (dealt ++ step ∷ []) new) same now)

-- a processor without a cursor
pub followed_past : (slots : List (Option ReplayView)) (cursors : List Cursor) (cpu : ℕ) (dealt : List Step)
    → length cursors ≤ cpu
    → IsFollowed slots cursors cpu dealt
followed_past slots cursors cpu dealt past cursor e = absurd (let none = slice_get_past cursors cpu past in cc)
