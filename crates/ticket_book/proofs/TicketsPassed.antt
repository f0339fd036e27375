-- Of tickets whose lines rise, the ticket of a line is at the first index that isn't below it.
use Rattle.std.proofs.Common.{◌≡◌, ℕ, zero, suc, ◌+◌, ◌-◌, ◌<◌, ◌≤◌, cond, inl, inr, ◌⊎◌, Some, None, List, [], ◌∷◌}
use Rattle.std.proofs.Common.{length, get_or, min, take, drop, refl, sym, ap, subst, ◌∙◌, suc-le-suc, arith}
use Rattle.std.specs.Prelude.{All, nat_lt, slice_get}
use Rattle.std.specs.List.{AllPairs, prefix_len}
use Rattle.std.proofs.lemmas.Bool.{eq-eqb, ne_eqb, cases_lt, ltb-true, ltb-false}
use Rattle.std.proofs.lemmas.List.{get_or-drop, get_or-take, length-drop, length-take}
use Rattle.std.proofs.lemmas.List.Sums.{prefix_len_passes, prefix_len_stops}
use Rattle.cfs_model.proofs.Moves.{same_or_not}
use Rattle.replay_model.specs.Tickets.{ticket_at}
use Rattle.replay_model.specs.declared.page.Ticket.{Ticket}
use Rattle.ticket_book.specs.TicketIndices.{AreBelow, if_of_line}

-- no ticket is of a line below all
none_above : (line : ℕ) (ts : List Ticket) → All (λ t. line < t.line) ts → ticket_at line ts ≡ None
none_above line [] above = refl
none_above line (t ∷ ts) above =
    let here = above 0 t (omega arith) in
    ap (λ b. cond b (Some t) (ticket_at line ts)) (ne_eqb t.line line (λ e. absurd (omega arith)))
    ∙ none_above line ts (λ k d h. above (suc k) d (suc-le-suc h))

-- the ticket at the first index that isn't below the line, or none
pub ticket_here : (line : ℕ) (ts : List Ticket) (index : ℕ) → AllPairs (λ t u. t.line ≤ u.line) ts
    → AreBelow line (take index ts) → ((d : Ticket) → index < length ts → line ≤ (get_or ts index d).line)
    → if_of_line line (slice_get ts index) ≡ ticket_at line ts
ticket_here line [] zero rise below reached = refl
ticket_here line [] (suc index) rise below reached = refl
ticket_here line (t ∷ ts) zero rise below reached = elim (same_or_not t.line line) [
  | inl same ↦ ap (λ b. cond b (Some t) None) (eq-eqb t.line line same)
      ∙ sym (ap (λ b. cond b (Some t) (ticket_at line ts)) (eq-eqb t.line line same))
  | inr ne ↦ let at : line ≤ t.line = reached t (omega arith) in
      ap (λ b. cond b (Some t) None) (ne_eqb t.line line ne)
      ∙ sym (none_above line ts (λ k d h. let later = rise 0 (suc k) d (omega arith) (suc-le-suc h) in omega arith))
      ∙ sym (ap (λ b. cond b (Some t) (ticket_at line ts)) (ne_eqb t.line line ne))
]
ticket_here line (t ∷ ts) (suc index) rise below reached =
    let first = below 0 t (omega arith) in
    ticket_here line ts index (λ i j d lt h. rise (suc i) (suc j) d (suc-le-suc lt) (suc-le-suc h))
    (λ k d h. below (suc k) d (suc-le-suc h)) (λ d h. reached d (suc-le-suc h))
    ∙ sym (ap (λ b. cond b (Some t) (ticket_at line ts)) (ne_eqb t.line line (λ e. absurd (omega arith))))

-- where a search from an index begins, which may be past the end
abbrev first_looked_at : List Ticket → ℕ → ℕ
first_looked_at ts from = min from (length ts)

-- what stands before an index that moved on past tickets below the line
pub passed_to : (line : ℕ) (ts : List Ticket) (from index : ℕ) → AreBelow line (take from ts)
    → index ≡ first_looked_at ts from + prefix_len (λ (t : Ticket). nat_lt t.line line)
    (drop (first_looked_at ts from) ts)
    → AreBelow line (take index ts)
passed_to line ts from index before is k d h =
    let size = length-take index ts in
    let within : k < index = omega (arith, size, h) in
    subst (λ (t : Ticket). t.line < line) (sym (get_or-take index ts k d within))
    (go (cases_lt k (first_looked_at ts from)))
  where
    go : (k < first_looked_at ts from) ⊎ (first_looked_at ts from ≤ k) → (get_or ts k d).line < line
    go (inl early) =
        let cut = length-take from ts in
        let less : k < from = omega (arith, early) in
        let short : k < length (take from ts) = omega (arith, cut, early) in
        subst (λ (t : Ticket). t.line < line) (get_or-take from ts k d less) (before k d short)
    go (inr late) =
        let size = length-take index ts in
        let below : k - first_looked_at ts from < prefix_len (λ (t : Ticket). nat_lt t.line line)
        (drop (first_looked_at ts from) ts) =
        omega (arith, is, late, h, size) in
        let passes = prefix_len_passes (λ (t : Ticket). nat_lt t.line line) (drop (first_looked_at ts from) ts)
        (k - first_looked_at ts from) d below in
        let e : first_looked_at ts from + (k - first_looked_at ts from) ≡ k = omega (arith, late) in
        subst (λ (t : Ticket). t.line < line)
        (get_or-drop (first_looked_at ts from) ts (k - first_looked_at ts from) d ∙ ap (λ i. get_or ts i d) e)
        (ltb-true _ _ passes)

-- and what stands there isn't below it
pub stops_at : (line : ℕ) (ts : List Ticket) (from index : ℕ)
    → index ≡ first_looked_at ts from + prefix_len (λ (t : Ticket). nat_lt t.line line)
    (drop (first_looked_at ts from) ts)
    → (d : Ticket) → index < length ts → line ≤ (get_or ts index d).line
stops_at line ts from index is d h =
    let size = length-drop (first_looked_at ts from) ts in
    let within : prefix_len (λ (t : Ticket). nat_lt t.line line) (drop (first_looked_at ts from) ts) < length
    (drop (first_looked_at ts from) ts) =
    omega (arith, is, h, size) in
    let stops = prefix_len_stops (λ (t : Ticket). nat_lt t.line line) (drop (first_looked_at ts from) ts) d within in
    subst (λ (t : Ticket). line ≤ t.line)
    (get_or-drop (first_looked_at ts from) ts
    (prefix_len (λ (t : Ticket). nat_lt t.line line) (drop (first_looked_at ts from) ts)) d
    ∙ ap (λ i. get_or ts i d) (sym is))
    (ltb-false _ _ stops)
