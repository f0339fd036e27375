-- What is told of a book's slots: one slot more, a book whose pages are all the record's own, and the line of a fault
-- at one slot.
use Rattle.std.proofs.Common.{◌≡◌, ℕ, zero, suc, ◌<◌, ◌≤◌, Bool, true, false, IsTrue, IfNone, IfSome, List, [], ◌∷◌}
use Rattle.std.proofs.Common.{◌++◌, length, get_or, replicate, Option, Some, None, refl, sym, ap, ◌∙◌, subst, arith}
use Rattle.std.proofs.Common.{inl, inr, ◌⊎◌}
use Rattle.std.specs.Prelude.{option_map, slice_get}
use Rattle.std.proofs.lemmas.Bool.{cases_lt, false≢true}
use Rattle.std.proofs.lemmas.List.{length_push}
use Rattle.std.proofs.lemmas.Option.{none-some, same_Some, slice_get-get_or, slice_get_within}
use Rattle.cfs_model.specs.Knobs.{KnobsView}
use Rattle.replay_model.specs.declared.page.StepFault.{StepFault}
use Rattle.queue_replay.specs.Replay.{ReplayView}
use Rattle.sched_record.specs.Record.{RecordView}
use Rattle.ticket_book.specs.Book.{page_at}
use Rattle.ticket_book.specs.Own.{AreOwn, AreToldOwn, IsToldOwn, own_line}
use Rattle.ticket_book.specs.Remade.{HasFaultAt}
use Rattle.ticket_book.specs.Whole.{IsOwnPageOf}
use Rattle.ticket_book.proofs.Gathering.{push_before, push_last}

true_at : (n cpu : ℕ) (own : Bool) → slice_get (replicate n true) cpu ≡ Some own → IsTrue own
true_at zero cpu own e = absurd (none-some own e)
true_at (suc n) zero own e = sym (same_Some true own e)
true_at (suc n) (suc cpu) own e = true_at n cpu own e

module _ (knobs : KnobsView) (r : RecordView) (slots : List (Option ReplayView)) where
  pub told_more : (owns : List Bool) (own : Bool) → AreToldOwn knobs r slots owns
      → IsToldOwn knobs r (length owns) (page_at slots (length owns)) own
      → AreToldOwn knobs r slots (owns ++ own ∷ [])
  told_more owns own told here cpu b e = go (cases_lt cpu (length owns))
    where
      go : (cpu < length owns) ⊎ (length owns ≤ cpu) → IsToldOwn knobs r cpu (page_at slots cpu) b
      go (inl lt) = told cpu b (sym (push_before owns own cpu lt) ∙ e)
      go (inr ge) =
          let pushed = length_push owns own in
          let within = slice_get_within (owns ++ own ∷ []) cpu b e in
          let last : length owns ≡ cpu = omega (arith, ge, pushed, within) in
          let same : own ≡ b = same_Some own b (sym (push_last owns own) ∙ ap (slice_get (owns ++ own ∷ [])) last
          ∙ e) in
          subst (λ (n : ℕ). IsToldOwn knobs r n (page_at slots n) b) last
          (subst (λ (o : Bool). IsToldOwn knobs r (length owns) (page_at slots (length owns)) o) same here)

  -- of the page that stands at a slot
  pub told_at : (owns : List Bool) (cpu : ℕ) (slot : Option ReplayView) → AreToldOwn knobs r slots owns
      → cpu < length owns
      → slot ≡ page_at slots cpu → IsToldOwn knobs r cpu slot (get_or owns cpu false)
  told_at owns cpu slot told within is =
      subst (λ (p : Option ReplayView). IsToldOwn knobs r cpu p (get_or owns cpu false)) (sym is)
      (told cpu (get_or owns cpu false) (slice_get-get_or owns cpu false within))

  pub all_own : (n : ℕ) → AreOwn knobs r slots → AreToldOwn knobs r slots (replicate n true)
  all_own n are cpu own e = go (page_at slots cpu) refl
    where
      go : (slot : Option ReplayView) → page_at slots cpu ≡ slot → IsToldOwn knobs r cpu slot own
      go None is = tt
      go (Some page) is = (λ told. are cpu page is, λ own_page. true_at n cpu own e)

module _ (knobs : KnobsView) (r : RecordView) (cpu : ℕ) where
  pub line_none : (own : Bool) (slot : Option ReplayView) → IsToldOwn knobs r cpu slot own
      → IfNone (own_line own slot) ((line : ℕ) → ¬ HasFaultAt knobs r cpu slot line)
  line_none own None told = λ line f. absurd (none-some f.page f.stands)
  line_none false (Some page) told = λ line f.
      absurd (false≢true (told.1 (subst (λ (p : ReplayView). IsOwnPageOf knobs r cpu p)
      (sym (same_Some page f.page f.stands)) f.own)))
  line_none true (Some page) told = go page.page.fault refl
    where
      go : (o : Option StepFault) → page.page.fault ≡ o
          → IfNone (option_map (λ fault. fault.line) o) ((line : ℕ) → ¬ HasFaultAt knobs r cpu (Some page) line)
      go None is = λ line f.
          absurd (none-some f.fault (sym is ∙ ap (λ (p : ReplayView). p.page.fault) (same_Some page f.page f.stands)
          ∙ f.is_fault))
      go (Some fault) is = tt

  pub line_some : (own : Bool) (slot : Option ReplayView) → IsToldOwn knobs r cpu slot own
      → IfSome (own_line own slot) (HasFaultAt knobs r cpu slot)
  line_some own None told = tt
  line_some false (Some page) told = tt
  line_some true (Some page) told = go page.page.fault refl
    where
      go : (o : Option StepFault) → page.page.fault ≡ o
          → IfSome (option_map (λ fault. fault.line) o) (HasFaultAt knobs r cpu (Some page))
      go None is = tt
      go (Some fault) is =
          record { page = page; stands = refl; own = told.0 refl; fault = fault; is_fault = is; at_line = refl }
