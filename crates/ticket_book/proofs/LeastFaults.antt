-- The least line of a fault on the record's own pages of the processors below a number, with one more processor's.
use Rattle.std.proofs.Common.{◌≡◌, ℕ, ◌+◌, ◌<◌, ◌≤◌, min, IfNone, IfSome, List, Option, Some, None, sym, ap, ◌∙◌, subst}
use Rattle.std.proofs.Common.{arith, inl, inr}
use Rattle.std.proofs.lemmas.Bool.{cases_lt}
use Rattle.std.proofs.lemmas.Option.{same_Some}
use Rattle.cfs_model.specs.Knobs.{KnobsView}
use Rattle.replay_model.specs.declared.page.StepFault.{StepFault}
use Rattle.queue_replay.specs.Replay.{ReplayView}
use Rattle.sched_record.specs.Lesser.{lesser_of}
use Rattle.sched_record.specs.Record.{RecordView}
use Rattle.ticket_book.specs.Book.{page_at}
use Rattle.ticket_book.specs.Relying.{IsLeastFaultLine}
use Rattle.ticket_book.specs.Remade.{HasFaultAt, IsLeastFaultBelow}

module _ (knobs : KnobsView) (r : RecordView) (slots : List (Option ReplayView)) where
  abbrev At : ℕ → ℕ → Type 0
  At cpu line = HasFaultAt knobs r cpu (page_at slots cpu) line

  -- a slot has a fault at one line at most
  one_line : (cpu line other : ℕ) → At cpu line → At cpu other → line ≡ other
  one_line cpu line other a b =
      let page : a.page ≡ b.page = same_Some a.page b.page (sym a.stands ∙ b.stands) in
      let fault : a.fault ≡ b.fault = same_Some a.fault b.fault
      (sym a.is_fault ∙ ap (λ (p : ReplayView). p.page.fault) page ∙ b.is_fault) in
      sym a.at_line ∙ ap (λ (f : StepFault). f.line) fault ∙ b.at_line

  -- what holds of the processors below a number and of that one holds of those below the next
  below_or_at : (P : ℕ → Type 0) (cpu : ℕ) → ((other : ℕ) → other < cpu → P other) → P cpu
      → (other : ℕ) → other < cpu + 1 → P other
  below_or_at P cpu below here other h = elim (cases_lt other cpu) [
    | inl k ↦ below other k
    | inr k ↦ subst P (let e : cpu ≡ other = omega (arith, k, h) in e) here
  ]

  none_yet : IsLeastFaultLine knobs r slots 0 None
  none_yet cpu line h f = absurd (omega arith)

  -- a least line, where the next processor has none below it
  still_least : (cpu line : ℕ) → IsLeastFaultBelow knobs r slots cpu line
      → ((lesser : ℕ) → At cpu lesser → line ≤ lesser) → IsLeastFaultBelow knobs r slots (cpu + 1) line
  still_least cpu line l here = record {
    cpu = l.cpu;
    within = (let w = l.within in omega (arith, w));
    there = l.there;
    least = λ other lesser h. below_or_at (λ c. (n : ℕ) → At c n → line ≤ n) cpu (λ c k n. l.least c n k) here other h
        lesser;
  }

  -- the next processor's line, where none before it has a lesser
  next_least : (cpu line : ℕ) → At cpu line
      → ((other : ℕ) → other < cpu → (lesser : ℕ) → At other lesser → line ≤ lesser)
      → IsLeastFaultBelow knobs r slots (cpu + 1) line
  next_least cpu line f before = record {
    cpu = cpu;
    within = omega arith;
    there = f;
    least = λ other lesser h. below_or_at (λ c. (n : ℕ) → At c n → line ≤ n) cpu before
        (λ n g. (let e = one_line cpu line n f g in omega (arith, e))) other h lesser;
  }

  pub least_more : (cpu : ℕ) (least line : Option ℕ) → IsLeastFaultLine knobs r slots cpu least
      → IfNone line ((n : ℕ) → ¬ At cpu n) → IfSome line (At cpu)
      → IsLeastFaultLine knobs r slots (cpu + 1) (lesser_of least line)
  least_more cpu None None l none found = λ other n h f.
      below_or_at (λ c. (m : ℕ) → ¬ At c m) cpu (λ c k m. l c m k) none other h n f
  least_more cpu None (Some line) l none found =
      next_least cpu line found (λ other k lesser f. absurd (l other lesser k f))
  least_more cpu (Some least) None l none found = still_least cpu least l (λ lesser f. absurd (none lesser f))
  least_more cpu (Some least) (Some line) l none found = elim (cases_lt line least) [
    | inl lt ↦
        (let same : line ≡ min least line = omega (arith, lt) in
        subst (IsLeastFaultBelow knobs r slots (cpu + 1)) same
        (next_least cpu line found (λ other k lesser f. (let low = l.least other lesser k f in
        omega (arith, low, lt)))))
    | inr le ↦
        (let same : least ≡ min least line = omega (arith, le) in
        subst (IsLeastFaultBelow knobs r slots (cpu + 1)) same
        (still_least cpu least l (λ lesser f. (let is = one_line cpu line lesser found f in omega (arith, is, le)))))
  ]

pub none_below_first : (knobs : KnobsView) (r : RecordView) (slots : List (Option ReplayView))
    → IsLeastFaultLine knobs r slots 0 None
none_below_first knobs r slots = none_yet knobs r slots
