-- What the audit has of all events of a record: their least settings, and the place of each.
use Rattle.std.proofs.Common.{◌≡◌, ℕ, ◌+◌, ◌-◌, ◌<◌, ◌≤◌, ◌⊎◌, Option, Some, None, List, [], ◌∷◌, ◌++◌, cond, inl, inr}
use Rattle.std.proofs.Common.{refl, sym, ap, ◌∙◌, subst, arith}
use Rattle.std.proofs.lemmas.Bool.{eq-eqb, ne_eqb}
use Rattle.cfs_model.specs.Claimed.{Claimed}
use Rattle.cfs_model.specs.Knobs.{AreInRange, KnobsView, value_at}
use Rattle.cfs_model.specs.Laws.{LesserKeepsRun, MoreKeepsRun, RunPrefix}
use Rattle.cfs_model.specs.Least.{greatest_settings}
use Rattle.cfs_model.specs.Start.{start_machine}
use Rattle.cfs_model.specs.declared.setting.Setting.{Setting}
use Rattle.cfs_model.specs.declared.setting.Setting.TheVariants.{Granularity, Credit, Debit, Slack, Drift}
use Rattle.cfs_model.proofs.BadAtAll.{at_most_greatest}
use Rattle.least_places.specs.LeastAnswer.{IsLeastAnswer}
use Rattle.least_places.specs.Left.{IsFront, IsLeft, IsOver, end_of}
use Rattle.least_places.specs.Place.{IsPlaced, one_less, place_at, time_on_line}
use Rattle.least_places.specs.declared.figures.LeastFigures.TheVariants.{Found}
use Rattle.least_places.specs.declared.place.Place.{Place}
use Rattle.least_places.proofs.NeededFirst.{place_is}
use Rattle.least_places.proofs.OnLine.{entries_of, line_above, same_entries}
use Rattle.need_laws.specs.Places.{LackOne}
use Rattle.need_laws.specs.Short.{kind_of}
use Rattle.replay_laws.specs.FirstFaults.{FaultIsFirstBad}
use Rattle.replay_model.specs.Record.{LinesRise}
use Rattle.replay_model.specs.Roll.{named, roll_of}
use Rattle.sched_record.specs.Record.{RecordView}
use Rattle.ticket_book.specs.SaidEvents.{events_of}
use Rattle.ticket_book.specs.Verdict.{IsFaulty}
use Rattle.window_audit.specs.Audit.{Beginning}
use Rattle.window_audit.specs.States.{state_at}
use Rattle.window_audit.specs.Whole.{beginning_of}
use Rattle.window_laws.specs.WindowEnds.{SoFarIsRun}
use Rattle.least_audit.specs.Audit.{HasSeenRecord}
use Rattle.least_audit.specs.SoFar.{IsOverAt, IsPlaceSoFar, IsPlacedSoFar}
use Rattle.least_audit.specs.declared.audit.LeastAudit.{LeastAudit}

-- the event on a line is one, and so is what is before it
same_front : (from : ℕ) (before : List Claimed) (event : Claimed) (rest other : List Claimed) (at : Claimed)
    (behind : List Claimed) → LinesRise from (before ++ event ∷ rest)
    → before ++ event ∷ rest ≡ other ++ at ∷ behind → event.entry.line ≡ at.entry.line
    → (before ≡ other) × (event ≡ at)
same_front from [] event rest [] at behind rise e line = (refl, cc)
same_front from [] event rest (x ∷ other) at behind rise e line =
    let head : event ≡ x = cc in
    let tail : rest ≡ other ++ at ∷ behind = cc in
    let above = line_above event.entry.line other at behind (subst (LinesRise event.entry.line) tail rise.1) in
    absurd (omega (arith, above, line))
same_front from (x ∷ before) event rest [] at behind rise e line =
    let head : x ≡ at = cc in
    let above = line_above x.entry.line before event rest rise.1 in
    let same = ap (λ (c : Claimed). c.entry.line) head in
    absurd (omega (arith, above, line, same))
same_front from (x ∷ before) event rest (y ∷ other) at behind rise e line =
    let head : x ≡ y = cc in
    let tail : before ++ event ∷ rest ≡ other ++ at ∷ behind = cc in
    let s = same_front x.entry.line before event rest other at behind rise.1 tail line in
    (ap (λ z. z ∷ before) head ∙ ap (λ zs. y ∷ zs) s.0, s.1)

-- the time of the event on a line
time_there : (from : ℕ) (before : List Claimed) (event : Claimed) (rest : List Claimed)
    → LinesRise from (before ++ event ∷ rest)
    → time_on_line (entries_of (before ++ event ∷ rest)) event.entry.line ≡ event.entry.time
time_there from [] event rest rise =
    ap (λ b. cond b event.entry.time (time_on_line (entries_of rest) event.entry.line))
    (eq-eqb event.entry.line event.entry.line refl)
time_there from (first ∷ before) event rest rise =
    let behind = line_above first.entry.line before event rest rise.1 in
    ap (λ b. cond b first.entry.time (time_on_line (entries_of (before ++ event ∷ rest)) event.entry.line))
    (ne_eqb first.entry.line event.entry.line (λ e. omega (arith, behind, e)))
    ∙ time_there first.entry.line before event rest rise.1

one_back : (n : ℕ) → 0 < n → n - 1 + 1 ≡ n
one_back n some = omega arith

least_lacks : (knobs : KnobsView) (which : Setting) → 0 < value_at knobs which
    → value_at (one_less knobs which) which + 1 ≡ value_at knobs which
least_lacks knobs Granularity some = one_back knobs.granularity some
least_lacks knobs Credit some = one_back knobs.credit some
least_lacks knobs Debit some = one_back knobs.debit some
least_lacks knobs Slack some = one_back knobs.slack some
least_lacks knobs Drift some = one_back knobs.drift some

itself : (n : ℕ) → n ≤ n
itself n = omega arith

-- but for that setting they are the same
lacks_no_other : (knobs : KnobsView) (which setting : Setting)
    → (setting ≡ which) ⊎ (value_at knobs setting ≤ value_at (one_less knobs which) setting)
lacks_no_other knobs Granularity Granularity = inl refl
lacks_no_other knobs Granularity Credit = inr (itself knobs.credit)
lacks_no_other knobs Granularity Debit = inr (itself knobs.debit)
lacks_no_other knobs Granularity Slack = inr (itself knobs.slack)
lacks_no_other knobs Granularity Drift = inr (itself knobs.drift)
lacks_no_other knobs Credit Granularity = inr (itself knobs.granularity)
lacks_no_other knobs Credit Credit = inl refl
lacks_no_other knobs Credit Debit = inr (itself knobs.debit)
lacks_no_other knobs Credit Slack = inr (itself knobs.slack)
lacks_no_other knobs Credit Drift = inr (itself knobs.drift)
lacks_no_other knobs Debit Granularity = inr (itself knobs.granularity)
lacks_no_other knobs Debit Credit = inr (itself knobs.credit)
lacks_no_other knobs Debit Debit = inl refl
lacks_no_other knobs Debit Slack = inr (itself knobs.slack)
lacks_no_other knobs Debit Drift = inr (itself knobs.drift)
lacks_no_other knobs Slack Granularity = inr (itself knobs.granularity)
lacks_no_other knobs Slack Credit = inr (itself knobs.credit)
lacks_no_other knobs Slack Debit = inr (itself knobs.debit)
lacks_no_other knobs Slack Slack = inl refl
lacks_no_other knobs Slack Drift = inr (itself knobs.drift)
lacks_no_other knobs Drift Granularity = inr (itself knobs.granularity)
lacks_no_other knobs Drift Credit = inr (itself knobs.credit)
lacks_no_other knobs Drift Debit = inr (itself knobs.debit)
lacks_no_other knobs Drift Slack = inr (itself knobs.slack)
lacks_no_other knobs Drift Drift = inl refl

module _ (r : RecordView) (audit : LeastAudit) (seen : HasSeenRecord r audit) where
  abbrev of : Beginning
  of = beginning_of greatest_settings r

  abbrev knobs : KnobsView
  knobs = audit.figures.least

  pub in_range : SoFarIsRun → AreInRange knobs
  in_range runs =
      at_most_greatest knobs
      (seen.all.figures.least.least greatest_settings
      (runs greatest_settings r.start r.floors r.tasks (events_of r) r.cpus (state_at audit.audit.members.items)
      (roll_of (named r.tasks) (events_of r)) seen.is_record seen.all.audited.run))

  module _ (more : MoreKeepsRun) (both : LesserKeepsRun) (prefix : RunPrefix) (first_bad : FaultIsFirstBad)
      (range : AreInRange knobs) where
    lack : (which : Setting) → 0 < value_at knobs which → LackOne which knobs (one_less knobs which)
    lack which some = record { one = least_lacks knobs which some; others = lacks_no_other knobs which }

    faulty : (which : Setting) (place : Place) → IsPlaceSoFar of (events_of r) knobs which place
        → IsFaulty (one_less knobs which) r
        (record { line = place.line; cpu = place.cpu; pid = place.pid; kind = kind_of which })
    faulty which place p =
        let cause = p.needs (one_less knobs which) (lack which p.some) in
        record {
          line = first_bad (one_less knobs which) r.start r.floors r.tasks (events_of r) place.line
              (record { cpu = place.cpu; pid = place.pid; kind = kind_of which }) cause;
          cause = cause;
        }

    lines : (which : Setting) (place : Place) → (p : IsPlaceSoFar of (events_of r) knobs which place)
        → LinesRise 0 (p.front ++ p.event ∷ p.rest)
    lines which place p = subst (LinesRise 0) p.whole seen.is_record.lines_rise

    time : (which : Setting) (place : Place) → IsPlaceSoFar of (events_of r) knobs which place
        → place.time ≡ time_on_line r.events place.line
    time which place p =
        sym (ap (λ es. time_on_line es place.line) (sym (same_entries r) ∙ ap entries_of p.whole)
        ∙ ap (time_on_line (entries_of (p.front ++ p.event ∷ p.rest))) (sym p.line)
        ∙ time_there 0 p.front p.event p.rest (lines which place p) ∙ p.time)

    left_on : (place : Place) → (p : IsPlaceSoFar of (events_of r) knobs Granularity place)
        → (front : IsFront r knobs place.line)
        → IsLeft (end_of r knobs place.line front) front.event.entry.act place.over
    left_on place p front =
        let s = same_front 0 p.front p.event p.rest front.before front.event front.rest (lines Granularity place p)
        (sym p.whole ∙ front.whole) (p.line ∙ sym front.line_is) in
        let m = start_machine r.start r.floors r.tasks in
        let there = subst (λ (xs : List Claimed). IsOverAt of xs front.event Granularity place.over) s.0
        (subst (λ e. IsOverAt of p.front e Granularity place.over) s.1 p.over) in
        there knobs front.run

    over_of : (which : Setting) (place : Place) → IsPlaceSoFar of (events_of r) knobs which place
        → IsOver r knobs which place.line place.over
    over_of Granularity place p = left_on place p
    over_of Credit place p = p.over
    over_of Debit place p = p.over
    over_of Slack place p = p.over
    over_of Drift place p = p.over

    placed : (which : Setting) (place : Option Place) → IsPlacedSoFar of (events_of r) knobs which place
        → IsPlaced r knobs which place
    placed which None none = none
    placed which (Some place) p =
        place_is more both prefix r knobs which (seen.all.figures.least, range) p.some
        (record { line = place.line; cpu = place.cpu; pid = place.pid; kind = kind_of which }) place.time place.over
        (faulty which place p) (time which place p) (over_of which place p)

    pub answer : IsLeastAnswer r (Found knobs audit.figures.places)
    answer = (
      (seen.all.figures.least, range),
      λ which. placed which (place_at audit.figures.places which) (seen.all.figures.places which),
    )
