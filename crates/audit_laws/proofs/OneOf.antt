-- Two texts come to one outcome, by cases on what each answer says: the trace has one answer, then the companion, then
-- their joining, and the record one verdict.
use Rattle.std.proofs.Common.{◌≡◌, ℕ, Bool, List, Option, Some, Result, Ok, Err, refl, sym, ap, ◌∙◌, subst}
use Rattle.std.specs.Io.KnownBytes.{Appends}
use Rattle.cfs_model.specs.Order.{IsStart}
use Rattle.cfs_model.specs.declared.act.Entry.{Entry}
use Rattle.companion_file.specs.Companion.{CompanionAnswer, CompanionView}
use Rattle.companion_file.specs.declared.fault.CompanionCause.{CompanionCause}
use Rattle.replay_model.specs.declared.first_fault.FirstFault.{FirstFault}
use Rattle.sched_record.specs.Record.{RecordAnswer, RecordView}
use Rattle.sched_record.specs.Trace.{TraceAnswer}
use Rattle.sched_record.specs.declared.cause.TraceCause.{TraceCause}
use Rattle.sched_record.specs.declared.joining.JoinCause.{JoinCause}
use Rattle.sched_audit.specs.Answer.{OutcomeAnswer}
use Rattle.audit_input.specs.Causes.{trace_cause, companion_cause, join_cause}
use Rattle.audit_report.specs.Codes.{status_by, status_of}
use Rattle.audit_input.specs.Known.{Agrees}
use Rattle.audit_laws.specs.OneOutcome.{AreOneOutcome, OneRunBy, outcome_view}
use Rattle.audit_report.specs.Report.{report_of}
use Rattle.sched_audit.specs.Run.{IsOutcomeOf}
use Rattle.audit_input.specs.Texts.{AreBothRead, IsRecordOf, IsRefused, TellsCharges}
use Rattle.audit_input.specs.declared.cause.Cause.{Cause}
use Rattle.audit_report.specs.declared.outcome.Outcome.{Outcome}
use Rattle.audit_report.specs.declared.outcome.Outcome.TheVariants as outcomes
use Rattle.audit_input.specs.declared.source.Source.{Source}
use Rattle.audit_input.specs.declared.source.Source.TheVariants.{Trace, Companion, Join}
use Rattle.audit_laws.proofs.Starts.{start_of_texts}
use Rattle.audit_input.proofs.Versions.{one_telling}

-- each text has one answer, and so has their joining
abbrev pub OneTrace : Type 0
OneTrace = (text : List ℕ) (a b : Result (List Entry) (ℕ × TraceCause)) → TraceAnswer text a → TraceAnswer text b
    → a ≡ b

abbrev pub OneCompanion : Type 0
OneCompanion = (text : List ℕ) (a b : Result CompanionView (ℕ × CompanionCause)) → CompanionAnswer text a
    → CompanionAnswer text b → a ≡ b

abbrev pub OneRecord : Type 0
OneRecord = (events : List Entry) (companion : CompanionView) (a b : Result RecordView (ℕ × JoinCause))
    → RecordAnswer events companion a → RecordAnswer events companion b → a ≡ b

-- what two answers that are equal say
same_ok : {A E : Type 0} (a b : A) → ◌≡◌ {A = Result A E} (Ok a) (Ok b) → a ≡ b
same_ok a b e = cc

same_err : {A E : Type 0} (a b : E) → ◌≡◌ {A = Result A E} (Err a) (Err b) → a ≡ b
same_err a b e = cc

ok_or_err : {A E : Type 0} (a : A) (b : E) → ◌≡◌ {A = Result A E} (Ok a) (Err b) → ⊥
ok_or_err a b e = cc

same_text : {V : Type 0} (source : Source) (line other : ℕ) (cause why : Cause) → line ≡ other → cause ≡ why
    → ◌≡◌ {A = Outcome V} (outcomes.Text source line cause) (outcomes.Text source other why)
same_text source line other cause why e f = cc

module _ (trace companion : List ℕ) (one_trace : OneTrace) (one_companion : OneCompanion) (one_record : OneRecord) where
  same_events : (a b : List Entry) → TraceAnswer trace (Ok a) → TraceAnswer trace (Ok b) → a ≡ b
  same_events a b p q = same_ok a b (one_trace trace (Ok a) (Ok b) p q)

  same_start : (a b : CompanionView) → CompanionAnswer companion (Ok a) → CompanionAnswer companion (Ok b) → a ≡ b
  same_start a b p q = same_ok a b (one_companion companion (Ok a) (Ok b) p q)

  good_or_bad_trace : (a : List Entry) (b : ℕ × TraceCause) → TraceAnswer trace (Ok a) → TraceAnswer trace (Err b) → ⊥
  good_or_bad_trace a b p q = ok_or_err a b (one_trace trace (Ok a) (Err b) p q)

  good_or_bad_companion : (a : CompanionView) (b : ℕ × CompanionCause) → CompanionAnswer companion (Ok a)
      → CompanionAnswer companion (Err b) → ⊥
  good_or_bad_companion a b p q = ok_or_err a b (one_companion companion (Ok a) (Err b) p q)

  -- what both texts are joined to
  same_joined : (a b : List Entry) (s t : CompanionView) (x y : Result RecordView (ℕ × JoinCause))
      → AreBothRead trace companion a s → AreBothRead trace companion b t → RecordAnswer a s x → RecordAnswer b t y
      → x ≡ y
  same_joined a b s t x y p q u v =
      let start = same_start s t p.companion_means q.companion_means in
      let events = same_events a b p.trace_means q.trace_means in
      one_record a s x y u
      (subst (λ z. RecordAnswer a z y) (sym start) (subst (λ z. RecordAnswer z t y) (sym events) v))

  same_record : (r s : RecordView) → IsRecordOf trace companion r → IsRecordOf trace companion s → r ≡ s
  same_record r s p q =
      same_ok r s (same_joined p.events q.events p.start q.start (Ok r) (Ok s) p.are_read q.are_read p.joined q.joined)

  -- a record or a refusal
  record_or_refusal : (r : RecordView) (source : Source) (line : ℕ) (cause : Cause) → IsRecordOf trace companion r
      → IsRefused trace companion source line cause → ⊥
  record_or_refusal r Trace line cause p q = good_or_bad_trace p.events (line, q.0) p.are_read.trace_means q.1
  record_or_refusal r Companion line cause p q =
      good_or_bad_companion p.start (line, q.1) p.are_read.companion_means q.3
  record_or_refusal r Join line cause p q =
      ok_or_err r (line, q.why.0) (same_joined p.events q.events p.start q.start (Ok r) (Err (line, q.why.0)) p.are_read
      q.are_read p.joined q.why.1)

  -- two refusals
  same_refusal : {V : Type 0} (source from : Source) (line other : ℕ) (cause why : Cause)
      → IsRefused trace companion source line cause → IsRefused trace companion from other why
      → ◌≡◌ {A = Outcome V} (outcomes.Text source line cause) (outcomes.Text from other why)
  same_refusal Trace Trace line other cause why p q =
      let same = same_err (line, p.0) (other, q.0) (one_trace trace (Err (line, p.0)) (Err (other, q.0)) p.1 q.1) in
      same_text Trace line other cause why (ap (λ (f : ℕ × TraceCause). f.0) same)
      (p.2 ∙ ap (λ (f : ℕ × TraceCause). trace_cause f.1) same ∙ sym q.2)
  same_refusal Trace Companion line other cause why p q = absurd (good_or_bad_trace q.0 (line, p.0) q.2 p.1)
  same_refusal Trace Join line other cause why p q =
      absurd (good_or_bad_trace q.events (line, p.0) q.are_read.trace_means p.1)
  same_refusal Companion Trace line other cause why p q = absurd (good_or_bad_trace p.0 (other, q.0) p.2 q.1)
  same_refusal Companion Companion line other cause why p q =
      let same = same_err (line, p.1) (other, q.1)
      (one_companion companion (Err (line, p.1)) (Err (other, q.1)) p.3 q.3) in
      same_text Companion line other cause why (ap (λ (f : ℕ × CompanionCause). f.0) same)
      (p.4 ∙ ap (λ (f : ℕ × CompanionCause). companion_cause f.1) same ∙ sym q.4)
  same_refusal Companion Join line other cause why p q =
      absurd (good_or_bad_companion q.start (line, p.1) q.are_read.companion_means p.3)
  same_refusal Join Trace line other cause why p q =
      absurd (good_or_bad_trace p.events (other, q.0) p.are_read.trace_means q.1)
  same_refusal Join Companion line other cause why p q =
      absurd (good_or_bad_companion p.start (other, q.1) p.are_read.companion_means q.3)
  same_refusal Join Join line other cause why p q =
      let same = same_err (line, p.why.0) (other, q.why.0)
      (same_joined p.events q.events p.start q.start (Err (line, p.why.0)) (Err (other, q.why.0)) p.are_read q.are_read
      p.why.1 q.why.1) in
      same_text Join line other cause why (ap (λ (f : ℕ × JoinCause). f.0) same)
      (p.why.2 ∙ ap (λ (f : ℕ × JoinCause). join_cause f.1) same ∙ sym q.why.2)

  module _ {J V : Type 0} (is_of : RecordView → J → Type 0) (view : J → V)
      (one_judged : (r : RecordView) (a b : J) → IsStart r.floors r.tasks → is_of r a → is_of r b → view a ≡ view b)
    where
      pub same_outcome : (one other : Outcome J) → OutcomeAnswer is_of trace companion one
          → OutcomeAnswer is_of trace companion other → outcome_view view one ≡ outcome_view view other
      same_outcome (outcomes.Judged a) (outcomes.Judged b) p q =
          let same = same_record p.0 q.0 p.1 q.1 in
          ap outcomes.Judged (one_judged p.0 a b (start_of_texts trace companion p.0 p.1) p.2
          (subst (λ r. is_of r b) (sym same) q.2))
      same_outcome (outcomes.Judged a) (outcomes.Text source line cause) p q =
          absurd (record_or_refusal p.0 source line cause p.1 q)
      same_outcome (outcomes.Text source line cause) (outcomes.Judged b) p q =
          absurd (record_or_refusal q.0 source line cause q.1 p)
      same_outcome (outcomes.Text source line cause) (outcomes.Text from other why) p q =
          same_refusal source from line other cause why p q

-- outcomes that tell the same have one report and one status, where these go by what is told
module _ {J V : Type 0} (view : J → V) (lines : Bool → J → List ℕ) (fault_of : J → Option FirstFault)
    (seen_lines : Bool → V → List ℕ) (seen_fault : V → Option FirstFault)
    (by_lines : (tells : Bool) (j : J) → lines tells j ≡ seen_lines tells (view j))
    (by_fault : (j : J) → fault_of j ≡ seen_fault (view j)) where
  report_seen : (tells : Bool) (one : Outcome J)
      → report_of (lines tells) one ≡ report_of (seen_lines tells) (outcome_view view one)
  report_seen tells (outcomes.Judged j) = by_lines tells j
  report_seen tells (outcomes.Text source line cause) = refl

  status_seen : (one : Outcome J) → status_of fault_of one ≡ status_of seen_fault (outcome_view view one)
  status_seen (outcomes.Judged j) =
      ap status_by (by_fault j)
  status_seen (outcomes.Text source line cause) = refl

  pub one_by_view : (one other : Outcome J) → outcome_view view one ≡ outcome_view view other
      → AreOneOutcome view lines fault_of one other
  one_by_view one other same = record {
    same = same;
    report = λ tells. report_seen tells one ∙ ap (report_of (seen_lines tells)) same ∙ sym (report_seen tells other);
    status = status_seen one ∙ ap (status_of seen_fault) same ∙ sym (status_seen other);
  }

-- bytes that are known are those of the outcome
known_is : (known : Option (List ℕ)) (bytes whole : List ℕ) → known ≡ Some bytes → Agrees known whole → whole ≡ bytes
known_is known bytes whole e agrees = sym (subst (λ k. Agrees k whole) e agrees)

answer_at : {J : Type 0} (is_of : RecordView → J → Type 0) (trace companion : Option (List ℕ)) (bytes text : List ℕ)
    (outcome : Outcome J) (tells : Bool) → trace ≡ Some bytes → companion ≡ Some text
    → IsOutcomeOf is_of trace companion outcome tells → OutcomeAnswer is_of bytes text outcome
answer_at is_of trace companion bytes text outcome tells e f is =
    subst (λ b. OutcomeAnswer is_of b text outcome) (known_is trace bytes is.trace_bytes e is.trace_whole)
    (subst (λ b. OutcomeAnswer is_of is.trace_bytes b outcome)
    (known_is companion text is.companion_bytes f is.companion_whole) is.answer)

telling_at : {J : Type 0} (is_of : RecordView → J → Type 0) (trace companion : Option (List ℕ)) (text : List ℕ)
    (outcome : Outcome J) (tells : Bool) → companion ≡ Some text → IsOutcomeOf is_of trace companion outcome tells
    → TellsCharges text tells
telling_at is_of trace companion text outcome tells f is =
    subst (λ b. TellsCharges b tells) (known_is companion text is.companion_bytes f is.companion_whole) is.tells

pub one_run_by : {J V : Type 0} (is_of : RecordView → J → Type 0) (view : J → V) (lines : Bool → J → List ℕ)
    (fault_of : J → Option FirstFault)
    → ((trace companion : List ℕ) (one other : Outcome J) → OutcomeAnswer is_of trace companion one
    → OutcomeAnswer is_of trace companion other → AreOneOutcome view lines fault_of one other)
    → OneRunBy is_of lines fault_of
one_run_by is_of view lines fault_of law bytes text trace companion trace_again companion_again out out_again status
    again gave also runs run_again =
    let first = runs.answered in
    let second = run_again.answered in
    let are = law bytes text first.0 second.0
    (answer_at is_of trace.gave companion.gave bytes text first.0 first.1 gave.0 gave.1 first.2)
    (answer_at is_of trace_again.gave companion_again.gave bytes text second.0 second.1 also.0 also.1 second.2) in
    let tells = one_telling text first.1 second.1
    (telling_at is_of trace.gave companion.gave text first.0 first.1 gave.1 first.2)
    (telling_at is_of trace_again.gave companion_again.gave text second.0 second.1 also.1 second.2) in
    let report = are.report first.1 ∙ ap (λ (t : Bool). report_of (lines t) second.0) tells in (
      first.4 ∙ are.status ∙ sym second.4,
      (
        report_of (lines first.1) first.0,
        first.3,
        subst (λ b. Appends out_again.before out_again.taken b) (sym report) second.3,
      ),
    )
