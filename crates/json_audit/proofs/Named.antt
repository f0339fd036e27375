-- The name of a fault's task changes nothing else of what is judged, nor of what is kept.
use Rattle.std.specs.Prelude.{ℕ, Bool, List, Option}
use Rattle.audit_report.specs.declared.outcome.Outcome.{Outcome}
use Rattle.audit_report.specs.declared.outcome.Outcome.TheVariants.{Judged, Text}
use Rattle.cfs_model.specs.Knobs.{KnobsView}
use Rattle.replay_model.specs.declared.first_fault.FirstFault.{FirstFault}
use Rattle.report_json.specs.Timed.{is_timed_alone, is_timed_named}
use Rattle.report_json.specs.declared.as_json.AsJson.{AsJson}
use Rattle.report_json.specs.declared.name.NameTold.{NameTold}
use Rattle.sched_audit.specs.Answer.{OutcomeAnswer}
use Rattle.json_audit.specs.Json.{IsNamedIn, with_name}
use Rattle.sched_audit.specs.Run.{IsHeard, IsKept, IsOutcomeOf, KeptAnswer}
use Rattle.sched_audit.specs.declared.hearing.Kept.{Kept}
use Rattle.sched_audit.specs.declared.hearing.Kept.TheVariants.{Record, Companion}
use Rattle.sched_record.specs.Record.{RecordView, record_view}

module _ {J : Type 0} (knobs : KnobsView) (fault_of : J → Option FirstFault) (is_of : RecordView → J → Type 0)
    (name : NameTold) where
  answer_named : (trace companion : List ℕ) (o : Outcome (AsJson J)) (k : Kept)
      → KeptAnswer (is_timed_alone knobs fault_of is_of) trace companion o k → IsNamedIn fault_of o k name
      → OutcomeAnswer (is_timed_named knobs fault_of is_of) trace companion (with_name name o)
  answer_named trace companion (Judged told) (Record joined) answer named =
      (record_view joined, answer.0, (answer.1.0, named))
  answer_named trace companion (Judged told) (Companion bytes) answer named = absurd answer
  answer_named trace companion (Text source line cause) (Record joined) answer named = absurd answer
  answer_named trace companion (Text source line cause) (Companion bytes) answer named = answer

  pub outcome_named : (trace companion : Option (List ℕ)) (o : Outcome (AsJson J)) (k : Kept) (b : Bool)
      → IsHeard (is_timed_alone knobs fault_of is_of) trace companion o k b → IsNamedIn fault_of o k name
      → IsOutcomeOf (is_timed_named knobs fault_of is_of) trace companion (with_name name o) b
  outcome_named trace companion o k b heard named = record {
    trace_bytes = heard.trace_bytes;
    companion_bytes = heard.companion_bytes;
    trace_whole = heard.trace_whole;
    companion_whole = heard.companion_whole;
    answer = answer_named heard.trace_bytes heard.companion_bytes o k heard.answer named;
    tells = heard.tells;
  }

  pub kept_named : (companion : Option (List ℕ)) (o : Outcome (AsJson J)) (k : Kept)
      → IsKept (is_timed_alone knobs fault_of is_of) companion o k → IsNamedIn fault_of o k name
      → IsKept (is_timed_named knobs fault_of is_of) companion (with_name name o) k
  kept_named companion (Judged told) (Record joined) is named = (is.0, named)
  kept_named companion (Judged told) (Companion bytes) is named = is
  kept_named companion (Text source line cause) (Record joined) is named = is
  kept_named companion (Text source line cause) (Companion bytes) is named = is
