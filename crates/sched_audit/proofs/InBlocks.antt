-- How a run ends that heard both inputs at once: by the ending of its write.
use Rattle.std.proofs.Common.{◌≡◌, ℕ, Bool, ◌⊎◌, inl, inr, Result, Ok, Err, List, Option, IfErr}
use Rattle.audit_input.specs.declared.fault.Fault.{Fault}
use Rattle.audit_input.specs.declared.fault.Fault.TheVariants.{ReadTrace, ReadCompanion, Write, Memory}
use Rattle.audit_report.specs.declared.outcome.Outcome.{Outcome}
use Rattle.cfs_model.specs.Knobs.{KnobsView}
use Rattle.sched_audit.specs.Answer.{OutcomeAnswer}
use Rattle.sched_audit.specs.Run.{IsOutcomeOf}
use Rattle.sched_record.specs.Record.{RecordView}
use Rattle.stream_audit.specs.Aim.{AimView}
use Rattle.stream_audit.specs.Hearing.{Input, IsHearingOf, IsOutcome, ReadsBoth}
use Rattle.stream_audit.specs.declared.hearing.Hearing.{Hearing}

-- what is asked for, by its settings and by whether it is the least ones
abbrev pub aim_of : KnobsView → Bool → AimView
aim_of knobs least = record { knobs = knobs; least = least }

-- what was heard is the outcome of the bytes that both inputs gave
pub outcome_heard : {J : Type 0} (is_of : RecordView → J → Type 0) (aim : AimView) (gave given : Option (List ℕ))
    (hearing : Hearing) (o : Outcome J)
    → ((trace companion : List ℕ) → IsOutcome aim trace companion hearing.outcome
    → OutcomeAnswer is_of trace companion o)
    → IsHearingOf aim gave given hearing → IsOutcomeOf is_of gave given o hearing.tells_charges
outcome_heard is_of aim gave given hearing o said is = record {
  trace_bytes = is.trace_bytes;
  companion_bytes = is.companion_bytes;
  trace_whole = is.trace_whole;
  companion_whole = is.companion_whole;
  answer = said is.trace_bytes is.companion_bytes is.answer;
  tells = is.tells;
}

abbrev heard_of : {A : Type 0} → A → Result A Fault
heard_of read = Ok read

-- the inputs are read as they were heard, whatever comes behind that ends with, unless it reads
pub reads_both_on : {A B : Type 0} (trace companion : Input) (read : A) (r : Result B Fault)
    → ReadsBoth trace companion (heard_of read) → IfErr r (λ f. (f ≡ Write) ⊎ (f ≡ Memory))
    → ReadsBoth trace companion r
reads_both_on trace companion read (Ok s) k h = record {
  ended = k.ended;
  left = k.left;
  heard = k.heard;
  read_trace = λ e. absurd cc;
  read_companion = λ e. absurd cc;
  memory = λ e. absurd cc;
  bounded = k.bounded;
  order = λ e. absurd cc;
}
reads_both_on trace companion read (Err Write) k h = record {
  ended = tt;
  left = tt;
  heard = tt;
  read_trace = λ e. absurd cc;
  read_companion = λ e. absurd cc;
  memory = λ e. absurd cc;
  bounded = k.bounded;
  order = λ e. absurd cc;
}
reads_both_on trace companion read (Err Memory) k h = record {
  ended = tt;
  left = tt;
  heard = tt;
  read_trace = λ e. absurd cc;
  read_companion = λ e. absurd cc;
  memory = λ e. k.heard;
  bounded = k.bounded;
  order = λ e. absurd cc;
}
reads_both_on trace companion read (Err ReadTrace) k h = absurd (elim h [ inl e ↦ cc | inr e ↦ cc ])
reads_both_on trace companion read (Err ReadCompanion) k h = absurd (elim h [ inl e ↦ cc | inr e ↦ cc ])
