-- A run over two inputs and one output: what it writes, and what it answers (this project's profile).
use Rattle.std.specs.Prelude.{◌≡◌, ◌≢◌, ◌≤◌, ℕ, Bool, true, false, List, Option, Result, IfOk, IfErr}
use Rattle.std.specs.Prelude.{OnOk, IsErrOf}
use Rattle.std.specs.Io.KnownBytes.{Appends, IsAtEnd, Keeps}
use Rattle.replay_model.specs.declared.first_fault.FirstFault.{FirstFault}
use Rattle.sched_record.specs.Record.{RecordView, record_view}
use Rattle.audit_input.specs.declared.cause.Cause.{Cause}
use Rattle.audit_input.specs.declared.fault.Fault.{Fault}
use Rattle.audit_input.specs.declared.fault.Fault.TheVariants.{ReadTrace, ReadCompanion, Write, Memory}
use Rattle.audit_input.specs.declared.source.Source.{Source}
use Rattle.audit_report.specs.declared.status.Status.{Status}
use Rattle.sched_audit.specs.declared.hearing.Kept.{Kept}
use Rattle.sched_audit.specs.declared.hearing.Kept.TheVariants.{Record, Companion}
use Rattle.audit_report.specs.declared.outcome.Outcome.{Outcome}
use Rattle.audit_report.specs.declared.outcome.Outcome.TheVariants.{Judged, Text}
use Rattle.sched_audit.specs.Answer.{OutcomeAnswer}
use Rattle.audit_report.specs.Codes.{status_of}
use Rattle.audit_input.specs.Known.{Agrees, IsCutShort, most_reads}
use Rattle.audit_report.specs.Report.{refusal_line, report_by}
use Rattle.audit_report.specs.Taken.{AppendsFront}
use Rattle.audit_input.specs.Texts.{IsRecordOf, IsRefused, TellsCharges}
use Rattle.stream_audit.specs.Hearing.{ReadsBoth, Input as Ended, input_of as ended}

-- the outcome is that of the bytes that the two inputs still gave, and so is it whether the companion tells charges
pub record IsOutcomeOf {J : Type 0} (is_of : RecordView → J → Type 0) (trace companion : Option (List ℕ))
    (outcome : Outcome J) (tells_charges : Bool) : Type 0 where
  pub trace_bytes : List ℕ
  pub companion_bytes : List ℕ
  pub trace_whole : Agrees trace trace_bytes
  pub companion_whole : Agrees companion companion_bytes
  pub answer : OutcomeAnswer is_of trace_bytes companion_bytes outcome
  pub tells : TellsCharges companion_bytes tells_charges

-- what is kept of two inputs beside their outcome: the record that was judged, or the companion's bytes, where a text
-- was refused
abbrev pub IsKept : {J : Type 0} → (RecordView → J → Type 0) → Option (List ℕ) → Outcome J → Kept → Type 0
IsKept is_of companion (Judged judged) (Record joined) = is_of (record_view joined) judged
IsKept is_of companion (Text source line cause) (Companion bytes) = Agrees companion bytes.items
IsKept is_of companion (Judged judged) (Companion bytes) = ⊥
IsKept is_of companion (Text source line cause) (Record joined) = ⊥

-- the same of a trace and its companion: what was judged is that of the record that is kept, and this is theirs
abbrev pub KeptAnswer : {J : Type 0} → (RecordView → J → Type 0) → List ℕ → List ℕ → Outcome J → Kept → Type 0
KeptAnswer is_of trace companion (Judged judged) (Record joined) =
    IsRecordOf trace companion (record_view joined) × is_of (record_view joined) judged
KeptAnswer is_of trace companion (Text source line cause) (Companion bytes) =
    IsRefused trace companion source line cause
KeptAnswer is_of trace companion (Judged judged) (Companion bytes) = ⊥
KeptAnswer is_of trace companion (Text source line cause) (Record joined) = ⊥

-- what was heard of two inputs, with what is kept of them, by what is known of their bytes
pub record IsHeard {J : Type 0} (is_of : RecordView → J → Type 0) (trace companion : Option (List ℕ))
    (outcome : Outcome J) (kept : Kept) (tells_charges : Bool) : Type 0 where
  pub trace_bytes : List ℕ
  pub companion_bytes : List ℕ
  pub trace_whole : Agrees trace trace_bytes
  pub companion_whole : Agrees companion companion_bytes
  pub answer : KeptAnswer is_of trace_bytes companion_bytes outcome kept
  pub tells : TellsCharges companion_bytes tells_charges

-- of an input: the bytes that it gave from the call's beginning on and those that it has left, where they are known;
-- the reads made of it, whether one failed, and whether it has ended
pub record Input : Type 0 where
  pub gave : Option (List ℕ)
  pub left : Option (List ℕ)
  pub calls : ℕ
  pub has_failed : Bool
  pub has_ended : Bool

abbrev pub input_of : Option (List ℕ) → Option (List ℕ) → ℕ → Bool → Bool → Input
input_of gave left calls has_failed has_ended =
    record { gave = gave; left = left; calls = calls; has_failed = has_failed; has_ended = has_ended }

-- the same, but what it gave isn't asked
abbrev pub ended_of : Input → Ended
ended_of input = ended input.left input.calls input.has_failed input.has_ended

-- of an output: the bytes that it had taken before and those that it has taken, where they are known, and whether a
-- write failed or took no byte of some
pub record Output : Type 0 where
  pub before : Option (List ℕ)
  pub taken : Option (List ℕ)
  pub has_failed : Bool

abbrev pub output_of : Option (List ℕ) → Option (List ℕ) → Bool → Output
output_of before taken has_failed = record { before = before; taken = taken; has_failed = has_failed }

-- how two inputs are read
pub record Reads {A : Type 0} (trace companion : Input) (result : Result A Fault) : Type 0 where
  -- where no fault is answered both were read to their ends, a refused trace and its companion too: nothing is left of
  -- them
  pub ended : OnOk result ((trace.has_ended ≡ true) × (companion.has_ended ≡ true))
  pub left : OnOk result (IsAtEnd trace.left × IsAtEnd companion.left)
  -- and no read failed
  pub heard : OnOk result ((trace.has_failed ≡ false) × (companion.has_failed ≡ false))
  -- an input's fault comes only where a read of it failed, or the most reads of it were made
  pub read_trace : IsErrOf result ReadTrace → IsCutShort trace.has_failed trace.calls
  pub read_companion : IsErrOf result ReadCompanion → IsCutShort companion.has_failed companion.calls
  -- memory is wanted only where no read failed
  pub memory : IsErrOf result Memory → (trace.has_failed ≡ false) × (companion.has_failed ≡ false)
  -- each is read by at most the most reads, and the companion only after the trace
  pub bounded : (trace.calls ≤ most_reads) × (companion.calls ≤ most_reads)
  pub order : IsErrOf result ReadTrace → companion.calls ≡ 0

-- how two inputs are read: a relation of these and of what is answered
abbrev pub Reading : Type 1
Reading = Input → Input → Result Status Fault → Type 0

-- the trace is read first, and then the companion
abbrev pub one_by_one : Reading
one_by_one trace companion result = Reads trace companion result

-- both are read at once, a block at a time
abbrev pub both_at_once : Reading
both_at_once trace companion result = ReadsBoth (ended_of trace) (ended_of companion) result

-- what a run over two inputs writes to an output, and what it answers, by how it reads them, by what it judges of their
-- record and by the texts that tell a refusal and that, where the companion tells charges and where it doesn't
pub record RunsBy {J : Type 0} (reading : Reading) (refusal : Source → ℕ → Cause → List ℕ)
    (is_of : RecordView → J → Type 0) (lines : Bool → J → List ℕ) (fault_of : J → Option FirstFault)
    (trace companion : Input) (out : Output) (result : Result Status Fault) : Type 0
  where
    -- where a status is answered, the report of the two inputs' outcome was written and nothing else, and the status is
    -- that outcome's
    pub answered : IfOk result (λ status. (outcome : Outcome J) × (tells_charges : Bool)
        × IsOutcomeOf is_of trace.gave companion.gave outcome tells_charges
        × Appends out.before out.taken (report_by refusal (lines tells_charges) outcome)
        × (status ≡ status_of fault_of outcome))
    pub reads : reading trace companion result
    -- and no write failed
    pub written : OnOk result (out.has_failed ≡ false)
    -- a write fault comes only where a write failed or took no byte, and a front of the report was written
    pub write : IsErrOf result Write → out.has_failed ≡ true
    pub front : IsErrOf result Write → (outcome : Outcome J) × (tells_charges : Bool)
        × IsOutcomeOf is_of trace.gave companion.gave outcome tells_charges
        × AppendsFront out.before out.taken (report_by refusal (lines tells_charges) outcome)
    -- at any other fault nothing was written, and no write failed
    pub unwritten : IfErr result (λ fault. fault ≢ Write → Keeps out.before out.taken × (out.has_failed ≡ false))

-- the same where a refusal is told by its line
abbrev pub Runs : {J : Type 0} → (RecordView → J → Type 0) → (Bool → J → List ℕ) → (J → Option FirstFault) → Input
    → Input → Output → Result Status Fault → Type 0
Runs = RunsBy one_by_one refusal_line

-- the same where both inputs are read at once
abbrev pub RunsInBlocks : {J : Type 0} → (RecordView → J → Type 0) → (Bool → J → List ℕ) → (J → Option FirstFault)
    → Input → Input → Output → Result Status Fault → Type 0
RunsInBlocks = RunsBy both_at_once refusal_line
