-- What was heard so far of two inputs, of which what comes next is joined while the audit goes on (this project's
-- profile).
use Rattle.std.specs.Prelude.{◌≡◌, ◌≢◌, ◌⊎◌, ◌<◌, ◌≤◌, ℕ, Bool, true, false, not, List, [], Option, Result, Err, IsNone}
use Rattle.std.specs.Prelude.{IfErr, IfOk, OnErr, OnOk, drop, length}
use Rattle.std.specs.Io.KnownBytes.{IsAtEnd}
use Rattle.audit_input.specs.declared.fault.Fault.{Fault}
use Rattle.audit_input.specs.Known.{IsCutShort, most_reads}
use Rattle.audit_input.specs.declared.fault.Fault.TheVariants.{Memory, ReadCompanion, ReadTrace, Write}
use Rattle.cfs_model.specs.Claimed.{Claimed}
use Rattle.cfs_model.specs.declared.act.Entry.{Entry}
use Rattle.stream_audit.specs.Aim.{AimView}
use Rattle.entry_reader.specs.Reader.{entries_of}
use Rattle.input_blocks.specs.Blocks.{HasReadOn, IsThen}
use Rattle.input_blocks.specs.OfEntries.{ReadsEntries}
use Rattle.input_blocks.specs.declared.block_source.BlockSource.{BlockSource}
use Rattle.input_blocks.specs.declared.line_blocks.LineBlocks.{LineBlocks}
use Rattle.stream_audit.specs.Companion.{IsFedBy}
use Rattle.stream_audit.specs.Course.{AreJudged, IsCalm, JoinsNext, StartStays}
use Rattle.stream_audit.specs.Hearing.{Input, IsPending, IsReady, ReadsBoth}
use Rattle.stream_audit.specs.declared.course.Course.{Course}
use Rattle.stream_audit.specs.declared.hearing.Hearing.{Hearing}
use Rattle.stream_audit.specs.declared.intake.Intake.{Intake}
use Rattle.stream_audit.specs.declared.listener.Listener.{Listener}

-- of a trace that gave bytes before it had these left, these were read, and of these all that was taken out was joined,
-- but for the last events, which come next
pub record IsComing (aim : AimView) (trace_gave trace_left gave left : Option (List ℕ)) (intake : Intake)
    (handed : List Claimed) : Type 0
  where
    pub bytes : List ℕ
    pub stands : IsThen ReadsEntries trace_gave trace_left intake.blocks bytes true
    pub pending : IsPending aim gave left bytes intake.reader intake.course handed intake.events.items

-- more was read since a course was this, and of what was taken out some events were joined, and the others come next
pub record HasCome (aim : AimView) (trace_gave trace_left gave left : Option (List ℕ)) (old : Course)
    (intake : Intake) (handed : List Claimed) (goes_on : Bool) : Type 0
  where
    pub bytes : List ℕ
    pub stands : IsThen ReadsEntries trace_gave trace_left intake.blocks bytes goes_on
    pub ready : IsReady aim gave left bytes intake.reader intake.course handed (drop intake.next intake.events.items)
    pub calm : IsCalm intake.course → IsCalm old
    pub starts : StartStays old.joined intake.course.joined
    pub same_knobs : intake.course.aim ≡ old.aim

-- the same, where what was joined was handed on, and judged but for a window
pub record IsUnderWay (aim : AimView) (trace_gave trace_left gave left : Option (List ℕ)) (listener : Listener)
    (goes_on : Bool) : Type 0
  where
    pub bytes : List ℕ
    pub stands : IsThen ReadsEntries trace_gave trace_left listener.intake.blocks bytes goes_on
    pub handed : List Claimed
    pub pending : IsPending aim gave left bytes listener.intake.reader listener.intake.course handed
        listener.intake.events.items
    pub judged : AreJudged listener.intake.course handed listener.judge

-- nothing was heard yet, whatever the inputs have
abbrev pub HasHeardNothing : AimView → Listener → Type 0
HasHeardNothing aim listener = (trace gave : Option (List ℕ)) → IsUnderWay aim trace trace gave gave listener true

-- an input was read as often as its blocks say, no read of it failed, and it has ended where it doesn't go on
pub record IsReadBy (left : Option (List ℕ)) (calls : ℕ) (has_failed has_ended : Bool) (blocks : LineBlocks)
    (goes_on : Bool) : Type 0
  where
    pub counted : calls ≡ blocks.source.reads
    pub heard : has_failed ≡ false
    pub ended : has_ended ≡ not goes_on
    pub at_end : goes_on ≡ false → IsAtEnd left

-- an input was read as often as its source says, no read of it failed, and it has ended where that says so
pub record IsLeft (calls : ℕ) (has_failed has_ended : Bool) (source : BlockSource) : Type 0 where
  pub counted : calls ≡ source.reads
  pub heard : has_failed ≡ false
  pub ended : has_ended ≡ source.ended

-- how reads of a trace that answer this leave it: only where a read fails, or no more may be made, it isn't known
pub record IsLeftBy (calls : ℕ) (has_failed has_ended : Bool) (source : BlockSource) (result : Result Bool Fault)
    : Type 0
  where
    pub bounded : calls ≤ most_reads
    pub known : OnOk result (IsLeft calls has_failed has_ended source)
    pub wanted : IfErr result (λ e. (e ≡ ReadTrace) ⊎ IsLeft calls has_failed has_ended source)
    pub cut_short : IfErr result (λ e. ((e ≡ Memory) × (has_failed ≡ false))
        ⊎ ((e ≡ ReadTrace) × IsCutShort has_failed calls))

-- the first of some events were joined, or the companion was read no further
pub record HasJoined (left later : Option (List ℕ)) (calls : ℕ) (has_ended has_failed : Bool) (old new : Course)
    (events : List Entry) (result : Result ℕ Fault) : Type 0
  where
    pub joins : JoinsNext left later old new events result
    pub starts : OnOk result (StartStays old.joined new.joined)
    pub aim : new.aim ≡ old.aim
    pub within : IfOk result (λ count. count ≤ length events)
    pub some : OnErr result (0 < length events)
    pub fed : OnOk result (IsFedBy calls has_ended has_failed new.companion)
    pub bounded : calls ≤ most_reads
    pub cut_short : IfErr result (λ e. ((e ≡ Memory) × (has_failed ≡ false))
        ⊎ ((e ≡ ReadCompanion) × IsCutShort has_failed calls))

-- reads of a trace of which none had failed, behind what was there
pub record HasReadMore (left later : Option (List ℕ)) (calls : ℕ) (has_failed has_ended : Bool)
    (old new : BlockSource) (result : Result Bool Fault) : Type 0
  where
    pub read : OnOk result (HasReadOn left later old new)
    pub end : IfOk result (λ goes_on. goes_on ≡ false → IsAtEnd later)
    pub ended : IfOk result (λ goes_on. has_ended ≡ not goes_on)
    pub counted : OnOk result (calls ≡ new.reads)
    pub read_on : OnOk result (old.reads < new.reads)
    pub bounded : calls ≤ most_reads
    pub heard : OnOk result (has_failed ≡ false)
    pub cut_short : IfErr result (λ e. ((e ≡ Memory) × (has_failed ≡ false))
        ⊎ ((e ≡ ReadTrace) × IsCutShort has_failed calls))
    pub never_fewer : old.reads ≤ new.reads
    pub told : OnOk result (has_ended ≡ new.ended)
    pub wanted : IfErr result (λ e. (e ≡ ReadTrace) ⊎ ((calls ≡ new.reads) × (has_ended ≡ new.ended)))

-- all events that were read were taken out, where no line is bad
abbrev pub IsTakenOut : Intake → Type 0
IsTakenOut intake = IsNone intake.reader.bad → entries_of intake.reader ≡ []

-- a fault that ends the reading of two inputs, and isn't one of writing
abbrev pub EndsBoth : Input → Input → Fault → Type 0
EndsBoth trace companion fault = ReadsBoth {A = Hearing} trace companion (Err fault) × (fault ≢ Write)
