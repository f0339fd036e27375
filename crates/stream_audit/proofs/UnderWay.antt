-- Two inputs stay under way as blocks are read and audited.
use Rattle.std.proofs.Common.{◌≡◌, ◌<◌, ℕ, Bool, true, false, not, List, [], Option, Some, None, ap, arith, length}
use Rattle.std.proofs.Common.{Result, Ok, Err, IfErr, IsErrAnd, refl, sym, subst, ◌∙◌}
use Rattle.std.specs.Prelude.{IsNone}
use Rattle.stream_audit.specs.Aim.{Begun}
use Rattle.cfs_model.specs.Claimed.{Claimed}
use Rattle.std.specs.Io.KnownBytes.{IsAtEnd}
use Rattle.std.specs.Prelude.{IfOk, OnOk}
use Rattle.audit_input.specs.declared.fault.Fault.{Fault}
use Rattle.stream_audit.specs.Aim.{AimView}
use Rattle.cfs_model.specs.declared.act.Entry.{Entry}
use Rattle.companion_file.specs.Earlier.{summed}
use Rattle.entry_reader.specs.Reader.{HasReadOut}
use Rattle.entry_reader.specs.declared.reader.EntryReader.{EntryReader}
use Rattle.input_blocks.proofs.Beginning.{fresh}
use Rattle.input_blocks.specs.Blocks.{IsFresh}
use Rattle.input_blocks.specs.OfEntries.{ReadsEntries}
use Rattle.text_parts.proofs.TextLines.{lines_of_nil}
use Rattle.text_parts.specs.Lines.{lines_of}
use Rattle.input_blocks.specs.declared.line_blocks.LineBlocks.{LineBlocks}
use Rattle.stream_audit.specs.Course.{AreEventsNext, CourseGoesOn, IsCourseOf, IsSettledBy}
use Rattle.stream_audit.specs.Companion.{IsFedBy}
use Rattle.stream_audit.specs.Hearing.{IsHeardBy}
use Rattle.stream_audit.specs.Judge.{IsAwaiting}
use Rattle.stream_audit.specs.Listening.{IsComing, IsReadBy, IsUnderWay}
use Rattle.stream_audit.specs.declared.companion_input.CompanionInput.{CompanionInput}
use Rattle.stream_audit.specs.declared.course.Course.{Course}
use Rattle.stream_audit.specs.declared.intake.Intake.{Intake}
use Rattle.stream_audit.specs.declared.joined_events.JoinedEvents.{JoinedEvents}
use Rattle.stream_audit.specs.declared.judge.Judge.{Judge}
use Rattle.stream_audit.specs.declared.listener.Listener.{Listener}

none_next : (events : List Entry) → events ≡ [] → 0 < length events → AreEventsNext [] events
none_next events none some = let e = ap (λ (es : List Entry). length es) none in absurd (omega (arith, e, some))

-- before the first read
pub before_any : (aim : AimView) (trace gave : Option (List ℕ)) (intake : Intake) → IsFresh intake.blocks
    → HasReadOut intake.reader [] [] → intake.events.items ≡ []
    → IsCourseOf aim gave gave intake.course (summed []) [] [] → IsComing aim trace trace gave gave intake []
before_any aim trace gave intake none read empty course = record {
  bytes = [];
  stands = fresh ReadsEntries trace intake.blocks none;
  pending = record {
    before = [];
    has_read = subst (λ (es : List Entry). HasReadOut intake.reader (lines_of []) es) (sym empty)
        (subst (λ (ls : List (List ℕ)). HasReadOut intake.reader ls []) (sym lines_of_nil) read);
    said = summed [];
    so_far = course;
    next = none_next intake.events.items empty;
  };
}

settled_none : (P : Begun → List Claimed → Judge → Type 0) (aim : AimView) (joined : Option JoinedEvents)
    (judge : Option Judge) → IsNone joined → IsNone judge → IsSettledBy P aim joined [] judge
settled_none P aim None judge none nobody = (refl, nobody)
settled_none P aim (Some j) judge none nobody = absurd (let e = none in cc)

pub none_heard : (aim : AimView) (trace gave : Option (List ℕ)) (listener : Listener)
    → IsComing aim trace trace gave gave listener.intake [] → IsNone listener.intake.course.joined
    → IsNone listener.judge → IsUnderWay aim trace trace gave gave listener true
none_heard aim trace gave listener coming none nobody = record {
  bytes = coming.bytes;
  stands = coming.stands;
  handed = [];
  pending = coming.pending;
  judged = λ calm. settled_none IsAwaiting listener.intake.course.aim listener.intake.course.joined listener.judge
      none nobody;
}

-- what is under way comes in
pub coming_of : (aim : AimView) (trace_gave trace_left gave left : Option (List ℕ)) (listener : Listener)
    (under : IsUnderWay aim trace_gave trace_left gave left listener true)
    → IsComing aim trace_gave trace_left gave left listener.intake under.handed
coming_of aim trace_gave trace_left gave left listener under =
    record { bytes = under.bytes; stands = under.stands; pending = under.pending }

-- where the trace goes on
pub still_under_way : (aim : AimView) (trace_gave trace_left gave left : Option (List ℕ)) (listener : Listener)
    (goes_on : Bool) → goes_on ≡ true → IsUnderWay aim trace_gave trace_left gave left listener goes_on
    → IsUnderWay aim trace_gave trace_left gave left listener true
still_under_way aim trace_gave trace_left gave left listener goes_on is under =
    subst (λ (b : Bool). IsUnderWay aim trace_gave trace_left gave left listener b) is under

pub still_read : (left : Option (List ℕ)) (calls : ℕ) (has_failed has_ended : Bool) (blocks : LineBlocks)
    (goes_on : Bool) → goes_on ≡ true → IsReadBy left calls has_failed has_ended blocks goes_on
    → IsReadBy left calls has_failed has_ended blocks true
still_read left calls has_failed has_ended blocks goes_on is read =
    subst (λ (b : Bool). IsReadBy left calls has_failed has_ended blocks b) is read

-- a companion of which nothing was read in between
pub fed_as : (calls : ℕ) (has_ended has_failed : Bool) (old new : CompanionInput) → new ≡ old
    → IsFedBy calls has_ended has_failed old → IsFedBy calls has_ended has_failed new
fed_as calls has_ended has_failed old new same fed =
    subst (λ (input : CompanionInput). IsFedBy calls has_ended has_failed input) (sym same) fed

-- a course that went on with the companion alone
pub heard_further : (aim : AimView) (gave left rest : Option (List ℕ)) (bytes : List ℕ) (reader : EntryReader)
    (old new : Course) (handed : List Claimed) (heard : IsHeardBy aim gave left bytes reader old handed)
    → CourseGoesOn old.aim gave rest new heard.events handed → IsHeardBy aim gave rest bytes reader new handed
heard_further aim gave left rest bytes reader old new handed heard went = record {
  events = heard.events;
  has_read = heard.has_read;
  said = went.0;
  so_far = subst (λ (k : AimView). IsCourseOf k gave rest new went.0 heard.events handed) heard.so_far.settings
      went.1;
}

-- ---- what calls answer

-- what is promised of an answer, where that is known
pub of_ok : {T E : Type 0} (P : T → Type 0) (r : Result T E) (x : T) → r ≡ Ok x → IfOk r P → P x
of_ok P r x is holds = subst (λ (s : Result _ _). IfOk s P) is holds

pub on_ok_of : {T E : Type 0} (A : Type 0) (r : Result T E) (x : T) → r ≡ Ok x → OnOk r A → A
on_ok_of A r x is holds = subst (λ (s : Result _ _). OnOk s A) is holds

pub of_err : {T E : Type 0} (P : E → Type 0) (r : Result T E) (e : E) → r ≡ Err e → IfErr r P → P e
of_err P r e is holds = subst (λ (s : Result _ _). IfErr s P) is holds

-- what holds of every answer
pub on_any : {T E : Type 0} (A : Type 0) (r : Result T E) → A → OnOk r A
on_any A (Ok x) holds = holds
on_any A (Err e) holds = tt

pub if_ok : {T E : Type 0} (P Q : T → Type 0) (r : Result T E) → ((x : T) → P x → Q x) → IfOk r P → IfOk r Q
if_ok P Q (Ok x) follows holds = follows x holds
if_ok P Q (Err e) follows holds = tt

pub if_err : {T E : Type 0} (P Q : E → Type 0) (r : Result T E) → ((e : E) → P e → Q e) → IfErr r P → IfErr r Q
if_err P Q (Ok x) follows holds = tt
if_err P Q (Err e) follows holds = follows e holds

-- what holds of a fault holds of the answer that tells it
pub told_as : {T : Type 0} (P : Fault → Type 0) (answer : Result T Fault) (fault : Fault)
    → IsErrAnd answer (λ e. e ≡ fault) → P fault → IfErr answer P
told_as P (Ok x) fault is holds = absurd is
told_as P (Err e) fault is holds = subst P (sym is) holds

-- how reads were made
pub read_by : (left : Option (List ℕ)) (calls : ℕ) (has_failed has_ended was_failed : Bool) (new : LineBlocks)
    (goes_on : Bool) → was_failed ≡ false → calls ≡ new.source.reads
    → has_failed ≡ was_failed → has_ended ≡ not goes_on → (goes_on ≡ false → IsAtEnd left)
    → IsReadBy left calls has_failed has_ended new goes_on
read_by left calls has_failed has_ended was_failed new goes_on unfailed counted heard ended end = record {
  counted = counted;
  heard = heard ∙ unfailed;
  ended = ended;
  at_end = end;
}
