-- What a trace and a companion come to that were heard to their ends.
use Rattle.std.proofs.Common.{◌≡◌, ◌<◌, ℕ, Bool, true, false, not, List, [], ◌++◌, length, take, drop}
use Rattle.std.proofs.Common.{Option, Some, None, Result, Ok, Err, MatchOption, refl, sym, ap, subst, arith, append-nil}
use Rattle.std.proofs.Common.{◌∙◌}
use Rattle.std.specs.Prelude.{IsNone, is_none}
use Rattle.std.specs.Io.KnownBytes.{IsAtEnd}
use Rattle.audit_input.specs.Known.{Agrees}
use Rattle.audit_input.specs.Refusals.{companion_refusal, join_refusal, trace_refusal}
use Rattle.audit_input.specs.Texts.{TellsCharges}
use Rattle.cfs_model.specs.Claimed.{Claimed}
use Rattle.stream_audit.specs.Aim.{AimView}
use Rattle.cfs_model.specs.declared.act.Entry.{Entry}
use Rattle.companion_file.specs.declared.fault.CompanionFault.{CompanionFault}
use Rattle.companion_file.specs.declared.fault.CompanionFault.TheVariants as companion_faults
use Rattle.entry_reader.specs.Reader.{EndsSo, HasReadOut, IsReadOut, entries_of}
use Rattle.entry_reader.specs.declared.bad_line.BadLine.{BadLine}
use Rattle.entry_reader.specs.declared.reader.EntryReader.{EntryReader}
use Rattle.input_blocks.specs.Blocks.{IsThen}
use Rattle.input_blocks.specs.OfCompanion.{ReadsCompanion}
use Rattle.input_blocks.specs.OfEntries.{ReadsEntries}
use Rattle.input_blocks.specs.declared.line_blocks.LineBlocks.{LineBlocks}
use Rattle.sched_record.specs.Join.{joined_record}
use Rattle.sched_record.specs.ReadLines.{AreKept}
use Rattle.sched_record.specs.Trace.{AreEventsOf, IsFirstBadTraceLine, TraceAnswer}
use Rattle.sched_record.specs.declared.cause.TraceCause.{TraceCause}
use Rattle.sched_record.specs.declared.cause.TraceFault.{TraceFault}
use Rattle.sched_record.specs.declared.cause.TraceFault.TheVariants as trace_faults
use Rattle.sched_record.specs.declared.joining.JoinFault.{JoinFault}
use Rattle.least_places.specs.declared.found.Finding.{Finding}
use Rattle.text_parts.specs.Lines.{lines_of}
use Rattle.window_joining.specs.Joining.{edge_of}
use Rattle.stream_audit.proofs.EventLines.{both_parts}
use Rattle.stream_audit.specs.Companion.{IsPast}
use Rattle.stream_audit.specs.Course.{AreAllEvents, AreEventsNext, CourseGoesOn, IsClosingOf, IsCourseOf, IsIdle}
use Rattle.stream_audit.specs.Course.{IsReadyFor, IsWholeCourse}
use Rattle.stream_audit.specs.Hearing.{AreBothDone, IsHeard, IsHeardBy, IsHearingOf, IsOutcome, IsPending, IsReady}
use Rattle.stream_audit.specs.Hearing.{IsRefusalOf}
use Rattle.stream_audit.specs.declared.companion_input.CompanionInput.{CompanionInput}
use Rattle.stream_audit.specs.declared.course.Closing.TheVariants as closings
use Rattle.stream_audit.specs.declared.course.Course.{Course}
use Rattle.stream_audit.specs.declared.ending.Ending.TheVariants as endings
use Rattle.stream_audit.specs.declared.hearing.Hearing.{Hearing}
use Rattle.stream_audit.specs.declared.hearing.StreamOutcome.TheVariants as outcomes
use Rattle.stream_audit.specs.declared.judge.Judge.{Judge}

-- ---- the trace's events

-- a trace has one answer
abbrev pub OneTrace : Type 0
OneTrace = (text : List ℕ) (a b : Result (List Entry) (ℕ × TraceCause)) → TraceAnswer text a → TraceAnswer text b
    → a ≡ b

ok_or_err : (events : List Entry) (fault : ℕ × TraceCause)
    → ◌≡◌ {A = Result (List Entry) (ℕ × TraceCause)} (Ok events) (Err fault) → ⊥
ok_or_err events fault e = cc

-- of one whose events are told no line is bad
none_bad : OneTrace → (bytes : List ℕ) (events given : List Entry) (reader : EntryReader) (bad : Option BadLine)
    → AreEventsOf (lines_of bytes) events
    → MatchOption bad (IsReadOut reader (lines_of bytes) given)
    (λ b. IsFirstBadTraceLine (lines_of bytes) b.line b.cause)
    → IsNone bad
none_bad one bytes events given reader None are read = refl
none_bad one bytes events given reader (Some b) are read =
    absurd (ok_or_err events (b.line, b.cause) (one bytes (Ok events) (Err (b.line, b.cause)) are read))

none_of : {X : Type 0} (o : Option X) → is_none o ≡ true → IsNone o
none_of None none = refl
none_of (Some x) none = absurd cc

-- and the reader's events are those
where_none : {X A : Type 0} (B : X → Type 0) (o : Option X) → IsNone o → MatchOption o A B → A
where_none B None none holds = holds
where_none B (Some x) none holds = absurd cc

pub read_out : (reader : EntryReader) (lines : List (List ℕ)) (events : List Entry) → IsNone reader.bad
    → HasReadOut reader lines events → IsReadOut reader lines events
read_out reader lines events none read =
    where_none (λ bad. IsFirstBadTraceLine lines bad.line bad.cause) reader.bad none read

pub events_next : (reader : EntryReader) (lines : List (List ℕ)) (events : List Entry) → IsReadOut reader lines events
    → AreEventsNext events (entries_of reader)
events_next reader lines events is = record {
  in_order = is.kept.in_order;
  few = λ k d h. (let line = is.kept.lines k d h in let few = reader.few in omega (arith, line, few));
}

pub all_events : (reader : EntryReader) (lines : List (List ℕ)) (events : List Entry) → entries_of reader ≡ []
    → IsReadOut reader lines events → AreAllEvents events
all_events reader lines events none is =
    let kept = subst (λ (es : List Entry). AreKept es reader.count reader.last)
    (ap (λ es. events ++ es) none ∙ append-nil events) is.kept in
    record {
      in_order = kept.in_order;
      few = λ k d h. (let line = kept.lines k d h in let few = reader.few in omega (arith, line, few));
      last = reader.last;
      times = kept.times;
      last_fits = reader.last_fits;
    }

module _ (one : OneTrace) (trace : EntryReader) (course : Course) (judge : Option Judge) (bytes text : List ℕ)
    (both : AreBothDone trace course judge bytes text)
    (ends : EndsSo (Ok tt) (lines_of bytes) (both.events ++ entries_of trace)) where
  good : IsNone trace.bad
  good = none_bad one bytes (both.events ++ entries_of trace) both.events trace trace.bad ends both.has_read

  pub whole_course : IsWholeCourse course.aim course text both.events judge
  whole_course = both.joined good

  pub trace_told : TraceAnswer bytes (Ok both.events)
  trace_told = subst (AreEventsOf (lines_of bytes))
      (ap (λ es. both.events ++ es) (both.taken good) ∙ append-nil both.events) ends

-- ---- what is refused

pub trace_refused : (bytes text : List ℕ) (events : List Entry) (fault : TraceFault)
    → EndsSo (Err fault) (lines_of bytes) events → IsRefusalOf bytes text (trace_refusal fault)
trace_refused bytes text events (trace_faults.Text line cause) first = (cause, first, refl)
trace_refused bytes text events trace_faults.Memory none = absurd none

pub companion_refused : (aim : AimView) (bytes text : List ℕ) (events : List Entry) (fault : CompanionFault)
    → TraceAnswer bytes (Ok events) → IsClosingOf aim text events (closings.Refused fault)
    → IsRefusalOf bytes text (companion_refusal fault)
companion_refused aim bytes text events (companion_faults.Text line cause) are first =
    (events, cause, are, first, refl)
companion_refused aim bytes text events companion_faults.Memory are none = absurd none

pub join_refused : (aim : AimView) (bytes text : List ℕ) (events : List Entry) (fault : JoinFault)
    → TraceAnswer bytes (Ok events) → IsClosingOf aim text events (closings.Joined (endings.Apart fault))
    → IsRefusalOf bytes text (join_refusal fault)
join_refused aim bytes text events fault are closing = record {
  events = events;
  start = closing.0;
  are_read = record { trace_means = are; companion_means = closing.1 };
  why = (fault.cause, closing.2, refl);
}

pub judged : (aim : AimView) (bytes text : List ℕ) (events : List Entry) (finding : Finding)
    → TraceAnswer bytes (Ok events) → IsClosingOf aim text events (closings.Joined (endings.Judged finding))
    → IsOutcome aim bytes text (outcomes.Judged finding)
judged aim bytes text events finding are closing = (
  joined_record events closing.0,
  record {
    events = events;
    start = closing.0;
    are_read = record { trace_means = are; companion_means = closing.1 };
    joined = closing.2.0;
  },
  closing.2.1,
)

-- ---- more is read of the trace

unfoldable pub pending_on : (aim : AimView) (gave left : Option (List ℕ)) (bytes more : List ℕ)
    (old new : EntryReader) (course : Course) (handed : List Claimed) (events : List Entry)
    → lines_of (bytes ++ more) ≡ lines_of bytes ++ lines_of more → ReadsEntries old new (lines_of more)
    → IsPending aim gave left bytes old course handed events
    → IsPending aim gave left (bytes ++ more) new course handed events
pending_on aim gave left bytes more old new course handed events lines read pending = record {
  before = pending.before;
  has_read = subst (λ (ls : List (List ℕ)). HasReadOut new ls (pending.before ++ events)) (sym lines)
      (read (lines_of bytes) (pending.before ++ events) pending.has_read);
  said = pending.said;
  so_far = pending.so_far;
  next = pending.next;
}

-- ---- the events that were read are taken out

pub good_by : (reader : EntryReader) (told : Bool) → told ≡ is_none reader.bad → told ≡ true → IsNone reader.bad
good_by reader told is good = none_of reader.bad (sym is ∙ good)

pub bad_by : (reader : EntryReader) (told : Bool) → told ≡ is_none reader.bad → told ≡ false → IsNone reader.bad → ⊥
bad_by reader told is off none =
    let bad = sym is ∙ off in
    let not_bad = ap not none in
    cc

pub course_there : (aim : AimView) (gave left : Option (List ℕ)) (bytes : List ℕ) (reader : EntryReader)
    (course : Course) (handed : List Claimed) (heard : IsHeardBy aim gave left bytes reader course handed)
    → IsCourseOf course.aim gave left course heard.said heard.events handed
course_there aim gave left bytes reader course handed heard =
    subst (λ (k : AimView). IsCourseOf k gave left course heard.said heard.events handed) (sym heard.so_far.settings)
    heard.so_far

-- where they come next, the course is so by its own settings
pub course_pending : (aim : AimView) (gave left : Option (List ℕ)) (bytes : List ℕ) (reader : EntryReader)
    (course : Course) (handed : List Claimed) (events : List Entry)
    (pending : IsPending aim gave left bytes reader course handed events)
    → IsCourseOf course.aim gave left course pending.said pending.before handed
course_pending aim gave left bytes reader course handed events pending =
    subst (λ (k : AimView). IsCourseOf k gave left course pending.said pending.before handed)
    (sym pending.so_far.settings) pending.so_far

-- and those that were taken out come next
pub pending_of : (aim : AimView) (gave left : Option (List ℕ)) (bytes : List ℕ) (old new : EntryReader)
    (course : Course) (handed : List Claimed) (events : List Entry)
    (heard : IsHeardBy aim gave left bytes old course handed)
    → HasReadOut new (lines_of bytes) (heard.events ++ events)
    → (0 < length events → AreEventsNext heard.events events)
    → IsPending aim gave left bytes new course handed events
pending_of aim gave left bytes old new course handed events heard read next =
    record { before = heard.events; has_read = read; said = heard.said; so_far = heard.so_far; next = next }

-- the first of them are joined, and the course is ready for the others
pub ready_first : (aim : AimView) (gave left rest : Option (List ℕ)) (bytes : List ℕ) (reader : EntryReader)
    (course later : Course) (handed : List Claimed) (events : List Entry) (n : ℕ)
    (pending : IsPending aim gave left bytes reader course handed events)
    → IsReadyFor course.aim gave rest later (pending.before ++ take n events) handed (drop n events)
    → IsReady aim gave rest bytes reader later handed (drop n events)
ready_first aim gave left rest bytes reader course later handed events n pending ready = record {
  before = pending.before ++ take n events;
  has_read = subst (HasReadOut reader (lines_of bytes)) (sym (both_parts pending.before events n)) pending.has_read;
  ready = record {
    said = ready.said;
    so_far = subst (λ (k : AimView). IsCourseOf k gave rest later ready.said (pending.before ++ take n events) handed)
        pending.so_far.settings ready.so_far;
    next = ready.next;
    past = ready.past;
  };
}

-- a course that is ready for them, by its own settings
unfoldable pub ready_there : (aim : AimView) (gave left : Option (List ℕ)) (bytes : List ℕ) (reader : EntryReader)
    (course : Course) (handed : List Claimed) (events : List Entry)
    (ready : IsReady aim gave left bytes reader course handed events)
    → IsReadyFor course.aim gave left course ready.before handed events
ready_there aim gave left bytes reader course handed events ready = record {
  said = ready.ready.said;
  so_far = subst (λ (k : AimView). IsCourseOf k gave left course ready.ready.said ready.before handed)
      (sym ready.ready.so_far.settings) ready.ready.so_far;
  next = ready.ready.next;
  past = ready.ready.past;
}

-- what was joined is handed on
pub ready_on : (aim : AimView) (gave left : Option (List ℕ)) (bytes : List ℕ) (reader : EntryReader)
    (course later : Course) (handed after : List Claimed) (events : List Entry)
    (ready : IsReady aim gave left bytes reader course handed events) → later.companion ≡ course.companion
    → IsCourseOf course.aim gave left later ready.ready.said ready.before after
    → IsReady aim gave left bytes reader later after events
ready_on aim gave left bytes reader course later handed after events ready same went = record {
  before = ready.before;
  has_read = ready.has_read;
  ready = record {
    said = ready.ready.said;
    so_far = subst (λ (k : AimView). IsCourseOf k gave left later ready.ready.said ready.before after)
        ready.ready.so_far.settings went;
    next = ready.ready.next;
    past = λ some. subst (λ (input : CompanionInput). IsPast (edge_of (ready.before ++ events)) ready.ready.said input)
        (sym same) (ready.ready.past some);
  };
}

-- and it went through them
pub gone_through : (aim : AimView) (gave left : Option (List ℕ)) (bytes : List ℕ) (reader : EntryReader)
    (course later : Course) (handed : List Claimed) (events : List Entry) (after : List Claimed)
    (ready : IsReady aim gave left bytes reader course handed events)
    → CourseGoesOn course.aim gave left later (ready.before ++ events) after
    → IsHeardBy aim gave left bytes reader later after
gone_through aim gave left bytes reader course later handed events after ready went = record {
  events = ready.before ++ events;
  has_read = ready.has_read;
  said = went.0;
  so_far = subst (λ (k : AimView). IsCourseOf k gave left later went.0 (ready.before ++ events) after)
      ready.ready.so_far.settings went.1;
}

-- ---- both inputs were read to their ends

pub read_to_end : (has_ended goes_on : Bool) → has_ended ≡ not goes_on → goes_on ≡ false → has_ended ≡ true
read_to_end has_ended goes_on ended off = ended ∙ ap not off

-- where an input doesn't go on, all that came of it was passed on
pub all_that_came : {R : Type 0} (reads : R → R → List (List ℕ) → Type 0) (gave left : Option (List ℕ))
    (blocks : LineBlocks) (done : List ℕ) (goes_on : Bool) → goes_on ≡ false
    → IsThen reads gave left blocks done goes_on → Agrees gave done
all_that_came reads gave left blocks done false ended stands = stands
all_that_came reads gave left blocks done true ended stands = absurd cc

module _ (aim : AimView) (gave left : Option (List ℕ)) (trace : EntryReader) (course : Course)
    (judge : Option Judge) (bytes : List ℕ) (all : IsHeard aim gave left bytes trace course judge)
    (ended : course.companion.goes_on ≡ false) where
  abbrev heard : IsHeardBy aim gave left bytes trace course all.handed
  heard = all.by

  -- the companion is this
  abbrev pub text_of : List ℕ
  text_of = heard.so_far.stands.done

  pub text_whole : Agrees gave text_of
  text_whole = all_that_came ReadsCompanion gave left course.companion.blocks heard.so_far.stands.done
      course.companion.goes_on ended heard.so_far.stands.stands

  whole_of : entries_of trace ≡ [] → IsIdle judge → IsReadOut trace (lines_of bytes) heard.events
      → IsWholeCourse course.aim course text_of heard.events judge
  whole_of none idle is =
      let so_far = heard.so_far in
      record {
        gave = gave;
        left = left;
        said = heard.said;
        handed = all.handed;
        so_far = record {
          settings = refl;
          edge = so_far.edge;
          passed = so_far.passed;
          stands = so_far.stands;
          audited = so_far.audited;
        };
        judged = all.judged;
        handed_on = all.handed_on;
        idle = idle;
        is_text = refl;
        ended = ended;
        all = all_events trace (lines_of bytes) heard.events none is;
      }

  pub none_left : IsAtEnd left
  none_left = heard.so_far.stands.at_end ended

  pub both_done : (IsNone trace.bad → entries_of trace ≡ []) → IsIdle judge
      → AreBothDone trace course judge bytes text_of
  both_done taken idle = record {
    events = heard.events;
    has_read = heard.has_read;
    taken = taken;
    done = (ended, (heard.said, heard.so_far.edge, heard.so_far.stands.read, heard.so_far.stands.few));
    joined = λ good. whole_of (taken good) idle (read_out trace (lines_of bytes) heard.events good heard.has_read);
  }

  pub hearing_is : (whole : Option (List ℕ)) (hearing : Hearing) → Agrees whole bytes
      → IsOutcome course.aim bytes text_of hearing.outcome × TellsCharges text_of hearing.tells_charges
      → IsHearingOf aim whole gave hearing
  hearing_is whole hearing agrees is = record {
    trace_bytes = bytes;
    companion_bytes = text_of;
    trace_whole = agrees;
    companion_whole = text_whole;
    answer = subst (λ (k : AimView). IsOutcome k bytes text_of hearing.outcome) heard.so_far.settings is.0;
    tells = is.1;
  }
