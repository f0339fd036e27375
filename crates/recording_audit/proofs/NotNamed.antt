-- A line by whose meaning no real-time task is named begins no cut for one.
use Rattle.std.proofs.Common.{◌≡◌, ℕ, List, ◌∷◌, Result, Ok, Err, None, subst}
use Rattle.cfs_model.specs.Knobs.{KnobsView}
use Rattle.ftrace_line.specs.Line.{LineAnswer, LineView, sched}
use Rattle.ftrace_line.specs.Seen.{line_answer_view}
use Rattle.ftrace_line.specs.declared.fault.LineFault.{LineFault}
use Rattle.ftrace_line.specs.declared.kinds.Line.{Line}
use Rattle.ftrace_line.specs.declared.kinds.Line.TheVariants as lines
use Rattle.ftrace_line.specs.declared.kinds.Sched.{Sched}
use Rattle.ftrace_line.specs.declared.kinds.Which.{Which}
use Rattle.sched_event.specs.Event.{HasRealTimePrio}
use Rattle.text_parts.specs.Lines.{lines_of}
use Rattle.recording_audit.specs.Causes.{IsCauseOf, IsPassedFirst}
use Rattle.recording_audit.specs.Tasks.{IsNamed, real_time_cut}
use Rattle.recording_audit.specs.declared.cut_cause.CutCause.{CutCause}
use Rattle.sched_event.specs.declared.fault.EventFault.TheVariants as events
use Rattle.sched_record.specs.declared.cause.TraceCause.TheVariants as traces

pub none_named : (limits : KnobsView) (before text : List ℕ) (count : ℕ) (cause : CutCause) (line : List ℕ)
    (after : List (List ℕ)) (answer : Result LineView LineFault) → lines_of text ≡ line ∷ after
    → LineAnswer line answer
    → ((l : List ℕ) (a b : Result LineView LineFault) → LineAnswer l a → LineAnswer l b → a ≡ b)
    → IsCauseOf limits before text count cause
    → ((cpu time : ℕ) (which : Which) (rest : List ℕ) → answer ≡ Ok (sched cpu time which rest)
    → HasRealTimePrio which rest → ⊥) → IsNamed text cause None
none_named limits before text count cause line after answer lines means one is other = record {
  so = tt;
  some = λ e. absurd (
      let first : IsPassedFirst text (traces.Event events.RealTime) = subst (IsCauseOf limits before text count) e is in
      let passed = first.passed in
      let same : first.line ≡ line = cc (first.lines, lines) in
      other passed.cpu passed.time passed.which passed.rest
      (one line answer (Ok (sched passed.cpu passed.time passed.which passed.rest)) means
      (subst (λ l. LineAnswer l (Ok (sched passed.cpu passed.time passed.which passed.rest))) same passed.head))
      passed.text);
}

-- a line that was read is no event where it was read as something else
pub comment_apart : (read : Result Line LineFault) → read ≡ Ok lines.Comment → (cpu time : ℕ) (which : Which)
    (rest : List ℕ) → line_answer_view read ≡ Ok (sched cpu time which rest) → ⊥
comment_apart read is cpu time which rest same =
    let e = subst (λ r. line_answer_view r ≡ Ok (sched cpu time which rest)) is same in absurd cc

pub lost_apart : (read : Result Line LineFault) → read ≡ Ok lines.Lost → (cpu time : ℕ) (which : Which)
    (rest : List ℕ) → line_answer_view read ≡ Ok (sched cpu time which rest) → ⊥
lost_apart read is cpu time which rest same =
    let e = subst (λ r. line_answer_view r ≡ Ok (sched cpu time which rest)) is same in absurd cc

pub other_apart : (read : Result Line LineFault) → read ≡ Ok lines.Other → (cpu time : ℕ) (which : Which)
    (rest : List ℕ) → line_answer_view read ≡ Ok (sched cpu time which rest) → ⊥
other_apart read is cpu time which rest same =
    let e = subst (λ r. line_answer_view r ≡ Ok (sched cpu time which rest)) is same in absurd cc

pub bad_apart : (read : Result Line LineFault) (fault : LineFault) → read ≡ Err fault → (cpu time : ℕ) (which : Which)
    (rest : List ℕ) → line_answer_view read ≡ Ok (sched cpu time which rest) → ⊥
bad_apart read fault is cpu time which rest same =
    let e = subst (λ r. line_answer_view r ≡ Ok (sched cpu time which rest)) is same in absurd cc

-- and where it was read as an event, it is that one
pub refused_as : (read : Result Line LineFault) (event : Sched) → read ≡ Ok (lines.Sched event) → (cpu time : ℕ)
    (which : Which) (rest : List ℕ) → line_answer_view read ≡ Ok (sched cpu time which rest)
    → HasRealTimePrio which rest → HasRealTimePrio event.which event.rest.now
refused_as read event is cpu time which rest same has =
    let e = subst (λ r. line_answer_view r ≡ Ok (sched cpu time which rest)) is same in
    let w : which ≡ event.which = cc in
    let r : rest ≡ event.rest.now = cc in
    subst (λ x. HasRealTimePrio event.which x) r (subst (λ x. HasRealTimePrio x rest) w has)
