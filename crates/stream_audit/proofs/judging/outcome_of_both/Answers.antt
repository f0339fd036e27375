use Rattle.std.proofs.Common.{◌++◌, sym, subst}
use Rattle.text_parts.specs.Lines.{lines_of}
use Rattle.entry_reader.specs.Reader.{entries_of}
use Rattle.stream_audit.specs.Hearing.{IsRefusalOf}
use Rattle.stream_audit.proofs.Heard.{trace_refused, trace_told, whole_course}
use Rattle.stream_audit.proofs.judging.outcome_of_both.Goals as goal

pub finish-requires-in-Ok : goal.finish-requires-in-Ok
finish-requires-in-Ok c =
    let bytes = c.requires.0 in
    let text = c.requires.1 in
    let both = c.requires.2 in (
      text,
      both.events,
      whole_course c.one_trace_answer.ensures c.args.trace.now c.args.course.now c.args.judge bytes text both
          (c.in-Ok.ensures (lines_of bytes) both.events both.has_read),
    )

pub returns-in_ok-finish-in-Ok : goal.returns-in_ok-finish-in-Ok
returns-in_ok-finish-in-Ok c = λ bytes text both.
    let trace = c.args.trace.now in
    let one = c.one_trace_answer.ensures in
    let ends = c.in-Ok.ensures (lines_of bytes) both.events both.has_read in
    c.outcome_of.ensures c.args.course.now.aim bytes text both.events
    (trace_told one trace c.args.course.now c.args.judge bytes text both ends)
    (c.in_ok-finish-in-Ok.ensures text both.events
    (whole_course one trace c.args.course.now c.args.judge bytes text both ends))

pub returns-in-Err : goal.returns-in-Err
returns-in-Err c = λ bytes text both.
    c.refused.ensures c.args.course.now.aim bytes text (subst (IsRefusalOf bytes text) (sym c.into.ensures)
    (trace_refused bytes text (both.events ++ entries_of c.args.trace.now) c.in-Err.fault
    (c.in-Err.ensures (lines_of bytes) both.events both.has_read)))
