use Rattle.std.proofs.Common.{◌++◌, codes, refl, subst}
use Rattle.text_parts.proofs.Runs.{text_taken}
use Rattle.text_parts.proofs.Times.{TakesFraction, fraction_taken}
use Rattle.ftrace_line.proofs.HeadParts.{group_taken, processor_taken}
use Rattle.ftrace_line.proofs.Fronts.{head_stands}
use Rattle.ftrace_line.proofs.usual.usual_head.Goals as goal

pub returns : goal.returns
returns c =
    let seconds = c.in_ok-seconds.seconds in
    let nanoseconds = c.in_ok-nanoseconds.nanoseconds in
    let fraction = c.in_ok-seconds.fraction.now in
    let rest = c.in_ok-text.text.now in
    let pid = c.in_ok-group.ensures in
    let colon = text_taken (codes ": ") _ rest c.in_ok-text.ensures in
    head_stands c.args.text.now c.in_ok-cpu.cpu seconds nanoseconds rest (record {
      pid = c.in_ok-pid.pid.now;
      pid_gap = pid.gap ++ c.in_ok-group.group.now;
      group = c.in_ok-group.group.now;
      bracket = c.in_ok-after_group.field-0.now;
      clock = c.in_ok-cpu.clock.now;
      fraction = fraction;
      name = c.in_ok-pid.ensures;
      digits = (pid.digits, pid.form, pid.parts);
      space = (pid.gap, pid.gap_form, refl);
      column = group_taken _ _ c.in_ok-after_group.ensures;
      processor = processor_taken _ _ _ c.in_ok-cpu.ensures;
      whole_seconds = c.in_ok-seconds.ensures;
      parts_of_second = subst (TakesFraction fraction nanoseconds) colon
          (fraction_taken fraction nanoseconds _ c.in_ok-nanoseconds.ensures.value);
    }) c.if-cpu-gt-GREATEST_PROCESSOR.false c.if-seconds-gt-GREATEST_SECONDS.false
