-- What is seen of a line in memory, and of what a reader answers.
use Rattle.std.specs.Prelude.{Result, Ok, Err}
use Rattle.ftrace_line.specs.declared.kinds.Line.{Line}
use Rattle.ftrace_line.specs.declared.kinds.Line.TheVariants as line_variants
use Rattle.ftrace_line.specs.declared.fault.LineFault.{LineFault}
use Rattle.ftrace_line.specs.Line.{LineView, comment, lost, other, sched}

-- what a line as the program has it means
abbrev pub line_view : Line → LineView
line_view line_variants.Comment = comment
line_view line_variants.Lost = lost
line_view line_variants.Other = other
line_view (line_variants.Sched event) = sched event.cpu event.time event.which event.rest.now

-- what an answer of the program means
abbrev pub line_answer_view : Result Line LineFault → Result LineView LineFault
line_answer_view (Ok line) = Ok (line_view line)
line_answer_view (Err fault) = Err fault
