use Rattle.ftrace_line.proofs.OneReading.{answers_agree}
use Rattle.ftrace_line.proofs.reading.one_reading.Goals as goal

pub returns : goal.returns
returns c = answers_agree
