-- The real-time task at whose line a cut was made (this project's profile).
use Rattle.std.specs.Prelude.{◌≡◌, ℕ, List, ◌∷◌, Option, IfSome, IsSome, Ok}
use Rattle.ftrace_line.specs.Line.{LineAnswer, sched}
use Rattle.ftrace_line.specs.declared.kinds.Which.{Which}
use Rattle.sched_event.specs.RealTime.{NamesRealTime}
use Rattle.sched_event.specs.declared.fault.EventFault.TheVariants as events
use Rattle.sched_record.specs.declared.cause.TraceCause.TheVariants as traces
use Rattle.text_parts.specs.Lines.{lines_of}
use Rattle.recording_audit.specs.declared.cut_cause.CutCause.{CutCause}
use Rattle.recording_audit.specs.declared.cut_cause.CutCause.TheVariants as causes
use Rattle.recording_audit.specs.declared.cut_task.CutTask.{CutTask}

-- the cause of a cut that was made for a real-time or deadline task
abbrev pub real_time_cut : CutCause
real_time_cut = causes.Refused (traces.Event events.RealTime)

-- the first line of a text names this real-time or deadline task, and none left of it
pub record NamesFirst (text : List ℕ) (task : CutTask) : Type 0 where
  pub line : List ℕ
  pub after : List (List ℕ)
  pub lines : lines_of text ≡ line ∷ after
  pub cpu : ℕ
  pub time : ℕ
  pub which : Which
  pub rest : List ℕ
  pub reads : LineAnswer line (Ok (sched cpu time which rest))
  pub names : NamesRealTime which rest task.name.items task.pid

-- of a cut with this text and this cause: the task that it names is so, and where it was made for such a task it names
-- one
pub record IsNamed (text : List ℕ) (cause : CutCause) (task : Option CutTask) : Type 0 where
  pub so : IfSome task (NamesFirst text)
  pub some : cause ≡ real_time_cut → IsSome task
