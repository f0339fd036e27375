-- The report as a JSON object (this project's format): its keys and its words are those of the report.
use Rattle.std.specs.Prelude.{ℕ, Bool, Option, Some, None, List, [], ◌++◌, Vec, codes, decimal, map}
use Rattle.std.specs.List.{concat}
use Rattle.audit_input.specs.Words.{cause_word, source_word}
use Rattle.audit_input.specs.declared.cause.Cause.{Cause}
use Rattle.audit_input.specs.declared.source.Source.{Source}
use Rattle.audit_report.specs.Report.{line_of, told_settings}
use Rattle.audit_report.specs.declared.counted.Counted.{Counted}
use Rattle.cfs_model.specs.Kinds.{name_of, text_of}
use Rattle.cfs_model.specs.Knobs.{KnobsView, value_at}
use Rattle.cfs_model.specs.Options.{name_of_setting}
use Rattle.cfs_model.specs.declared.kind.Kind.{Kind}
use Rattle.cfs_model.specs.declared.setting.Setting.{Setting}
use Rattle.fault_bounds.specs.declared.bound.Bound.{Bound}
use Rattle.least_places.specs.Place.{place_at, time_on_line}
use Rattle.least_places.specs.declared.figures.LeastFigures.{LeastFigures}
use Rattle.least_places.specs.declared.figures.LeastFigures.TheVariants as leasts
use Rattle.least_places.specs.declared.place.Place.{Place}
use Rattle.least_places.specs.declared.places.Places.{Places}
use Rattle.replay_model.specs.declared.first_fault.FirstFault.{FirstFault}
use Rattle.replay_model.specs.declared.page.Tally.{Tally}
use Rattle.report_json.specs.Json.{also, array_of, member, number_or_null, object, quoted, signed_wide, string_of, wide}
use Rattle.report_json.specs.declared.name.NameTold.{NameTold}
use Rattle.report_json.specs.declared.name.NameTold.TheVariants.{Untold, Told}
use Rattle.std.specs.declared.alloc.Global.{Global}
use Rattle.sched_record.specs.Record.{RecordView}
use Rattle.ticket_book.specs.SummaryView.{SummaryView, summary_view}
use Rattle.ticket_book.specs.declared.verdict.Verdict.{Verdict}
use Rattle.ticket_book.specs.declared.verdict.Verdict.TheVariants as verdicts
use Rattle.waiting_times.specs.Longest.{longest_of}
use Rattle.waiting_times.specs.Waits.{duration}
use Rattle.waiting_times.specs.declared.longest_wait.LongestWait.{LongestWait}
use Rattle.waiting_times.specs.declared.task_waits.TaskWaits.{TaskWaits}
use Rattle.waiting_times.specs.declared.wait.Wait.{Wait}

-- what came out
abbrev pub verdict_member : List ℕ → List ℕ
verdict_member word = member (codes "verdict") (quoted word)

-- what a task did
abbrev pub tally_object : Tally → List ℕ
tally_object t =
    object (member (codes "pid") (decimal t.pid) ++ (also (codes "ran") (wide t.ran)
    ++ (also (codes "charged") (wide t.charged) ++ also (codes "picks") (decimal t.picks))))

-- a run, and how often each thing happened in it
abbrev pub count_members : SummaryView → List ℕ
count_members summary =
    verdict_member (codes "run") ++ (also (codes "events") (decimal summary.events)
    ++ (also (codes "switches") (decimal summary.switches) ++ (also (codes "migrations") (decimal summary.migrations)
    ++ (also (codes "births") (decimal summary.births) ++ also (codes "deaths") (decimal summary.deaths)))))

-- that, and what each task did
abbrev pub run_members : SummaryView → List ℕ
run_members summary = count_members summary ++ also (codes "tasks") (array_of tally_object summary.tallies)

-- of a verdict that names no fault
abbrev pub verdict_members : Verdict → List ℕ
verdict_members (verdicts.Run summary) = run_members (summary_view summary)
verdict_members (verdicts.Fault fault) = []

-- the same by a run's counts alone
abbrev pub counts_of : Verdict → List ℕ
counts_of (verdicts.Run summary) = count_members (summary_view summary)
counts_of (verdicts.Fault fault) = []

abbrev pub counted_members : Counted → List ℕ
counted_members counted = counts_of counted.verdict

-- whom a picked task was above, if that is told
abbrev pub over_member : Option ℕ → List ℕ
over_member None = []
over_member (Some over) = also (codes "over") (decimal over)

-- where a figure is needed first, if it has a place; the time is in nanoseconds
abbrev pub place_members : Option Place → List ℕ
place_members None = []
place_members (Some place) =
    also (codes "line") (decimal place.line) ++ (also (codes "time") (decimal place.time)
    ++ (also (codes "cpu") (decimal place.cpu) ++ (also (codes "pid") (decimal place.pid) ++ over_member place.over)))

-- a setting by the name of its option: its figure, in nanoseconds, and where it is needed first
abbrev pub setting_member : KnobsView → Places → Setting → List ℕ
setting_member knobs places which =
    also (name_of_setting which) (object (member (codes "least") (decimal (value_at knobs which))
    ++ place_members (place_at places which)))

-- each of these settings
abbrev pub members_of_settings : KnobsView → Places → List Setting → List ℕ
members_of_settings knobs places settings = concat (map (setting_member knobs places) settings)

-- of least settings, by whether the companion tells charges; they name no fault
abbrev pub least_members : Bool → LeastFigures → List ℕ
least_members tells_charges (leasts.Found knobs places) =
    verdict_member (codes "least") ++ members_of_settings knobs places (told_settings tells_charges)
least_members tells_charges (leasts.Fault fault) = []

-- how long a wait was, in nanoseconds, the line where it began, null at the start, and where it ended, null at the end
abbrev pub edge_members : Wait → List ℕ
edge_members wait =
    also (codes "from") (number_or_null wait.from.line) ++ also (codes "to") (number_or_null wait.to.line)

abbrev pub wait_object : Wait → List ℕ
wait_object wait = object (member (codes "waited") (decimal (duration wait)) ++ edge_members wait)

-- the longest wait of a task
abbrev pub own_wait : Option Wait → List ℕ
own_wait None = codes "null"
own_wait (Some wait) = wait_object wait

abbrev pub own_wait_member : Option Wait → List ℕ
own_wait_member longest = also (codes "longest") (own_wait longest)

-- how often a task waited, and how long in all
abbrev pub total_members : TaskWaits → List ℕ
total_members task =
    member (codes "pid") (decimal task.pid) ++ (also (codes "times") (decimal task.times)
    ++ also (codes "total") (wide task.total))

-- that, and its longest wait
abbrev pub task_members : TaskWaits → List ℕ
task_members task = total_members task ++ own_wait_member task.longest

abbrev pub waits_object : TaskWaits → List ℕ
waits_object task = object (task_members task)

-- the longest wait of all tasks
abbrev pub longest_wait : Option LongestWait → List ℕ
longest_wait None = codes "null"
longest_wait (Some longest) =
    object (member (codes "pid") (decimal longest.pid)
    ++ (also (codes "waited") (decimal (duration longest.wait)) ++ edge_members longest.wait))

abbrev pub longest_member : Option LongestWait → List ℕ
longest_member longest = also (codes "longest") (longest_wait longest)

-- the waits of each
abbrev pub each_member : List TaskWaits → List ℕ
each_member tasks = also (codes "waits") (array_of waits_object tasks)

-- both
abbrev pub waits_members : List TaskWaits → List ℕ
waits_members tasks = longest_member (longest_of tasks) ++ each_member tasks

-- where they are told
abbrev pub told_waits_members : Option (List TaskWaits) → List ℕ
told_waits_members None = []
told_waits_members (Some tasks) = waits_members tasks

-- where a fault is, with the time of the event on its line, in nanoseconds
abbrev pub where_members : FirstFault → ℕ → List ℕ
where_members f time =
    verdict_member (codes "fault") ++ (also (codes "line") (decimal f.line) ++ (also (codes "time") (decimal time)
    ++ (also (codes "cpu") (decimal f.cpu) ++ also (codes "pid") (decimal f.pid))))

-- what is wrong
abbrev pub kind_members : Kind → List ℕ
kind_members kind = also (codes "kind") (quoted (name_of kind)) ++ also (codes "text") (quoted (text_of kind))

-- a fault
abbrev pub fault_members : FirstFault → ℕ → List ℕ
fault_members f time = where_members f time ++ kind_members f.kind

-- the time of the event on a fault's line
abbrev pub fault_time : RecordView → Option FirstFault → ℕ
fault_time r None = 0
fault_time r (Some fault) = time_on_line r.events fault.line

-- the two numbers that the rule of a fault compares, null where none are told
abbrev pub number_members : Bound → List ℕ
number_members bound =
    member (codes "value") (signed_wide bound.value) ++ also (codes "limit") (signed_wide bound.limit)

abbrev pub bound_value : Option Bound → List ℕ
bound_value None = codes "null"
bound_value (Some bound) = object (number_members bound)

abbrev pub bound_member : Option Bound → List ℕ
bound_member bound = also (codes "bound") (bound_value bound)

-- the name of a task, null where it isn't known
abbrev pub name_value : Option (Vec ℕ Global) → List ℕ
name_value None = codes "null"
name_value (Some name) = string_of name.items

abbrev pub name_member : NameTold → List ℕ
name_member Untold = []
name_member (Told name) = also (codes "name") (name_value name)

-- a fault, with its task's name and its numbers
abbrev pub all_members : FirstFault → ℕ → NameTold → Option Bound → List ℕ
all_members f time name bound = fault_members f time ++ (name_member name ++ bound_member bound)

-- the report: of a fault with all that is told of it, or by the members that are told where none is named
abbrev pub told_object : Option FirstFault → ℕ → NameTold → Option Bound → List ℕ → List ℕ
told_object None time name bound members = line_of (object members)
told_object (Some fault) time name bound members = line_of (object (all_members fault time name bound))

-- which text is refused
abbrev pub source_members : Source → List ℕ
source_members source = verdict_member (codes "refused") ++ also (codes "text") (quoted (source_word source))

-- where and why
abbrev pub cause_members : ℕ → Cause → List ℕ
cause_members line cause = also (codes "line") (decimal line) ++ also (codes "cause") (quoted (cause_word cause))

-- all of it
abbrev pub refusal_members : Source → ℕ → Cause → List ℕ
refusal_members source line cause = source_members source ++ cause_members line cause

-- the report of a refusal
abbrev pub refusal_object : Source → ℕ → Cause → List ℕ
refusal_object source line cause = line_of (object (refusal_members source line cause))
