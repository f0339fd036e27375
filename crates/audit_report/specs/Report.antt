-- The report (this project's format): its lines, each ended by a line feed, with numbers in plain decimal.
use Rattle.std.specs.Prelude.{ℕ, ◌^◌, ◌-◌, ◌/◌, ◌%◌, Bool, true, false, Option, Some, None, List, [], ◌∷◌, ◌++◌, codes}
use Rattle.std.specs.Prelude.{decimal, map}
use Rattle.std.specs.Fmt.{format_spec, padded_integral}
use Rattle.std.specs.List.{concat}
use Rattle.audit_input.specs.Words.{cause_word, source_word}
use Rattle.audit_input.specs.declared.cause.Cause.{Cause}
use Rattle.audit_input.specs.declared.source.Source.{Source}
use Rattle.audit_report.specs.declared.outcome.Outcome.{Outcome}
use Rattle.audit_report.specs.declared.outcome.Outcome.TheVariants.{Judged, Text}
use Rattle.cfs_model.specs.Kinds.{name_of, text_of}
use Rattle.cfs_model.specs.Knobs.{KnobsView, all_settings, value_at}
use Rattle.cfs_model.specs.Options.{name_of_setting}
use Rattle.cfs_model.specs.declared.setting.Setting.{Setting}
use Rattle.cfs_model.specs.declared.setting.Setting.TheVariants.{Granularity, Credit, Debit, Slack}
use Rattle.cfs_model.specs.declared.kind.Kind.{Kind}
use Rattle.least_places.specs.Place.{place_at}
use Rattle.least_places.specs.declared.figures.LeastFigures.{LeastFigures}
use Rattle.least_places.specs.declared.figures.LeastFigures.TheVariants as leasts
use Rattle.least_places.specs.declared.place.Place.{Place}
use Rattle.least_places.specs.declared.places.Places.{Places}
use Rattle.replay_model.specs.declared.first_fault.FirstFault.{FirstFault}
use Rattle.replay_model.specs.declared.page.Tally.{Tally}
use Rattle.ticket_book.specs.SummaryView.{SummaryView, summary_view}
use Rattle.ticket_book.specs.declared.verdict.Verdict.{Verdict}
use Rattle.ticket_book.specs.declared.verdict.Verdict.TheVariants as verdicts
use Rattle.ticket_book.specs.Verdict.{IsVerdict}
use Rattle.sched_record.specs.Record.{RecordView}
use Rattle.audit_report.specs.declared.counted.Counted.{Counted}

-- a text, and then a line feed
abbrev pub line_of : List ℕ → List ℕ
line_of text = text ++ 10 ∷ []

-- a number and what it counts
abbrev pub count_line : List ℕ → ℕ → List ℕ
count_line what count = line_of (what ++ (codes " " ++ decimal count))

-- what a task did, in nanoseconds, virtual nanoseconds and switches to it
abbrev pub tally_line : Tally → List ℕ
tally_line t =
    line_of (codes "task " ++ (decimal t.pid ++ (codes " ran " ++ (decimal t.ran
    ++ (codes " charged " ++ (decimal t.charged ++ (codes " picks " ++ decimal t.picks)))))))

-- a run, and how often each thing happened in it
abbrev pub count_lines : SummaryView → List ℕ
count_lines summary =
    line_of (codes "run") ++ (count_line (codes "events") summary.events
    ++ (count_line (codes "switches") summary.switches
    ++ (count_line (codes "migrations") summary.migrations ++ (count_line (codes "births") summary.births
    ++ count_line (codes "deaths") summary.deaths))))

-- what each task did
abbrev pub tally_lines : List Tally → List ℕ
tally_lines tallies = concat (map tally_line tallies)

-- a run, and what it did
abbrev pub run_lines : SummaryView → List ℕ
run_lines summary = count_lines summary ++ tally_lines summary.tallies

-- what is wrong, by the kind's name and text
abbrev pub words_of : Kind → List ℕ
words_of kind = name_of kind ++ (codes ": " ++ text_of kind)

-- the line of a fault
abbrev pub fault_line : FirstFault → List ℕ
fault_line f =
    line_of (codes "fault line " ++ (decimal f.line ++ (codes " cpu " ++ (decimal f.cpu
    ++ (codes " pid " ++ (decimal f.pid ++ (codes " " ++ words_of f.kind)))))))

-- the line of a refusal
abbrev pub refusal_line : Source → ℕ → Cause → List ℕ
refusal_line source line cause =
    line_of (codes "refused " ++ (source_word source
    ++ (codes " line " ++ (decimal line ++ (codes " " ++ cause_word cause)))))

-- a number of nine digits at most, with zeros in front
abbrev pub nine_digits : ℕ → List ℕ
nine_digits number = padded_integral (format_spec 32 0 4 9 (2 ^ 64 - 1)) false [] (decimal number)

-- whom a picked task was above, if that is told
abbrev pub over_words : Option ℕ → List ℕ
over_words None = []
over_words (Some over) = codes " over " ++ decimal over

-- where a figure is needed first, if it has a place; the time is in seconds, with nine digits behind the point
abbrev pub place_words : Option Place → List ℕ
place_words None = []
place_words (Some place) =
    codes " line " ++ (decimal place.line ++ (codes " time " ++ (decimal (place.time / 1000000000) ++ (codes "."
    ++ (nine_digits (place.time % 1000000000) ++ (codes " cpu " ++ (decimal place.cpu ++ (codes " pid "
    ++ (decimal place.pid ++ over_words place.over)))))))))

-- a setting, in nanoseconds, by the name of its option, and where it is needed first
abbrev pub setting_line : KnobsView → Places → Setting → List ℕ
setting_line knobs places which =
    line_of (codes "least " ++ (name_of_setting which ++ (codes " " ++ (decimal (value_at knobs which)
    ++ place_words (place_at places which)))))

-- each of these settings
abbrev pub lines_of_settings : KnobsView → Places → List Setting → List ℕ
lines_of_settings knobs places settings = concat (map (setting_line knobs places) settings)

-- the settings that are told: the drift among them where the companion tells charges
abbrev pub told_settings : Bool → List Setting
told_settings true = all_settings
told_settings false = Granularity ∷ Credit ∷ Debit ∷ Slack ∷ []

-- each of those
abbrev pub setting_lines : Bool → KnobsView → Places → List ℕ
setting_lines tells_charges knobs places = lines_of_settings knobs places (told_settings tells_charges)

-- what is written for a verdict
abbrev pub verdict_lines : Verdict → List ℕ
verdict_lines (verdicts.Run summary) = run_lines (summary_view summary)
verdict_lines (verdicts.Fault fault) = fault_line fault

-- and the fault that it names
abbrev pub verdict_fault : Verdict → Option FirstFault
verdict_fault (verdicts.Run summary) = None
verdict_fault (verdicts.Fault fault) = Some fault

-- a verdict that is told by its counts
abbrev pub IsCounted : KnobsView → RecordView → Counted → Type 0
IsCounted knobs r counted = IsVerdict knobs r counted.verdict

-- what is written for a verdict where a run is told by its counts alone
abbrev pub counts_of : Verdict → List ℕ
counts_of (verdicts.Run summary) = count_lines (summary_view summary)
counts_of (verdicts.Fault fault) = fault_line fault

abbrev pub counted_lines : Counted → List ℕ
counted_lines counted = counts_of counted.verdict

-- and the fault that it names
abbrev pub counted_fault : Counted → Option FirstFault
counted_fault counted = verdict_fault counted.verdict

-- what is written for least settings, by whether the companion tells charges
abbrev pub least_lines : Bool → LeastFigures → List ℕ
least_lines tells_charges (leasts.Found knobs places) = setting_lines tells_charges knobs places
least_lines tells_charges (leasts.Fault fault) = fault_line fault

-- and the fault that they name
abbrev pub least_fault : LeastFigures → Option FirstFault
least_fault (leasts.Found knobs places) = None
least_fault (leasts.Fault fault) = Some fault

-- what is written for an outcome, by what is written for a refusal and for what was judged
abbrev pub report_by : {J : Type 0} → (Source → ℕ → Cause → List ℕ) → (J → List ℕ) → Outcome J → List ℕ
report_by refusal lines (Judged judged) = lines judged
report_by refusal lines (Text source line cause) = refusal source line cause

-- the same, with the line of a refusal
abbrev pub report_of : {J : Type 0} → (J → List ℕ) → Outcome J → List ℕ
report_of lines = report_by refusal_line lines
