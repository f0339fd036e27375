-- The report of a recording (this project's format): a line for each stretch and each cut, in the order of the parts,
-- and one that says how much was judged. Each ends in a line feed, with numbers in plain decimal.
use Rattle.std.specs.Prelude.{ℕ, ◌+◌, ◌-◌, ◌^◌, ◌/◌, ◌%◌, ◌==◌, min, Bool, true, false, ◌||◌, if◌then◌else◌}
use Rattle.std.specs.Prelude.{Option, Some, None, List, [], ◌∷◌, ◌++◌, codes, decimal, map}
use Rattle.std.specs.Fmt.{digits, format_spec, padded_integral}
use Rattle.std.specs.Int.{is_in_range}
use Rattle.std.specs.List.{concat}
use Rattle.cfs_model.specs.Kinds.{name_of, text_of}
use Rattle.cfs_model.specs.Knobs.{KnobsView, value_at}
use Rattle.cfs_model.specs.Options.{name_of_setting}
use Rattle.cfs_model.specs.declared.kind.Kind.{Kind}
use Rattle.cfs_model.specs.declared.kind.Kind.TheVariants.{IdleTooLong, Range, WrongCharge}
use Rattle.cfs_model.specs.declared.setting.Setting.{Setting}
use Rattle.ftrace_line.specs.declared.fault.LineFault.TheVariants as lines
use Rattle.sched_event.specs.declared.fault.EventFault.TheVariants as events
use Rattle.sched_record.specs.declared.cause.TraceCause.{TraceCause}
use Rattle.sched_record.specs.declared.cause.TraceCause.TheVariants as traces
use Rattle.replay_model.specs.declared.first_fault.FirstFault.{FirstFault}
use Rattle.audit_report.specs.Report.{fault_line, line_of, nine_digits, told_settings}
use Rattle.recording_audit.specs.declared.cut_cause.CutCause.{CutCause}
use Rattle.recording_audit.specs.declared.cut_cause.CutCause.TheVariants as causes
use Rattle.recording_audit.specs.declared.cut_task.CutTask.{CutTask}
use Rattle.recording_audit.specs.declared.part.Cut.{Cut}
use Rattle.recording_audit.specs.declared.part.Part.{Part}
use Rattle.recording_audit.specs.declared.part.Stretch.{Stretch}
use Rattle.recording_audit.specs.declared.part.Told.{Told}
use Rattle.recording_audit.specs.declared.part.Told.TheVariants as told
use Rattle.recording_audit.specs.declared.tally.Tally.{Tally}

-- a number of six digits at most, with zeros in front
abbrev pub six_digits : ℕ → List ℕ
six_digits number = padded_integral (format_spec 32 0 4 6 (2 ^ 64 - 1)) false [] (decimal number)

-- the nanoseconds beyond whole seconds: with six digits, or with nine where they are no whole number of microseconds
abbrev pub fraction_words : ℕ → List ℕ
fraction_words beyond = if beyond % 1000 == 0 then six_digits (beyond / 1000) else nine_digits beyond

-- a time in nanoseconds, in seconds
abbrev pub seconds_words : ℕ → List ℕ
seconds_words time = decimal (time / 1000000000) ++ (codes "." ++ fraction_words (time % 1000000000))

-- a line that is refused: the auditor's word for the cause, and what that means here
abbrev pub refusal_words : TraceCause → List ℕ
refusal_words traces.TooManyLines = codes "TooManyLines"
refusal_words (traces.Line lines.BadHead) = codes "BadHead"
refusal_words (traces.Line lines.NumberRange) = codes "NumberRange"
refusal_words traces.LostEvents = codes "LostEvents: a processor's events are missing before this line"
refusal_words (traces.Event events.BadFields) = codes "BadFields"
refusal_words (traces.Event events.NumberRange) = codes "NumberRange"
refusal_words (traces.Event events.RealTime) =
    codes "RealTime: a real-time or deadline task, whose time is no other task's"
refusal_words (traces.Event events.PrioRange) = codes "PrioRange"
refusal_words (traces.Event events.IdleNamed) = codes "IdleNamed"
refusal_words traces.TimeBack = codes "TimeBack"

-- what a fault at all settings comes from: these three have their own text, and before others an event is missing
abbrev pub meaning_of : Kind → List ℕ
meaning_of IdleTooLong = text_of IdleTooLong
meaning_of Range = text_of Range
meaning_of WrongCharge = text_of WrongCharge
meaning_of kind = codes "an event is missing before this line"

-- a fault at all settings: its kind's name, where it is, and what it comes from
abbrev pub fault_words : FirstFault → List ℕ
fault_words f =
    name_of f.kind ++ (codes ": cpu " ++ (decimal f.cpu ++ (codes " pid " ++ (decimal f.pid ++ (codes ": "
    ++ meaning_of f.kind)))))

-- why lines stand in no stretch
abbrev pub cause_words : CutCause → List ℕ
cause_words (causes.Refused cause) = refusal_words cause
cause_words causes.BufferStarted =
    codes "BufferStarted: before the last of these lines a processor's events are missing"
cause_words (causes.Fault fault) = fault_words fault
cause_words causes.CpuOutside = codes "CpuOutside"
cause_words causes.Short = codes "Short: fewer events than --min-events asks for"
cause_words causes.Unsettled = codes "Unsettled: no stretch was found that begins here"

-- the numbers of the lines from one to another
abbrev pub numbers_words : ℕ → ℕ → List ℕ
numbers_words first last =
    if first == last then codes "line " ++ decimal first
    else (codes "lines " ++ (decimal first ++ (codes "-" ++ decimal last)))

-- a byte of a name: that of a sign of ASCII which is printed, and any other by its number, in two digits to base 16
abbrev pub shown_byte : ℕ → List ℕ
shown_byte byte =
    if is_in_range 32 126 byte then byte ∷ []
    else codes "\\x" ++ padded_integral (format_spec 32 0 4 2 (2 ^ 64 - 1)) false [] (digits 16 false byte)

-- a name
abbrev pub shown_name : List ℕ → List ℕ
shown_name name = concat (map shown_byte name)

-- the real-time task at whose line a cut was made, where it was made at one's
abbrev pub task_words : Option CutTask → List ℕ
task_words None = []
task_words (Some task) =
    codes ": pid " ++ (decimal task.pid ++ (codes " (" ++ (shown_name task.name.items ++ codes ")")))

-- the line of a cut
abbrev pub cut_line : ℕ → ℕ → Cut → List ℕ
cut_line first last cut =
    line_of (codes "cut " ++ (numbers_words first last ++ (codes " "
    ++ (cause_words cut.cause ++ task_words cut.task))))

-- a setting by the name of its option, in nanoseconds
abbrev pub setting_words : KnobsView → Setting → List ℕ
setting_words knobs which = codes " " ++ (name_of_setting which ++ (codes " " ++ decimal (value_at knobs which)))

-- each of these settings
abbrev pub words_of_settings : KnobsView → List Setting → List ℕ
words_of_settings knobs settings = concat (map (setting_words knobs) settings)

-- of a stretch of this number: its lines, its times and how many events it has
abbrev pub stretch_words : ℕ → ℕ → ℕ → Stretch → List ℕ
stretch_words number first last stretch =
    codes "stretch " ++ (decimal number ++ (codes " lines " ++ (decimal first ++ (codes "-" ++ (decimal last
    ++ (codes " times " ++ (seconds_words stretch.begins ++ (codes "-" ++ (seconds_words stretch.ends
    ++ (codes " events " ++ (decimal stretch.events ++ codes ": run")))))))))))

-- where the values of a companion come from: from the kernel, whose charges it then states, or from a guess
abbrev pub values_words : Bool → List ℕ
values_words true = codes " values kernel"
values_words false = codes " values guessed"

-- the line of a stretch: that, the least settings, the drift among them where the companion tells charges, and where
-- the companion's values come from
abbrev pub stretch_line : ℕ → ℕ → ℕ → Stretch → List ℕ
stretch_line number first last stretch =
    stretch_words number first last stretch
    ++ (words_of_settings stretch.least (told_settings stretch.tells_charges)
    ++ line_of (values_words stretch.tells_charges))

-- a count with so many more, as far as 64 bits count
abbrev pub more : ℕ → ℕ → ℕ
more count some = min (count + some) (2 ^ 64 - 1)

-- the line of what is wrong at the limits in a stretch that begins at this line, if something is: it is numbered in the
-- recording
abbrev pub over_line : ℕ → Option FirstFault → List ℕ
over_line first None = []
over_line first (Some fault) = fault_line (record fault { line = more first fault.line - 1 })

-- the lines of a part, where it is a stretch one of this number
abbrev pub told_lines : ℕ → ℕ → ℕ → Told → List ℕ
told_lines number first last (told.Stretch stretch) =
    stretch_line number first last stretch ++ over_line first stretch.over
told_lines number first last (told.Cut cut) = cut_line first last cut
told_lines number first last told.Quiet = []

abbrev pub part_lines : ℕ → Part → List ℕ
part_lines number part = told_lines number part.first part.last part.told

-- nothing is counted
abbrev pub no_count : Tally
no_count = record { stretches = 0; cuts = 0; judged = 0; events = 0; is_over = false }

-- whether something is wrong at the limits
abbrev pub is_over : Option FirstFault → Bool
is_over None = false
is_over (Some fault) = true

-- one more part is counted: the events of a stretch are judged, those of a cut aren't
abbrev pub counted : Tally → Told → Tally
counted tally (told.Stretch stretch) = record {
  stretches = more tally.stretches 1;
  cuts = tally.cuts;
  judged = more tally.judged stretch.events;
  events = more tally.events stretch.events;
  is_over = tally.is_over || is_over stretch.over;
}
counted tally (told.Cut cut) = record {
  stretches = tally.stretches;
  cuts = more tally.cuts 1;
  judged = tally.judged;
  events = more tally.events cut.events;
  is_over = tally.is_over;
}
counted tally told.Quiet = tally

-- a word for one, and another for none and for several
abbrev pub word_for : ℕ → List ℕ → List ℕ → List ℕ
word_for count one several = if count == 1 then one else several

-- how much was judged
abbrev pub tally_words : Tally → List ℕ
tally_words t =
    codes "judged " ++ (decimal t.judged ++ (codes " of " ++ (decimal t.events ++ (codes " events in "
    ++ (decimal t.stretches ++ (codes " " ++ (word_for t.stretches (codes "stretch") (codes "stretches")
    ++ (codes ", " ++ (decimal t.cuts ++ (codes " " ++ word_for t.cuts (codes "cut") (codes "cuts")))))))))))

-- the lines of these parts behind others that were counted, and how much was judged of all
abbrev pub lines_behind : Tally → List Part → List ℕ
lines_behind tally [] = line_of (tally_words tally)
lines_behind tally (part ∷ parts) =
    part_lines (counted tally part.told).stretches part ++ lines_behind (counted tally part.told) parts

-- the report of these parts
abbrev pub report_lines : List Part → List ℕ
report_lines parts = lines_behind no_count parts
