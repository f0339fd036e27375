-- What is found of a record (this project's profile).
use Rattle.std.specs.Prelude.{Bool, true, false}
use Rattle.least_places.specs.declared.found.Finding.{Finding}
use Rattle.least_places.specs.declared.found.Finding.TheVariants as findings
use Rattle.cfs_model.specs.Knobs.{KnobsView}
use Rattle.least_places.specs.LeastAnswer.{IsLeastAnswer}
use Rattle.sched_record.specs.Record.{RecordView}
use Rattle.ticket_book.specs.Verdict.{IsVerdict}

-- where the least settings are asked for, these with their places, and else a verdict at the settings
abbrev pub IsFinding : Bool → KnobsView → RecordView → Finding → Type 0
IsFinding false knobs r (findings.Verdict verdict) = IsVerdict knobs r verdict
IsFinding false knobs r (findings.Least least) = ⊥
IsFinding true knobs r (findings.Verdict verdict) = ⊥
IsFinding true knobs r (findings.Least least) = IsLeastAnswer r least
