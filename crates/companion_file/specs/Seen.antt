-- What is seen of a companion in memory, and what is returned for a text.
use Rattle.std.specs.Prelude.{◌≡◌, ℕ, List, Result, Ok, Err}
use Rattle.companion_file.specs.declared.fault.CompanionCause.{CompanionCause}
use Rattle.companion_file.specs.declared.fault.CompanionFault.{CompanionFault}
use Rattle.companion_file.specs.declared.fault.CompanionFault.TheVariants as faults
use Rattle.companion_file.specs.declared.companion.Companion.{Companion}
use Rattle.companion_file.specs.Companion.{CompanionAnswer, CompanionView}

-- a companion without where it lies in memory
abbrev pub companion_view : Companion → CompanionView
companion_view c = record {
  cpus = c.cpus;
  start = c.start;
  floors = c.floors;
  tasks = c.tasks;
  claims = c.claims;
  nices = c.nices;
  idles = c.idles;
  charges = c.charges;
}

-- what was returned is this answer; of want of memory nothing is said
abbrev pub IsReturned : Result Companion CompanionFault → Result CompanionView (ℕ × CompanionCause) → Type 0
IsReturned (Ok c) answer = answer ≡ Ok (companion_view c)
IsReturned (Err (faults.Text line cause)) answer = answer ≡ Err (line, cause)
IsReturned (Err faults.Memory) answer = Unit {0}

-- what was returned is what the text means; of want of memory nothing is said
abbrev pub IsAnswered : List ℕ → Result Companion CompanionFault → Type 0
IsAnswered text (Ok c) = CompanionAnswer text (Ok (companion_view c))
IsAnswered text (Err (faults.Text line cause)) = CompanionAnswer text (Err (line, cause))
IsAnswered text (Err faults.Memory) = Unit {0}
