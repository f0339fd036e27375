-- What a test answers: the pid of which it holds, or none. What a step's tests in their order answer: the fault of the
-- first that holds, or none (this project's profile).
use Rattle.std.specs.Prelude.{◌≡◌, ℕ, Option, Some, None, List}
use Rattle.replay_model.specs.Tests.{Test, NoneHolds, FirstHolds}
use Rattle.replay_model.specs.declared.page.StepFault.{StepFault}

-- whether a condition holds, and of which pid
abbrev pub Decides : Option ℕ → (ℕ → Type 0) → Type 0
Decides None holds = (pid : ℕ) → ¬ holds pid
Decides (Some pid) holds = holds pid

-- a fault on this line, without a deadline
abbrev pub IsOn : ℕ → StepFault → Type 0
IsOn line fault = (fault.line ≡ line) × (fault.deadline ≡ None)

-- the fault of the first test that holds, if one does
abbrev pub IsFirst : Option StepFault → List Test → Type 0
IsFirst None tests = NoneHolds tests
IsFirst (Some fault) tests = FirstHolds tests fault.kind fault.pid

-- the first of the tests that holds, if one does before the rest; else what is first among the rest is first
abbrev pub FindsFirst : Option StepFault → List Test → List Test → Type 0
FindsFirst None rest tests = (first : Option StepFault) → IsFirst first rest → IsFirst first tests
FindsFirst (Some fault) rest tests = FirstHolds tests fault.kind fault.pid
