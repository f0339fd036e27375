-- An idle line that passed every test before the last one, and what the last one says of it.
use Rattle.std.proofs.Common.{◌≡◌, ℕ, Bool, true, false, not, ◌||◌, eqb, List, [], ◌∷◌, get_or, None, Result, Ok, Err}
use Rattle.std.proofs.Common.{refl, arith}
use Rattle.std.proofs.lemmas.Bool.{eq-eqb}
use Rattle.std.proofs.lemmas.List.Folds.{list_any_at}
use Rattle.cfs_model.specs.declared.task.Task.{Task}
use Rattle.companion_file.specs.declared.fault.Refusal.{Refusal}
use Rattle.companion_file.specs.declared.fault.Refusal.TheVariants as refusals
use Rattle.companion_file.specs.Shape.{Shape}
use Rattle.companion_file.specs.Earlier.{Said, is_task}
use Rattle.companion_file.specs.Tests.{fault_of}
use Rattle.companion_file.specs.Draft.{Adds, AddsTested, IsTaskIndex}

pub adds_tested : (old : Said) (x : Shape) (r : Result Unit Refusal) (new : Said) → fault_of old x ≡ None
    → Adds old x r new → AddsTested old x r new
adds_tested old x (Ok u) new none adds = (none, adds)
adds_tested old x (Err (refusals.Bad cause)) new none adds = absurd adds
adds_tested old x (Err refusals.Memory) new none adds = adds

pub is_there : (tasks : List Task) (pid index : ℕ) → IsTaskIndex tasks pid index → is_task tasks pid ≡ true
is_there [] pid index at = let within = at.within in absurd (omega (arith, within))
is_there (t ∷ tasks) pid index at =
    list_any_at (λ (u : Task). eqb u.pid pid) (t ∷ tasks) index t at.within
    (eq-eqb (get_or (t ∷ tasks) index t).pid pid (at.pid_is t))

-- the last test of an idle line
pub birth_known : (line : ℕ) (there : Bool) → eqb line 0 ≡ false → (not (eqb line 0) || there) ≡ true
birth_known line there birth = rw birth refl

pub start_known : (line : ℕ) (there : Bool) → there ≡ true → (not (eqb line 0) || there) ≡ true
start_known line there e = rw e (any_or (not (eqb line 0)))
  where
    any_or : (b : Bool) → (b || true) ≡ true
    any_or true = refl
    any_or false = refl

pub none_known : (line : ℕ) (there : Bool) → eqb line 0 ≡ true → there ≡ false → (not (eqb line 0) || there) ≡ false
none_known line there start e = rw (start, e) refl
