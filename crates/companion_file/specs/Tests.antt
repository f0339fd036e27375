-- The tests of a line of a companion, after what the lines before it say (this project's companion format).
use Rattle.std.specs.Prelude.{◌≡◌, ℕ, ℤ, pos, negsuc, neg_ℤ, int_le, Bool, true, false, not, ◌&&◌, ◌||◌, nat_le, nat_lt}
use Rattle.std.specs.Prelude.{◌==◌, if◌then◌else◌, List, length, Option, Some, None, Result, Ok, Err, unwrap_or}
use Rattle.std.specs.Prelude.{is_some, ◌⊎◌, MatchOption}
use Rattle.std.specs.Option.{option_map_or, is_none}
use Rattle.cfs_model.specs.Limits.{greatest_runtime, greatest_pid, most_processors, greatest_seconds, greatest_line}
use Rattle.cfs_model.specs.Limits.{no_line}
use Rattle.companion_file.specs.declared.fault.CompanionCause.{CompanionCause}
use Rattle.companion_file.specs.declared.fault.CompanionCause.TheVariants.{Version, Group, BadLine, Order, NumberRange}
use Rattle.companion_file.specs.declared.fault.CompanionCause.TheVariants.{TwiceNamed, TwiceRunning, LineOrder, NoTask}
use Rattle.cfs_model.specs.declared.idle_line.IdleLine.{IdleLine}
use Rattle.companion_file.specs.Shape.{Shape, version_line, cpus_line, start_line, floor_line, task_line, claim_line}
use Rattle.companion_file.specs.Shape.{nice_line, idle_line, charge_line}
use Rattle.companion_file.specs.Spelling.{IsFirstLine, IsControlGroup, IsSpelled}
use Rattle.companion_file.specs.Earlier.{Said, last_task, last_claim, last_nice, last_idle, last_charge}
use Rattle.companion_file.specs.Earlier.{has_all_floors, is_run, is_taken, is_task}

-- every floor was said, and neither a claim nor a change of a nice value nor a charge
abbrev pub is_at_start : Said → Bool
is_at_start said = has_all_floors said && (length said.claims == 0) && (length said.nices == 0)
    && (length said.charges == 0)

-- a line of this sort is allowed here: after the first line `cpus` once, then `start` once, then a `floor` for each
-- processor, then tasks, then idle lines, then claims, changes of nice values and charges
abbrev pub is_in_turn : Said → Shape → Bool
is_in_turn said (version_line n) = false
is_in_turn said (cpus_line n) = is_none said.cpus
is_in_turn said (start_line seconds nanoseconds) = is_some said.cpus && is_none said.start
is_in_turn said (floor_line cpu floor) = is_some said.start && not (has_all_floors said)
is_in_turn said (task_line task) = is_at_start said && (length said.idles == 0)
is_in_turn said (claim_line claim) = has_all_floors said
is_in_turn said (nice_line change) = has_all_floors said
is_in_turn said (idle_line idle) = is_at_start said
is_in_turn said (charge_line charge) = has_all_floors said

-- a task's pid is from 1 to the greatest
abbrev pub is_pid : ℕ → Bool
is_pid n = nat_le 1 n && nat_le n greatest_pid

-- a virtual runtime or a floor is within its limits
abbrev pub is_value : ℤ → Bool
is_value v = int_le (neg_ℤ (pos greatest_runtime)) v && int_le v (pos greatest_runtime)

-- a nice value is from -20 to 19
abbrev pub is_nice : ℤ → Bool
is_nice z = int_le (negsuc 19) z && int_le z (pos 19)

-- each number of the line is within its limits, at this many processors
abbrev pub is_in_limits : ℕ → Shape → Bool
is_in_limits cpus (version_line n) = true
is_in_limits cpus (cpus_line n) = nat_le 1 n && nat_le n most_processors
is_in_limits cpus (start_line seconds nanoseconds) = nat_le seconds greatest_seconds
is_in_limits cpus (floor_line cpu floor) = nat_lt cpu cpus && is_value floor
is_in_limits cpus (task_line task) = is_pid task.pid && is_nice task.nice && nat_lt task.cpu cpus && is_value task.v
is_in_limits cpus (claim_line claim) = nat_le 1 claim.line && nat_le claim.line greatest_line && is_pid claim.pid
    && is_value claim.v
is_in_limits cpus (nice_line change) = nat_le 1 change.line && nat_le change.line greatest_line && is_pid change.pid
    && is_nice change.nice
is_in_limits cpus (idle_line idle) = nat_le idle.line greatest_line && is_pid idle.pid
is_in_limits cpus (charge_line charge) = nat_le 1 charge.line && nat_le charge.line greatest_line && is_pid charge.pid
    && is_value charge.v

-- a floor's processor is the next one, and a task's pid is not less than the last task's
abbrev pub is_next : Said → Shape → Bool
is_next said (floor_line cpu floor) = cpu == length said.floors
is_next said (task_line task) = option_map_or (λ last. nat_le last.pid task.pid) (last_task said) true
is_next said _ = true

-- a task's pid is not the last task's
abbrev pub is_new : Said → Shape → Bool
is_new said (task_line task) = option_map_or (λ last. not (last.pid == task.pid)) (last_task said) true
is_new said _ = true

-- a running task finds its processor free
abbrev pub is_alone : Said → Shape → Bool
is_alone said (task_line task) = not (is_run task.place && is_taken said.tasks task.cpu)
is_alone said _ = true

-- the line is above that of the last claim
abbrev pub is_above_claims : Said → ℕ → Bool
is_above_claims said line = option_map_or (λ last. nat_lt last.line line) (last_claim said) true

-- the line is above that of the last change of a nice value
abbrev pub is_above_changes : Said → ℕ → Bool
is_above_changes said line = option_map_or (λ last. nat_lt last.line line) (last_nice said) true

-- the line is not below that of the last charge, which may be of the same line
abbrev pub is_from_charges : Said → ℕ → Bool
is_from_charges said line = option_map_or (λ last. nat_le last.line line) (last_charge said) true

-- a claim's line is above the last claim's, and not below that of the last change of a nice value or of the last
-- charge, which may be of the same line
abbrev pub may_claim_at : Said → ℕ → Bool
may_claim_at said line = is_above_claims said line
    && option_map_or (λ last. nat_le last.line line) (last_nice said) true && is_from_charges said line

-- a change's line is above the last change's and the last claim's, and not below the last charge's: so at one line at
-- most one change stands, behind the line's charge and before its claim
abbrev pub may_change_at : Said → ℕ → Bool
may_change_at said line = is_above_changes said line && is_above_claims said line && is_from_charges said line

-- a charge's line is above the last charge's, the last change's and the last claim's: so at one line at most one charge
-- stands, before the line's change and its claim
abbrev pub may_charge_at : Said → ℕ → Bool
may_charge_at said line = option_map_or (λ last. nat_lt last.line line) (last_charge said) true
    && is_above_changes said line && is_above_claims said line

-- an idle line stands behind the last one: its line of the trace is above that one's, or is the same and its pid is
-- above
abbrev pub may_be_idle : Said → IdleLine → Bool
may_be_idle said idle = option_map_or (λ last. nat_lt last.line idle.line
    || ((last.line == idle.line) && nat_lt last.pid idle.pid)) (last_idle said) true

-- the line of the trace that a claim, a change, an idle line or a charge names may follow those before it
abbrev pub is_above : Said → Shape → Bool
is_above said (claim_line claim) = may_claim_at said claim.line
is_above said (nice_line change) = may_change_at said change.line
is_above said (idle_line idle) = may_be_idle said idle
is_above said (charge_line charge) = may_charge_at said charge.line
is_above said _ = true

-- an idle line of the start state names one of its tasks
abbrev pub is_known : Said → Shape → Bool
is_known said (idle_line idle) = not (idle.line == no_line) || is_task said.tasks idle.pid
is_known said _ = true

-- the cause of the first test that what the line says fails, if it fails one
abbrev pub fault_of : Said → Shape → Option CompanionCause
fault_of said x =
    if not (is_in_turn said x) then Some Order
    else if not (is_in_limits (unwrap_or said.cpus 0) x) then Some NumberRange
    else if not (is_next said x) then Some Order
    else if not (is_new said x) then Some TwiceNamed
    else if not (is_alone said x) then Some TwiceRunning
    else if not (is_above said x) then Some LineOrder
    else if not (is_known said x) then Some NoTask
    else None

-- what a line with a shape comes to: what it says, or why it is bad
abbrev pub tested : Said → Shape → Result Shape CompanionCause
tested said x = option_map_or (λ cause. Err cause) (fault_of said x) (Ok x)

-- what the first line comes to
abbrev pub IsJudgedFirst : List ℕ → Result Shape CompanionCause → Type 0
IsJudgedFirst line r =
    ((version : ℕ) × IsFirstLine line version × (r ≡ Ok (version_line version)))
    ⊎ (((version : ℕ) → ¬ IsFirstLine line version) × (r ≡ Err Version))

-- what a later line of a text of this version comes to, after what was said
abbrev pub IsJudgedLater : ℕ → Said → List ℕ → Result Shape CompanionCause → Type 0
IsJudgedLater version said line r =
    (IsControlGroup line × (r ≡ Err Group))
    ⊎ ((¬ IsControlGroup line) × ((x : Shape) → ¬ IsSpelled version line x) × (r ≡ Err BadLine))
    ⊎ ((¬ IsControlGroup line) × ((x : Shape) × IsSpelled version line x × (r ≡ tested said x)))

-- what a line that is no comment comes to, after what was said: what it says, or why it is bad
abbrev pub IsJudged : Said → List ℕ → Result Shape CompanionCause → Type 0
IsJudged said line r = MatchOption said.version (IsJudgedFirst line r) (λ version. IsJudgedLater version said line r)
