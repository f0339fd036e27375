-- One more good line keeps the order: a case for each shape.
use Rattle.std.proofs.Common.{◌≡◌, ℕ, ◌+◌, ◌*◌, ◌<◌, ◌≤◌, Bool, true, false, not, ◌&&◌, ◌||◌, eqb, leb, ltb, ℤ, List}
use Rattle.std.proofs.Common.{[], ◌∷◌, ◌++◌, map, get_or, Option, Some, None, refl, ap, ◌∙◌, arith}
use Rattle.std.specs.Prelude.{unwrap_or, is_some}
use Rattle.std.specs.Option.{is_none, option_map_or}
use Rattle.std.specs.List.{list_any}
use Rattle.std.proofs.lemmas.Bool.{and_parts, and_from, eq-eqb}
use Rattle.std.proofs.lemmas.Bool.Decides.{nat_tests}
use Rattle.std.proofs.lemmas.List.{map-append}
use Rattle.std.proofs.lemmas.List.Folds.{list_any-append}
use Rattle.std.proofs.lemmas.List.Elements.{All-push, All-weaker}
use Rattle.std.proofs.lemmas.List.Quantifiers.{all_pairs_push}
use Rattle.cfs_model.specs.declared.task.Task.{Task}
use Rattle.cfs_model.specs.declared.claim.Claim.{Claim}
use Rattle.cfs_model.specs.declared.nice_line.NiceLine.{NiceLine}
use Rattle.cfs_model.specs.declared.charge_line.ChargeLine.{ChargeLine}
use Rattle.cfs_model.specs.declared.idle_line.IdleLine.{IdleLine}
use Rattle.cfs_model.specs.Charge.{IsInRange}
use Rattle.cfs_model.specs.Limits.{greatest_line, no_line, greatest_seconds, most_processors, nanoseconds_per_second}
use Rattle.companion_file.specs.Shape.{Shape, version_line, cpus_line, start_line, floor_line, task_line, claim_line}
use Rattle.companion_file.specs.Shape.{nice_line, idle_line, charge_line}
use Rattle.companion_file.specs.Earlier.{Said, last_nice, last_charge, has_all_floors, is_run, is_taken, is_task}
use Rattle.companion_file.specs.Earlier.{with_policy_told}
use Rattle.companion_file.specs.Tests.{is_pid, is_value, is_nice, is_above_claims, is_above_changes, is_from_charges}
use Rattle.companion_file.specs.Order.{IsTaskInLimits, IsClaimInLimits, IsNiceLineInLimits, IsIdleLineInLimits}
use Rattle.companion_file.specs.Order.{IsChargeLineInLimits}
use Rattle.companion_file.specs.Order.{IdleRises}
use Rattle.cfs_model.specs.Order.{RunApart}
use Rattle.companion_file.proofs.KeptOrder.{Passes, value_fact, nice_fact, pid_fact}
use Rattle.companion_file.proofs.Policies.{policies_again, task_kept, limits_kept, pairs_kept}
use Rattle.companion_file.proofs.Rising.{follows_push, rises_push, none_passes}
use Rattle.companion_file.specs.Draft.{KeepsOrder, with_line}

-- the nanoseconds of a start are less than a second
abbrev pub FitsSecond : Shape → Type 0
FitsSecond (version_line n) = Unit {0}
FitsSecond (cpus_line n) = Unit {0}
FitsSecond (start_line seconds nanoseconds) = nanoseconds < nanoseconds_per_second
FitsSecond (floor_line cpu floor) = Unit {0}
FitsSecond (task_line t) = Unit {0}
FitsSecond (claim_line k) = Unit {0}
FitsSecond (nice_line k) = Unit {0}
FitsSecond (idle_line k) = Unit {0}
FitsSecond (charge_line k) = Unit {0}

none_is : (o : Option ℕ) → is_none o ≡ true → o ≡ None
none_is None e = refl
none_is (Some n) e = absurd cc

order_cpus : (said : Said) (n : ℕ) → KeepsOrder said → Passes said (cpus_line n)
    → KeepsOrder (with_line said (cpus_line n))
order_cpus said n order passes =
    let none : said.cpus ≡ None = none_is said.cpus passes.turn in
    let parts = and_parts (leb 1 n) (leb n most_processors) passes.limits in
    let low : 1 ≤ n = grind (arith, nat_tests) in
    let high : n ≤ most_processors = grind (arith, nat_tests) in
    record {
      cpus_kept = λ m e. let same : n ≡ m = cc in (omega arith, omega arith);
      start_kept = order.start_kept;
      floors_after_start = order.floors_after_start;
      floors_kept = order.floors_kept;
      tasks_kept = All-weaker (IsTaskInLimits (unwrap_or said.cpus 0)) (IsTaskInLimits n)
          (λ t h. let nowhere : t.cpu < 0 = rw none at h.cpu in absurd (omega arith)) said.tasks order.tasks_kept;
      pids_rise = order.pids_rise;
      one_runs_a_cpu = order.one_runs_a_cpu;
      claims_kept = order.claims_kept;
      lines_rise = order.lines_rise;
      nices_kept = order.nices_kept;
      nice_lines_rise = order.nice_lines_rise;
      idles_kept = order.idles_kept;
      idles_rise = order.idles_rise;
      charges_kept = order.charges_kept;
      charge_lines_rise = order.charge_lines_rise;
      policies_kept = order.policies_kept;
      named_kept = order.named_kept;
    }

order_start : (said : Said) (seconds nanoseconds : ℕ) → nanoseconds < nanoseconds_per_second → KeepsOrder said
    → Passes said (start_line seconds nanoseconds) → KeepsOrder (with_line said (start_line seconds nanoseconds))
order_start said seconds nanoseconds below order passes =
    let limits : leb seconds greatest_seconds ≡ true = passes.limits in
    let high : seconds ≤ greatest_seconds = grind (arith, nat_tests) in
    record {
      cpus_kept = order.cpus_kept;
      start_kept = λ m e. let same : seconds * nanoseconds_per_second + nanoseconds ≡ m = cc in omega arith;
      floors_after_start = λ e. absurd cc;
      floors_kept = order.floors_kept;
      tasks_kept = order.tasks_kept;
      pids_rise = order.pids_rise;
      one_runs_a_cpu = order.one_runs_a_cpu;
      claims_kept = order.claims_kept;
      lines_rise = order.lines_rise;
      nices_kept = order.nices_kept;
      nice_lines_rise = order.nice_lines_rise;
      idles_kept = order.idles_kept;
      idles_rise = order.idles_rise;
      charges_kept = order.charges_kept;
      charge_lines_rise = order.charge_lines_rise;
      policies_kept = order.policies_kept;
      named_kept = order.named_kept;
    }

order_floor : (said : Said) (cpu : ℕ) (floor : ℤ) → KeepsOrder said → Passes said (floor_line cpu floor)
    → KeepsOrder (with_line said (floor_line cpu floor))
order_floor said cpu floor order passes =
    let turn = and_parts (is_some said.start) (not (has_all_floors said)) passes.turn in
    let limits = and_parts (ltb cpu (unwrap_or said.cpus 0)) (is_value floor) passes.limits in
    record {
      cpus_kept = order.cpus_kept;
      start_kept = order.start_kept;
      floors_after_start = λ e. let wrong : false ≡ true = rw e at turn.0 in absurd cc;
      floors_kept = All-push IsInRange said.floors floor order.floors_kept (value_fact floor limits.1);
      tasks_kept = order.tasks_kept;
      pids_rise = order.pids_rise;
      one_runs_a_cpu = order.one_runs_a_cpu;
      claims_kept = order.claims_kept;
      lines_rise = order.lines_rise;
      nices_kept = order.nices_kept;
      nice_lines_rise = order.nice_lines_rise;
      idles_kept = order.idles_kept;
      idles_rise = order.idles_rise;
      charges_kept = order.charges_kept;
      charge_lines_rise = order.charge_lines_rise;
      policies_kept = order.policies_kept;
      named_kept = order.named_kept;
    }

-- a test of a conjunction that failed though its first part holds
second_fails : (a b : Bool) → not (a && b) ≡ true → a ≡ true → b ≡ false
second_fails true true e f = absurd cc
second_fails true false e f = refl
second_fails false b e f = absurd cc

-- what one of them passed, one of them and one more passes
any_with_more : (p : Task → Bool) (tasks : List Task) (t : Task) → list_any p tasks ≡ true
    → list_any p (tasks ++ t ∷ []) ≡ true
any_with_more p tasks t some = list_any-append p tasks (t ∷ []) ∙ rw some refl

order_task : (said : Said) (t : Task) → KeepsOrder said → Passes said (task_line t)
    → KeepsOrder (with_line said (task_line t))
order_task said t order passes =
    let third = and_parts (is_pid t.pid && is_nice t.nice && ltb t.cpu (unwrap_or said.cpus 0)) (is_value t.v)
    passes.limits in
    let second = and_parts (is_pid t.pid && is_nice t.nice) (ltb t.cpu (unwrap_or said.cpus 0)) third.0 in
    let first = and_parts (is_pid t.pid) (is_nice t.nice) second.0 in
    let inside : t.cpu < unwrap_or said.cpus 0 = grind (arith, nat_tests) in
    record {
      cpus_kept = order.cpus_kept;
      start_kept = order.start_kept;
      floors_after_start = order.floors_after_start;
      floors_kept = order.floors_kept;
      tasks_kept = All-push (IsTaskInLimits (unwrap_or said.cpus 0)) said.tasks (with_policy_told said.idles t)
          order.tasks_kept
          (record {
            pid = pid_fact t.pid first.0;
            nice = nice_fact t.nice first.1;
            cpu = inside;
            v = value_fact t.v third.1;
          });
      pids_rise = rises_push (λ (u : Task). u.pid) said.tasks (with_policy_told said.idles t) order.pids_rise
          (λ l e.
          let next : leb l.pid t.pid ≡ true = rw e at passes.next in
          let new : not (eqb l.pid t.pid) ≡ true = rw e at passes.new in
          grind (arith, nat_tests));
      one_runs_a_cpu = all_pairs_push RunApart said.tasks (with_policy_told said.idles t) order.one_runs_a_cpu
          (λ k d within runs this_runs same.
          let free = second_fails (is_run t.place) (is_taken said.tasks t.cpu) passes.alone (ap is_run this_runs) in
          let apart = none_passes (λ (u : Task). is_run u.place && eqb u.cpu t.cpu) said.tasks free k d within in
          let both_true = and_from (is_run (get_or said.tasks k d).place) (eqb (get_or said.tasks k d).cpu t.cpu)
          (ap is_run runs) (eq-eqb (get_or said.tasks k d).cpu t.cpu same) in
          absurd cc);
      claims_kept = order.claims_kept;
      lines_rise = order.lines_rise;
      nices_kept = order.nices_kept;
      nice_lines_rise = order.nice_lines_rise;
      idles_kept = order.idles_kept;
      idles_rise = order.idles_rise;
      charges_kept = order.charges_kept;
      charge_lines_rise = order.charge_lines_rise;
      policies_kept = map-append (with_policy_told said.idles) said.tasks (with_policy_told said.idles t ∷ [])
          ∙ ap (λ (ts : List Task). ts ++ with_policy_told said.idles t ∷ []) order.policies_kept;
      named_kept = All-weaker (λ (idle : IdleLine). idle.line ≡ no_line → is_task said.tasks idle.pid ≡ true)
          (λ (idle : IdleLine). idle.line ≡ no_line → is_task (said.tasks ++ with_policy_told said.idles t ∷ [])
          idle.pid ≡ true)
          (λ idle named start. any_with_more (λ (u : Task). eqb u.pid idle.pid) said.tasks
          (with_policy_told said.idles t) (named start)) said.idles order.named_kept;
    }

order_claim : (said : Said) (claim : Claim) → KeepsOrder said → Passes said (claim_line claim)
    → KeepsOrder (with_line said (claim_line claim))
order_claim said claim order passes =
    let third = and_parts (leb 1 claim.line && leb claim.line greatest_line && is_pid claim.pid) (is_value claim.v)
    passes.limits in
    let second = and_parts (leb 1 claim.line && leb claim.line greatest_line) (is_pid claim.pid) third.0 in
    let first = and_parts (leb 1 claim.line) (leb claim.line greatest_line) second.0 in
    let low : 1 ≤ claim.line = grind (arith, nat_tests) in
    let high : claim.line ≤ greatest_line = grind (arith, nat_tests) in
    let both = and_parts (is_above_claims said claim.line
    && option_map_or (λ last. leb last.line claim.line) (last_nice said) true) (is_from_charges said claim.line)
    passes.above in
    let parts = and_parts (is_above_claims said claim.line)
    (option_map_or (λ last. leb last.line claim.line) (last_nice said) true) both.0 in
    record {
      cpus_kept = order.cpus_kept;
      start_kept = order.start_kept;
      floors_after_start = order.floors_after_start;
      floors_kept = order.floors_kept;
      tasks_kept = order.tasks_kept;
      pids_rise = order.pids_rise;
      one_runs_a_cpu = order.one_runs_a_cpu;
      claims_kept = All-push IsClaimInLimits said.claims claim order.claims_kept
          (record { line = (low, high); pid = pid_fact claim.pid second.1; v = value_fact claim.v third.1 });
      lines_rise = rises_push (λ (c : Claim). c.line) said.claims claim order.lines_rise
          (λ l e. let above : ltb l.line claim.line ≡ true = rw e at parts.0 in grind (arith, nat_tests));
      nices_kept = order.nices_kept;
      nice_lines_rise = order.nice_lines_rise;
      idles_kept = order.idles_kept;
      idles_rise = order.idles_rise;
      charges_kept = order.charges_kept;
      charge_lines_rise = order.charge_lines_rise;
      policies_kept = order.policies_kept;
      named_kept = order.named_kept;
    }

order_nice : (said : Said) (change : NiceLine) → KeepsOrder said → Passes said (nice_line change)
    → KeepsOrder (with_line said (nice_line change))
order_nice said change order passes =
    let third = and_parts (leb 1 change.line && leb change.line greatest_line && is_pid change.pid)
    (is_nice change.nice) passes.limits in
    let second = and_parts (leb 1 change.line && leb change.line greatest_line) (is_pid change.pid) third.0 in
    let first = and_parts (leb 1 change.line) (leb change.line greatest_line) second.0 in
    let low : 1 ≤ change.line = grind (arith, nat_tests) in
    let high : change.line ≤ greatest_line = grind (arith, nat_tests) in
    let both = and_parts (is_above_changes said change.line && is_above_claims said change.line)
    (is_from_charges said change.line) passes.above in
    let parts = and_parts (is_above_changes said change.line) (is_above_claims said change.line) both.0 in
    record {
      cpus_kept = order.cpus_kept;
      start_kept = order.start_kept;
      floors_after_start = order.floors_after_start;
      floors_kept = order.floors_kept;
      tasks_kept = order.tasks_kept;
      pids_rise = order.pids_rise;
      one_runs_a_cpu = order.one_runs_a_cpu;
      claims_kept = order.claims_kept;
      lines_rise = order.lines_rise;
      nices_kept = All-push IsNiceLineInLimits said.nices change order.nices_kept
          (record { line = (low, high); pid = pid_fact change.pid second.1; nice = nice_fact change.nice third.1 });
      nice_lines_rise = rises_push (λ (c : NiceLine). c.line) said.nices change order.nice_lines_rise
          (λ l e. let above : ltb l.line change.line ≡ true = rw e at parts.0 in grind (arith, nat_tests));
      idles_kept = order.idles_kept;
      idles_rise = order.idles_rise;
      charges_kept = order.charges_kept;
      charge_lines_rise = order.charge_lines_rise;
      policies_kept = order.policies_kept;
      named_kept = order.named_kept;
    }

idle_follows : (last idle : IdleLine) → (ltb last.line idle.line
    || (eqb last.line idle.line && ltb last.pid idle.pid)) ≡ true → IdleRises last idle
idle_follows last idle above = record { lines = grind (arith, nat_tests); pids = λ same. grind (arith, nat_tests) }

idles_follow : (a b c : IdleLine) → IdleRises a b → IdleRises b c → IdleRises a c
idles_follow a b c before after =
    record {
      lines = omega (arith, before.lines, after.lines);
      pids = λ same.
          let first = before.pids (omega (arith, same, before.lines, after.lines)) in
          let second = after.pids (omega (arith, same, before.lines, after.lines)) in
          omega (arith, first, second);
    }

-- an idle line of the start names a task so far
idle_known : (tasks : List Task) (idle : IdleLine) → (not (eqb idle.line no_line) || is_task tasks idle.pid) ≡ true
    → idle.line ≡ no_line → is_task tasks idle.pid ≡ true
idle_known tasks idle known start = rw start at known

order_idle : (said : Said) (idle : IdleLine) → KeepsOrder said → Passes said (idle_line idle)
    → KeepsOrder (with_line said (idle_line idle))
order_idle said idle order passes =
    let parts = and_parts (leb idle.line greatest_line) (is_pid idle.pid) passes.limits in
    let high : idle.line ≤ greatest_line = grind (arith, nat_tests) in
    let idles = said.idles ++ idle ∷ [] in
    record {
      cpus_kept = order.cpus_kept;
      start_kept = order.start_kept;
      floors_after_start = order.floors_after_start;
      floors_kept = order.floors_kept;
      tasks_kept = limits_kept idles (unwrap_or said.cpus 0) said.tasks order.tasks_kept;
      pids_rise = pairs_kept (λ t u. t.pid < u.pid) idles said.tasks (λ t u below. below) order.pids_rise;
      one_runs_a_cpu = pairs_kept RunApart idles said.tasks (λ t u apart. apart) order.one_runs_a_cpu;
      claims_kept = order.claims_kept;
      lines_rise = order.lines_rise;
      nices_kept = order.nices_kept;
      nice_lines_rise = order.nice_lines_rise;
      idles_kept = All-push IsIdleLineInLimits said.idles idle order.idles_kept
          (record { line = high; pid = pid_fact idle.pid parts.1 });
      idles_rise = follows_push IdleRises said.idles idle idles_follow order.idles_rise
          (λ l e. idle_follows l idle (rw e at passes.above));
      charges_kept = order.charges_kept;
      charge_lines_rise = order.charge_lines_rise;
      policies_kept = policies_again idles idles said.tasks;
      named_kept = All-weaker (λ (k : IdleLine). k.line ≡ no_line → is_task said.tasks k.pid ≡ true)
          (λ (k : IdleLine). k.line ≡ no_line → is_task (map (with_policy_told idles) said.tasks) k.pid ≡ true)
          (λ k named start. task_kept idles said.tasks k.pid ∙ named start) idles
          (All-push (λ (k : IdleLine). k.line ≡ no_line
          → is_task said.tasks k.pid ≡ true) said.idles idle order.named_kept
          (idle_known said.tasks idle passes.known));
    }

order_charge : (said : Said) (charge : ChargeLine) → KeepsOrder said → Passes said (charge_line charge)
    → KeepsOrder (with_line said (charge_line charge))
order_charge said charge order passes =
    let third = and_parts (leb 1 charge.line && leb charge.line greatest_line && is_pid charge.pid) (is_value charge.v)
    passes.limits in
    let second = and_parts (leb 1 charge.line && leb charge.line greatest_line) (is_pid charge.pid) third.0 in
    let first = and_parts (leb 1 charge.line) (leb charge.line greatest_line) second.0 in
    let low : 1 ≤ charge.line = grind (arith, nat_tests) in
    let high : charge.line ≤ greatest_line = grind (arith, nat_tests) in
    let both = and_parts (option_map_or (λ last. ltb last.line charge.line) (last_charge said) true
    && is_above_changes said charge.line) (is_above_claims said charge.line) passes.above in
    let parts = and_parts (option_map_or (λ last. ltb last.line charge.line) (last_charge said) true)
    (is_above_changes said charge.line) both.0 in
    record {
      cpus_kept = order.cpus_kept;
      start_kept = order.start_kept;
      floors_after_start = order.floors_after_start;
      floors_kept = order.floors_kept;
      tasks_kept = order.tasks_kept;
      pids_rise = order.pids_rise;
      one_runs_a_cpu = order.one_runs_a_cpu;
      claims_kept = order.claims_kept;
      lines_rise = order.lines_rise;
      nices_kept = order.nices_kept;
      nice_lines_rise = order.nice_lines_rise;
      idles_kept = order.idles_kept;
      idles_rise = order.idles_rise;
      charges_kept = All-push IsChargeLineInLimits said.charges charge order.charges_kept
          (record { line = (low, high); pid = pid_fact charge.pid second.1; v = value_fact charge.v third.1 });
      charge_lines_rise = rises_push (λ (c : ChargeLine). c.line) said.charges charge order.charge_lines_rise
          (λ l e. let above : ltb l.line charge.line ≡ true = rw e at parts.0 in grind (arith, nat_tests));
      policies_kept = order.policies_kept;
      named_kept = order.named_kept;
    }

pub order_with : (said : Said) (x : Shape) → FitsSecond x → KeepsOrder said → Passes said x
    → KeepsOrder (with_line said x)
order_with said (version_line n) fits order passes = let turn : false ≡ true = passes.turn in absurd cc
order_with said (cpus_line n) fits order passes = order_cpus said n order passes
order_with said (start_line seconds nanoseconds) fits order passes =
    order_start said seconds nanoseconds fits order passes
order_with said (floor_line cpu floor) fits order passes = order_floor said cpu floor order passes
order_with said (task_line t) fits order passes = order_task said t order passes
order_with said (claim_line claim) fits order passes = order_claim said claim order passes
order_with said (nice_line change) fits order passes = order_nice said change order passes
order_with said (idle_line idle) fits order passes = order_idle said idle order passes
order_with said (charge_line charge) fits order passes = order_charge said charge order passes
