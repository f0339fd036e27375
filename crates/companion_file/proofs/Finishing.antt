-- What good lines say, with a floor for each processor, is a companion in order.
use Rattle.std.proofs.Common.{◌≡◌, ℕ, zero, suc, true, false, eqb, length, get_or, replicate, Some, refl}
use Rattle.std.proofs.lemmas.Bool.{eqb-true}
use Rattle.companion_file.specs.Earlier.{Said, has_all_floors}
use Rattle.companion_file.specs.Order.{IsCompanionInOrder}
use Rattle.companion_file.specs.Draft.{KeepsOrder}
use Rattle.companion_file.proofs.Policies.{policies_agree}

pub in_order : (said : Said) (cpus start : ℕ) → KeepsOrder said → said.cpus ≡ Some cpus → said.start ≡ Some start
    → has_all_floors said ≡ true
    → IsCompanionInOrder (record {
      cpus = cpus;
      start = start;
      floors = said.floors;
      tasks = said.tasks;
      claims = said.claims;
      nices = said.nices;
      idles = said.idles;
      charges = said.charges;
    })
in_order said cpus start order e f whole =
    let count : eqb (length said.floors) cpus ≡ true = rw e at whole in
    record {
      cpus_in_limits = order.cpus_kept cpus e;
      start_in_limits = order.start_kept start f;
      floor_for_each_cpu = eqb-true (length said.floors) cpus count;
      floors_in_limits = order.floors_kept;
      tasks_in_limits = rw e at order.tasks_kept;
      pids_rise = order.pids_rise;
      one_runs_a_cpu = order.one_runs_a_cpu;
      claims_in_limits = order.claims_kept;
      lines_rise = order.lines_rise;
      nices_in_limits = order.nices_kept;
      nice_lines_rise = order.nice_lines_rise;
      idles_in_limits = order.idles_kept;
      idles_rise = order.idles_rise;
      charges_in_limits = order.charges_kept;
      charge_lines_rise = order.charge_lines_rise;
      policies_told = λ pid. policies_agree said.idles said.tasks pid order.policies_kept order.named_kept;
    }

-- at first nothing runs
pub nothing_runs : (n cpu : ℕ) → get_or (replicate n false) cpu false ≡ false
nothing_runs zero cpu = refl
nothing_runs (suc n) zero = refl
nothing_runs (suc n) (suc cpu) = nothing_runs n cpu
