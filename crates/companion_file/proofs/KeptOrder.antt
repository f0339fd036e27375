-- Lines that are all good say a companion in order: each test that a line passed keeps one part of the order.
use Rattle.std.proofs.Common.{◌≡◌, ℕ, Bool, true, false, ℤ, pos, negsuc, Option, Some, None, refl, arith}
use Rattle.std.specs.Prelude.{unwrap_or}
use Rattle.std.proofs.lemmas.Bool.Decides.{nat_tests}
use Rattle.cfs_model.specs.Charge.{IsInRange}
use Rattle.cfs_model.specs.Nice.{IsNice}
use Rattle.companion_file.specs.Shape.{Shape}
use Rattle.companion_file.specs.Earlier.{Said}
use Rattle.companion_file.specs.Tests.{is_pid, is_value, is_nice, is_in_turn, is_in_limits, is_next, is_new, is_alone}
use Rattle.companion_file.specs.Tests.{is_above, is_known, fault_of}
use Rattle.companion_file.specs.Order.{IsPid}
use Rattle.companion_file.proofs.Faults.{fault_turn, fault_limits, fault_next, fault_new, fault_alone, fault_above}
use Rattle.companion_file.proofs.Faults.{fault_known}

-- every test passed
pub record Passes (said : Said) (x : Shape) : Type 0 where
  pub turn : is_in_turn said x ≡ true
  pub limits : is_in_limits (unwrap_or said.cpus 0) x ≡ true
  pub next : is_next said x ≡ true
  pub new : is_new said x ≡ true
  pub alone : is_alone said x ≡ true
  pub above : is_above said x ≡ true
  pub known : is_known said x ≡ true

-- a test whose failure would give a cause, where there is none
passed : {C : Type 0} (b : Bool) (fault : Option C) (cause : C) → (b ≡ false → fault ≡ Some cause) → fault ≡ None
    → b ≡ true
passed true fault cause fails none = refl
passed false fault cause fails none = let f = fails refl in absurd cc

pub all_passed : (said : Said) (x : Shape) → fault_of said x ≡ None → Passes said x
all_passed said x none =
    let turn = passed (is_in_turn said x) (fault_of said x) _ (fault_turn said x) none in
    let limits = passed (is_in_limits (unwrap_or said.cpus 0) x) (fault_of said x) _ (fault_limits said x turn) none in
    let next = passed (is_next said x) (fault_of said x) _ (fault_next said x turn limits) none in
    let new = passed (is_new said x) (fault_of said x) _ (fault_new said x turn limits next) none in
    let alone = passed (is_alone said x) (fault_of said x) _ (fault_alone said x turn limits next new) none in
    let above = passed (is_above said x) (fault_of said x) _ (fault_above said x turn limits next new alone) none in
    let known = passed (is_known said x) (fault_of said x) _ (fault_known said x turn limits next new alone above)
    none in
    record { turn = turn; limits = limits; next = next; new = new; alone = alone; above = above; known = known }

-- ---- limits as facts

pub value_fact : (v : ℤ) → is_value v ≡ true → IsInRange v
value_fact (pos n) ok = (omega arith, grind (arith, nat_tests))
value_fact (negsuc n) ok = (grind (arith, nat_tests), omega arith)

pub nice_fact : (z : ℤ) → is_nice z ≡ true → IsNice z
nice_fact (pos n) ok = (omega arith, grind (arith, nat_tests))
nice_fact (negsuc n) ok = (grind (arith, nat_tests), omega arith)

pub pid_fact : (n : ℕ) → is_pid n ≡ true → IsPid n
pid_fact n ok = (grind (arith, nat_tests), grind (arith, nat_tests))
