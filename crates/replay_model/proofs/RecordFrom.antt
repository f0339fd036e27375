-- What a record of some processors keeps, from the same facts by index, as a list's readers state them.
use Rattle.std.proofs.Common.{ℕ, suc, ◌<◌, ◌≤◌, nat_eq, Bool, true, false, cond, Some, IfSome, ℤ, List, [], ◌∷◌, All}
use Rattle.std.proofs.Common.{AllPairs, suc-le-suc, arith}
use Rattle.std.proofs.lemmas.List.Elements.{recursion_from_All}
use Rattle.std.specs.List.{AllByRecursion}
use Rattle.cfs_model.specs.Charge.{IsInRange}
use Rattle.cfs_model.specs.Claimed.{Claimed, claim_at, charge_at, claimed}
use Rattle.cfs_model.specs.Touch.{touched}
use Rattle.cfs_model.specs.Order.{IsStart}
use Rattle.replay_model.specs.Record.{ClaimInRange, ChargeInRange, TimesRise, LinesRise, IsRecord}
use Rattle.cfs_model.specs.declared.act.Entry.{Entry}
use Rattle.cfs_model.specs.declared.charge_line.ChargeLine.{ChargeLine}
use Rattle.cfs_model.specs.declared.claim.Claim.{Claim}
use Rattle.cfs_model.specs.declared.nice_line.NiceLine.{NiceLine}
use Rattle.cfs_model.specs.declared.task.Task.{Task}
use Rattle.cfs_model.specs.declared.policy.Policy.{Policy}

-- a fact of each pair, of the first with each later one and of the pairs after it
entry_head : (R : Entry → Entry → Type 0) (e : Entry) (es : List Entry) → AllPairs R (e ∷ es) → All (λ u. R e u) es
entry_head R e es h = λ k d within. h 0 (suc k) d (omega arith) (suc-le-suc within)

entry_tail : (R : Entry → Entry → Type 0) (e : Entry) (es : List Entry) → AllPairs R (e ∷ es) → AllPairs R es
entry_tail R e es h = λ i j d below within. h (suc i) (suc j) d (suc-le-suc below) (suc-le-suc within)

pub times_from : (start : ℕ) (claims : List Claim) (nices : List NiceLine) (charges : List ChargeLine)
    (policy : Entry → Policy) (es : List Entry)
    → AllPairs (λ a b. a.time ≤ b.time) es
    → AllByRecursion (λ (e : Entry). start ≤ e.time) es → TimesRise start (claimed claims nices charges policy es)
times_from start claims nices charges policy [] h k = tt
times_from start claims nices charges policy (e ∷ es) h k = (
  k.0,
  times_from e.time claims nices charges policy es (entry_tail (λ a b. a.time ≤ b.time) e es h)
      (recursion_from_All (λ (u : Entry). e.time ≤ u.time) es (entry_head (λ a b. a.time ≤ b.time) e es h)),
)

pub lines_from : (line : ℕ) (claims : List Claim) (nices : List NiceLine) (charges : List ChargeLine)
    (policy : Entry → Policy) (es : List Entry)
    → AllPairs (λ a b. a.line < b.line) es
    → AllByRecursion (λ (e : Entry). line < e.line) es → LinesRise line (claimed claims nices charges policy es)
lines_from line claims nices charges policy [] h k = tt
lines_from line claims nices charges policy (e ∷ es) h k = (
  k.0,
  lines_from e.line claims nices charges policy es (entry_tail (λ a b. a.line < b.line) e es h)
      (recursion_from_All (λ (u : Entry). e.line < u.line) es (entry_head (λ a b. a.line < b.line) e es h)),
)

-- the claim on a line is one of the claims
claim_of : (claims : List Claim) (line : ℕ) → AllByRecursion (λ (c : Claim). IsInRange c.v) claims
    → IfSome (claim_at claims line) (λ c. IsInRange c.v)
claim_of [] line h = tt
claim_of (c ∷ claims) line h = go (nat_eq c.line line) (claim_of claims line h.1)
  where
    go : (b : Bool) → IfSome (claim_at claims line) (λ c. IsInRange c.v)
        → IfSome (cond b (Some c) (claim_at claims line)) (λ c. IsInRange c.v)
    go true k = h.0
    go false k = k

pub claims_from : (claims : List Claim) (nices : List NiceLine) (charges : List ChargeLine)
    (policy : Entry → Policy) (es : List Entry)
    → AllByRecursion (λ (c : Claim). IsInRange c.v) claims
    → AllByRecursion ClaimInRange (claimed claims nices charges policy es)
claims_from claims nices charges policy [] h = tt
claims_from claims nices charges policy (e ∷ es) h = (
  claim_of claims e.line h,
  claims_from claims nices charges
      policy es h,
)

-- the told charge on a line is one of the told charges
charge_of : (charges : List ChargeLine) (line : ℕ) → AllByRecursion (λ (c : ChargeLine). IsInRange c.v) charges
    → IfSome (charge_at charges line) (λ c. IsInRange c.v)
charge_of [] line h = tt
charge_of (c ∷ charges) line h = go (nat_eq c.line line) (charge_of charges line h.1)
  where
    go : (b : Bool) → IfSome (charge_at charges line) (λ c. IsInRange c.v)
        → IfSome (cond b (Some c) (charge_at charges line)) (λ c. IsInRange c.v)
    go true k = h.0
    go false k = k

pub charges_from : (claims : List Claim) (nices : List NiceLine) (charges : List ChargeLine)
    (policy : Entry → Policy) (es : List Entry)
    → AllByRecursion (λ (c : ChargeLine). IsInRange c.v) charges
    → AllByRecursion ChargeInRange (claimed claims nices charges policy es)
charges_from claims nices charges policy [] h = tt
charges_from claims nices charges policy (e ∷ es) h =
    (charge_of charges e.line h, charges_from claims nices charges policy es h)

within_from : (cpus : ℕ) (claims : List Claim) (nices : List NiceLine) (charges : List ChargeLine)
    (policy : Entry → Policy) (es : List Entry)
    → AllByRecursion (λ (e : Entry). All (λ cpu. cpu < cpus) (touched e.act)) es
    → AllByRecursion (λ (event : Claimed). AllByRecursion (λ cpu. cpu < cpus) (touched event.entry.act))
    (claimed claims nices charges policy es)
within_from cpus claims nices charges policy [] h = tt
within_from cpus claims nices charges policy (e ∷ es) h =
    (recursion_from_All (λ cpu. cpu < cpus) (touched e.act) h.0, within_from cpus claims nices charges policy es h.1)

-- a record of some processors
pub record_from : (start : ℕ) (floors : List ℤ) (tasks : List Task) (claims : List Claim) (nices : List NiceLine)
    (charges : List ChargeLine) (policy : Entry → Policy) (es : List Entry) (cpus : ℕ)
    → IsStart floors tasks → All (λ t. t.cpu < cpus) tasks
    → All (λ e. All (λ cpu. cpu < cpus) (touched e.act)) es → All (λ c. IsInRange c.v) claims
    → All (λ (c : ChargeLine). IsInRange c.v) charges
    → AllPairs (λ a b. a.time ≤ b.time) es → All (λ e. start ≤ e.time) es
    → AllPairs (λ a b. a.line < b.line) es → All (λ e. 0 < e.line) es
    → IsRecord start floors tasks (claimed claims nices charges policy es) cpus
record_from start floors tasks claims nices charges policy es cpus s t w c d times started lines from_one = record {
  is_start = s;
  tasks_within = recursion_from_All (λ (t : Task). t.cpu < cpus) tasks t;
  events_within = within_from cpus claims nices charges policy es
      (recursion_from_All (λ (e : Entry). All (λ cpu. cpu < cpus) (touched e.act)) es w);
  claims_in_range = claims_from claims nices charges policy es (recursion_from_All (λ (c : Claim). IsInRange c.v)
      claims c);
  charges_in_range = charges_from claims nices charges policy es
      (recursion_from_All (λ (c : ChargeLine). IsInRange c.v) charges d);
  times_rise = times_from start claims nices charges policy es times
      (recursion_from_All (λ (e : Entry). start ≤ e.time) es started);
  lines_rise = lines_from 0 claims nices charges policy es lines (recursion_from_All (λ (e : Entry). 0 < e.line) es
      from_one);
}
