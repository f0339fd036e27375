-- The events of a trace with what the companion says on their lines (this project's profile).
use Rattle.std.specs.Prelude.{◌≡◌, ℕ, ◌==◌, nat_lt, Bool, true, false, ◌&&◌, if◌then◌else◌, Option, Some, None, ℤ, List}
use Rattle.std.specs.Prelude.{[]}
use Rattle.std.specs.Prelude.{◌∷◌, find, map}
use Rattle.std.specs.List.{list_any}
use Rattle.cfs_model.specs.Machine.{put}
use Rattle.cfs_model.specs.declared.act.Act.{Act}
use Rattle.cfs_model.specs.declared.act.Act.TheVariants.{Born, Shift}
use Rattle.cfs_model.specs.declared.act.Entry.{Entry}
use Rattle.cfs_model.specs.declared.charge_line.ChargeLine.{ChargeLine}
use Rattle.cfs_model.specs.declared.claim.Claim.{Claim}
use Rattle.cfs_model.specs.declared.claim.ClaimSort.{ClaimSort}
use Rattle.cfs_model.specs.declared.idle_line.IdleLine.{IdleLine}
use Rattle.cfs_model.specs.declared.nice_line.NiceLine.{NiceLine}
use Rattle.cfs_model.specs.declared.policy.Policy.{Policy}
use Rattle.cfs_model.specs.declared.policy.Policy.TheVariants.{Normal, Idle}

-- an event with the claim, the change of a nice value and the told charge on its line, if there are such, and with the
-- policy of the task that is born or moves
pub record Claimed : Type 0 where
  pub entry : Entry
  pub claim : Option Claim
  pub nice : Option NiceLine
  pub charge : Option ChargeLine
  pub policy : Policy

-- the claim on a line
abbrev pub claim_at : List Claim → ℕ → Option Claim
claim_at claims line = find (λ claim. claim.line == line) claims

-- the change of a nice value on a line
abbrev pub nice_at : List NiceLine → ℕ → Option NiceLine
nice_at nices line = find (λ change. change.line == line) nices

-- the told charge on a line
abbrev pub charge_at : List ChargeLine → ℕ → Option ChargeLine
charge_at charges line = find (λ charge. charge.line == line) charges

-- the companion names the task of this pid as one of the idle policy from this line on
abbrev pub is_named_idle : List IdleLine → ℕ → ℕ → Bool
is_named_idle idles line pid = list_any (λ idle. (idle.line == line) && (idle.pid == pid)) idles

-- the idle policy, where that is so
abbrev pub policy_by : Bool → Policy
policy_by true = Idle
policy_by false = Normal

-- the policy by which the companion names the task of this pid from this line on
abbrev pub named_policy : List IdleLine → ℕ → ℕ → Policy
named_policy idles line pid = policy_by (is_named_idle idles line pid)

-- the policies after an event: a birth begins a task, of the policy that the companion names on its line
abbrev pub policies_after : List IdleLine → (ℕ → Policy) → ℕ → Act → ℕ → Policy
policies_after idles policies line (Born cpu pid nice) = put policies pid (named_policy idles line pid)
policies_after idles policies line _ = policies

-- the policies before a line, by those at the start and by the births among the events before it
abbrev pub policies_before : List IdleLine → (ℕ → Policy) → List Entry → ℕ → ℕ → Policy
policies_before idles policies [] line = policies
policies_before idles policies (entry ∷ entries) line =
    if nat_lt entry.line line
    then policies_before idles (policies_after idles policies entry.line entry.act) entries line
    else policies

-- the policy of the task that is born or moves: of one that is born as the companion names it on the line, and of one
-- that moves as it was before
abbrev pub policy_told : List IdleLine → (ℕ → ℕ → Policy) → ℕ → Act → Policy
policy_told idles before line (Born cpu pid nice) = named_policy idles line pid
policy_told idles before line (Shift orig dest pid nice) = before line pid
policy_told idles before line _ = Normal

-- the same of an event of a list, by the policies at the start
abbrev pub policy_in : List IdleLine → (ℕ → Policy) → List Entry → Entry → Policy
policy_in idles policies entries entry =
    policy_told idles (policies_before idles policies entries) entry.line entry.act

-- an event with what is said on its line, and a policy
abbrev pub with_claim : List Claim → List NiceLine → List ChargeLine → (Entry → Policy) → Entry → Claimed
with_claim claims nices charges policy entry = record {
  entry = entry;
  claim = claim_at claims entry.line;
  nice = nice_at nices entry.line;
  charge = charge_at charges entry.line;
  policy = policy entry;
}

-- each event with what is said on its line, and its policy
abbrev pub claimed : List Claim → List NiceLine → List ChargeLine → (Entry → Policy) → List Entry → List Claimed
claimed claims nices charges policy entries = map (λ entry. with_claim claims nices charges policy entry) entries

-- the claim is of this sort, and names this pid with this virtual runtime
abbrev pub ClaimSays : Option Claim → ClaimSort → ℕ → ℤ → Type 0
ClaimSays None sort pid v = ⊥
ClaimSays (Some claim) sort pid v = (claim.sort ≡ sort) × (claim.pid ≡ pid) × (claim.v ≡ v)
