-- What an event asks of a processor that it touches (this project's profile).
use Rattle.std.specs.Prelude.{ℕ, ◌==◌, if◌then◌else◌, Option, None}
use Rattle.cfs_model.specs.Claimed.{Claimed}
use Rattle.cfs_model.specs.declared.act.Act.{Act}
use Rattle.cfs_model.specs.declared.act.Act.TheVariants as act
use Rattle.cfs_model.specs.declared.charge_line.ChargeLine.{ChargeLine}
use Rattle.cfs_model.specs.declared.claim.Claim.{Claim}
use Rattle.cfs_model.specs.declared.nice_line.NiceLine.{NiceLine}
use Rattle.cfs_model.specs.declared.policy.Policy.{Policy}
use Rattle.replay_model.specs.declared.step.Deed.{Deed}
use Rattle.replay_model.specs.declared.step.Deed.TheVariants.{Switch, Wake, Born, Leave, Arrive}
use Rattle.replay_model.specs.declared.step.Step.{Step}

-- what an event does at a processor that it touches, with the policy of who is born or comes: a migration leaves its
-- origin and comes to its destination
abbrev pub deed_at : ℕ → Policy → Act → Deed
deed_at cpu policy (act.Switch here prev prev_nice way next next_nice) = Switch prev prev_nice way next next_nice
deed_at cpu policy (act.Wake here pid nice) = Wake pid nice
deed_at cpu policy (act.Born here pid nice) = Born pid nice policy
deed_at cpu policy (act.Shift orig dest pid nice) =
    if orig == cpu then Leave pid nice dest else Arrive pid nice orig policy

-- the claim on the event's line, but for the origin of a migration, which has none
abbrev pub claim_for : Deed → Option Claim → Option Claim
claim_for (Leave pid nice dest) claim = None
claim_for _ claim = claim

-- the change of a nice value on the event's line, but for the destination of a migration, which has none
abbrev pub nice_for : Deed → Option NiceLine → Option NiceLine
nice_for (Arrive pid nice orig policy) change = None
nice_for _ change = change

-- the told charge on the event's line, but for the destination of a migration, which has none
abbrev pub charge_for : Deed → Option ChargeLine → Option ChargeLine
charge_for (Arrive pid nice orig policy) charge = None
charge_for _ charge = charge

-- the event as a processor that it touches sees it
abbrev pub step_at : ℕ → Claimed → Step
step_at cpu event = record {
  line = event.entry.line;
  time = event.entry.time;
  deed = deed_at cpu event.policy event.entry.act;
  claim = claim_for (deed_at cpu event.policy event.entry.act) event.claim;
  nice = nice_for (deed_at cpu event.policy event.entry.act) event.nice;
  charge = charge_for (deed_at cpu event.policy event.entry.act) event.charge;
}
