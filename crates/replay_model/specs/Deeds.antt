-- What a change of a nice value and the way out of a switch change in a processor's part, and the tickets of a
-- migration (this project's profile). The part spoken of is charged and lifted.
use Rattle.std.specs.Prelude.{ℕ, zero, suc, Option, Some, None, option_map, ℤ, ◌-ℤ◌}
use Rattle.cfs_model.specs.Machine.{put}
use Rattle.replay_model.specs.Part.{Part, Entity}
use Rattle.cfs_model.specs.declared.act.Way.{Way}
use Rattle.cfs_model.specs.declared.act.Way.TheVariants.{Stays, Sleeps, Ends}
use Rattle.cfs_model.specs.declared.claim.Claim.{Claim}
use Rattle.cfs_model.specs.declared.claim.ClaimSort.{ClaimSort}
use Rattle.cfs_model.specs.declared.claim.ClaimSort.TheVariants.{At, Pass}
use Rattle.cfs_model.specs.declared.nice_line.NiceLine.{NiceLine}
use Rattle.cfs_model.specs.declared.task.Place.{Place}
use Rattle.cfs_model.specs.declared.task.Place.TheVariants.{Wait, Rest}
use Rattle.replay_model.specs.declared.page.Ticket.{Ticket}
use Rattle.cfs_model.specs.declared.policy.Policy.{Policy}

-- the pid stands here so, or no more
abbrev pub with_entity : Part → ℕ → Option Entity → Part
with_entity part pid s = record part { tasks = put part.tasks pid s }

-- the task that a change of a nice value names has the new one, where it stands here
abbrev pub reniced : Option NiceLine → Part → Part
reniced None part = part
reniced (Some change) part =
    with_entity part change.pid (option_map (λ (s : Entity). record s { nice = change.nice }) (part.tasks change.pid))

-- the pid goes to another place here
abbrev pub goes : Part → ℕ → Place → Part
goes part pid place = with_entity part pid (option_map (λ (s : Entity). record s { place = place }) (part.tasks pid))

-- the previous task of a switch waits, rests or is gone
abbrev pub part_after_prev : Part → ℕ → Way → Part
part_after_prev part zero way = part
part_after_prev part (suc n) Stays = goes part (suc n) Wait
part_after_prev part (suc n) Sleeps = goes part (suc n) Rest
part_after_prev part (suc n) Ends = with_entity part (suc n) None

-- the place that a migration's claim tells
abbrev pub place_of_sort : ClaimSort → Place
place_of_sort At = Wait
place_of_sort Pass = Rest

-- the ticket of a task that leaves: its nice value, policy and place, and its virtual runtime less the floor
abbrev pub left_ticket : Part → ℕ → ℕ → Option Ticket
left_ticket part line pid =
    option_map (λ s. record
    { line = line; pid = pid; nice = s.nice; policy = s.policy; place = s.place; offset = s.runtime -ℤ part.floor })
    (part.tasks pid)

-- the ticket of a task that comes, by its claim
abbrev pub came_ticket : Part → ℕ → ℕ → ℤ → Policy → Option Claim → Option Ticket
came_ticket part line pid nice policy claim =
    option_map (λ c. record
    { line = line; pid = pid; nice = nice; policy = policy; place = place_of_sort c.sort; offset = c.v -ℤ part.floor })
    claim
