-- A processor's part after a deed (this project's profile). The part spoken of is charged and lifted.
use Rattle.std.specs.Prelude.{ℕ, zero, suc, Option, Some, None, option_map, ℤ, pos}
use Rattle.replay_model.specs.Part.{Part, Entity}
use Rattle.cfs_model.specs.declared.act.Way.{Way}
use Rattle.cfs_model.specs.declared.claim.Claim.{Claim}
use Rattle.cfs_model.specs.declared.policy.Policy.{Policy}
use Rattle.cfs_model.specs.declared.task.Place.{Place}
use Rattle.cfs_model.specs.declared.task.Place.TheVariants.{Run, Wait, Rest}
use Rattle.replay_model.specs.declared.step.Deed.{Deed}
use Rattle.replay_model.specs.declared.step.Deed.TheVariants.{Switch, Wake, Born, Leave, Arrive}
use Rattle.replay_model.specs.Deeds.{goes, part_after_prev, place_of_sort, with_entity}

-- the next task runs
abbrev pub part_after_next : Part → ℕ → Part
part_after_next part zero = part
part_after_next part (suc n) = goes part (suc n) Run

-- a switch
abbrev pub switches : Part → ℕ → Way → ℕ → Part
switches part prev way next = part_after_next (part_after_prev part prev way) next

-- a task that rests waits at the claimed virtual runtime, and keeps its drift; one that runs or waits stays as it is
abbrev pub woken : Option Claim → Place → Entity → Entity
woken (Some claim) Rest s = record s { place = Wait; runtime = claim.v }
woken claim place s = s

-- a wakeup
abbrev pub wakes : Part → ℕ → Option Claim → Part
wakes part pid claim = with_entity part pid (option_map (λ s. woken claim s.place s) (part.tasks pid))

-- a birth: the task waits at the claimed virtual runtime, without a drift
abbrev pub is_born : Part → ℕ → ℤ → Policy → Option Claim → Part
is_born part pid nice policy claim =
    with_entity part pid
    (option_map (λ c. record { place = Wait; nice = nice; policy = policy; runtime = c.v; drift = pos 0 }) claim)

-- a migration, at the processor that the task leaves
abbrev pub leaves : Part → ℕ → Part
leaves part pid = with_entity part pid None

-- a migration, at the processor to which the task comes: place and virtual runtime are the claim's, and its drift
-- begins anew
abbrev pub arrives : Part → ℕ → ℤ → Policy → Option Claim → Part
arrives part pid nice policy claim =
    with_entity part pid
    (option_map
    (λ c. record { place = place_of_sort c.sort; nice = nice; policy = policy; runtime = c.v; drift = pos 0 })
    claim)

-- the part after a deed
abbrev pub after_deed : Part → Deed → Option Claim → Part
after_deed part (Switch prev prev_nice way next next_nice) claim = switches part prev way next
after_deed part (Wake pid nice) claim = wakes part pid claim
after_deed part (Born pid nice policy) claim = is_born part pid nice policy claim
after_deed part (Leave pid nice dest) claim = leaves part pid
after_deed part (Arrive pid nice orig policy) claim = arrives part pid nice policy claim
