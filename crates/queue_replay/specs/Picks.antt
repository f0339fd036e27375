-- A switch's pick, once its previous task has gone its way (this project's profile).
use Rattle.std.specs.Prelude.{◌≡◌, ℕ, zero, suc, Option, Some, None, ℤ, pos, ◌+ℤ◌, ◌<ℤ◌}
use Rattle.replay_model.specs.Needs.{IsExcess}
use Rattle.replay_model.specs.Part.{Part, Entity, IsIn}
use Rattle.cfs_model.specs.declared.task.Place.TheVariants.{Wait}
use Rattle.runqueue.specs.Queue.{IsLeastIfWaiting}

-- the processor goes idle, and somebody waits here
abbrev pub IdlesBeside : Part → ℕ → ℕ → Type 0
IdlesBeside part zero pid = ((other : ℕ) × IsIn part Wait other) × (pid ≡ 0)
IdlesBeside part (suc n) pid = ⊥

-- the next task, as it stood, is above one that waits here by more than the granularity
abbrev pub IsAboveGranularity : ℕ → Option Entity → Part → ℕ → ℕ → Type 0
IsAboveGranularity granularity own part zero pid = ⊥
IsAboveGranularity granularity own part (suc n) pid =
    ((s t : Entity) × (other : ℕ) × (own ≡ Some s) × (part.tasks other ≡ Some t) × (t.place ≡ Wait)
    × ((t.runtime +ℤ pos granularity) <ℤ s.runtime)) × (pid ≡ suc n)

-- how far a task is above the least of those who wait; 0 where it isn't, and where there is none or nobody waits
abbrev pub IsAbove : Option Entity → Option ℤ → ℕ → Type 0
IsAbove (Some s) (Some least) lead = IsExcess s.runtime least lead
IsAbove None least lead = lead ≡ 0
IsAbove (Some s) None lead = lead ≡ 0

-- how far the next task, as it stood, is above the least of those who wait; 0 where the processor goes idle
abbrev pub IsLead : Option Entity → Part → ℕ → ℕ → Type 0
IsLead own part zero lead = lead ≡ 0
IsLead own part (suc n) lead = (least : Option ℤ) × IsLeastIfWaiting part least × IsAbove own least lead
