-- What the companion says on the events' lines, walked side by side with the events (this project's profile).
use Rattle.std.specs.Prelude.{ℕ, ◌<◌, ◌≤◌, ◌==◌, Bool, false, ◌&&◌, List, length, slice_get, slice_index_or}
use Rattle.std.specs.Option.{option_map_or}
use Rattle.cfs_model.specs.declared.act.Entry.{Entry}
use Rattle.cfs_model.specs.declared.idle_line.IdleLine.{IdleLine}
use Rattle.sched_record.specs.Join.{is_birth_of}
use Rattle.sched_record.specs.RecordView.{RecordView}

-- an index in what stands on lines, as the walk has it at an event: what is before the index stands on lines above this
-- event's and those of all later ones
pub record IsIndexBeside (X : Type 0) (line : X → ℕ) (items : List X) (events : List Entry) (event index : ℕ) : Type 0
  where
    pub within : index ≤ length items
    pub passed : (k j : ℕ) (item : X) (entry : Entry) → k < index → event ≤ j → j < length events
        → line (slice_index_or items k item) < (slice_index_or events j entry).line

-- such an index in a record's claims
abbrev pub IsClaimIndex : RecordView → ℕ → ℕ → Type 0
IsClaimIndex r = IsIndexBeside _ (λ claim. claim.line) r.claims r.events

-- such an index in a record's changes of nice values
abbrev pub IsNiceIndex : RecordView → ℕ → ℕ → Type 0
IsNiceIndex r = IsIndexBeside _ (λ change. change.line) r.nices r.events

-- such an index in a record's charges
abbrev pub IsChargeIndex : RecordView → ℕ → ℕ → Type 0
IsChargeIndex r = IsIndexBeside _ (λ charge. charge.line) r.charges r.events

-- the event at the index is the birth that the idle line speaks of
abbrev pub is_birth_there : List Entry → ℕ → IdleLine → Bool
is_birth_there events index idle =
    option_map_or (λ event. (event.line == idle.line) && is_birth_of idle.pid event.act) (slice_get events index) false
