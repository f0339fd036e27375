-- How long a task that the companion names stays of the idle policy: until the next birth of its pid (this project's
-- profile). The spans say it, one for each idle line.
use Rattle.std.specs.Prelude.{◌≡◌, ℕ, ◌<◌, ◌≤◌, ◌==◌, nat_lt, Bool, ◌&&◌, ◌||◌, IsTrue, List, ◌⊎◌, length}
use Rattle.std.specs.Prelude.{slice_index_or}
use Rattle.cfs_model.specs.Limits.{no_line}
use Rattle.cfs_model.specs.declared.act.Entry.{Entry}
use Rattle.companion_file.specs.Spans.{ended}
use Rattle.companion_file.specs.declared.idle_span.IdleSpan.{IdleSpan}
use Rattle.sched_record.specs.Join.{is_birth_line}

-- the span ends at the first birth of its pid behind its start, and has no end where there is no such birth
pub record EndsAtBirth (events : List Entry) (span : IdleSpan) : Type 0 where
  pub found : no_line < span.until → (span.from < span.until) × IsTrue (is_birth_line events span.until span.pid)
  pub first : (line : ℕ) → span.from < line → IsTrue (is_birth_line events line span.pid)
      → (no_line < span.until) × (span.until ≤ line)

-- the span stands before one of this pid that starts at this line
abbrev pub stands_before : ℕ → ℕ → IdleSpan → Bool
stands_before line pid span = nat_lt span.pid pid || ((span.pid == pid) && nat_lt span.from line)

-- so many spans stand before one of this pid that starts at this line: those before the index
pub record IsSpanIndex (spans : List IdleSpan) (line pid index : ℕ) : Type 0 where
  pub within : index ≤ length spans
  pub before : (k : ℕ) (d : IdleSpan) → k < index → IsTrue (stands_before line pid (slice_index_or spans k d))
  pub behind : (k : ℕ) (d : IdleSpan) → index ≤ k → k < length spans
      → ¬ IsTrue (stands_before line pid (slice_index_or spans k d))

-- the index of the last span of this pid that starts above this line
pub record IsLastBefore (spans : List IdleSpan) (line pid index : ℕ) : Type 0 where
  pub within : index < length spans
  pub named : (d : IdleSpan) → (slice_index_or spans index d).pid ≡ pid
  pub above : (d : IdleSpan) → (slice_index_or spans index d).from < line
  pub last : (k : ℕ) (d : IdleSpan) → k < length spans → (slice_index_or spans k d).pid ≡ pid
      → (slice_index_or spans k d).from < line → k ≤ index

-- no span of this pid starts above this line
abbrev pub NoneBefore : List IdleSpan → ℕ → ℕ → Type 0
NoneBefore spans line pid = (k : ℕ) (d : IdleSpan) → k < length spans → (slice_index_or spans k d).pid ≡ pid
    → line ≤ (slice_index_or spans k d).from

-- the last span of this pid that starts above this line has an end: this line, where it had none
abbrev pub EndsLast : List IdleSpan → ℕ → ℕ → List IdleSpan → Type 0
EndsLast old line pid new =
    (NoneBefore old line pid × (new ≡ old))
    ⊎ ((index : ℕ) × IsLastBefore old line pid index × ((d : IdleSpan) → no_line < (slice_index_or old index d).until)
    × (new ≡ old))
    ⊎ ((index : ℕ) × IsLastBefore old line pid index × ((d : IdleSpan) → (slice_index_or old index d).until ≡ no_line)
    × (new ≡ ended old index line))
