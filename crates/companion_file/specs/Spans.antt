-- From which line on a task is of the idle policy, and where that ends.
use Rattle.std.specs.Prelude.{◌≡◌, ℕ, zero, suc, ◌==◌, ◌<◌, ◌≤◌, Bool, ◌&&◌, List, [], ◌∷◌, AllPairs}
use Rattle.std.specs.List.{list_any}
use Rattle.cfs_model.specs.declared.idle_line.IdleLine.{IdleLine}
use Rattle.cfs_model.specs.Limits.{no_line}
use Rattle.cfs_model.specs.Claimed.{is_named_idle}
use Rattle.companion_file.specs.declared.idle_span.IdleSpan.{IdleSpan}

-- the span that an idle line begins; where it ends isn't known yet
abbrev pub span_of : IdleLine → IdleSpan
span_of idle = record { pid = idle.pid; from = idle.line; until = no_line }

-- a span starts at this line, of the task of this pid
abbrev pub starts_span : List IdleSpan → ℕ → ℕ → Bool
starts_span spans line pid = list_any (λ span. (span.from == line) && (span.pid == pid)) spans

-- a span may stand behind another: its pid is above the other's, or it is the same and the span starts later
pub record SpanRises (a b : IdleSpan) : Type 0 where
  pub pids : a.pid ≤ b.pid
  pub lines : a.pid ≡ b.pid → a.from < b.from

-- the spans rise, and one starts just where the companion names a task as one of the idle policy
pub record AreSpansOf (idles : List IdleLine) (spans : List IdleSpan) : Type 0 where
  pub rise : AllPairs SpanRises spans
  pub starts : (line pid : ℕ) → is_named_idle idles line pid ≡ starts_span spans line pid

-- the spans, of which the one at this index ends at this line
abbrev pub ended : List IdleSpan → ℕ → ℕ → List IdleSpan
ended [] index line = []
ended (span ∷ spans) zero line = record { pid = span.pid; from = span.from; until = line } ∷ spans
ended (span ∷ spans) (suc index) line = span ∷ ended spans index line
