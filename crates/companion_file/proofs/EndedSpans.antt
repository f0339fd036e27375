-- A span that is given an end keeps its pid and its first line, so the spans rise as before, and start where they did.
use Rattle.std.proofs.Common.{◌≡◌, ℕ, zero, suc, ◌<◌, List, [], ◌∷◌, length, get_or, set, refl, ap, arith}
use Rattle.cfs_model.specs.declared.idle_line.IdleLine.{IdleLine}
use Rattle.companion_file.specs.declared.idle_span.IdleSpan.{IdleSpan}
use Rattle.companion_file.specs.Spans.{starts_span, AreSpansOf, ended}

abbrev with_end : IdleSpan → ℕ → IdleSpan
with_end span line = record { pid = span.pid; from = span.from; until = line }

pub ended_is : (spans : List IdleSpan) (index line : ℕ) (s : IdleSpan) → s ≡ get_or spans index s → index < length spans
    → set spans index (record { pid = s.pid; from = s.from; until = line }) ≡ ended spans index line
ended_is [] index line s e within = absurd (omega arith)
ended_is (x ∷ spans) zero line s e within = ap (λ (y : IdleSpan). with_end y line ∷ spans) e
ended_is (x ∷ spans) (suc index) line s e within =
    ap (λ (ss : List IdleSpan). x ∷ ss) (ended_is spans index line s e (omega arith))

pub ended_length : (spans : List IdleSpan) (index line : ℕ) → length (ended spans index line) ≡ length spans
ended_length [] index line = refl
ended_length (x ∷ spans) zero line = refl
ended_length (x ∷ spans) (suc index) line = ap suc (ended_length spans index line)

pub ended_pid : (spans : List IdleSpan) (index line i : ℕ) (d : IdleSpan)
    → (get_or (ended spans index line) i d).pid ≡ (get_or spans i d).pid
ended_pid [] index line i d = refl
ended_pid (x ∷ spans) zero line zero d = refl
ended_pid (x ∷ spans) zero line (suc i) d = refl
ended_pid (x ∷ spans) (suc index) line zero d = refl
ended_pid (x ∷ spans) (suc index) line (suc i) d = ended_pid spans index line i d

pub ended_from : (spans : List IdleSpan) (index line i : ℕ) (d : IdleSpan)
    → (get_or (ended spans index line) i d).from ≡ (get_or spans i d).from
ended_from [] index line i d = refl
ended_from (x ∷ spans) zero line zero d = refl
ended_from (x ∷ spans) zero line (suc i) d = refl
ended_from (x ∷ spans) (suc index) line zero d = refl
ended_from (x ∷ spans) (suc index) line (suc i) d = ended_from spans index line i d

pub ended_starts : (spans : List IdleSpan) (index line from pid : ℕ)
    → starts_span (ended spans index line) from pid ≡ starts_span spans from pid
ended_starts [] index line from pid = refl
ended_starts (x ∷ spans) zero line from pid = refl
ended_starts (x ∷ spans) (suc index) line from pid = rw (ended_starts spans index line from pid) refl

pub still_spans : (idles : List IdleLine) (spans : List IdleSpan) (index line : ℕ) → AreSpansOf idles spans
    → AreSpansOf idles (ended spans index line)
still_spans idles spans index line told =
    record {
      rise = λ i j d lt within.
          let h = told.rise i j d lt (rw (ended_length spans index line) at within) in
          record {
            pids = rw (ended_pid spans index line i d, ended_pid spans index line j d) h.pids;
            lines = rw (
              ended_pid spans index line i d,
              ended_pid spans index line j d,
              ended_from spans index line i d,
              ended_from spans index line j d,
            ) h.lines;
          };
      starts = λ from pid. rw (ended_starts spans index line from pid) (told.starts from pid);
    }
