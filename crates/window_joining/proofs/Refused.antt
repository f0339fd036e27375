-- One more event outside, or the first one early.
use Rattle.std.proofs.Common.{◌≡◌, ℕ, ◌<◌, ◌≤◌, List, [], ◌∷◌, ◌++◌, Option, Some, None, refl, ap, ◌∙◌, append_assoc}
use Rattle.std.proofs.Common.{arith}
use Rattle.std.specs.Prelude.{All, Any, MatchOption}
use Rattle.std.proofs.lemmas.List.Elements.{All-head, All-push}
use Rattle.cfs_model.specs.Limits.{no_line}
use Rattle.cfs_model.specs.Touch.{touched}
use Rattle.cfs_model.specs.declared.act.Entry.{Entry}
use Rattle.sched_record.specs.Join.{BeginsInTime, IsBeforeStart, IsInside}
use Rattle.window_joining.specs.Passing.{IsLateWith, IsOutsideWith}

-- the first event outside stays the first
pub still_outside : (cpus line : ℕ) (event : Entry) → IsOutsideWith cpus event (Some line) (Some line)
still_outside cpus line event events first = record {
  before = first.before;
  event = first.event;
  after = first.after ++ event ∷ [];
  parts = ap (λ es. es ++ event ∷ []) first.parts ∙ append_assoc first.before (first.event ∷ first.after) (event ∷ []);
  inside = first.inside;
  outside = first.outside;
  indexed = first.indexed;
}

pub still_inside : (cpus : ℕ) (event : Entry) → IsInside cpus event → IsOutsideWith cpus event None None
still_inside cpus event inside events all = All-push (IsInside cpus) events event all inside

-- what is known of the first one stays, where there is one or the event is inside
pub outside_stays : (cpus : ℕ) (event : Entry) (outside : Option ℕ) → (outside ≡ None → IsInside cpus event)
    → IsOutsideWith cpus event outside outside
outside_stays cpus event None inside = still_inside cpus event (inside refl)
outside_stays cpus event (Some line) inside = still_outside cpus line event

pub now_outside : (cpus : ℕ) (event : Entry) → Any (λ cpu. cpus ≤ cpu) (touched event.act)
    → IsOutsideWith cpus event None (Some event.line)
now_outside cpus event outside events all = record {
  before = events;
  event = event;
  after = [];
  parts = refl;
  inside = all;
  outside = outside;
  indexed = refl;
}

-- there is no event up to the first line
none_yet : (line : ℕ) (events : List Entry) → line ≡ no_line
    → All (λ x. (no_line < x.line) × (x.line ≤ line)) events → events ≡ []
none_yet line [] is all = refl
none_yet line (x ∷ events) is all =
    let first = All-head (λ (y : Entry). (no_line < y.line) × (y.line ≤ line)) x events all in
    let a = first.0 in let b = first.1 in absurd (omega (arith, a, b, is))

-- the first event is early
pub now_late : (start line : ℕ) (event : Entry) (late : Option ℕ) → line ≡ no_line → event.time < start
    → IsLateWith start line event late (Some event.line)
now_late start line event late first early events edge lines was =
    let none = none_yet line events first lines in
    record {
      event = event;
      after = [];
      parts = ap (λ es. es ++ event ∷ []) none;
      early = early;
      indexed = refl;
    }

-- an event that isn't the first, or not early, changes nothing
later_stays : (start : ℕ) (x event : Entry) (events : List Entry) (late : Option ℕ)
    → MatchOption late (BeginsInTime start (x ∷ events)) (IsBeforeStart start (x ∷ events))
    → MatchOption late (BeginsInTime start (x ∷ (events ++ event ∷ [])))
    (IsBeforeStart start (x ∷ (events ++ event ∷ [])))
later_stays start x event events None was = was
later_stays start x event events (Some line) was = record {
  event = was.event;
  after = was.after ++ event ∷ [];
  parts = ap (λ es. es ++ event ∷ []) was.parts;
  early = was.early;
  indexed = was.indexed;
}

none_early : (start : ℕ) (event : Entry) (late : Option ℕ) → start ≤ event.time
    → MatchOption late (BeginsInTime start []) (IsBeforeStart start [])
    → MatchOption late (BeginsInTime start (event ∷ [])) (IsBeforeStart start (event ∷ []))
none_early start event None le was = le
none_early start event (Some line) le was = (let e = was.parts in absurd cc)

pub late_stays : (start line : ℕ) (event : Entry) (late : Option ℕ) → (line ≡ no_line → start ≤ event.time)
    → IsLateWith start line event late late
late_stays start line event late in_time [] edge lines was = none_early start event late (in_time edge) was
late_stays start line event late in_time (x ∷ events) edge lines was = later_stays start x event events late was
