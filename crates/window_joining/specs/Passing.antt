-- What going on over an event changes in what joining knows (this project's profile).
use Rattle.std.specs.Prelude.{◌≡◌, ℕ, ◌<◌, ◌≤◌, All, true, List, [], ◌∷◌, ◌++◌, MatchOption, Option, Some}
use Rattle.cfs_model.specs.Claimed.{policies_after}
use Rattle.cfs_model.specs.Limits.{no_line}
use Rattle.cfs_model.specs.declared.act.Entry.{Entry}
use Rattle.sched_record.specs.Join.{BeginsInTime, IsBeforeStart, IsFirstOutside, IsInside, IsLeastOf}
use Rattle.window_joining.specs.Joining.{edge_of, is_refused}
use Rattle.window_joining.specs.News.{IsStrayBeside, ListsView}
use Rattle.window_joining.specs.Policies.{policies_view}
use Rattle.window_joining.specs.declared.joining.Joining.{Joining}

-- the line of the first event outside, with one more event
abbrev pub IsOutsideWith : ℕ → Entry → Option ℕ → Option ℕ → Type 0
IsOutsideWith cpus event before after =
    (events : List Entry) → MatchOption before (All (IsInside cpus) events) (IsFirstOutside cpus events)
    → MatchOption after (All (IsInside cpus) (events ++ event ∷ [])) (IsFirstOutside cpus (events ++ event ∷ []))

-- the line of the first event, where it comes before the start, with one more event, where this is the last one's line
abbrev pub IsLateWith : ℕ → ℕ → Entry → Option ℕ → Option ℕ → Type 0
IsLateWith start line event before after =
    (events : List Entry) → line ≡ edge_of events
    → All (λ earlier. (no_line < earlier.line) × (earlier.line ≤ line)) events
    → MatchOption before (BeginsInTime start events) (IsBeforeStart start events)
    → MatchOption after (BeginsInTime start (events ++ event ∷ [])) (IsBeforeStart start (events ++ event ∷ []))

-- going on over an event with what is new on the lines up to its own
pub record Passes (cpus start : ℕ) (news : ListsView) (event : Entry) (before after : Joining) : Type 0 where
  pub policies : (pid : ℕ) → policies_view after.policies pid
      ≡ policies_after news.idles (policies_view before.policies) event.line event.act pid
  pub stray : MatchOption before.stray (IsLeastOf (IsStrayBeside news event) after.stray)
      (λ line. after.stray ≡ Some line)
  pub outside : IsOutsideWith cpus event before.outside after.outside
  pub late : IsLateWith start before.line event before.late after.late
  pub line : after.line ≡ event.line
  pub refused : is_refused before ≡ true → is_refused after ≡ true
