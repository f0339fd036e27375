-- So many of the events were gone through, as those that come first, and the companion is past the others.
use Rattle.std.proofs.Common.{◌≡◌, ℕ, Bool, ◌-◌, ◌<◌, ◌≤◌, ◌++◌, List, length, take, Option}
use Rattle.cfs_model.specs.Claimed.{Claimed}
use Rattle.cfs_model.specs.declared.act.Entry.{Entry}
use Rattle.window_joining.specs.Joining.{edge_of}
use Rattle.stream_audit.specs.Companion.{IsFedBy, IsPast}
use Rattle.stream_audit.specs.Course.{AreJudged, IsCourseOf, IsHandedOn, IsReadyFor}
use Rattle.stream_audit.proofs.course.Course.go_through.Given as goal

abbrev pub invariant-loop-from : goal.invariant-loop-from
invariant-loop-from g l =
    let first = l.initial.self in
    record {
      within : l.from ≤ length l.events;
      aim : l.self.aim ≡ first.aim;
      handed_on : IsHandedOn l.self;
      fed : (calls : ℕ) (has_ended has_failed : Bool) → IsFedBy calls has_ended has_failed first.companion
          → IsFedBy calls has_ended has_failed l.self.companion;
      went : (gave left : Option (List ℕ)) (before : List Entry) (handed : List Claimed)
          (ready : IsReadyFor first.aim gave left first before handed l.events)
          → AreJudged first handed l.initial.judge
          → (after : List Claimed)
          × IsCourseOf first.aim gave left l.self ready.said (before ++ take l.from l.events) after
          × AreJudged l.self after l.judge;
      past : (gave left : Option (List ℕ)) (before : List Entry) (handed : List Claimed)
          (ready : IsReadyFor first.aim gave left first before handed l.events)
          → AreJudged first handed l.initial.judge → 0 < length l.events
          → IsPast (edge_of (before ++ l.events)) ready.said l.self.companion;
    }

abbrev pub decreases-loop-from : goal.decreases-loop-from
decreases-loop-from g l = length l.events - l.from
