-- So many of the events were joined, and the others wait, below them.
use Rattle.std.proofs.Common.{◌≡◌, ℕ, ◌<◌, ◌≤◌, true, List, ◌++◌, drop, length, get_or, take}
use Rattle.std.specs.Prelude.{IfSome}
use Rattle.cfs_model.specs.Claimed.{Claimed}
use Rattle.cfs_model.specs.declared.act.Entry.{Entry}
use Rattle.companion_file.specs.Companion.{CompanionView}
use Rattle.companion_file.specs.Seen.{companion_view}
use Rattle.sched_record.specs.Window.{waiting, window_view}
use Rattle.window_joining.proofs.Joined.{held}
use Rattle.window_joining.specs.Joining.{HasJoined, IsHeadOf, IsHeld, edge_from, is_refused, joined_events}
use Rattle.window_joining.specs.Look.{MayLook}
use Rattle.window_joining.proofs.joining.Joining.add.Given as goal

abbrev pub invariant-loop-index : goal.invariant-loop-index
invariant-loop-index l =
    let first = l.fn.self in
    record {
      looks : IfSome l.passed (MayLook (held (companion_view l.head) l.claims l.nices l.charges) l.self);
      waits : waiting l.window ≡ drop l.index l.events;
      refused : is_refused first ≡ true → is_refused l.self ≡ true;
      grown : first.line ≤ l.self.line;
      line : l.self.line ≡ edge_from first.line (take l.index l.events);
      above : (k : ℕ) (d : Entry) → l.index ≤ k → k < length l.events → l.self.line < (get_or l.events k d).line;
      joined : (c : CompanionView) (before : List Entry) → HasJoined first c before
          → IsHeadOf (companion_view l.head) c → IsHeld first.line c l.claims l.nices l.charges
          → HasJoined l.self c (before ++ take l.index l.events);
      window : (c : CompanionView) (before : List Entry) → HasJoined first c before
          → IsHeadOf (companion_view l.head) c → IsHeld first.line c l.claims l.nices l.charges
          → (earlier : List Claimed) → earlier ++ window_view l.fn.window ≡ joined_events c before
          → earlier ++ window_view l.window ≡ joined_events c (before ++ take l.index l.events);
    }
