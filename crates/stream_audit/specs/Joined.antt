-- The events of a record that are joined as they are read (this project's profile). A companion is seen as what is said
-- so far, with whole lists.
use Rattle.std.specs.Prelude.{◌≡◌, ℕ, ◌^◌, ◌<◌, ◌≤◌, List, ◌++◌, All, Ok, Err}
use Rattle.cfs_model.specs.Claimed.{Claimed}
use Rattle.stream_audit.specs.Aim.{AimView}
use Rattle.cfs_model.specs.Limits.{greatest_line}
use Rattle.cfs_model.specs.declared.act.Entry.{Entry}
use Rattle.cfs_model.specs.declared.charge_line.ChargeLine.{ChargeLine}
use Rattle.cfs_model.specs.declared.claim.Claim.{Claim}
use Rattle.cfs_model.specs.declared.nice_line.NiceLine.{NiceLine}
use Rattle.companion_file.specs.Companion.{CompanionView}
use Rattle.companion_file.specs.Order.{IsCompanionInOrder}
use Rattle.companion_file.specs.Seen.{companion_view}
use Rattle.least_places.specs.Finding.{IsFinding}
use Rattle.sched_record.specs.Join.{joined_record, RecordAnswer}
use Rattle.sched_record.specs.Kept.{AreInOrder}
use Rattle.sched_record.specs.Window.{window_view}
use Rattle.ticket_book.specs.SaidEvents.{events_of}
use Rattle.window_joining.specs.Joining.{HasJoined, IsHeadOf, IsHeld}
use Rattle.stream_audit.specs.declared.ending.Ending.{Ending}
use Rattle.stream_audit.specs.declared.ending.Ending.TheVariants.{Judged, Apart}
use Rattle.stream_audit.specs.declared.joined_events.JoinedEvents.{JoinedEvents}

-- these events were joined with a companion that said this so far; these of what was joined were handed on, and the
-- others are the window's
pub record AreJoinedSoFar (c : CompanionView) (events : List Entry) (handed : List Claimed) (joined : JoinedEvents)
    : Type 0
  where
    pub head : IsHeadOf (companion_view joined.start) c
    pub joining : HasJoined joined.joining c events
    pub window : handed ++ window_view joined.window ≡ events_of (joined_record events c)

-- both texts are in order so far, and these events come next
pub record AreNext (c : CompanionView) (before events : List Entry) : Type 0 where
  pub companion : IsCompanionInOrder c
  pub trace : AreInOrder (before ++ events)
  pub few : All (λ event. event.line ≤ greatest_line) (before ++ events)

-- these events come next, and this is held of what the companion says of lines behind those before
pub record Comes (c : CompanionView) (before : List Entry) (handed : List Claimed) (events : List Entry)
    (claims : List Claim) (nices : List NiceLine) (charges : List ChargeLine) (joined : JoinedEvents) : Type 0
  where
    pub so_far : AreJoinedSoFar c before handed joined
    pub next : AreNext c before events
    pub held : IsHeld joined.joining.line c claims nices charges

-- both texts were read whole: these are all events, none is later than a time that fits, and this is left of what the
-- companion says
pub record IsLast (c : CompanionView) (events : List Entry) (handed : List Claimed) (claims : List Claim)
    (nices : List NiceLine) (charges : List ChargeLine) (joined : JoinedEvents) : Type 0
  where
    pub so_far : AreJoinedSoFar c events handed joined
    pub companion : IsCompanionInOrder c
    pub trace : AreInOrder events
    pub few : All (λ event. event.line ≤ greatest_line) events
    pub held : IsHeld joined.joining.line c claims nices charges
    pub last : ℕ
    pub times : All (λ event. event.time ≤ last) events
    pub last_fits : last < 2 ^ 64

-- what is found of the record that both texts are, or why they don't go together
abbrev pub IsEndOf : AimView → CompanionView → List Entry → Ending → Type 0
IsEndOf aim c events (Judged finding) =
    RecordAnswer events c (Ok (joined_record events c)) × IsFinding aim.least aim.knobs (joined_record events c) finding
IsEndOf aim c events (Apart fault) = RecordAnswer events c (Err (fault.line, fault.cause))
