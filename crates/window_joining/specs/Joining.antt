-- What joining knows of a trace's events and of a companion, as both come (this project's profile). The companion is
-- meant as it is said so far, with whole lists.
use Rattle.std.specs.Prelude.{◌≡◌, ℕ, ◌<◌, ◌≤◌, ◌||◌, All, Bool, List, [], ◌∷◌, ◌++◌, MatchOption, is_some}
use Rattle.std.specs.Prelude.{Option, Some, None, Result, Ok, Err, if◌then◌else◌}
use Rattle.cfs_model.specs.Claimed.{Claimed, claimed, policy_in}
use Rattle.cfs_model.specs.Limits.{no_line}
use Rattle.cfs_model.specs.Start.{policies_at_start}
use Rattle.cfs_model.specs.declared.act.Entry.{Entry}
use Rattle.cfs_model.specs.declared.charge_line.ChargeLine.{ChargeLine}
use Rattle.cfs_model.specs.declared.claim.Claim.{Claim}
use Rattle.cfs_model.specs.declared.nice_line.NiceLine.{NiceLine}
use Rattle.companion_file.specs.Companion.{CompanionView}
use Rattle.sched_record.specs.Join.{BeginsInTime, IsBeforeStart, IsFirstOutside, IsInside, IsLeastOf, IsStray}
use Rattle.sched_record.specs.Join.{joined_record}
use Rattle.sched_record.specs.RecordView.{RecordView}
use Rattle.sched_record.specs.declared.joining.JoinCause.{JoinCause}
use Rattle.sched_record.specs.declared.joining.JoinFault.{JoinFault}
use Rattle.window_joining.specs.Policies.{policies_view}
use Rattle.window_joining.specs.declared.joining.Joining.{Joining}
use Rattle.window_laws.specs.ClaimedParts.{policies_through}

-- the line of the last of some events behind a line, and that line where there is none
abbrev pub edge_from : ℕ → List Entry → ℕ
edge_from line [] = line
edge_from line (event ∷ events) = edge_from event.line events

-- the line of the last event, and the stand-in where there is none
abbrev pub edge_of : List Entry → ℕ
edge_of events = edge_from no_line events

-- the events with what a companion says on their lines
abbrev pub joined_events : CompanionView → List Entry → List Claimed
joined_events c events =
    claimed c.claims c.nices c.charges (policy_in c.idles (policies_at_start c.tasks) events) events

-- two companions begin alike: what one says before claims, changes of nice values and charges, the other says too
pub record IsHeadOf (head c : CompanionView) : Type 0 where
  pub cpus : head.cpus ≡ c.cpus
  pub start : head.start ≡ c.start
  pub floors : head.floors ≡ c.floors
  pub tasks : head.tasks ≡ c.tasks
  pub idles : head.idles ≡ c.idles

-- of what stands on lines the front is gone, none of it below this line
pub record IsRestOf (X : Type 0) (line_of : X → ℕ) (edge : ℕ) (all rest : List X) : Type 0 where
  pub gone : List X
  pub parts : all ≡ gone ++ rest
  pub passed : All (λ x. line_of x ≤ edge) gone

-- of what a companion says this is held, and what is gone stands on lines up to this one
pub record IsHeld (edge : ℕ) (c : CompanionView) (some_claims : List Claim) (some_nices : List NiceLine)
    (some_charges : List ChargeLine) : Type 0 where
  pub claims : IsRestOf Claim (λ claim. claim.line) edge c.claims some_claims
  pub nices : IsRestOf NiceLine (λ change. change.line) edge c.nices some_nices
  pub charges : IsRestOf ChargeLine (λ charge. charge.line) edge c.charges some_charges

-- what a companion says stands below this line
pub record StandBehind (edge : ℕ) (c : CompanionView) : Type 0 where
  pub claims : All (λ claim. edge < claim.line) c.claims
  pub nices : All (λ change. edge < change.line) c.nices
  pub charges : All (λ charge. edge < charge.line) c.charges

-- a list goes on with what stands below this line
pub record GoesOn (X : Type 0) (line_of : X → ℕ) (edge : ℕ) (items later : List X) : Type 0 where
  pub more : List X
  pub parts : later ≡ items ++ more
  pub behind : All (λ x. edge < line_of x) more

-- a companion says more, all of it below this line
pub record SaysMore (edge : ℕ) (c later : CompanionView) : Type 0 where
  pub head : IsHeadOf c later
  pub claims : GoesOn Claim (λ claim. claim.line) edge c.claims later.claims
  pub nices : GoesOn NiceLine (λ change. change.line) edge c.nices later.nices
  pub charges : GoesOn ChargeLine (λ charge. charge.line) edge c.charges later.charges

-- what is known of these events and of what the companion says up to the last of them
pub record HasJoined (joining : Joining) (c : CompanionView) (events : List Entry) : Type 0 where
  pub edge : joining.line ≡ edge_of events
  pub lines : All (λ event. (no_line < event.line) × (event.line ≤ joining.line)) events
  pub policies : (pid : ℕ) → policies_view joining.policies pid
      ≡ policies_through c.idles (policies_at_start c.tasks) events pid
  pub outside : MatchOption joining.outside (All (IsInside c.cpus) events) (IsFirstOutside c.cpus events)
  pub late : MatchOption joining.late (BeginsInTime c.start events) (IsBeforeStart c.start events)
  pub stray : IsLeastOf (λ line. (line ≤ joining.line) × IsStray events c line) joining.stray

-- there is a reason to refuse
abbrev pub is_refused : Joining → Bool
is_refused joining = (is_some joining.outside || is_some joining.late) || is_some joining.stray

-- the rank of the reason to refuse that is told, 0 where there is none: that an event is outside, that the first one
-- is late, or that something is said on a line without an event
abbrev pub rank_of : Joining → ℕ
rank_of joining =
    if is_some joining.outside then 3
    else (if is_some joining.late then 2 else (if is_some joining.stray then 1 else 0))

-- as far as the events go, they and the companion go together
pub record GoTogetherSoFar (events : List Entry) (c : CompanionView) : Type 0 where
  pub inside : All (IsInside c.cpus) events
  pub in_time : BeginsInTime c.start events
  pub on_events : (line : ℕ) → line ≤ edge_of events → ¬ IsStray events c line

-- what joining gives: the record, or the reason to refuse
abbrev pub joined_answer : List Entry → CompanionView → Option JoinFault → Result RecordView (ℕ × JoinCause)
joined_answer events c None = Ok (joined_record events c)
joined_answer events c (Some fault) = Err (fault.line, fault.cause)
