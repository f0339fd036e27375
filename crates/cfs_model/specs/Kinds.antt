-- The names and texts of the twenty-one kinds of fault (this project's profile).
use Rattle.std.specs.Prelude.{ℕ, List, codes}
use Rattle.cfs_model.specs.declared.kind.Kind.{Kind}
use Rattle.cfs_model.specs.declared.kind.Kind.TheVariants.{IdleTooLong, Range, WrongCharge, MoveHome, SelfSwitch}
use Rattle.cfs_model.specs.declared.kind.Kind.TheVariants.{PrevNotRunning, Strange, Already, MoveRunning, WrongPrio}
use Rattle.cfs_model.specs.declared.kind.Kind.TheVariants.{ClaimMissing, ClaimExtra, ClaimPid, WrongPutBack, WakeBounds}
use Rattle.cfs_model.specs.declared.kind.Kind.TheVariants.{ForkBounds, NextNotWaiting, IdleBesideWaiting, NotLeast}
use Rattle.cfs_model.specs.declared.kind.Kind.TheVariants.{TicketUnequal, BornTwice}

-- the name that a report prints
abbrev pub name_of : Kind → List ℕ
name_of IdleTooLong = codes "IdleTooLong"
name_of Range = codes "Range"
name_of WrongCharge = codes "WrongCharge"
name_of MoveHome = codes "MoveHome"
name_of SelfSwitch = codes "SelfSwitch"
name_of PrevNotRunning = codes "PrevNotRunning"
name_of Strange = codes "Strange"
name_of Already = codes "Already"
name_of MoveRunning = codes "MoveRunning"
name_of WrongPrio = codes "WrongPrio"
name_of ClaimMissing = codes "ClaimMissing"
name_of ClaimExtra = codes "ClaimExtra"
name_of ClaimPid = codes "ClaimPid"
name_of WrongPutBack = codes "WrongPutBack"
name_of WakeBounds = codes "WakeBounds"
name_of ForkBounds = codes "ForkBounds"
name_of NextNotWaiting = codes "NextNotWaiting"
name_of IdleBesideWaiting = codes "IdleBesideWaiting"
name_of NotLeast = codes "NotLeast"
name_of TicketUnequal = codes "TicketUnequal"
name_of BornTwice = codes "BornTwice"

-- the text that a report prints
abbrev pub text_of : Kind → List ℕ
text_of IdleTooLong = codes "idle beside a waiting task"
text_of Range = codes "virtual runtime out of range"
text_of WrongCharge = codes "charged beyond the drift"
text_of MoveHome = codes "migration to its own processor"
text_of SelfSwitch = codes "switch to the same task"
text_of PrevNotRunning = codes "previous task is not the running one"
text_of Strange = codes "task does not stand at this processor"
text_of Already = codes "task stands at this processor already"
text_of MoveRunning = codes "running task migrated"
text_of WrongPrio = codes "printed prio is not the task's own"
text_of ClaimMissing = codes "claim is missing"
text_of ClaimExtra = codes "claim on an event that needs none"
text_of ClaimPid = codes "claim names another task"
text_of WrongPutBack = codes "put back at another value"
text_of WakeBounds = codes "placed outside the wake bounds"
text_of ForkBounds = codes "placed outside the fork bounds"
text_of NextNotWaiting = codes "next task is not waiting here"
text_of IdleBesideWaiting = codes "switch to idle beside a waiting task"
text_of NotLeast = codes "next task is beyond the granularity"
text_of TicketUnequal = codes "migration values do not agree"
text_of BornTwice = codes "task born twice"
