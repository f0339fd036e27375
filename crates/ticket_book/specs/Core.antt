-- What the auditors of a record do with one book, atomic step after atomic step, in whatever order (this project's
-- profile). Each asks as often as it likes, and then posts its page.
use Rattle.std.specs.Prelude.{◌≡◌, ◌≢◌, ℕ, ◌<◌, ◌≤◌, ◌⊎◌, Option, Some, None, IsSome, List, [], ◌∷◌, length, replicate}
use Rattle.std.specs.Prelude.{slice_set}
use Rattle.cfs_model.specs.Machine.{put}
use Rattle.cfs_model.specs.Knobs.{KnobsView}
use Rattle.replay_model.specs.Page.{IsPageOf}
use Rattle.queue_replay.specs.Replay.{ReplayView}
use Rattle.sched_record.specs.Record.{RecordView}
use Rattle.ticket_book.specs.Book.{least_line, no_fault, page_at}
use Rattle.ticket_book.specs.Whole.{IsOwnPageOf}

-- one step of the auditor of a processor
pub data CoreStep : Type 0 where
  -- it asks for the least line of a fault on the pages
  ask : ℕ → CoreStep
  -- it posts its page
  post : ℕ → ReplayView → CoreStep

-- the pages at their processors' slots, and the line last told to each auditor: before its first question, that of no
-- fault
pub record Core : Type 0 where
  pub slots : List (Option ReplayView)
  pub told : ℕ → ℕ

-- the core before the first step
abbrev pub start_core : RecordView → Core
start_core r = record { slots = replicate r.cpus None; told = λ cpu. no_fault }

-- a page that the auditor of a processor may post, where this line was told to it last: that of its stream's replay, to
-- its first fault, by all steps with the end test, or up to a step on the line of the fault that was told or past it
pub record MayPost (knobs : KnobsView) (r : RecordView) (cpu told : ℕ) (page : ReplayView) : Type 0 where
  pub own : IsOwnPageOf knobs r cpu page
  pub is_page : IsPageOf page.stream page.knobs page.made page.page
  pub far : IsSome page.page.fault ⊎ (length page.stream.steps ≤ page.made)
      ⊎ ((told ≢ no_fault) × (told ≤ page.page.line))

-- a step of an auditor that hasn't posted
abbrev pub IsCoreStep : KnobsView → RecordView → Core → CoreStep → Core → Type 0
IsCoreStep knobs r core (ask cpu) after =
    (cpu < r.cpus) × (page_at core.slots cpu ≡ None)
    × (after ≡ record core { told = put core.told cpu (least_line core.slots) })
IsCoreStep knobs r core (post cpu page) after =
    (cpu < r.cpus) × (page_at core.slots cpu ≡ None) × MayPost knobs r cpu (core.told cpu) page
    × (after ≡ record core { slots = slice_set core.slots cpu (Some page) })

-- a list of steps
abbrev pub AreCoreSteps : KnobsView → RecordView → Core → List CoreStep → Core → Type 0
AreCoreSteps knobs r core [] after = after ≡ core
AreCoreSteps knobs r core (step ∷ steps) after =
    (next : Core) × IsCoreStep knobs r core step next × AreCoreSteps knobs r next steps after

-- these are the slots of a book that the auditors of all the record's processors leave, each of which has posted
pub record AreLeft (knobs : KnobsView) (r : RecordView) (slots : List (Option ReplayView)) : Type 0 where
  pub steps : List CoreStep
  pub core : Core
  pub are_steps : AreCoreSteps knobs r (start_core r) steps core
  pub complete : (cpu : ℕ) → cpu < r.cpus → IsSome (page_at core.slots cpu)
  pub are_slots : core.slots ≡ slots
