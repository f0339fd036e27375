-- What the fault of an auditor says of its shelf (this project's profile).
use Rattle.std.specs.Prelude.{◌≡◌, Option, Some, None}
use Rattle.cfs_model.specs.Knobs.{KnobsView}
use Rattle.replay_model.specs.Cut.{StreamView}
use Rattle.queue_replay.specs.declared.tag.Tag.{Tag}
use Rattle.ticket_book.specs.declared.post_fault.PostFault.{PostFault}
use Rattle.audit_crew.specs.Tags.{tag_of}
use Rattle.audit_crew.specs.declared.auditor_fault.AuditorFault.{AuditorFault}
use Rattle.audit_crew.specs.declared.auditor_fault.AuditorFault.TheVariants.{Memory, Refused}

-- the shelf's last refusal, by the fault of the auditor of a stream: none where memory was wanted; else that of the
-- page that came back, which is of that stream
abbrev pub IsToldBy : Option (Tag × PostFault) → StreamView → KnobsView → AuditorFault → Type 0
IsToldBy refusal stream knobs Memory = refusal ≡ None
IsToldBy refusal stream knobs (Refused page fault) =
    (refusal ≡ Some (tag_of page, fault)) × (page.stream ≡ stream) × (page.knobs ≡ knobs)
