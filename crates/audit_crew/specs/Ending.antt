-- What the auditor of a stream brings back to its caller (this project's profile).
use Rattle.std.specs.Prelude.{◌≡◌, ℕ, Bool, true, false, Option, Some, None, ◌⊎◌}
use Rattle.std.specs.Option.{option_to_list}
use Rattle.cfs_model.specs.Knobs.{KnobsView}
use Rattle.replay_model.specs.Cut.{StreamView}
use Rattle.queue_replay.specs.Replay.{ReplayView}
use Rattle.queue_replay.specs.declared.tag.Tag.{Tag}
use Rattle.ticket_book.specs.declared.post_fault.PostFault.{PostFault}
use Rattle.audit_crew.specs.Tags.{IsOneTag, tag_of}

-- its page was accepted, and this is the tag of it
abbrev pub HasPosted : StreamView → KnobsView → Option Tag → Option (Tag × PostFault) → Bool → Type 0
HasPosted stream knobs posted refused memory =
    ((told : ℕ) × IsOneTag stream knobs told (option_to_list posted)) × (refused ≡ None) × (memory ≡ false)

-- its page was refused, and this is the tag of it, with the reason
abbrev pub HasComeBack : StreamView → KnobsView → Option Tag → Option (Tag × PostFault) → Bool → Type 0
HasComeBack stream knobs posted refused memory =
    ((page : ReplayView) × (fault : PostFault) × (refused ≡ Some (tag_of page, fault)) × (page.stream ≡ stream)
    × (page.knobs ≡ knobs)) × (posted ≡ None) × (memory ≡ false)

-- one of these two, or a growth was refused
abbrev pub IsBroughtBack : StreamView → KnobsView → Option Tag → Option (Tag × PostFault) → Bool → Type 0
IsBroughtBack stream knobs posted refused memory =
    HasPosted stream knobs posted refused memory ⊎ HasComeBack stream knobs posted refused memory ⊎ (memory ≡ true)
