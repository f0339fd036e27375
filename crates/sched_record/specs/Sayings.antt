-- What is said on lines, kept in little room, as contracts see it: the sayings (this project's profile).
use Rattle.std.specs.Prelude.{◌≡◌, ℕ, ◌+◌, Bool, true, false, Option, Some, None, List, slice_index_or}
use Rattle.cfs_model.specs.declared.claim.Claim.{Claim}
use Rattle.cfs_model.specs.declared.policy.Policy.TheVariants.{Normal}
use Rattle.sched_record.specs.declared.sayings.Said.{Said}
use Rattle.sched_record.specs.declared.sayings.Said.TheVariants.{Nothing, OneClaim, More}
use Rattle.sched_record.specs.declared.window.Saying.{Saying}

-- nothing is said, of a task of the usual policy
abbrev pub nothing_said : Saying
nothing_said = record { claim = None; nice = None; charge = None; policy = Normal }

-- this claim alone, or nothing
abbrev pub claim_alone : Bool → Claim → Saying
claim_alone true claim = record { claim = Some claim; nice = None; charge = None; policy = Normal }
claim_alone false claim = nothing_said

-- what is said, where these are kept whole
abbrev pub saying_of : List Saying → Said → Saying
saying_of more (Nothing other) = nothing_said
saying_of more (OneClaim claim) = record { claim = Some claim; nice = None; charge = None; policy = Normal }
saying_of more (More place) = slice_index_or more place nothing_said

-- what is said is nothing, or a claim alone; of one that is kept whole nothing is told
abbrev pub IsSaid : Said → Saying → Type 0
IsSaid (Nothing other) saying = saying ≡ nothing_said
IsSaid (OneClaim claim) saying = saying ≡ record { claim = Some claim; nice = None; charge = None; policy = Normal }
IsSaid (More place) saying = Unit {0}

-- the claim that is said alone, if one is
abbrev pub alone_of : Said → Option Claim
alone_of (Nothing other) = None
alone_of (OneClaim claim) = Some claim
alone_of (More place) = None

-- what is said is this claim alone, or nothing
abbrev pub IsAlone : Said → Option Claim → Type 0
IsAlone said claim = (saying : Saying) → IsSaid said saying
    → saying ≡ record { claim = claim; nice = None; charge = None; policy = Normal }

-- how many have to be kept whole for it
abbrev pub whole_for : Said → ℕ
whole_for (Nothing other) = 0
whole_for (OneClaim claim) = 0
whole_for (More place) = place + 1
