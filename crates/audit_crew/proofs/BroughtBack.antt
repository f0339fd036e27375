-- What an auditor answers, with what its shelf has then, is what it brings back.
use Rattle.std.proofs.Common.{◌≡◌, ◌↔◌, ℕ, true, false, Bool, IsTrue, Option, Some, None, List, [], Result, Ok, Err}
use Rattle.std.proofs.Common.{OnOk, OnErr, IfErr, inl, inr, refl, sym, ◌∙◌}
use Rattle.std.specs.Option.{option_to_list}
use Rattle.cfs_model.specs.Knobs.{KnobsView}
use Rattle.replay_model.specs.Cut.{StreamView}
use Rattle.queue_replay.specs.declared.tag.Tag.{Tag}
use Rattle.ticket_book.specs.declared.post_fault.PostFault.{PostFault}
use Rattle.audit_crew.specs.Ending.{IsBroughtBack}
use Rattle.audit_crew.specs.Refusal.{IsToldBy}
use Rattle.audit_crew.specs.Tags.{IsOneTag}
use Rattle.audit_crew.specs.declared.auditor_fault.AuditorFault.{AuditorFault}
use Rattle.audit_crew.specs.declared.auditor_fault.AuditorFault.TheVariants as faults

none_of : (posted : Option Tag) → option_to_list posted ≡ [] → posted ≡ None
none_of None e = refl
none_of (Some tag) e = absurd cc

is_false : (b : Bool) → ¬ IsTrue b → b ≡ false
is_false true h = absurd (h refl)
is_false false h = refl

pub brought_back : {A : Type 0} (stream : StreamView) (knobs : KnobsView) (told : ℕ) (answer : Result A AuditorFault)
    (posted : Option Tag) (refused : Option (Tag × PostFault)) (memory : Bool)
    → OnOk answer (IsOneTag stream knobs told (option_to_list posted)) → OnOk answer (refused ≡ None)
    → OnErr answer (option_to_list posted ≡ []) → IfErr answer (IsToldBy refused stream knobs)
    → (IsTrue memory ↔ (answer ≡ Err faults.Memory)) → IsBroughtBack stream knobs posted refused memory
brought_back stream knobs told (Ok a) posted refused memory is none kept fault wants =
    inl ((told, is), none, is_false memory (λ yes. let e = wants.0 yes in cc))
brought_back stream knobs told (Err faults.Memory) posted refused memory is none kept fault wants =
    inr (inr (wants.1 refl))
brought_back stream knobs told (Err (faults.Refused page why)) posted refused memory is none kept fault wants =
    let by = fault in
    inr (inl ((page, why, by.0, by.1, by.2), none_of posted kept, is_false memory (λ yes. let e = wants.0 yes in cc)))
