-- What dealing finds: what stands on an event's line, and the step with it.
use Rattle.std.proofs.Common.{◌≡◌, ℕ, zero, suc, ◌+◌, ◌<◌, List, [], ◌∷◌, ◌++◌, length, get_or, map, take, cond}
use Rattle.std.proofs.Common.{eqb, Option, Some, None, refl, sym, ap, ◌∙◌, arith}
use Rattle.std.specs.Prelude.{find}
use Rattle.std.proofs.lemmas.Bool.{eq-eqb, ne_eqb}
use Rattle.std.proofs.lemmas.List.{map_more}
use Rattle.cfs_model.specs.Claimed.{charge_at, claim_at, nice_at, with_claim}
use Rattle.replay_model.specs.StepAt.{charge_for, claim_for, deed_at, nice_for, step_at}
use Rattle.cfs_model.specs.declared.act.Entry.{Entry}
use Rattle.cfs_model.specs.declared.claim.Claim.{Claim}
use Rattle.cfs_model.specs.declared.nice_line.NiceLine.{NiceLine}
use Rattle.cfs_model.specs.declared.charge_line.ChargeLine.{ChargeLine}
use Rattle.replay_model.specs.declared.step.Deed.{Deed}
use Rattle.replay_model.specs.declared.step.Step.{Step}
use Rattle.sched_record.proofs.Indexing.{step_of, touching}
use Rattle.cfs_model.specs.declared.policy.Policy.{Policy}

-- what stands on a line, where all before it stands above
pub item_found : {X : Type 0} (f : X → ℕ) (items : List X) (line index : ℕ) (d : X)
    → ((k : ℕ) (e : X) → k < index → f (get_or items k e) < line)
    → index < length items → f (get_or items index d) ≡ line
    → find (λ item. eqb (f item) line) items ≡ Some (get_or items index d)
item_found f [] line index d above h same = absurd (omega arith)
item_found {X} f (item ∷ items) line zero d above h same =
    ap (λ b. cond b (Some item) (find (λ (x : X). eqb (f x) line) items)) (eq-eqb (f item) line same)
item_found {X} f (item ∷ items) line (suc index) d above h same =
    let first : f item < line = above 0 item (omega arith) in
    ap (λ b. cond b (Some item) (find (λ (x : X). eqb (f x) line) items))
    (ne_eqb (f item) line (λ e. absurd (omega (arith, first, e))))
    ∙ item_found f items line index d (λ k e lt. above (suc k) e (omega arith)) (omega arith) same

-- nothing on a line
pub item_missing : {X : Type 0} (f : X → ℕ) (items : List X) (line : ℕ)
    → ((k : ℕ) (e : X) → k < length items → f (get_or items k e) ≡ line → ⊥)
    → find (λ item. eqb (f item) line) items ≡ None
item_missing f [] line none = refl
item_missing {X} f (item ∷ items) line none =
    ap (λ b. cond b (Some item) (find (λ (x : X). eqb (f x) line) items))
    (ne_eqb (f item) line (none 0 item (omega arith)))
    ∙ item_missing f items line (λ k e h. none (suc k) e (omega arith))

-- a step with what stands on its line
step_is : (cpu : ℕ) (claims : List Claim) (nices : List NiceLine) (charges : List ChargeLine) (policy : Entry
    → Policy) (event : Entry) (deed : Deed) (found claim : Option Claim) (change nice : Option NiceLine)
    (told charge : Option ChargeLine)
    → deed ≡ deed_at cpu (policy event) event.act → found ≡ claim_at claims event.line → claim ≡ claim_for deed found
    → change ≡ nice_at nices event.line → nice ≡ nice_for deed change → told ≡ charge_at charges event.line
    → charge ≡ charge_for deed told
    → record { line = event.line; time = event.time; deed = deed; claim = claim; nice = nice; charge = charge }
    ≡ step_at cpu (with_claim claims nices charges policy event)
step_is cpu claims nices charges policy event deed found claim change nice told charge is_deed is_found is_claim
    is_change is_nice is_told is_charge =
    let step : Deed → Option Claim → Option NiceLine → Option ChargeLine → Step =
    λ d c n t. record { line = event.line; time = event.time; deed = d; claim = c; nice = n; charge = t } in
    let found_claim = claim_at claims event.line in
    let found_nice = nice_at nices event.line in
    let found_charge = charge_at charges event.line in
    ap (λ c. step deed c nice charge) (is_claim ∙ ap (λ f. claim_for deed f) is_found)
    ∙ ap (λ n. step deed (claim_for deed found_claim) n charge) (is_nice ∙ ap (λ f. nice_for deed f) is_change)
    ∙ ap (λ t. step deed (claim_for deed found_claim) (nice_for deed found_nice) t) (is_charge
    ∙ ap (λ f. charge_for deed f) is_told)
    ∙ ap (λ d. step d (claim_for d found_claim) (nice_for d found_nice) (charge_for d found_charge)) is_deed

-- the step of the next of the events that touch the processor
pub dealt_more : (cpu : ℕ) (claims : List Claim) (nices : List NiceLine) (charges : List ChargeLine) (policy : Entry
    → Policy) (events : List Entry) (i : ℕ) (event : Entry) (steps : List Step) (deed : Deed)
    (found claim : Option Claim) (change nice : Option NiceLine) (told charge : Option ChargeLine)
    → i < length (touching cpu events)
    → event ≡ get_or (touching cpu events) i event
    → steps ≡ map (step_of cpu claims nices charges policy) (take i (touching cpu events))
    → deed ≡ deed_at cpu (policy event) event.act → found ≡ claim_at claims event.line → claim ≡ claim_for deed found
    → change ≡ nice_at nices event.line → nice ≡ nice_for deed change → told ≡ charge_at charges event.line
    → charge ≡ charge_for deed told
    → steps
    ++ record { line = event.line; time = event.time; deed = deed; claim = claim; nice = nice; charge = charge } ∷ []
    ≡ map (step_of cpu claims nices charges policy) (take (i + 1) (touching cpu events))
dealt_more cpu claims nices charges policy events i event steps deed found claim change nice told charge h is_event
    dealt is_deed is_found is_claim is_change is_nice is_told is_charge =
    let there = touching cpu events in
    ap (λ step. steps ++ step ∷ []) (step_is cpu claims nices charges policy event deed found claim change nice told
    charge is_deed is_found is_claim is_change is_nice is_told is_charge
    ∙ ap (step_of cpu claims nices charges policy) is_event)
    ∙ ap (λ ss. ss ++ step_of cpu claims nices charges policy (get_or there i event) ∷ []) dealt
    ∙ sym (map_more (step_of cpu claims nices charges policy) there i event h)
