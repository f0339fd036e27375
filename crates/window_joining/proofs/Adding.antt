-- One event after another is joined.
use Rattle.std.proofs.Common.{◌≡◌, ℕ, zero, suc, ◌+◌, ◌<◌, ◌≤◌, List, [], ◌∷◌, ◌++◌, drop, length, get_or, take}
use Rattle.std.proofs.Common.{refl, sym, ap, ◌∙◌, arith, append_assoc}
use Rattle.std.specs.List.{AllPairs}
use Rattle.std.proofs.lemmas.List.{at_drop_more, take_more}
use Rattle.cfs_model.specs.declared.act.Entry.{Entry}
use Rattle.cfs_model.specs.declared.charge_line.ChargeLine.{ChargeLine}
use Rattle.cfs_model.specs.declared.claim.Claim.{Claim}
use Rattle.cfs_model.specs.declared.nice_line.NiceLine.{NiceLine}
use Rattle.companion_file.specs.Companion.{CompanionView}
use Rattle.window_joining.specs.Joining.{IsHeld, IsRestOf}

rest_on : {A : Type 0} (line_of : A → ℕ) (edge later : ℕ) (all rest : List A) → edge ≤ later
    → IsRestOf A line_of edge all rest → IsRestOf A line_of later all rest
rest_on line_of edge later all rest up r = record {
  gone = r.gone;
  parts = r.parts;
  passed = λ k d h. let below = r.passed k d h in omega (arith, below, up);
}

-- what is held of a companion stays held for later lines
pub held_on : (edge later : ℕ) (c : CompanionView) (claims : List Claim) (nices : List NiceLine)
    (charges : List ChargeLine) → edge ≤ later → IsHeld edge c claims nices charges
    → IsHeld later c claims nices charges
held_on edge later c claims nices charges up h = record {
  claims = rest_on (λ (claim : Claim). claim.line) edge later c.claims claims up h.claims;
  nices = rest_on (λ (change : NiceLine). change.line) edge later c.nices nices up h.nices;
  charges = rest_on (λ (charge : ChargeLine). charge.line) edge later c.charges charges up h.charges;
}

same_at : (events : List Entry) (k : ℕ) (d e : Entry) → k < length events → get_or events k d ≡ get_or events k e
same_at [] k d e within = absurd (omega (arith, within))
same_at (event ∷ events) zero d e within = refl
same_at (event ∷ events) (suc k) d e within = same_at events k d e (omega (arith, within))

-- the events behind one of them stand below it
pub rest_behind : (events : List Entry) (i k : ℕ) (event d : Entry)
    → AllPairs (λ (a : Entry) (b : Entry). a.line < b.line) events
    → i < k → k < length events → event ≡ get_or events i event → event.line < (get_or events k d).line
rest_behind events i k event d rise below within is =
    let here = ap (λ (e : Entry). e.line) (is ∙ same_at events i event d (omega (arith, below, within))) in
    let up = rise i k d below within in
    omega (arith, here, up)

-- the event at an index is the first of those that wait
pub next_waits : (events : List Entry) (i : ℕ) (event : Entry) → i < length events → event ≡ get_or events i event
    → drop i events ≡ event ∷ drop (i + 1) events
next_waits events i event within is =
    at_drop_more (λ r. r) events i event within ∙ ap (λ e. e ∷ drop (i + 1) events) (sym is)

-- one more was joined
pub after_one : (before events : List Entry) (i : ℕ) (event : Entry) → i < length events
    → event ≡ get_or events i event → (before ++ take i events) ++ event ∷ [] ≡ before ++ take (i + 1) events
after_one before events i event within is =
    append_assoc before (take i events) (event ∷ [])
    ∙ ap (λ xs. before ++ xs) (ap (λ e. take i events ++ e ∷ []) is ∙ sym (take_more events i event within))
