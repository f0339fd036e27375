-- One more event followed, with what the record says of it.
use Rattle.std.proofs.Common.{◌≡◌, ℕ, ◌+◌, ◌<◌, List, [], ◌∷◌, ◌++◌, length, get_or, take, drop, Option, sym, ap}
use Rattle.std.proofs.Common.{◌∙◌, subst}
use Rattle.std.proofs.Math.Seq.{take-append_seam}
use Rattle.std.proofs.lemmas.List.{map-append, take_more}
use Rattle.cfs_model.specs.Claimed.{Claimed, claim_at, claimed, charge_at, nice_at, with_claim}
use Rattle.cfs_model.specs.declared.act.Entry.{Entry}
use Rattle.cfs_model.specs.declared.claim.Claim.{Claim}
use Rattle.cfs_model.specs.declared.charge_line.ChargeLine.{ChargeLine}
use Rattle.cfs_model.specs.declared.nice_line.NiceLine.{NiceLine}
use Rattle.queue_replay.specs.Replay.{ReplayView}
use Rattle.ticket_book.specs.Cursor.{AreFollowed}
use Rattle.ticket_book.specs.declared.cursor.Cursor.{Cursor}
use Rattle.cfs_model.specs.declared.policy.Policy.{Policy}

-- what was lent is the whole list
pub lent_back : (cursors before : List Cursor) (n : ℕ) → length cursors ≡ n
    → take n (cursors ++ drop (length cursors) before) ≡ cursors
lent_back cursors before n count =
    ap (λ k. take k (cursors ++ drop (length cursors) before)) (sym count)
    ∙ take-append_seam cursors (drop (length cursors) before)

pub followed_one_more : (slots : List (Option ReplayView)) (before after : List Cursor) (claims : List Claim)
    (nices : List NiceLine) (charges : List ChargeLine)
    (policy : Entry → Policy) (events : List Entry) (i : ℕ) (event : Entry) (claim : Option Claim)
    (nice : Option NiceLine) (charge : Option ChargeLine) (told : Policy)
    → i < length events → event ≡ get_or events i event
    → claim ≡ claim_at claims event.line → nice ≡ nice_at nices event.line
    → charge ≡ charge_at charges event.line → told ≡ policy event
    → ((dealt : List Claimed) → AreFollowed slots before dealt
    → AreFollowed slots after (dealt ++ record {
      entry = event;
      claim = claim;
      nice = nice;
      charge = charge;
      policy =
          told;
    } ∷ []))
    → AreFollowed slots before (claimed claims nices charges policy (take i events))
    → AreFollowed slots after (claimed claims nices charges policy (take (i + 1) events))
followed_one_more slots before after claims nices charges policy events i event claim nice charge told lt is is_claim
    is_nice is_charge is_told follows followed =
    let dealt = claimed claims nices charges policy (take i events) in
    let said_of : Option Claim → Option NiceLine → Option ChargeLine → Policy
    → Claimed = λ c n d b. record { entry = event; claim = c; nice = n; charge = d; policy = b } in
    let said : said_of claim nice charge told ≡ with_claim claims nices charges policy event =
    λ j. said_of (is_claim j) (is_nice j) (is_charge j) (is_told j) in
    let more : dealt ++ with_claim claims nices charges policy event ∷ []
    ≡ claimed claims nices charges policy (take (i + 1) events) =
    sym (ap (claimed claims nices charges policy) (take_more events i event lt
    ∙ ap (λ e. take i events ++ e ∷ []) (sym is))
    ∙ map-append (with_claim claims nices charges policy) (take i events) (event ∷ [])) in
    subst (AreFollowed slots after) (ap (λ e. dealt ++ e ∷ []) said ∙ more) (follows dealt followed)
