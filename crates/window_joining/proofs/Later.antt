-- Where a companion says more, all of it below the last event's line, what is known of the events stays: nothing that
-- is more stands on their lines, or is stray up to there.
use Rattle.std.proofs.Common.{◌≡◌, ℕ, ◌<◌, ◌≤◌, List, Option, Some, None, inl, inr, sym, ap, ◌∙◌}
use Rattle.std.proofs.Common.{subst}
use Rattle.std.proofs.Common.{arith}
use Rattle.std.specs.Prelude.{All, MatchOption}
use Rattle.std.specs.List.{Contains}
use Rattle.std.proofs.lemmas.List.Elements.{All-contains, Contains-append_cases, Contains-append_left}
use Rattle.cfs_model.specs.Claimed.{Claimed, charge_at, claim_at, nice_at, policy_in, with_claim}
use Rattle.cfs_model.specs.Start.{policies_at_start}
use Rattle.cfs_model.specs.declared.act.Entry.{Entry}
use Rattle.cfs_model.specs.declared.charge_line.ChargeLine.{ChargeLine}
use Rattle.cfs_model.specs.declared.claim.Claim.{Claim}
use Rattle.cfs_model.specs.declared.idle_line.IdleLine.{IdleLine}
use Rattle.cfs_model.specs.declared.nice_line.NiceLine.{NiceLine}
use Rattle.cfs_model.specs.declared.task.Task.{Task}
use Rattle.companion_file.specs.Companion.{CompanionView}
use Rattle.sched_record.specs.Join.{BeginsInTime, HasStrayIdle, IsBeforeStart, IsFirstOutside, IsInside, IsLeastOf}
use Rattle.sched_record.specs.Join.{IsStray}
use Rattle.window_joining.proofs.Cuts.{found_before}
use Rattle.window_joining.proofs.Straying.{StandsOn, stands_in}
use Rattle.window_joining.proofs.Told.{same_map, same_said}
use Rattle.window_joining.specs.Joining.{GoesOn, HasJoined, SaysMore, joined_events}
use Rattle.window_joining.specs.declared.joining.Joining.{Joining}
use Rattle.window_laws.specs.ClaimedParts.{policies_through}

-- what stands on a line up to the edge
stands_later : {X : Type 0} (line_of : X → ℕ) (edge : ℕ) (items later : List X) (n : ℕ)
    → GoesOn X line_of edge items later → StandsOn line_of items n → StandsOn line_of later n
stands_later line_of edge items later n more =
    stands_in line_of items later n
    (λ x _ has. subst (λ xs. Contains xs x) (sym more.parts) (Contains-append_left items more.more x has))

stood_before : {X : Type 0} (line_of : X → ℕ) (edge : ℕ) (items later : List X) (n : ℕ)
    → GoesOn X line_of edge items later → n ≤ edge → StandsOn line_of later n → StandsOn line_of items n
stood_before line_of edge items later n more le =
    stands_in line_of later items n
    (λ x is has. elim (Contains-append_cases items more.more x (subst (λ xs. Contains xs x) more.parts has)) [
      | inl first ↦ first
      | inr last ↦ (
          let lt = All-contains (λ y. edge < line_of y) more.more x more.behind last in
          absurd (omega (arith, lt, is, le)))
    ])

module _ (c later : CompanionView) (events : List Entry) (edge : ℕ) (more : SaysMore edge c later) where
  stray_later : (n : ℕ) → IsStray events c n → IsStray events later n
  stray_later n (inl claim) =
      inl (stands_later (λ (x : Claim). x.line) edge c.claims later.claims n more.claims claim.0, claim.1)
  stray_later n (inr (inl change)) =
      inr (inl (stands_later (λ (x : NiceLine). x.line) edge c.nices later.nices n more.nices change.0, change.1))
  stray_later n (inr (inr (inl idle))) =
      inr (inr (inl (subst (λ is. HasStrayIdle events is n) more.head.idles idle)))
  stray_later n (inr (inr (inr charge))) =
      inr (inr (inr (
        stands_later (λ (x : ChargeLine). x.line) edge c.charges later.charges n more.charges charge.0,
        charge.1,
      )))

  stray_before : (n : ℕ) → n ≤ edge → IsStray events later n → IsStray events c n
  stray_before n le (inl claim) =
      inl (stood_before (λ (x : Claim). x.line) edge c.claims later.claims n more.claims le claim.0, claim.1)
  stray_before n le (inr (inl change)) =
      inr (inl (stood_before (λ (x : NiceLine). x.line) edge c.nices later.nices n more.nices le change.0, change.1))
  stray_before n le (inr (inr (inl idle))) =
      inr (inr (inl (subst (λ is. HasStrayIdle events is n) (sym more.head.idles) idle)))
  stray_before n le (inr (inr (inr charge))) =
      inr (inr (inr (
        stood_before (λ (x : ChargeLine). x.line) edge c.charges later.charges n more.charges le charge.0,
        charge.1,
      )))

  least_later : (found : Option ℕ) → IsLeastOf (λ n. (n ≤ edge) × IsStray events c n) found
      → IsLeastOf (λ n. (n ≤ edge) × IsStray events later n) found
  least_later None none = λ n stray. none n (stray.0, stray_before n stray.0 stray.1)
  least_later (Some line) least = (
    (least.0.0, stray_later line least.0.1),
    λ m stray. least.1 m (stray.0, stray_before m stray.0 stray.1),
  )

  abbrev of_first : Entry → Claimed
  of_first = with_claim c.claims c.nices c.charges (policy_in c.idles (policies_at_start c.tasks) events)

  abbrev of_later : Entry → Claimed
  of_later = with_claim later.claims later.nices later.charges
      (policy_in later.idles (policies_at_start later.tasks) events)

  same_here : (entry : Entry) → entry.line ≤ edge → of_later entry ≡ of_first entry
  same_here entry le = same_said entry (claim_at later.claims entry.line) (claim_at c.claims entry.line)
      (nice_at later.nices entry.line) (nice_at c.nices entry.line)
      (charge_at later.charges entry.line) (charge_at c.charges entry.line)
      (policy_in later.idles (policies_at_start later.tasks) events entry)
      (policy_in c.idles (policies_at_start c.tasks) events entry)
      (found_before (λ (x : Claim). x.line) edge entry.line c.claims later.claims more.claims le)
      (found_before (λ (x : NiceLine). x.line) edge entry.line c.nices later.nices more.nices le)
      (found_before (λ (x : ChargeLine). x.line) edge entry.line c.charges later.charges more.charges le)
      (ap (λ (is : List IdleLine). policy_in is (policies_at_start later.tasks) events entry) (sym more.head.idles)
      ∙ ap (λ (ts : List Task). policy_in c.idles (policies_at_start ts) events entry) (sym more.head.tasks))

  pub events_stay : All (λ event. event.line ≤ edge) events → joined_events later events ≡ joined_events c events
  events_stay low = same_map of_later of_first (λ entry. entry.line ≤ edge) same_here events low

pub joined_stays : (joining : Joining) (c later : CompanionView) (events : List Entry) → HasJoined joining c events
    → SaysMore joining.line c later → HasJoined joining later events
joined_stays joining c later events is more = record {
  edge = is.edge;
  lines = is.lines;
  policies = λ pid. is.policies pid
      ∙ ap (λ (is : List IdleLine). policies_through is (policies_at_start c.tasks) events pid) more.head.idles
      ∙ ap (λ (ts : List Task). policies_through later.idles (policies_at_start ts) events pid) more.head.tasks;
  outside = subst (λ n. MatchOption joining.outside (All (IsInside n) events) (IsFirstOutside n events))
      more.head.cpus is.outside;
  late = subst (λ n. MatchOption joining.late (BeginsInTime n events) (IsBeforeStart n events)) more.head.start is.late;
  stray = least_later c later events joining.line more joining.stray is.stray;
}
