-- What joining knows, one event on, and at the end.
use Rattle.std.proofs.Common.{◌≡◌, ℕ, ◌<◌, ◌≤◌, List, [], ◌∷◌, ◌++◌, refl, sym, ap}
use Rattle.std.proofs.Common.{◌∙◌, subst, arith, append_assoc}
use Rattle.std.specs.Prelude.{All, MatchOption}
use Rattle.std.proofs.lemmas.List.Elements.{All-push, All-weaker}
use Rattle.cfs_model.specs.Claimed.{Claimed, charge_at, claim_at, nice_at, policy_in, policy_told, with_claim}
use Rattle.cfs_model.specs.Limits.{no_line}
use Rattle.cfs_model.specs.Start.{policies_at_start}
use Rattle.cfs_model.specs.declared.act.Entry.{Entry}
use Rattle.cfs_model.specs.declared.charge_line.ChargeLine.{ChargeLine}
use Rattle.cfs_model.specs.declared.claim.Claim.{Claim}
use Rattle.cfs_model.specs.declared.idle_line.IdleLine.{IdleLine}
use Rattle.cfs_model.specs.declared.nice_line.NiceLine.{NiceLine}
use Rattle.cfs_model.specs.declared.policy.Policy.{Policy}
use Rattle.companion_file.specs.Companion.{CompanionView}
use Rattle.sched_record.specs.Join.{BeginsInTime, IsBeforeStart, IsFirstOutside, IsInside, IsLeastOf, IsStray}
use Rattle.companion_file.specs.Order.{IdleRises}
use Rattle.window_joining.proofs.Cuts.{cut_of_rest, cut_pairs, found_in_cut}
use Rattle.window_joining.proofs.Straying.{least_more}
use Rattle.window_joining.proofs.Told.{after_by_news, joined_more, same_said, through_more, told_by_news, told_next}
use Rattle.window_joining.specs.Between.{IsCut}
use Rattle.window_joining.specs.Joining.{edge_from, HasJoined, IsHeadOf, IsHeld, joined_events}
use Rattle.window_joining.specs.News.{AreRising, IsNews, ListsView}
use Rattle.window_joining.specs.Passing.{Passes}
use Rattle.window_joining.specs.Policies.{policies_view}
use Rattle.window_joining.specs.declared.joining.Joining.{Joining}
use Rattle.window_laws.specs.ClaimedParts.{policies_through}

-- the edge is the last event's line
pub edge_more : (line : ℕ) (events : List Entry) (event : Entry) → edge_from line (events ++ event ∷ []) ≡ event.line
edge_more line [] event = refl
edge_more line (x ∷ events) event = edge_more x.line events event

-- the lists that are held of a companion
abbrev pub held : CompanionView → List Claim → List NiceLine → List ChargeLine → ListsView
held head claims nices charges = record { claims = claims; nices = nices; charges = charges; idles = head.idles }

module _ (head c : CompanionView) (alike : IsHeadOf head c) (claims : List Claim) (nices : List NiceLine)
    (charges : List ChargeLine) (news : ListsView) (events : List Entry) (event : Entry) (before : Joining)
    (joined : HasJoined before c events) (later : before.line < event.line)
    (holds : IsHeld before.line c claims nices charges)
    (new : IsNews before.line event.line (held head claims nices charges) news) where
  abbrev edge : ℕ
  edge = before.line

  low : All (λ x. x.line ≤ edge) events
  low = All-weaker (λ (x : Entry). (no_line < x.line) × (x.line ≤ edge)) (λ (x : Entry). x.line ≤ edge) (λ x is. is.1)
      events joined.lines

  cut_claims : IsCut Claim (λ x. x.line) edge event.line c.claims news.claims
  cut_claims = cut_of_rest (λ (x : Claim). x.line) edge event.line c.claims claims news.claims holds.claims new.claims

  cut_nices : IsCut NiceLine (λ x. x.line) edge event.line c.nices news.nices
  cut_nices = cut_of_rest (λ (x : NiceLine). x.line) edge event.line c.nices nices news.nices holds.nices new.nices

  cut_charges : IsCut ChargeLine (λ x. x.line) edge event.line c.charges news.charges
  cut_charges = cut_of_rest (λ (x : ChargeLine). x.line) edge event.line c.charges charges news.charges holds.charges
      new.charges

  cut_idles : IsCut IdleLine (λ x. x.line) edge event.line c.idles news.idles
  cut_idles = subst (λ is. IsCut IdleLine (λ x. x.line) edge event.line is news.idles) alike.idles new.idles

  abbrev through : ℕ → Policy
  through = policies_through c.idles (policies_at_start c.tasks) events

  -- what is known with one more event
  pub joins_on : (after : Joining) → Passes head.cpus head.start news event before after
      → HasJoined after c (events ++ event ∷ [])
  joins_on after p = record {
    edge = p.line ∙ sym (edge_more no_line events event);
    lines = All-push (λ (x : Entry). (no_line < x.line) × (x.line ≤ after.line)) events event
        (All-weaker (λ (x : Entry). (no_line < x.line) × (x.line ≤ edge))
        (λ (x : Entry). (no_line < x.line) × (x.line ≤ after.line))
        (λ x is. (is.0, (let le = is.1 in let e = p.line in omega (arith, le, e, later)))) events joined.lines)
        (omega (arith, later), (let e = p.line in omega (arith, e)));
    policies = λ pid. p.policies pid
        ∙ after_by_news edge event.line c.idles news.idles (policies_view before.policies) through event.act cut_idles
        later joined.policies pid
        ∙ ap (λ f. f pid) (sym (through_more c.idles (policies_at_start c.tasks) events event));
    outside = subst (λ n. MatchOption after.outside (All (IsInside n) (events ++ event ∷ []))
        (IsFirstOutside n (events ++ event ∷ []))) alike.cpus
        (p.outside events (subst (λ n. MatchOption before.outside (All (IsInside n) events) (IsFirstOutside n events))
        (sym alike.cpus) joined.outside));
    late = subst (λ n. MatchOption after.late (BeginsInTime n (events ++ event ∷ []))
        (IsBeforeStart n (events ++ event ∷ []))) alike.start
        (p.late events joined.edge joined.lines
        (subst (λ n. MatchOption before.late (BeginsInTime n events) (IsBeforeStart n events)) (sym alike.start)
        joined.late));
    stray = subst (λ m. IsLeastOf (λ n. (n ≤ m) × IsStray (events ++ event ∷ []) c n) after.stray) (sym p.line)
        (least_more events event edge low later c news cut_claims cut_nices cut_charges cut_idles before.stray
        after.stray joined.stray p.stray);
  }

  -- what is said of it
  said_next : with_claim news.claims news.nices news.charges
      (λ other. policy_told news.idles (λ line. policies_view before.policies) other.line other.act) event
      ≡ with_claim c.claims c.nices c.charges
      (policy_in c.idles (policies_at_start c.tasks) (events ++ event ∷ [])) event
  said_next = same_said event (claim_at news.claims event.line) (claim_at c.claims event.line)
      (nice_at news.nices event.line) (nice_at c.nices event.line)
      (charge_at news.charges event.line) (charge_at c.charges event.line)
      (policy_told news.idles (λ line. policies_view before.policies) event.line event.act)
      (policy_in c.idles (policies_at_start c.tasks) (events ++ event ∷ []) event)
      (sym (found_in_cut (λ (x : Claim). x.line) edge event.line c.claims news.claims cut_claims later))
      (sym (found_in_cut (λ (x : NiceLine). x.line) edge event.line c.nices news.nices cut_nices later))
      (sym (found_in_cut (λ (x : ChargeLine). x.line) edge event.line c.charges news.charges cut_charges later))
      (told_by_news edge event.line c.idles news.idles (λ line. policies_view before.policies) (λ line. through)
      event.act cut_idles later joined.policies
      ∙ sym (told_next c events event edge low later))

  -- and the window with it
  pub adds_on : (earlier window : List Claimed) (said : Claimed)
      → said ≡ with_claim news.claims news.nices news.charges
      (λ other. policy_told news.idles (λ line. policies_view before.policies) other.line other.act) event
      → earlier ++ window ≡ joined_events c events
      → earlier ++ (window ++ said ∷ []) ≡ joined_events c (events ++ event ∷ [])
  adds_on earlier window said is so_far =
      sym (append_assoc earlier window (said ∷ []))
      ∙ ap (λ xs. xs ++ said ∷ []) so_far
      ∙ ap (λ x. joined_events c events ++ x ∷ []) (is ∙ said_next)
      ∙ sym (joined_more c events event edge low later)

-- what is new still rises
pub news_rise : (low high : ℕ) (lists news : ListsView) → AreRising lists
    → IsCut Claim (λ x. x.line) low high lists.claims news.claims
    → IsCut NiceLine (λ x. x.line) low high lists.nices news.nices
    → IsCut ChargeLine (λ x. x.line) low high lists.charges news.charges
    → IsCut IdleLine (λ x. x.line) low high lists.idles news.idles → AreRising news
news_rise low high lists news rise claims nices charges idles = record {
  claims = cut_pairs (λ a b. a.line < b.line) (λ (x : Claim). x.line) low high lists.claims news.claims claims
      rise.claims;
  nices = cut_pairs (λ a b. a.line < b.line) (λ (x : NiceLine). x.line) low high lists.nices news.nices nices
      rise.nices;
  charges = cut_pairs (λ a b. a.line < b.line) (λ (x : ChargeLine). x.line) low high lists.charges news.charges charges
      rise.charges;
  idles = cut_pairs IdleRises (λ (x : IdleLine). x.line) low high lists.idles news.idles idles rise.idles;
}
