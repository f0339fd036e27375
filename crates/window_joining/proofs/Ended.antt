-- Behind the last event everything that is said is stray; so the least stray line is the one that was met, or else the
-- least below the last event.
use Rattle.std.proofs.Common.{◌≡◌, ℕ, ◌<◌, ◌≤◌, List, Option, Some, None, false, inl, inr}
use Rattle.std.proofs.Common.{sym}
use Rattle.std.proofs.Common.{◌∙◌, subst, arith, ◌||◌}
use Rattle.std.specs.Prelude.{All, MatchOption, is_some}
use Rattle.std.specs.List.{Contains}
use Rattle.std.proofs.lemmas.Bool.{cases_lt, or_parts, true≢false}
use Rattle.std.proofs.lemmas.List.Elements.{All-weaker}
use Rattle.cfs_model.specs.Limits.{no_line}
use Rattle.cfs_model.specs.declared.act.Entry.{Entry}
use Rattle.cfs_model.specs.declared.charge_line.ChargeLine.{ChargeLine}
use Rattle.cfs_model.specs.declared.claim.Claim.{Claim}
use Rattle.cfs_model.specs.declared.nice_line.NiceLine.{NiceLine}
use Rattle.companion_file.specs.Companion.{CompanionView}
use Rattle.sched_record.proofs.Reader.{where_none}
use Rattle.sched_record.specs.Join.{IsLeastOf}
use Rattle.sched_record.specs.Join.{IsStray}
use Rattle.window_joining.proofs.Cuts.{in_all, in_rest}
use Rattle.window_joining.proofs.Joined.{held}
use Rattle.window_joining.proofs.Straying.{StandsOn, no_birth_behind, no_line_behind, not_on, stands_in}
use Rattle.window_joining.specs.Joining.{GoTogetherSoFar, HasJoined, IsHeadOf, IsHeld, IsRestOf, is_refused}
use Rattle.window_joining.specs.News.{IsBehind}
use Rattle.window_joining.specs.declared.joining.Joining.{Joining}

module _ (joining : Joining) (head c : CompanionView) (events : List Entry) (claims : List Claim)
    (nices : List NiceLine) (charges : List ChargeLine) (joined : HasJoined joining c events) (alike : IsHeadOf head c)
    (holds : IsHeld joining.line c claims nices charges) where
  abbrev edge : ℕ
  edge = joining.line

  low : All (λ x. x.line ≤ edge) events
  low = All-weaker (λ (x : Entry). (no_line < x.line) × (x.line ≤ edge)) (λ (x : Entry). x.line ≤ edge) (λ x is. is.1)
      events joined.lines

  to_all : {X : Type 0} (line_of : X → ℕ) (all rest : List X) (n : ℕ) → IsRestOf X line_of edge all rest
      → StandsOn line_of rest n → StandsOn line_of all n
  to_all line_of all rest n r = stands_in line_of rest all n (λ x _. in_all line_of edge all rest x r)

  to_rest : {X : Type 0} (line_of : X → ℕ) (all rest : List X) (n : ℕ) → IsRestOf X line_of edge all rest → edge < n
      → StandsOn line_of all n → StandsOn line_of rest n
  to_rest line_of all rest n r gt =
      stands_in line_of all rest n (λ x is has. in_rest line_of edge all rest x r has (omega (arith, is, gt)))

  behind_to : (n : ℕ) → IsBehind edge (held head claims nices charges) n → (edge < n) × IsStray events c n
  behind_to n (inl (gt, stands)) = (
    gt,
    inl (
      to_all (λ (x : Claim). x.line) c.claims claims n holds.claims stands,
      not_on _ (no_line_behind events edge n low gt),
    ),
  )
  behind_to n (inr (inl (gt, stands))) = (
    gt,
    inr (inl (
      to_all (λ (x : NiceLine). x.line) c.nices nices n holds.nices stands,
      not_on _ (no_line_behind events edge n low gt),
    )),
  )
  behind_to n (inr (inr (inl (gt, (k, idle, h, at, is))))) =
      let there = subst (λ xs. Contains xs idle) alike.idles (k, h, at) in (
        gt,
        inr (inr (inl (
          there.0,
          idle,
          there.1,
          there.2,
          (
            is,
            λ names. true≢false (sym (names (omega (arith, is, gt)))
                ∙ no_birth_behind events edge idle.line idle.pid low (omega (arith, is, gt))),
          ),
        ))),
      )
  behind_to n (inr (inr (inr (gt, stands)))) = (
    gt,
    inr (inr (inr (
      to_all (λ (x : ChargeLine). x.line) c.charges charges n holds.charges stands,
      not_on _ (no_line_behind events edge n low gt),
    ))),
  )

  behind_from : (n : ℕ) → edge < n → IsStray events c n → IsBehind edge (held head claims nices charges) n
  behind_from n gt (inl claim) =
      inl (gt, to_rest (λ (x : Claim). x.line) c.claims claims n holds.claims gt claim.0)
  behind_from n gt (inr (inl change)) =
      inr (inl (gt, to_rest (λ (x : NiceLine). x.line) c.nices nices n holds.nices gt change.0))
  behind_from n gt (inr (inr (inl (k, idle, h, at, (is, stray))))) =
      let there = subst (λ xs. Contains xs idle) (sym alike.idles) (k, h, at) in
      inr (inr (inl (gt, (there.0, idle, there.1, there.2, is))))
  behind_from n gt (inr (inr (inr charge))) =
      inr (inr (inr (gt, to_rest (λ (x : ChargeLine). x.line) c.charges charges n holds.charges gt charge.0)))

  least_by : (met found : Option ℕ) → IsLeastOf (λ n. (n ≤ edge) × IsStray events c n) met
      → MatchOption met (IsLeastOf (IsBehind edge (held head claims nices charges)) found) (λ line. found ≡ Some line)
      → IsLeastOf (IsStray events c) found
  least_by (Some line) found was is =
      subst (IsLeastOf (IsStray events c)) (sym is) (
        was.0.1,
        λ m stray. elim (cases_lt edge m) [
          | inl gt ↦ (let le = was.0.0 in omega (arith, le, gt))
          | inr le ↦ was.1 m (le, stray)
        ],
      )
  least_by None None was is = λ n stray. elim (cases_lt edge n) [
    | inl gt ↦ is n (behind_from n gt stray)
    | inr le ↦ was n (le, stray)
  ]
  least_by None (Some line) was is = (
    (behind_to line is.0).1,
    λ m stray. elim (cases_lt edge m) [
      | inl gt ↦ is.1 m (behind_from m gt stray)
      | inr le ↦ absurd (was m (le, stray))
    ],
  )

  -- the least stray line of all
  pub least_at_end : (found : Option ℕ)
      → MatchOption joining.stray (IsLeastOf (IsBehind edge (held head claims nices charges)) found)
      (λ line. found ≡ Some line)
      → IsLeastOf (IsStray events c) found
  least_at_end found is = least_by joining.stray found joined.stray is

least_none : (P : ℕ → Type 0) (found : Option ℕ) → is_some found ≡ false → IsLeastOf P found → (n : ℕ) → ¬ P n
least_none P None none least = least
least_none P (Some n) none least = absurd (true≢false none)

pub together_so_far : (joining : Joining) (c : CompanionView) (events : List Entry) → HasJoined joining c events
    → is_refused joining ≡ false → GoTogetherSoFar events c
together_so_far joining c events joined fine =
    let first = or_parts (is_some joining.outside || is_some joining.late) (is_some joining.stray) fine in
    let parts = or_parts (is_some joining.outside) (is_some joining.late) first.0 in
    record {
      inside = where_none _ joining.outside parts.0 joined.outside;
      in_time = where_none _ joining.late parts.1 joined.late;
      on_events = λ line le stray. least_none (λ n. (n ≤ joining.line) × IsStray events c n) joining.stray first.1
          joined.stray line ((let e = joined.edge in omega (arith, le, e)), stray);
    }
