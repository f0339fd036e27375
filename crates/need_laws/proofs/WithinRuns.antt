-- A front of a run that stays within other settings is a run at those: its replays are the fronts of the run's, so they
-- have the tickets of their lines.
use Rattle.std.proofs.Common.{◌≡◌, ℕ, ◌<◌, ◌≤◌, Bool, Option, None, ℤ, inl, inr, List, [], ◌∷◌, ◌++◌, refl, sym, ap}
use Rattle.std.proofs.Common.{◌∙◌, subst, arith}
use Rattle.std.proofs.lemmas.Bool.{cases_lt}
use Rattle.std.specs.List.{AllByRecursion}
use Rattle.cfs_model.specs.Claimed.{Claimed}
use Rattle.cfs_model.specs.Knobs.{KnobsView}
use Rattle.cfs_model.specs.Least.{AtMost, larger}
use Rattle.cfs_model.specs.Machine.{Machine}
use Rattle.cfs_model.specs.Order.{IsInOrder}
use Rattle.cfs_model.specs.Run.{IsRun}
use Rattle.cfs_model.specs.Start.{start_machine}
use Rattle.replay_model.specs.Cut.{StreamView, cut, steps_at}
use Rattle.replay_model.specs.Needs.{AllPassNeeding}
use Rattle.replay_model.specs.Noted.{PageView}
use Rattle.replay_model.specs.Page.{IsReplay, IsReplayStep, IsSince, IsStartOf, ReplayStateView}
use Rattle.replay_model.specs.Part.{Part, part_of}
use Rattle.replay_model.specs.PartWords.{OneRunsIn}
use Rattle.replay_model.specs.Record.{IsRecord, LinesRise}
use Rattle.replay_model.specs.Roll.{BirthsAreNew, named, roll_after}
use Rattle.replay_model.specs.Tickets.{TicketsAgree, ticket_at}
use Rattle.replay_laws.specs.CutReplay.{PassesCut}
use Rattle.window_laws.specs.SoFar.{IsSoFar}
use Rattle.need_laws.specs.Within.{FrontWithinIsRun, StaysWithin}
use Rattle.cfs_model.proofs.LeastSettings.{at_most_trans, below_larger, other_below_larger}
use Rattle.replay_model.proofs.PartFacts.{stands_at}
use Rattle.replay_model.proofs.TicketLines.{came_of, came_tickets, left_of, left_tickets, ticket_kept}
use Rattle.part_laws.proofs.one_page.OneLift.{same_since}
use Rattle.part_laws.proofs.one_page.OnePage.{replay_one}
use Rattle.replay_laws.proofs.composing.PagesCompose.{cuts_compose}
use Rattle.replay_laws.proofs.composing.StepLines.{lines_back, steps_above}
use Rattle.replay_laws.proofs.following.FollowLaws.{follows_start}
use Rattle.replay_laws.proofs.needing.StepNeeds.{passes_within}
use Rattle.replay_laws.proofs.telling.Fronts.{record_front}
use Rattle.window_laws.proofs.Appended.{all_front, steps_append}
use Rattle.window_laws.proofs.LineTickets.{agree_all}
use Rattle.cfs_model.specs.declared.task.Place.TheVariants.{Run}
use Rattle.cfs_model.specs.declared.task.Task.{Task}
use Rattle.replay_model.specs.declared.step.Step.{Step}

-- steps that pass are a replay under any settings that are at least what they need
pub replay_within : (knobs other : KnobsView) (cpu : ℕ) (before : ReplayStateView) (steps : List Step)
    (after : ReplayStateView) (needs : KnobsView)
    → before.page.fault ≡ None → AllPassNeeding knobs cpu before steps after needs → AtMost needs other
    → IsReplay other cpu before steps after × (after.page.fault ≡ None)
replay_within knobs other cpu before [] after needs f p h = (p.0, ap (λ x. x.page.fault) p.0 ∙ f)
replay_within knobs other cpu before (step ∷ steps) after needs f p h =
    let k : AtMost (larger p.1 p.2) other = subst (λ x. AtMost x other) p.5 h in
    let one = passes_within knobs other cpu before step p.0 p.1 p.3
    (at_most_trans p.1 (larger p.1 p.2) other (below_larger p.1 p.2) k) in
    let rest = replay_within knobs other cpu p.0 steps after p.2 (ap (λ x. x.fault) one.page) p.4
    (at_most_trans p.2 (larger p.1 p.2) other (other_below_larger p.1 p.2) k) in (
      (p.0, subst (λ o. IsReplayStep other cpu o before step p.0) (sym f) (inl one), rest.0),
      rest.1,
    )

-- and under their own
pub replay_itself : (knobs : KnobsView) (cpu : ℕ) (before : ReplayStateView) (steps : List Step)
    (after : ReplayStateView) (needs : KnobsView)
    → before.page.fault ≡ None → AllPassNeeding knobs cpu before steps after needs
    → IsReplay knobs cpu before steps after
replay_itself knobs cpu before [] after needs f p = p.0
replay_itself knobs cpu before (step ∷ steps) after needs f p = (
  p.0,
  subst (λ o. IsReplayStep knobs cpu o before step p.0) (sym f) (inl p.3.passes),
  replay_itself knobs cpu p.0 steps after p.2 (ap (λ x. x.fault) p.3.passes.page) p.4,
)

-- a replay by some steps and more goes by the first of them
replay_split : (knobs : KnobsView) (cpu : ℕ) (before : ReplayStateView) (steps more : List Step)
    (after : ReplayStateView) → IsReplay knobs cpu before (steps ++ more) after
    → (mid : ReplayStateView) × IsReplay knobs cpu before steps mid × IsReplay knobs cpu mid more after
replay_split knobs cpu before [] more after r = (before, refl, r)
replay_split knobs cpu before (step ∷ steps) more after r =
    let s = replay_split knobs cpu r.0 steps more after r.2 in
    (s.0, (r.0, r.1, s.1), s.2)

-- a stream's replays begin alike
pub same_start : (stream : StreamView) (a b : ReplayStateView) → IsStartOf stream a → IsStartOf stream b → a ≡ b
same_start stream a b p q =
    let part : a.part ≡ b.part = p.part ∙ sym q.part in
    let since = same_since None stream.start b.part a.since b.since
    (subst (λ x. IsSince None stream.start x a.since) part p.since) q.since in
    let page : a.page ≡ b.page = p.page ∙ sym q.page in
    ap (λ (x : Part). record { part = x; since = a.since; page = a.page }) part
    ∙ ap (λ (x : Option ℕ). record { part = b.part; since = x; page = a.page }) since
    ∙ ap (λ (x : PageView). record { part = b.part; since = b.since; page = x }) page

-- at most one task runs at a processor of an ordered machine
pub one_runs_at : (m : Machine) → IsInOrder m → (cpu : ℕ) → OneRunsIn (part_of m cpu)
one_runs_at m o cpu pid other h k = o.one_runs cpu pid other (stands_at m Run cpu pid h) (stands_at m Run cpu other k)

-- births that are new are so without those behind them
births_front : (alive : ℕ → Bool) (xs ys : List Claimed) → BirthsAreNew alive (xs ++ ys) → BirthsAreNew alive xs
births_front alive [] ys h = tt
births_front alive (x ∷ xs) ys h = (h.0, births_front (roll_after alive x.entry.act) xs ys h.1)

lines_below : (line : ℕ) (before rest : List Claimed) (event : Claimed) → LinesRise line (before ++ event ∷ rest)
    → AllByRecursion (λ (x : Claimed). x.entry.line < event.entry.line) before
lines_below line [] rest event h = tt
lines_below line (x ∷ before) rest event h =
    ((lines_back x.entry.line before (event ∷ rest) h.1).0, lines_below x.entry.line before rest event h.1)

module _ (knobs other : KnobsView) (start : ℕ) (floors : List ℤ) (tasks : List Task)
    (before rest : List Claimed) (event : Claimed) (cpus : ℕ) (kept : ℕ → ReplayStateView) (alive : ℕ → Bool)
    (r : IsRecord start floors tasks (before ++ event ∷ rest) cpus)
    (so_far : IsSoFar knobs start floors tasks (before ++ event ∷ rest) cpus kept alive) where
  -- where a processor's replay of the front stands: it passes under the other settings, and the tickets of lines above
  -- the event's are those of the replay of all
  record Here (cpu : ℕ) : Type 0 where
    mid : ReplayStateView
    passes : cpu < cpus → PassesCut other start floors tasks before cpu mid
    left : (line : ℕ) → line < event.entry.line → cpu < cpus
        → ticket_at line (so_far.last cpu).page.left ≡ ticket_at line mid.page.left
    came : (line : ℕ) → line < event.entry.line → cpu < cpus
        → ticket_at line (so_far.last cpu).page.came ≡ ticket_at line mid.page.came

  -- the replay of all goes on from there
  goes_on : (cpu : ℕ) → cpu < cpus → (w : StaysWithin knobs other start floors tasks before cpu)
      → IsReplay knobs cpu w.mid (steps_at cpu (event ∷ rest)) (so_far.last cpu)
  goes_on cpu k w =
      let c = (so_far.passes cpu k).cut_replay in
      let same : w.first ≡ c.first = same_start (cut start floors tasks before cpu) w.first c.first w.is_start
      (record { part = c.is_start.part; since = c.is_start.since; page = c.is_start.page }) in
      let s = replay_split knobs cpu c.first (steps_at cpu before) (steps_at cpu (event ∷ rest)) (so_far.last cpu)
      (subst (λ xs. IsReplay knobs cpu c.first xs (so_far.last cpu)) (steps_append cpu before (event ∷ rest))
      c.replay) in
      let follows = follows_start start floors tasks before cpu w.first r.is_start w.is_start in
      let mids : s.0 ≡ w.mid = replay_one knobs cpu w.first (steps_at cpu before) s.0 w.mid
      (subst OneRunsIn follows.part (one_runs_at (start_machine start floors tasks) follows.order cpu))
      (subst (λ x. IsReplay knobs cpu x (steps_at cpu before) s.0) (sym same) s.1)
      (replay_itself knobs cpu w.first (steps_at cpu before) w.mid w.needs follows.fault w.passes) in
      subst (λ x. IsReplay knobs cpu x (steps_at cpu (event ∷ rest)) (so_far.last cpu)) mids s.2

  within_here : (cpu : ℕ) → cpu < cpus → StaysWithin knobs other start floors tasks before cpu → Here cpu
  within_here cpu k w =
      let on = goes_on cpu k w in
      let p = replay_within knobs other cpu w.first (steps_at cpu before) w.mid w.needs
      (ap (λ p. p.fault) w.is_start.page) w.passes w.within in
      let rise = lines_back 0 before (event ∷ rest) r.lines_rise in
      record {
        mid = w.mid;
        passes = λ h. record {
          cut_replay = record { first = w.first; is_start = w.is_start; replay = p.0 };
          no_fault = p.1;
          in_time = w.in_time;
        };
        left = λ line above h. ticket_kept (λ page. page.left) left_of left_tickets line knobs cpu w.mid
            (steps_at cpu (event ∷ rest)) (so_far.last cpu) on (steps_above line cpu (event ∷ rest) (above, rise.1));
        came = λ line above h. ticket_kept (λ page. page.came) came_of came_tickets line knobs cpu w.mid
            (steps_at cpu (event ∷ rest)) (so_far.last cpu) on (steps_above line cpu (event ∷ rest) (above, rise.1));
      }

  past_here : (cpu : ℕ) → cpus ≤ cpu → Here cpu
  past_here cpu k = record {
    mid = so_far.last cpu;
    passes = λ h. absurd (omega arith);
    left = λ line above h. refl;
    came = λ line above h. refl;
  }

  here : ((cpu : ℕ) → cpu < cpus → StaysWithin knobs other start floors tasks before cpu) → (cpu : ℕ) → Here cpu
  here stay cpu = elim (cases_lt cpu cpus) [
    | inl k ↦ within_here cpu k (stay cpu k)
    | inr k ↦ past_here cpu k
  ]

  front_runs : ((cpu : ℕ) → cpu < cpus → StaysWithin knobs other start floors tasks before cpu)
      → IsRun other start (start_machine start floors tasks) before
  front_runs stay =
      let front = record_front start floors tasks before (event ∷ rest) cpus r in
      let at = here stay in
      cuts_compose other start floors tasks before cpus (λ cpu. (at cpu).mid) front (λ cpu k. (at cpu).passes k)
      (agree_all cpus (λ cpu. (so_far.last cpu).page) (λ cpu. (at cpu).mid.page) (λ line. line < event.entry.line)
      before
      front.events_within (lines_below 0 before rest event r.lines_rise) (λ line above cpu k. (at cpu).left line
      above k)
      (λ line above cpu k. (at cpu).came line above k)
      (all_front (λ event. TicketsAgree (λ cpu. (so_far.last cpu).page) event.entry.line event.entry.act) before
      (event ∷ rest) so_far.tickets))
      (births_front (named tasks) before (event ∷ rest) so_far.births)

pub front_within : FrontWithinIsRun
front_within knobs other start floors tasks before rest event cpus kept alive r so_far stay =
    front_runs knobs other start floors tasks before rest event cpus kept alive r so_far stay
