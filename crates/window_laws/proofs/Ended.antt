-- What holds behind the last window: the pages of the replays so far are by all steps and have no fault, so that they
-- suffice and say nothing; and what is kept of them has their tallies.
use Rattle.std.proofs.Common.{◌≡◌, ℕ, zero, suc, ◌+◌, ◌<◌, nat_lt, Bool, true, false, cond, Option, Some, None}
use Rattle.std.proofs.Common.{ℤ, inl, inr, List, [], ◌∷◌, ◌++◌, length, refl, sym, ap, ◌∙◌, subst, arith}
use Rattle.std.proofs.lemmas.Bool.{le-leb, ltb-true}
use Rattle.std.proofs.Math.Seq.{take-length}
use Rattle.cfs_model.specs.Knobs.{KnobsView}
use Rattle.cfs_model.specs.Start.{start_machine}
use Rattle.cfs_model.specs.Claimed.{Claimed}
use Rattle.replay_model.specs.QueueTests.{IsIdleTooLong}
use Rattle.replay_model.specs.Cut.{StreamView, steps_at, cut}
use Rattle.replay_model.specs.Noted.{PageView}
use Rattle.replay_model.specs.Page.{ReplayStateView, IsReplay, end_page}
use Rattle.replay_model.specs.Summary.{IsSummary}
use Rattle.replay_laws.specs.CutReplay.{PassesCut}
use Rattle.replay_laws.specs.Sufficing.{SufficesAmong}
use Rattle.replay_laws.specs.Telling.{ComesAfter, SayNothing}
use Rattle.replay_laws.proofs.composing.PagesCompose.{cuts_compose}
use Rattle.tally_laws.specs.Totals.{summary_by, tallies_below}
use Rattle.tally_laws.proofs.TalliesAddedUp.{pages_tell_summary}
use Rattle.replay_laws.proofs.composing.CutReplays.{late_fault}
use Rattle.window_laws.specs.WindowEnds.{SoFarIsRun, SoFarTellsSummary}
use Rattle.cfs_model.specs.declared.task.Task.{Task}
use Rattle.replay_model.specs.declared.page.StepFault.{StepFault}

pub so_far_is_run : SoFarIsRun
so_far_is_run knobs start floors tasks events cpus kept alive r s =
    cuts_compose knobs start floors tasks events cpus s.last r s.passes s.tickets s.births

-- the end test adds nothing where the processor is in time
test_adds_nothing : (slack : ℕ) (stream : StreamView) (since : Option ℕ) (o : Option StepFault) (page : PageView)
    → ¬ IsIdleTooLong slack since stream.last_time 0 → end_page slack stream since o page ≡ page
test_adds_nothing slack stream None o page h = refl
test_adds_nothing slack stream (Some x) (Some fault) page h = refl
test_adds_nothing slack stream (Some x) None page h = go (nat_lt (x + slack) stream.last_time) refl
  where
    go : (b : Bool) → nat_lt (x + slack) stream.last_time ≡ b
        → cond b (record page { fault = Some (late_fault slack stream x) }) page ≡ page
    go true e = absurd (h (ltb-true (x + slack) stream.last_time e, refl))
    go false e = refl

-- a replay that passes its cut has a page that suffices
passed_suffices : (knobs : KnobsView) (start : ℕ) (floors : List ℤ) (tasks : List Task) (events : List Claimed)
    (cpus cpu : ℕ) (last : ℕ → ReplayStateView) → PassesCut knobs start floors tasks events cpu (last cpu)
    → SufficesAmong knobs start floors tasks events cpus (λ cpu. (last cpu).page) cpu
passed_suffices knobs start floors tasks events cpus cpu last p =
    let steps = steps_at cpu events in
    let stream = cut start floors tasks events cpu in
    let end = last cpu in
    let tested = end_page knobs.slack stream end.since end.page.fault end.page in
    record {
      made = length steps;
      is_page = record {
        start = p.cut_replay.first;
        is_start = p.cut_replay.is_start;
        end = end;
        replay = subst (λ xs. IsReplay knobs cpu p.cut_replay.first xs end) (sym (take-length steps))
            p.cut_replay.replay;
        result = sym (ap (λ b. cond b tested end.page) (le-leb (length steps) (length steps) (omega arith))
            ∙ test_adds_nothing knobs.slack stream end.since end.page.fault end.page p.in_time);
      };
      enough = inr (inl (omega arith));
    }

nothing_due : (events : List Claimed) (cpu : ℕ) (o : Option StepFault) → o ≡ None → ComesAfter events cpu o
nothing_due [] cpu o e = tt
nothing_due (event ∷ events) cpu o e = go o e (nothing_due events cpu o e)
  where
    go : (o : Option StepFault) → o ≡ None → ComesAfter events cpu o → ComesAfter (event ∷ events) cpu o
    go None e h = (((λ k. k), (λ touched k. k)), h)
    go (Some fault) e h = absurd cc

-- pages with the same tallies below a number
same_tallies : (one other : ℕ → PageView) (cpus : ℕ)
    → ((cpu : ℕ) → cpu < cpus → (one cpu).tallies ≡ (other cpu).tallies)
    → tallies_below one cpus ≡ tallies_below other cpus
same_tallies one other zero h = refl
same_tallies one other (suc cpu) h =
    ap (λ xs. xs ++ (one cpu).tallies) (same_tallies one other cpu (λ c k. h c (omega arith)))
    ∙ ap (λ xs. tallies_below other cpu ++ xs) (h cpu (omega arith))

pub so_far_tells_summary : SoFarTellsSummary
so_far_tells_summary knobs start floors tasks events cpus kept alive r s =
    let pages : ℕ → PageView = λ cpu. (s.last cpu).page in
    let suffice : (cpu : ℕ) → cpu < cpus → SufficesAmong knobs start floors tasks events cpus pages cpu =
    λ cpu k. passed_suffices knobs start floors tasks events cpus cpu s.last (s.passes cpu k) in
    let say : SayNothing pages cpus tasks events = record {
      no_fault = λ cpu k. nothing_due events cpu (s.last cpu).page.fault (s.passes cpu k).no_fault;
      tickets = s.tickets;
      births = s.births;
    } in
    subst (λ tallies. IsSummary knobs start (start_machine start floors tasks) tasks events
    (summary_by tallies tasks events))
    (same_tallies pages (λ cpu. (kept cpu).page) cpus (λ cpu k. ap (λ x. x.page.tallies) (sym (s.keeps cpu k))))
    (pages_tell_summary knobs start floors tasks events cpus pages r suffice say)
