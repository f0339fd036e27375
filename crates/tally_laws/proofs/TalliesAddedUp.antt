-- The tallies on pages that suffice and say nothing against any event add up to those of the run: a page's to what the
-- run gives at its processor, so those of all pages to all that it gives.
use Rattle.std.proofs.Common.{◌≡◌, ℕ, zero, suc, ◌+◌, ◌<◌, nat_eq, cond, None, ℤ, List, [], ◌++◌, map, sum_by, refl}
use Rattle.std.proofs.Common.{sym, ap, ◌∙◌, subst, arith}
use Rattle.std.proofs.lemmas.List.Sums.{sum_by-append}
use mathlib.Core.Path.{fun_ext}
use Rattle.cfs_model.specs.Knobs.{KnobsView}
use Rattle.cfs_model.specs.Machine.{Machine}
use Rattle.cfs_model.specs.Start.{start_machine}
use Rattle.cfs_model.specs.Claimed.{Claimed}
use Rattle.cfs_model.specs.Run.{AreSteps, IsRun}
use Rattle.replay_model.specs.Cut.{steps_at, cut}
use Rattle.replay_model.specs.Noted.{PageView}
use Rattle.replay_model.specs.Page.{ReplayStateView, IsStartOf, IsReplay}
use Rattle.replay_model.specs.Record.{IsRecord}
use Rattle.replay_model.specs.Summary.{how_many, is_switch, is_migration, is_birth, is_death, picks, ran_at, charged_at}
use Rattle.replay_model.specs.Summary.{tally_of, tasks_of_run, summary_of}
use Rattle.replay_laws.specs.Sufficing.{IsWholePage, SufficesAmong}
use Rattle.replay_laws.specs.Telling.{SayNothing}
use Rattle.tally_laws.specs.Totals.{tallies_below, total_of, TalliesAddUp}
use Rattle.tally_laws.specs.Tallying.{PagesAddUp, PagesTellSummary}
use Rattle.cfs_model.proofs.StartOrder.{start_in_order}
use Rattle.replay_laws.proofs.telling.FrontRun.{append_none, pages_tell_run, silent_whole}
use Rattle.replay_laws.proofs.telling.Fronts.{AtFront, at_front}
use Rattle.replay_laws.proofs.following.StartPart.{start_part_is}
use Rattle.tally_laws.proofs.TalliesSaid.{said, Once, all_said}
use Rattle.tally_laws.proofs.TalliesAtStart.{tallies_at_start}
use Rattle.tally_laws.proofs.TalliesKept.{once_kept}
use Rattle.tally_laws.proofs.TalliesInRun.{Amount, ran_by, charged_by, picked_by, amount_at, told}
use Rattle.tally_laws.proofs.TallyAddends.{sum_below, below_same, all_addends, given_by, given_is_added}
use Rattle.tally_laws.proofs.TallyAddends.{given_is_counted}
use Rattle.cfs_model.specs.declared.task.Task.{Task}
use Rattle.replay_model.specs.declared.page.Tally.{Tally}

-- what some tallies say of a pid in one of their numbers, added up
abbrev pub total_by : (Tally → ℕ) → ℕ → List Tally → ℕ
total_by field pid tallies = sum_by (λ (tally : Tally). cond (nat_eq tally.pid pid) (field tally) 0) tallies

-- that of all pages is the sum of those of each
pages_total : (field : Tally → ℕ) (pid : ℕ) (pages : ℕ → PageView) (n : ℕ)
    → total_by field pid (tallies_below pages n) ≡ sum_below (λ cpu. total_by field pid (pages cpu).tallies) n
pages_total field pid pages zero = refl
pages_total field pid pages (suc n) =
    sum_by-append (λ (tally : Tally). cond (nat_eq tally.pid pid) (field tally) 0) (tallies_below pages n)
    (pages n).tallies
    ∙ ap (λ x. x + total_by field pid (pages n).tallies) (pages_total field pid pages n)

-- the replay by all steps whose tallies a page has
pub record PageEnd (knobs : KnobsView) (start : ℕ) (floors : List ℤ) (tasks : List Task) (events : List Claimed)
    (cpu : ℕ) (page : PageView) : Type 0 where
  pub first : ReplayStateView
  pub is_start : IsStartOf (cut start floors tasks events cpu) first
  pub last : ReplayStateView
  pub replay : IsReplay knobs cpu first (steps_at cpu events) last
  pub no_fault : last.page.fault ≡ None
  pub tallies : page.tallies ≡ last.page.tallies

pub page_end : (knobs : KnobsView) (start : ℕ) (floors : List ℤ) (tasks : List Task) (events : List Claimed)
    (cpus : ℕ) (pages : ℕ → PageView) → IsRecord start floors tasks events cpus
    → ((cpu : ℕ) → cpu < cpus → SufficesAmong knobs start floors tasks events cpus pages cpu)
    → SayNothing pages cpus tasks events
    → (cpu : ℕ) → cpu < cpus → PageEnd knobs start floors tasks events cpu (pages cpu)
page_end knobs start floors tasks events cpus pages r enough say cpu k =
    let whole = silent_whole knobs start floors tasks events cpus pages r enough say in
    let none : events ++ [] ≡ events = append_none events in
    let at : AtFront knobs start floors tasks events [] cpus cpu (pages cpu) =
    at_front knobs start floors tasks events [] cpus cpu (pages cpu)
    (subst (λ xs. IsRecord start floors tasks xs cpus) (sym none) r)
    (λ h. subst (λ xs. IsWholePage knobs start floors tasks xs cpu (pages cpu)) (sym none) (whole cpu h))
    (say.no_fault cpu) in
    let cut_replay = at.passes.cut_replay in
    let back = at.back k in
    record {
      first = cut_replay.first;
      is_start = cut_replay.is_start;
      last = at.mid;
      replay = cut_replay.replay;
      no_fault = at.passes.no_fault;
      tallies = back.tallies ∙ ap (λ x. x.page.tallies) back.replay;
    }

-- what a page's tallies say of a pid is what the run gives it at the processor
record PageTotals (cpu : ℕ) (m : Machine) (events : List Claimed) (states : List Machine) (page : PageView)
    : Type 0 where
  ran : (pid : ℕ) → total_by (λ t. t.ran) pid page.tallies ≡ amount_at (ran_by pid) cpu m events states
  charged : (pid : ℕ) → total_by (λ t. t.charged) pid page.tallies ≡ amount_at (charged_by pid) cpu m events states
  picks : (pid : ℕ) → total_by (λ t. t.picks) pid page.tallies ≡ amount_at (picked_by pid) cpu m events states

page_totals : (knobs : KnobsView) (start : ℕ) (floors : List ℤ) (tasks : List Task) (events : List Claimed) (cpus : ℕ)
    (states : List Machine) (cpu : ℕ) (page : PageView) → IsRecord start floors tasks events cpus
    → AreSteps knobs (start_machine start floors tasks) events states
    → PageEnd knobs start floors tasks events cpu page
    → PageTotals cpu (start_machine start floors tasks) events states page
page_totals knobs start floors tasks events cpus states cpu page r steps e =
    let m = start_machine start floors tasks in
    let s = tallies_at_start start floors tasks events cpu e.first r.is_start e.is_start in
    let t = told knobs cpu m e.first events states e.last (start_in_order start floors tasks r.is_start)
    (start_part_is start floors tasks r.is_start cpu ∙ sym e.is_start.part)
    (ap (λ p. p.fault) e.is_start.page) s.covers steps e.replay e.no_fault in
    let once : Once page.tallies = subst Once (sym e.tallies)
    (once_kept knobs cpu e.first (steps_at cpu events) e.last e.replay s.once) in
    record {
      ran = λ pid.
          let a = all_said (λ t. t.ran) page.tallies pid once in
          let b = ap (λ ts. said (λ t. t.ran) ts pid) e.tallies in
          let c = t.ran pid in let d = s.ran pid in omega arith;
      charged = λ pid.
          let a = all_said (λ t. t.charged) page.tallies pid once in
          let b = ap (λ ts. said (λ t. t.charged) ts pid) e.tallies in
          let c = t.charged pid in let d = s.charged pid in omega arith;
      picks = λ pid.
          let a = all_said (λ t. t.picks) page.tallies pid once in
          let b = ap (λ ts. said (λ t. t.picks) ts pid) e.tallies in
          let c = t.picks pid in let d = s.picks pid in omega arith;
    }

-- a tally by its numbers
tally_is : (pid ran ran' charged charged' picks picks' : ℕ) → ran ≡ ran' → charged ≡ charged' → picks ≡ picks'
    → (let t : Tally = record { pid = pid; ran = ran; charged = charged; picks = picks } in t)
    ≡ record { pid = pid; ran = ran'; charged = charged'; picks = picks' }
tally_is pid ran ran' charged charged' picks picks' e f g = λ i. record
    { pid = pid; ran = e i; charged = f i; picks = g i }

pub pages_add_up : PagesAddUp
pages_add_up knobs start floors tasks events cpus pages r enough say = (run, each)
  where
    run : IsRun knobs start (start_machine start floors tasks) events
    run = pages_tell_run knobs start floors tasks events cpus pages r enough say

    all : (field : Tally → ℕ) (pid : ℕ) (amount : Amount)
        → ((cpu : ℕ) → cpu < cpus → total_by field pid (pages cpu).tallies
        ≡ amount_at amount cpu (start_machine start floors tasks) events run.states)
        → total_by field pid (tallies_below pages cpus)
        ≡ given_by amount (start_machine start floors tasks) events run.states
    all field pid amount h =
        pages_total field pid pages cpus
        ∙ below_same (λ cpu. total_by field pid (pages cpu).tallies)
        (λ cpu. amount_at amount cpu (start_machine start floors tasks) events run.states) cpus h
        ∙ all_addends knobs amount cpus (start_machine start floors tasks) events run.states run.steps r.events_within

    at : (cpu : ℕ) → cpu < cpus → PageTotals cpu (start_machine start floors tasks) events run.states (pages cpu)
    at cpu k = page_totals knobs start floors tasks events cpus run.states cpu (pages cpu) r run.steps
        (page_end knobs start floors tasks events cpus pages r enough say cpu k)

    each : TalliesAddUp (start_machine start floors tasks) events run.states pages cpus
    each pid =
        let m = start_machine start floors tasks in
        let ts = tallies_below pages cpus in
        let t = tally_of m events run.states pid in
        tally_is pid (total_by (λ t. t.ran) pid ts) t.ran (total_by (λ t. t.charged) pid ts) t.charged
        (total_by (λ t. t.picks) pid ts) t.picks
        (all (λ t. t.ran) pid (ran_by pid) (λ cpu k. (at cpu k).ran pid)
        ∙ given_is_added (λ m event cpu. ran_at m event.entry.time pid cpu) m events run.states)
        (all (λ t. t.charged) pid (charged_by pid) (λ cpu k. (at cpu k).charged pid)
        ∙ given_is_added (λ m event cpu. charged_at m event pid cpu) m events run.states)
        (all (λ t. t.picks) pid (picked_by pid) (λ cpu k. (at cpu k).picks pid)
        ∙ given_is_counted knobs pid m events run.states run.steps)

pub pages_tell_summary : PagesTellSummary
pages_tell_summary knobs start floors tasks events cpus pages r enough say =
    let a = pages_add_up knobs start floors tasks events cpus pages r enough say in
    let m = start_machine start floors tasks in
    let same : total_of (tallies_below pages cpus) ≡ tally_of m events a.0.states = fun_ext a.1 in
    record {
      run = a.0;
      is = λ i. record {
        events = (summary_of m tasks events a.0.states).events;
        switches = how_many is_switch events;
        migrations = how_many is_migration events;
        births = how_many is_birth events;
        deaths = how_many is_death events;
        tallies = map (same i) (tasks_of_run tasks events);
      };
    }
