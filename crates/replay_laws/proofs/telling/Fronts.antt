-- Where the whole page of a processor says nothing against some events, the replay of its steps among them passes, and
-- goes on from there to the page's end. That the processor is in time at the last of them is told by its next step or
-- by the end test, whose fault would be due there.
use Rattle.std.proofs.Common.{◌≡◌, ℕ, ◌+◌, ◌<◌, ◌≤◌, Option, Some, None, ℤ, ◌⊎◌, inl, inr, List, [], ◌∷◌, ◌++◌, refl}
use Rattle.std.proofs.Common.{sym, ap, ◌∙◌, subst, arith}
use Rattle.std.proofs.lemmas.Bool.{cases_lt}
use Rattle.std.specs.List.{AllByRecursion}
use Rattle.cfs_model.specs.Limits.{no_line}
use Rattle.cfs_model.specs.Knobs.{KnobsView}
use Rattle.cfs_model.specs.Claimed.{Claimed}
use Rattle.cfs_model.specs.Touch.{touched}
use Rattle.replay_model.specs.QueueTests.{IsIdleTooLong}
use Rattle.replay_model.specs.Cut.{steps_at, last_time_of, last_line_after}
use Rattle.replay_model.specs.Noted.{PageView}
use Rattle.replay_model.specs.Record.{ClaimInRange, ChargeInRange, TimesRise, LinesRise, IsRecord}
use Rattle.replay_model.specs.Page.{ReplayStateView, IsReplay}
use Rattle.replay_laws.specs.CutReplay.{IsCutReplay, PassesCut}
use Rattle.replay_laws.specs.Telling.{IdlesBefore, ComesAfter}
use Rattle.replay_laws.specs.Sufficing.{IsWholePage}
use Rattle.replay_laws.proofs.following.FollowLaws.{starts_at}
use Rattle.replay_laws.proofs.telling.FrontReplay.{front_replay}
use Rattle.replay_laws.proofs.telling.IdleFaults.{HasDeadline, idling_is_told}
use Rattle.replay_laws.proofs.composing.CutReplays.{past_cut, never_too_long}
use Rattle.replay_laws.proofs.telling.WholeReplay.{PageFault, WholeReplay, whole_replay}
use Rattle.cfs_model.specs.declared.task.Task.{Task}
use Rattle.replay_model.specs.declared.page.StepFault.{StepFault}

-- the last time and the times of two lists of events
last_time_append : (time : ℕ) (before rest : List Claimed)
    → last_time_of time (before ++ rest) ≡ last_time_of (last_time_of time before) rest
last_time_append time [] rest = refl
last_time_append time (event ∷ before) rest = last_time_append event.entry.time before rest

pub rise_back : (time : ℕ) (before rest : List Claimed) → TimesRise time (before ++ rest)
    → TimesRise (last_time_of time before) rest
rise_back time [] rest h = h
rise_back time (event ∷ before) rest h = rise_back event.entry.time before rest h.1

lines_front : (line : ℕ) (before rest : List Claimed) → LinesRise line (before ++ rest) → LinesRise line before
lines_front line [] rest h = tt
lines_front line (event ∷ before) rest h = (h.0, lines_front event.entry.line before rest h.1)

all_front : (P : Claimed → Type 0) (xs ys : List Claimed) → AllByRecursion P (xs ++ ys) → AllByRecursion P xs
all_front P [] ys h = tt
all_front P (x ∷ xs) ys h = (h.0, all_front P xs ys h.1)

rise_front : (time : ℕ) (xs ys : List Claimed) → TimesRise time (xs ++ ys) → TimesRise time xs
rise_front time [] ys h = tt
rise_front time (x ∷ xs) ys h = (h.0, rise_front x.entry.time xs ys h.1)

-- a record's first events
pub record_front : (start : ℕ) (floors : List ℤ) (tasks : List Task) (before rest : List Claimed) (cpus : ℕ)
    → IsRecord start floors tasks (before ++ rest) cpus → IsRecord start floors tasks before cpus
record_front start floors tasks before rest cpus r = record {
  is_start = r.is_start;
  tasks_within = r.tasks_within;
  events_within = all_front (λ event. AllByRecursion (λ cpu. cpu < cpus) (touched event.entry.act)) before rest
      r.events_within;
  claims_in_range = all_front ClaimInRange before rest r.claims_in_range;
  charges_in_range = all_front ChargeInRange before rest r.charges_in_range;
  times_rise = rise_front start before rest r.times_rise;
  lines_rise = lines_front 0 before rest r.lines_rise;
}

-- the replay from the first events to the page's end
pub record Back (knobs : KnobsView) (start : ℕ) (before rest : List Claimed) (cpu : ℕ) (page : PageView)
    (mid : ReplayStateView) : Type 0 where
  pub end : ReplayStateView
  pub replay : IsReplay knobs cpu mid (steps_at cpu rest) end
  pub fault : PageFault knobs.slack (last_time_of (last_time_of start before) rest) end page.fault
  pub line : (fault : StepFault) → page.fault ≡ Some fault
      → (end.page.fault ≡ Some fault) ⊎ (fault.line ≡ last_line_after no_line (before ++ rest))
  pub left : page.left ≡ end.page.left
  pub came : page.came ≡ end.page.came
  pub tallies : page.tallies ≡ end.page.tallies

-- a fault that isn't due at any of the events has its deadline after them
not_due : (deadline cpu : ℕ) (o : Option StepFault) (before : List Claimed) → HasDeadline o deadline
    → ComesAfter before cpu o → AllByRecursion (λ (event : Claimed). event.entry.time ≤ deadline) before
not_due deadline cpu o [] f c = tt
not_due deadline cpu o (event ∷ before) f c = (
  elim (cases_lt deadline event.entry.time) [
    | inl k ↦ absurd (c.0.0 (subst (IdlesBefore event) (sym f.1) (deadline, f.2, k)))
    | inr k ↦ k
  ],
  not_due deadline cpu o before f c.1,
)

last_not_due : (time deadline : ℕ) (before : List Claimed) → time ≤ deadline
    → AllByRecursion (λ (event : Claimed). event.entry.time ≤ deadline) before → last_time_of time before ≤ deadline
last_not_due time deadline [] h k = h
last_not_due time deadline (event ∷ before) h k = last_not_due event.entry.time deadline before k.0 k.1

-- a processor isn't late at the last of the events
not_late : (knobs : KnobsView) (start : ℕ) (floors : List ℤ) (tasks : List Task) (before : List Claimed) (cpu : ℕ)
    (mid : ReplayStateView) (o : Option StepFault) (x : ℕ) → IsCutReplay knobs start floors tasks before cpu mid
    → mid.since ≡ Some x → ComesAfter before cpu o → HasDeadline o (x + knobs.slack)
    → last_time_of start before ≤ x + knobs.slack
not_late knobs start floors tasks [] cpu mid o x s e c f =
    let at : x ≡ start = starts_at start s.first.part s.first.since s.is_start.since x
    (ap (λ y. y.since) (sym s.replay) ∙ e) in omega arith
not_late knobs start floors tasks (event ∷ before) cpu mid o x s e c f =
    let h = not_due (x + knobs.slack) cpu o (event ∷ before) f c in
    last_not_due event.entry.time (x + knobs.slack) before h.0 h.1

in_time : (knobs : KnobsView) (start : ℕ) (floors : List ℤ) (tasks : List Task) (before rest : List Claimed) (cpu : ℕ)
    (page : PageView) (mid : ReplayStateView) → IsCutReplay knobs start floors tasks before cpu mid
    → mid.page.fault ≡ None → TimesRise start (before ++ rest) → ComesAfter before cpu page.fault
    → Back knobs start before rest cpu page mid → ¬ IsIdleTooLong knobs.slack mid.since (last_time_of start before) 0
in_time knobs start floors tasks before rest cpu page mid s n rise c b = go mid.since refl
  where
    go : (o : Option ℕ) → mid.since ≡ o → ¬ IsIdleTooLong knobs.slack o (last_time_of start before) 0
    go None e h = h
    go (Some x) e h =
        let due : x + knobs.slack < last_time_of start before = h.0 in
        let most : last_time_of start before ≤ x + knobs.slack =
        not_late knobs start floors tasks before cpu mid page.fault x s e c
        (idling_is_told knobs cpu mid rest b.end (last_time_of start before) x page.fault n e due
        (rise_back start before rest rise) b.replay b.fault) in
        absurd (omega arith)

-- the replay up to some events, and on to the page's end
pub record AtFront (knobs : KnobsView) (start : ℕ) (floors : List ℤ) (tasks : List Task) (before rest : List Claimed)
    (cpus cpu : ℕ) (page : PageView) : Type 0 where
  pub mid : ReplayStateView
  pub passes : PassesCut knobs start floors tasks before cpu mid
  pub back : cpu < cpus → Back knobs start before rest cpu page mid
  pub past : cpus ≤ cpu → mid.since ≡ None

within : (knobs : KnobsView) (start : ℕ) (floors : List ℤ) (tasks : List Task) (before rest : List Claimed)
    (cpus cpu : ℕ) (page : PageView) → cpu < cpus → TimesRise start (before ++ rest)
    → WholeReplay knobs start floors tasks (before ++ rest) cpu page → ComesAfter before cpu page.fault
    → AtFront knobs start floors tasks before rest cpus cpu page
within knobs start floors tasks before rest cpus cpu page k rise w c =
    let f = front_replay knobs cpu w.first before rest w.end page.fault (ap (λ p. p.fault) w.is_start.page)
    w.fault.of_step w.replay c in
    let s : IsCutReplay knobs start floors tasks before cpu f.mid = record {
      first = w.first;
      is_start = record { part = w.is_start.part; since = w.is_start.since; page = w.is_start.page };
      replay = f.front;
    } in
    let b : Back knobs start before rest cpu page f.mid = record {
      end = w.end;
      replay = f.back;
      fault = subst (λ time. PageFault knobs.slack time w.end page.fault) (last_time_append start before rest) w.fault;
      line = w.line;
      left = w.left;
      came = w.came;
      tallies = w.tallies;
    } in
    record {
      mid = f.mid;
      passes = record {
        cut_replay = s;
        no_fault = f.no_fault;
        in_time = in_time knobs start floors tasks before rest cpu page f.mid s f.no_fault rise c b;
      };
      back = λ h. b;
      past = λ h. absurd (omega arith);
    }

-- of a whole replay
pub front_of : (knobs : KnobsView) (start : ℕ) (floors : List ℤ) (tasks : List Task) (before rest : List Claimed)
    (cpus cpu : ℕ) (page : PageView) → IsRecord start floors tasks (before ++ rest) cpus
    → (cpu < cpus → WholeReplay knobs start floors tasks (before ++ rest) cpu page)
    → (cpu < cpus → ComesAfter before cpu page.fault)
    → AtFront knobs start floors tasks before rest cpus cpu page
front_of knobs start floors tasks before rest cpus cpu page r w c = elim (cases_lt cpu cpus) [
  | inl k ↦ within knobs start floors tasks before rest cpus cpu page k r.times_rise (w k) (c k)
  | inr k ↦ (let p = past_cut knobs start floors tasks before cpus cpu
      (record_front start floors tasks before rest cpus r) k in
      record {
        mid = p.0;
        passes = record {
          cut_replay = p.1;
          no_fault = p.2;
          in_time = never_too_long knobs.slack p.0.since (last_time_of start before) 0 p.3;
        };
        back = λ h. absurd (omega arith);
        past = λ h. p.3;
      })
]

-- of a whole page
pub at_front : (knobs : KnobsView) (start : ℕ) (floors : List ℤ) (tasks : List Task) (before rest : List Claimed)
    (cpus cpu : ℕ) (page : PageView) → IsRecord start floors tasks (before ++ rest) cpus
    → (cpu < cpus → IsWholePage knobs start floors tasks (before ++ rest) cpu page)
    → (cpu < cpus → ComesAfter before cpu page.fault)
    → AtFront knobs start floors tasks before rest cpus cpu page
at_front knobs start floors tasks before rest cpus cpu page r w c =
    front_of knobs start floors tasks before rest cpus cpu page r
    (λ k. whole_replay knobs start floors tasks (before ++ rest) cpu page (w k)) c
