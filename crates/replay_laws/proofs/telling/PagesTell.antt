-- The first thing that the pages say against an event, behind those against which they say nothing, is what is wrong
-- with it: the machine's part at each processor is its replay's, so the same test fails on it; and each of the five
-- things ends the run. Each page may be of a record of its own, which begins with these events.
use Rattle.std.proofs.Common.{◌≡◌, ◌≢◌, ℕ, ◌<◌, true, ℤ, ◌↔◌, inl, inr, List, [], ◌∷◌, ◌++◌, refl, sym, ap, ◌∙◌, subst}
use Rattle.std.proofs.Common.{arith}
use Rattle.std.proofs.lemmas.Bool.{cases_lt}
use Rattle.std.specs.List.{AllByRecursion}
use Rattle.cfs_model.specs.Knobs.{KnobsView}
use Rattle.cfs_model.specs.Machine.{Machine, Stands}
use Rattle.cfs_model.specs.Start.{start_machine}
use Rattle.cfs_model.specs.Claimed.{Claimed}
use Rattle.cfs_model.specs.Touch.{touched}
use Rattle.cfs_model.specs.Run.{times_of, IsRun, last_of}
use Rattle.cfs_model.specs.Order.{IsInOrder, StandsSomewhere}
use Rattle.replay_model.specs.Part.{part_of}
use Rattle.replay_model.specs.Deeds.{left_ticket, came_ticket}
use Rattle.replay_model.specs.QueueTests.{IsIdleTooLong}
use Rattle.replay_model.specs.Tests.{PassesTests}
use Rattle.replay_model.specs.Cut.{touches, steps_at}
use Rattle.replay_model.specs.StepAt.{step_at}
use Rattle.replay_model.specs.Noted.{PageView}
use Rattle.replay_model.specs.Page.{ReplayStateView}
use Rattle.replay_model.specs.Record.{TimesRise, LinesRise, IsRecord}
use Rattle.replay_model.specs.Cause.{SlackFails, FaultCause, FailsOn, FailsAt, PassesAt, IsBornTwice, IsActCause}
use Rattle.replay_model.specs.Cause.{IsIdlingCause, IsCause}
use Rattle.replay_model.specs.Roll.{named, roll_of}
use Rattle.replay_model.specs.Tickets.{ticket_at}
use Rattle.replay_laws.specs.CutReplay.{IsCutReplay}
use Rattle.replay_laws.specs.Telling.{IdlesBefore, FailsHere, IsPageCause, IsActCauseOf, IsIdlingCauseOf, IsCauseOf}
use Rattle.cfs_model.proofs.StartOrder.{start_in_order}
use Rattle.replay_model.proofs.TicketLines.{left_of, came_of, left_tickets, came_tickets, more_tickets}
use Rattle.replay_laws.proofs.telling.BornHere.{not_born_here}
use Rattle.replay_laws.proofs.following.FollowLaws.{replay_follows, slack_follows}
use Rattle.replay_laws.proofs.telling.FrontReplay.{PassesFirst}
use Rattle.replay_laws.proofs.telling.Fronts.{AtFront, rise_back, record_front}
use Rattle.replay_laws.proofs.telling.PageCauses.{idling_of_page, page_of_idling, passes_there, fails_there}
use Rattle.replay_laws.proofs.following.Roll.{start_roll}
use Rattle.replay_laws.proofs.ending.RunEndings.{order_after, roll_run, idling_ends_run, birth_ends_run}
use Rattle.replay_laws.proofs.ending.RunEndings.{tickets_end_run}
use Rattle.replay_laws.proofs.ending.RunEnds.{fault_ends_run}
use Rattle.replay_laws.proofs.composing.CutReplays.{never_too_long}
use Rattle.replay_laws.proofs.composing.ShiftTickets.{goes_elsewhere, left_is, came_is}
use Rattle.replay_laws.proofs.composing.StepExists.{touches_first, touches_second}
use Rattle.replay_laws.proofs.composing.StepLines.{lines_back, steps_below}
use Rattle.cfs_model.specs.declared.act.Act.{Act}
use Rattle.cfs_model.specs.declared.act.Act.TheVariants.{Switch, Wake, Born, Shift}
use Rattle.cfs_model.specs.declared.kind.Kind.TheVariants.{BornTwice}
use Rattle.cfs_model.specs.declared.task.Task.{Task}
use Rattle.replay_model.specs.declared.page.Ticket.{Ticket}

-- the tickets of a replay's steps before an event are of lines below its own
abbrev TicketsBelow : ℕ → List Ticket → Type 0
TicketsBelow line tickets = AllByRecursion (λ (t : Ticket). t.line < line) tickets

cut_below : (knobs : KnobsView) (start : ℕ) (floors : List ℤ) (tasks : List Task) (before rest : List Claimed)
    (event : Claimed) (cpu : ℕ) (mid : ReplayStateView) → LinesRise 0 (before ++ event ∷ rest)
    → IsCutReplay knobs start floors tasks before cpu mid
    → TicketsBelow event.entry.line mid.page.left × TicketsBelow event.entry.line mid.page.came
cut_below knobs start floors tasks before rest event cpu mid rise s =
    let below = steps_below cpu 0 before rest event rise in
    let left = more_tickets (λ page. page.left) left_of left_tickets (λ line. line < event.entry.line) knobs cpu
    s.first (steps_at cpu before) mid s.replay below in
    let came = more_tickets (λ page. page.came) came_of came_tickets (λ line. line < event.entry.line) knobs cpu
    s.first (steps_at cpu before) mid s.replay below in (
      subst (TicketsBelow event.entry.line)
          (sym (left.1 ∙ ap (λ (p : PageView). p.left ++ left.0) s.is_start.page)) left.2,
      subst (TicketsBelow event.entry.line)
          (sym (came.1 ∙ ap (λ (p : PageView). p.came ++ came.0) s.is_start.page)) came.2,
    )

all_at : (P : Claimed → Type 0) (before rest : List Claimed) (event : Claimed)
    → AllByRecursion P (before ++ event ∷ rest) → P event
all_at P [] rest event h = h.0
all_at P (x ∷ before) rest event h = all_at P before rest event h.1

module _ (knobs : KnobsView) (start : ℕ) (floors : List ℤ) (tasks : List Task) (before : List Claimed)
    (rest : ℕ → List Claimed) (event : Claimed) (cpus : ℕ) (pages : ℕ → PageView)
    (r : (cpu : ℕ) → IsRecord start floors tasks (before ++ event ∷ rest cpu) cpus)
    (at : (cpu : ℕ) → AtFront knobs start floors tasks before (event ∷ rest cpu) cpus cpu (pages cpu))
    (run : IsRun knobs start (start_machine start floors tasks) before) where
  abbrev m : Machine
  m = last_of (start_machine start floors tasks) run.states

  -- the slack fails with the event at this processor
  abbrev FailsSlack : ℕ → Type 0
  FailsSlack cpu = SlackFails knobs.slack (times_of start before) (start_machine start floors tasks ∷ run.states) cpu
      event.entry.time

  -- with the event they are no run
  abbrev Ends : Type 0
  Ends = ¬ IsRun knobs start (start_machine start floors tasks) (before ++ event ∷ [])

  times : TimesRise start before
  times = (record_front start floors tasks before (event ∷ rest 0) cpus (r 0)).times_rise

  later_times : (cpu : ℕ) → TimesRise event.entry.time (rest cpu)
  later_times cpu = (rise_back start before (event ∷ rest cpu) (r cpu).times_rise).1

  later_lines : (cpu : ℕ) → LinesRise event.entry.line (rest cpu)
  later_lines cpu = (lines_back 0 before (event ∷ rest cpu) (r cpu).lines_rise).1

  part_is : (cpu : ℕ) → part_of m cpu ≡ (at cpu).mid.part
  part_is cpu = (replay_follows knobs start floors tasks before cpu (at cpu).mid (r 0).is_start times run
      (at cpu).passes.cut_replay).1

  slack_is : (cpu : ℕ) → FailsSlack cpu ↔ IsIdleTooLong knobs.slack (at cpu).mid.since event.entry.time 0
  slack_is cpu = slack_follows knobs start floors tasks before cpu (at cpu).mid event.entry.time (r 0).is_start times
      run
      (at cpu).passes.cut_replay

  -- a processor idles for too long just where its page says so
  idle_told : (cpu : ℕ) → cpu < cpus → IdlesBefore event (pages cpu).fault
      → IsIdleTooLong knobs.slack (at cpu).mid.since event.entry.time 0
  idle_told cpu k h = idling_of_page knobs start before (rest cpu) event cpu (pages cpu) (at cpu).mid
      (at cpu).passes.no_fault
      ((at cpu).back k) (later_times cpu) h

  tells : (cpu : ℕ) → cpu < cpus → FailsSlack cpu → IdlesBefore event (pages cpu).fault
  tells cpu k h = page_of_idling knobs start before (rest cpu) event cpu (pages cpu) (at cpu).mid
      (at cpu).passes.no_fault
      ((at cpu).back k) (later_times cpu) ((slack_is cpu).0 h)

  none_fails : ((cpu : ℕ) → cpu < cpus → ¬ IdlesBefore event (pages cpu).fault) → (cpu : ℕ) → ¬ FailsSlack cpu
  none_fails none cpu h = elim (cases_lt cpu cpus) [
    | inl k ↦ none cpu k (tells cpu k h)
    | inr k ↦ never_too_long knobs.slack (at cpu).mid.since event.entry.time 0 ((at cpu).past k) ((slack_is cpu).0 h)
  ]

  idling : (cause : FaultCause) → IsIdlingCauseOf pages cpus event cause
      → IsIdlingCause knobs.slack (times_of start before) (start_machine start floors tasks ∷ run.states)
      event.entry.time cause × Ends
  idling cause c =
      let late = idle_told cause.cpu c.within c.idles in (
        record {
          idles = (slack_is cause.cpu).1 late;
          lowest = λ other below h. c.lowest other below
              (tells other (let k : cause.cpu < cpus = c.within in omega arith) h);
          pid = c.pid;
          kind = c.kind;
        },
        idling_ends_run knobs start floors tasks before event cause.cpu (at cause.cpu).mid (r 0).is_start times
            (at cause.cpu).passes.cut_replay late,
      )

  fails_at : (cpu : ℕ) (cause : FaultCause) → cpu < cpus → touches cpu event ≡ true
      → IsPageCause event cpu (pages cpu) cause → FailsAt knobs m cpu event cause × Ends
  fails_at cpu cause k t c =
      let f = fails_there knobs start before (rest cpu) event cpu (pages cpu) (at cpu).mid (at cpu).passes.no_fault
      ((at cpu).back k) cause t (later_lines cpu) c in (
        record {
          here = f.here;
          fails = subst (λ part. FailsOn knobs cpu part (step_at cpu event) cause.kind cause.pid) (sym (part_is cpu))
              f.on;
        },
        fault_ends_run knobs start floors tasks before event cpu (at cpu).mid f.failed (r 0).is_start times t
            (at cpu).passes.cut_replay f.fails,
      )

  passes_at : (cpu : ℕ) → (k : cpu < cpus) → touches cpu event ≡ true → (¬ IdlesBefore event (pages cpu).fault)
      → (¬ FailsHere event (pages cpu).fault)
      → (p : PassesFirst knobs cpu (at cpu).mid event (rest cpu) ((at cpu).back k).end)
      × PassesAt knobs m cpu event p.passes.found
  passes_at cpu k t idles here =
      let p = passes_there knobs start before (rest cpu) event cpu (pages cpu) (at cpu).mid (at cpu).passes.no_fault
      ((at cpu).back k) t idles here in (
        p,
        subst (λ part. PassesTests knobs cpu part (step_at cpu event) p.passes.found) (sym (part_is cpu))
            p.passes.passes,
      )

  order : IsInOrder m
  order = order_after knobs (start_machine start floors tasks) before run.states run.steps
      (start_in_order start floors tasks (r 0).is_start)

  -- who is alive by the roll stands somewhere
  stands_somewhere : (pid : ℕ) → roll_of (named tasks) before pid ≡ true → StandsSomewhere m pid
  stands_somewhere pid alive = (order.nices pid).0
      (roll_run (named tasks) knobs (start_machine start floors tasks) before run.states run.steps
      (start_in_order start floors tasks (r 0).is_start) (start_roll start floors tasks) pid ∙ alive)

  cause_of_one : (cpu : ℕ) (cause : FaultCause) → AllByRecursion (λ (c : ℕ). c < cpus) (cpu ∷ [])
      → touched event.entry.act ≡ cpu ∷ [] → IsPageCause event cpu (pages cpu) cause
      → FailsAt knobs m cpu event cause × Ends
  cause_of_one cpu cause within t c = fails_at cpu cause within.0 (touches_first cpu event.entry.act [] t) c

  born_cause : (cpu pid : ℕ) (nice : ℤ) (cause : FaultCause) → event.entry.act ≡ Born cpu pid nice → cpu < cpus
      → (¬ IdlesBefore event (pages cpu).fault) → (¬ FailsHere event (pages cpu).fault)
      → roll_of (named tasks) before pid ≡ true
      → cause ≡ record { cpu = cpu; pid = pid; kind = BornTwice } → IsBornTwice knobs m cpu pid event cause × Ends
  born_cause cpu pid nice cause e k idles here alive is =
      let p = passes_at cpu k (touches_first cpu event.entry.act [] (ap touched e)) idles here in
      let s = stands_somewhere pid alive in (
        record {
          found = p.0.passes.found;
          passes = p.1;
          place = s.0;
          other = s.1;
          elsewhere = λ same. not_born_here knobs m order event cpu cpu pid nice p.0.passes.found e p.1 s.0
              (subst (λ x. Stands m s.0 x pid) same s.2);
          stands = s.2;
          is = is;
        },
        birth_ends_run knobs start floors tasks before event cpu pid nice (r 0).is_start e alive,
      )

  -- the tickets on the pages are those that the parts make
  unequal : (orig dest pid : ℕ) (nice : ℤ) → event.entry.act ≡ Shift orig dest pid nice → (k : orig < cpus)
      → (l : dest < cpus) → (o : PassesFirst knobs orig (at orig).mid event (rest orig) ((at orig).back k).end)
      → (d : PassesFirst knobs dest (at dest).mid event (rest dest) ((at dest).back l).end)
      → ticket_at event.entry.line (pages orig).left ≢ ticket_at event.entry.line (pages dest).came
      → left_ticket o.passes.found event.entry.line pid
      ≢ came_ticket d.passes.found event.entry.line pid nice event.policy event.claim
  unequal orig dest pid nice e k l o d differ same =
      let line = event.entry.line in
      let left = left_is knobs event orig dest pid nice e (rest orig) (at orig).mid o.next ((at orig).back k).end
      o.passes
      o.replay (cut_below knobs start floors tasks before (rest orig) event orig (at orig).mid (r orig).lines_rise
      (at orig).passes.cut_replay).0 (later_lines orig) in
      let came = came_is knobs event orig dest pid nice e (rest dest) (at dest).mid d.next ((at dest).back l).end
      (goes_elsewhere knobs event orig dest pid nice e (at orig).mid o.next o.passes) d.passes d.replay
      (cut_below knobs start floors tasks before (rest dest) event dest (at dest).mid (r dest).lines_rise
      (at dest).passes.cut_replay).1 (later_lines dest) in
      differ (ap (ticket_at line) ((at orig).back k).left ∙ left ∙ same ∙ sym came
      ∙ ap (ticket_at line) (sym ((at dest).back l).came))

  shift_cause : (orig dest pid : ℕ) (nice : ℤ) (cause : FaultCause) → event.entry.act ≡ Shift orig dest pid nice
      → orig < cpus → dest < cpus → ((cpu : ℕ) → cpu < cpus → ¬ IdlesBefore event (pages cpu).fault)
      → IsActCauseOf pages (roll_of (named tasks) before) event (Shift orig dest pid nice) cause
      → IsActCause knobs m event (Shift orig dest pid nice) cause × Ends
  shift_cause orig dest pid nice cause e k l idles (inl c) =
      let f = fails_at orig cause k (touches_first orig event.entry.act (dest ∷ []) (ap touched e)) c in
      (inl f.0, f.1)
  shift_cause orig dest pid nice cause e k l idles (inr (inl c)) =
      let p = passes_at orig k (touches_first orig event.entry.act (dest ∷ []) (ap touched e)) (idles orig k) c.0 in
      let f = fails_at dest cause l (touches_second dest orig event.entry.act (ap touched e)) c.1 in
      (inr (inl (record { left = p.0.passes.found; leaves = p.1; fails = f.0 })), f.1)
  shift_cause orig dest pid nice cause e k l idles (inr (inr c)) =
      let o = passes_at orig k (touches_first orig event.entry.act (dest ∷ []) (ap touched e)) (idles orig k) c.0 in
      let d = passes_at dest l (touches_second dest orig event.entry.act (ap touched e)) (idles dest l) c.1 in
      let differ = unequal orig dest pid nice e k l o.0 d.0 c.2 in (
        inr (inr (record {
          left = o.0.passes.found;
          came = d.0.passes.found;
          leaves = o.1;
          arrives = d.1;
          differ = differ;
          is = c.3;
        })),
        tickets_end_run knobs start floors tasks before event orig dest pid nice (at orig).mid (at dest).mid o.0.next
            d.0.next (r 0).is_start times e (at orig).passes.cut_replay (at dest).passes.cut_replay o.0.passes
            d.0.passes differ,
      )

  act_cause : (cause : FaultCause) (act : Act) → event.entry.act ≡ act
      → AllByRecursion (λ (c : ℕ). c < cpus) (touched act)
      → ((cpu : ℕ) → cpu < cpus → ¬ IdlesBefore event (pages cpu).fault)
      → IsActCauseOf pages (roll_of (named tasks) before) event act cause → IsActCause knobs m event act cause × Ends
  act_cause cause (Switch cpu prev pn way next nn) e within idles c = cause_of_one cpu cause within (ap touched e) c
  act_cause cause (Wake cpu pid nice) e within idles c = cause_of_one cpu cause within (ap touched e) c
  act_cause cause (Born cpu pid nice) e within idles (inl c) =
      let f = cause_of_one cpu cause within (ap touched e) c in (inl f.0, f.1)
  act_cause cause (Born cpu pid nice) e within idles (inr c) =
      let f = born_cause cpu pid nice cause e within.0 (idles cpu within.0) c.0 c.1 c.2 in (inr f.0, f.1)
  act_cause cause (Shift orig dest pid nice) e within idles c =
      shift_cause orig dest pid nice cause e within.0 within.1.0 idles c

  pub cause_told : (cause : FaultCause) → IsCauseOf pages cpus (roll_of (named tasks) before) event cause
      → IsCause knobs start (start_machine start floors tasks) before event cause × Ends
  cause_told cause (inl c) = let f = idling cause c in (record { run = run; why = inl f.0 }, f.1)
  cause_told cause (inr c) =
      let within = all_at (λ x. AllByRecursion (λ cpu. cpu < cpus) (touched x.entry.act)) before (rest 0) event
      (r 0).events_within in
      let f = act_cause cause event.entry.act refl within c.0 c.1 in
      (record { run = run; why = inr (none_fails c.0, f.0) }, f.1)
