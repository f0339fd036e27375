-- A window's pages, with the lists of the replays so far before their own, are pages of the events with it: they
-- suffice among each other, and say of the window's events what the window's pages say. So the law `closing` of
-- `replay_laws` serves.
use Rattle.std.proofs.Common.{◌≡◌, ℕ, ◌+◌, ◌<◌, ◌≤◌, nat_lt, nat_le, Bool, true, false, cond, Option, Some, None, ℤ}
use Rattle.std.proofs.Common.{inl}
use Rattle.std.proofs.Common.{inr, List, [], ◌∷◌, ◌++◌, length, take, append_assoc, refl, sym, ap, ◌∙◌, subst, arith}
use Rattle.std.proofs.lemmas.Bool.{cases_lt, le-leb, leb-true, leb-false, lt-leb, lt-ltb}
use Rattle.std.proofs.lemmas.List.{take_all, append-nil, length-append}
use Rattle.std.proofs.Math.Path.{fun_ext}
use Rattle.std.proofs.Math.Seq.{take-append-add}
use Rattle.std.specs.List.{AllByRecursion}
use Rattle.cfs_model.specs.Limits.{no_line}
use Rattle.cfs_model.specs.Knobs.{KnobsView}
use Rattle.cfs_model.specs.Claimed.{Claimed}
use Rattle.cfs_model.specs.Touch.{touched}
use Rattle.replay_model.specs.QueueTests.{IsIdleTooLong}
use Rattle.replay_model.specs.Cause.{FaultCause}
use Rattle.replay_model.specs.Cut.{StreamView, touches, steps_at, cut, last_time_of, last_line_after}
use Rattle.replay_model.specs.Noted.{PageView}
use Rattle.replay_model.specs.Page.{ReplayStateView, IsReplay, IsPageOf, IsStartOf, end_page}
use Rattle.replay_model.specs.Record.{IsRecord}
use Rattle.replay_model.specs.Roll.{BirthsAreNew, named, roll_of}
use Rattle.replay_model.specs.Tickets.{ticket_at, TicketsAgree}
use Rattle.replay_laws.specs.CutReplay.{PassesCut}
use Rattle.replay_laws.specs.Sufficing.{HasFaultBy, SufficesAmong}
use Rattle.replay_laws.specs.Telling.{IdlesBefore, FailsHere, ComesAfter, IsPageCause, IsActCauseOf, IsCauseOf}
use Rattle.replay_laws.specs.Telling.{SayNothing}
use Rattle.replay_model.proofs.Options.{no_some, some_no, same_some}
use Rattle.replay_model.proofs.Replayed.{IsReplay-append}
use Rattle.replay_model.proofs.TicketLines.{left_of, came_of, left_tickets, came_tickets, more_tickets, ticket_kept}
use Rattle.replay_laws.proofs.composing.CutReplays.{late_fault, end_left, end_came}
use Rattle.replay_laws.proofs.telling.FrontRun.{silent_done}
use Rattle.replay_laws.proofs.telling.PagesSuffice.{pages_tell_fault}
use Rattle.window_laws.specs.Kept.{kept_of, page_behind, state_behind}
use Rattle.window_laws.specs.SoFar.{IsSoFar}
use Rattle.window_laws.specs.InWindow.{window_page, SufficesInWindow, SayNothingInWindow}
use Rattle.window_laws.specs.Windows.{WindowPasses, WindowTellsFault}
use Rattle.window_laws.proofs.Appended.{all_map, all_append, all_front, all_back, all_take, steps_append, steps_all}
use Rattle.window_laws.proofs.Appended.{above, up_to, lines_behind, lines_before, times_behind, times_before}
use Rattle.window_laws.proofs.Appended.{roll_append, births_append}
use Rattle.window_laws.proofs.Behind.{replay_from_kept}
use Rattle.window_laws.proofs.LineTickets.{ticket_later, agree_all}
use Rattle.window_laws.proofs.NotDue.{LateFrom, replay_late, page_due, comes_after}
use Rattle.cfs_model.specs.declared.act.Act.{Act}
use Rattle.cfs_model.specs.declared.act.Act.TheVariants.{Switch, Wake, Born, Shift}
use Rattle.cfs_model.specs.declared.task.Task.{Task}
use Rattle.replay_model.specs.declared.page.StepFault.{StepFault}
use Rattle.replay_model.specs.declared.page.Ticket.{Ticket}
use Rattle.replay_model.specs.declared.step.Step.{Step}

-- a comparison of two numbers behind a third
le_shift : (n a b : ℕ) → nat_le (n + a) (n + b) ≡ nat_le a b
le_shift n a b = go (nat_le a b) refl
  where
    go : (x : Bool) → nat_le a b ≡ x → nat_le (n + a) (n + b) ≡ x
    go true e = le-leb (n + a) (n + b) (let k = leb-true a b e in omega (arith, k))
    go false e = lt-leb (n + a) (n + b) (let k = leb-false a b e in omega (arith, k))

-- the end test looks at no list
test_behind : (slack : ℕ) (stream : StreamView) (earlier : PageView) (since : Option ℕ) (o : Option StepFault)
    (page : PageView)
    → page_behind earlier (end_page slack stream since o page)
    ≡ end_page slack stream since o (page_behind earlier page)
test_behind slack stream earlier None o page = refl
test_behind slack stream earlier (Some x) (Some fault) page = refl
test_behind slack stream earlier (Some x) None page = go (nat_lt (x + slack) stream.last_time)
  where
    go : (b : Bool)
        → page_behind earlier (cond b (record page { fault = Some (late_fault slack stream x) }) page)
        ≡ cond b (record (page_behind earlier page) { fault = Some (late_fault slack stream x) })
        (page_behind earlier page)
    go true = refl
    go false = refl

window_behind : (slack : ℕ) (stream : StreamView) (earlier : PageView) (end : ReplayStateView) (b : Bool)
    → page_behind earlier (cond b (end_page slack stream end.since end.page.fault end.page) end.page)
    ≡ cond b (end_page slack stream end.since end.page.fault (page_behind earlier end.page))
    (page_behind earlier end.page)
window_behind slack stream earlier end true = test_behind slack stream earlier end.since end.page.fault end.page
window_behind slack stream earlier end false = refl

-- a window's page has the tickets of the replay's end
window_left : (slack : ℕ) (stream : StreamView) (end : ReplayStateView) (b : Bool)
    → (cond b (end_page slack stream end.since end.page.fault end.page) end.page).left ≡ end.page.left
window_left slack stream end true = end_left slack stream end.since end.page.fault end.page
window_left slack stream end false = refl

window_came : (slack : ℕ) (stream : StreamView) (end : ReplayStateView) (b : Bool)
    → (cond b (end_page slack stream end.since end.page.fault end.page) end.page).came ≡ end.page.came
window_came slack stream end true = end_came slack stream end.since end.page.fault end.page
window_came slack stream end false = refl

-- a page without a fault after the end test: the replay has none, and the processor is in time
ends_well : (slack : ℕ) (stream : StreamView) (end : ReplayStateView)
    → (end_page slack stream end.since end.page.fault end.page).fault ≡ None
    → (end.page.fault ≡ None) × (¬ IsIdleTooLong slack end.since stream.last_time 0)
ends_well slack stream end h = go end.since end.page.fault refl h
  where
    go : (since : Option ℕ) (o : Option StepFault) → end.page.fault ≡ o
        → (end_page slack stream since o end.page).fault ≡ None
        → (end.page.fault ≡ None) × (¬ IsIdleTooLong slack since stream.last_time 0)
    go None o e h = (h, (λ k. k))
    go (Some x) (Some fault) e h = some_no fault (sym e ∙ h)
    go (Some x) None e h = (
      e,
      (λ k. some_no (late_fault slack stream x)
          (sym (ap (λ b. (cond b (record (end.page) { fault = Some (late_fault slack stream x) }) end.page).fault)
          (lt-ltb (x + slack) stream.last_time k.0)) ∙ h)),
    )

module _ (knobs : KnobsView) (start : ℕ) (floors : List ℤ) (tasks : List Task) (before window : List Claimed)
    (cpus : ℕ) (kept ends : ℕ → ReplayStateView) (alive : ℕ → Bool) (pages : ℕ → PageView)
    (r : IsRecord start floors tasks (before ++ window) cpus)
    (s : IsSoFar knobs start floors tasks before cpus kept alive)
    (each : (cpu : ℕ) → cpu < cpus → SufficesInWindow knobs start floors tasks before window cpus kept ends pages cpu)
  where
    -- a page and a replay's end with the lists so far
    abbrev whole_page : ℕ → PageView
    whole_page cpu = page_behind (s.last cpu).page (pages cpu)

    abbrev whole_end : ℕ → ReplayStateView
    whole_end cpu = state_behind (s.last cpu).page (ends cpu)

    abbrev stream : ℕ → StreamView
    stream cpu = cut start floors tasks (before ++ window) cpu

    -- the last line and the last time so far
    abbrev edge_line : ℕ
    edge_line = last_line_after no_line before

    abbrev edge_time : ℕ
    edge_time = last_time_of start before

    from_last : (cpu : ℕ) → (k : cpu < cpus)
        → IsReplay knobs cpu (s.last cpu) (take (each cpu k).made (steps_at cpu window)) (whole_end cpu)
    from_last cpu k = replay_from_kept knobs cpu (s.last cpu) (take (each cpu k).made (steps_at cpu window)) (ends cpu)
        (subst (λ x. IsReplay knobs cpu x (take (each cpu k).made (steps_at cpu window)) (ends cpu)) (s.keeps cpu k)
        (each cpu k).replay)

    abbrev all_made : (cpu : ℕ) → cpu < cpus → ℕ
    all_made cpu k = length (steps_at cpu before) + (each cpu k).made

    by_all : (cpu : ℕ) → (k : cpu < cpus)
        → IsReplay knobs cpu (s.passes cpu k).cut_replay.first
        (take (all_made cpu k) (steps_at cpu (before ++ window))) (whole_end cpu)
    by_all cpu k =
        let first = (s.passes cpu k).cut_replay.first in
        subst (λ xs. IsReplay knobs cpu first xs (whole_end cpu))
        (sym (ap (take (all_made cpu k)) (steps_append cpu before window)
        ∙ take-append-add (steps_at cpu before) (steps_at cpu window) (each cpu k).made))
        (IsReplay-append knobs cpu first (steps_at cpu before) (take (each cpu k).made (steps_at cpu window))
        (s.last cpu) (whole_end cpu) (s.passes cpu k).cut_replay.replay (from_last cpu k))

    count_is : (cpu : ℕ)
        → length (steps_at cpu (before ++ window)) ≡ length (steps_at cpu before) + length (steps_at cpu window)
    count_is cpu = ap (λ xs. length xs) (steps_append cpu before window)
        ∙ length-append (steps_at cpu before) (steps_at cpu window)

    test_is : (cpu : ℕ) → (k : cpu < cpus)
        → nat_le (length (steps_at cpu (before ++ window))) (all_made cpu k)
        ≡ nat_le (length (steps_at cpu window)) (each cpu k).made
    test_is cpu k = ap (λ n. nat_le n (all_made cpu k)) (count_is cpu)
        ∙ le_shift (length (steps_at cpu before)) (length (steps_at cpu window)) (each cpu k).made

    is_start : (cpu : ℕ) → (k : cpu < cpus) → IsStartOf (stream cpu) (s.passes cpu k).cut_replay.first
    is_start cpu k =
        let h = (s.passes cpu k).cut_replay.is_start in
        record { part = h.part; since = h.since; page = h.page }

    page_is : (cpu : ℕ) → (k : cpu < cpus)
        → whole_page cpu
        ≡ window_page knobs.slack (stream cpu) (length (steps_at cpu (before ++ window))) (all_made cpu k)
        (whole_end cpu)
    page_is cpu k =
        ap (page_behind (s.last cpu).page) (each cpu k).is_page
        ∙ window_behind knobs.slack (stream cpu) (s.last cpu).page (ends cpu)
        (nat_le (length (steps_at cpu window)) (each cpu k).made)
        ∙ ap (λ b. cond b (end_page knobs.slack (stream cpu) (ends cpu).since (ends cpu).page.fault
        (page_behind (s.last cpu).page (ends cpu).page)) (page_behind (s.last cpu).page (ends cpu).page))
        (sym (test_is cpu k))

    is_page : (cpu : ℕ) → (k : cpu < cpus) → IsPageOf (stream cpu) knobs (all_made cpu k) (whole_page cpu)
    is_page cpu k = record {
      start = (s.passes cpu k).cut_replay.first;
      is_start = is_start cpu k;
      end = whole_end cpu;
      replay = by_all cpu k;
      result = page_is cpu k;
    }

    fault_by : (line : ℕ) → HasFaultBy pages cpus line → HasFaultBy whole_page cpus line
    fault_by line by =
        record { cpu = by.cpu; within = by.within; fault = by.fault; is_fault = by.is_fault; by = by.by }

    suffice : (cpu : ℕ) → cpu < cpus → SufficesAmong knobs start floors tasks (before ++ window) cpus whole_page cpu
    suffice cpu k = record {
      made = all_made cpu k;
      is_page = is_page cpu k;
      enough = elim (each cpu k).enough [
        | inl some ↦ inl some
        | inr (inl all) ↦ inr (inl (let a = count_is cpu in omega (arith, a, all)))
        | inr (inr by) ↦ inr (inr (fault_by (pages cpu).line by))
      ];
    }

    -- the events before the window are up to its edge, and the window's are behind it
    so_far : AllByRecursion (λ (event : Claimed). (event.entry.line ≤ edge_line) × (event.entry.time ≤ edge_time))
        before
    so_far = up_to no_line start before (lines_before no_line before window r.lines_rise)
        (times_before start before window r.times_rise)

    behind : AllByRecursion (λ (event : Claimed). (edge_line < event.entry.line) × (edge_time ≤ event.entry.time))
        window
    behind = above edge_line edge_time edge_line edge_time window (omega arith) (omega arith)
        (lines_behind no_line before window r.lines_rise) (times_behind start before window r.times_rise)

    late_so_far : (cpu : ℕ) → (k : cpu < cpus) → LateFrom knobs.slack edge_time edge_line (s.last cpu)
    late_so_far cpu k = record {
      fault = λ fault e. no_some fault (sym (s.passes cpu k).no_fault ∙ e);
      since = in_time (s.last cpu).since (s.passes cpu k).in_time;
    }
      where
        in_time : (o : Option ℕ) → ¬ IsIdleTooLong knobs.slack o edge_time 0 → (x : ℕ) → o ≡ Some x
            → edge_time ≤ x + knobs.slack
        in_time None h x e = no_some x e
        in_time (Some y) h x e = elim (cases_lt (y + knobs.slack) edge_time) [
          | inl late ↦ absurd (h (late, refl))
          | inr k ↦ (let same : y ≡ x = same_some (Some y) y x refl e in omega (arith, same))
        ]

    late_at_end : (cpu : ℕ) → cpu < cpus → LateFrom knobs.slack edge_time edge_line (whole_end cpu)
    late_at_end cpu k =
        replay_late knobs cpu edge_time edge_line (s.last cpu) (take (each cpu k).made (steps_at cpu window))
        (whole_end cpu) (late_so_far cpu k)
        (all_take (λ (step : Step). (edge_line < step.line) × (edge_time ≤ step.time)) (each cpu k).made
        (steps_at cpu window) (steps_all (λ line time. (edge_line < line) × (edge_time ≤ time)) cpu window behind))
        (from_last cpu k)

    not_due : (cpu : ℕ) → cpu < cpus → ComesAfter before cpu (whole_page cpu).fault
    not_due cpu k = comes_after edge_time edge_line cpu before (whole_page cpu).fault
        (λ fault e. page_due knobs.slack (stream cpu) (length (steps_at cpu (before ++ window))) (all_made cpu k)
        edge_time edge_line (whole_end cpu) (late_at_end cpu k) fault (ap (λ p. p.fault) (sym (page_is cpu k)) ∙ e))
        so_far

    -- the tickets so far are of lines up to the edge
    abbrev SoFarTickets : List Ticket → Type 0
    SoFarTickets tickets = AllByRecursion (λ (t : Ticket). t.line ≤ edge_line) tickets

    lines_so_far : (cpu : ℕ) → AllByRecursion (λ (step : Step). step.line ≤ edge_line) (steps_at cpu before)
    lines_so_far cpu = steps_all (λ line time. line ≤ edge_line) cpu before
        (all_map (λ (event : Claimed). (event.entry.line ≤ edge_line) × (event.entry.time ≤ edge_time))
        (λ (event : Claimed). event.entry.line ≤ edge_line) (λ event h. h.0) before so_far)

    left_so_far : (cpu : ℕ) → cpu < cpus → SoFarTickets (s.last cpu).page.left
    left_so_far cpu k =
        let c = (s.passes cpu k).cut_replay in
        let more = more_tickets (λ page. page.left) left_of left_tickets (λ line. line ≤ edge_line) knobs cpu c.first
        (steps_at cpu before) (s.last cpu) c.replay (lines_so_far cpu) in
        subst SoFarTickets (sym (more.1 ∙ ap (λ (p : PageView). p.left ++ more.0) c.is_start.page)) more.2

    came_so_far : (cpu : ℕ) → cpu < cpus → SoFarTickets (s.last cpu).page.came
    came_so_far cpu k =
        let c = (s.passes cpu k).cut_replay in
        let more = more_tickets (λ page. page.came) came_of came_tickets (λ line. line ≤ edge_line) knobs cpu c.first
        (steps_at cpu before) (s.last cpu) c.replay (lines_so_far cpu) in
        subst SoFarTickets (sym (more.1 ∙ ap (λ (p : PageView). p.came ++ more.0) c.is_start.page)) more.2

    -- the whole page has the tickets of the replay's end
    left_is : (cpu : ℕ) → cpu < cpus → (whole_page cpu).left ≡ (whole_end cpu).page.left
    left_is cpu k = ap (λ xs. (s.last cpu).page.left ++ xs)
        (ap (λ p. p.left) (each cpu k).is_page ∙ window_left knobs.slack (stream cpu) (ends cpu)
        (nat_le (length (steps_at cpu window)) (each cpu k).made))

    came_is : (cpu : ℕ) → cpu < cpus → (whole_page cpu).came ≡ (whole_end cpu).page.came
    came_is cpu k = ap (λ xs. (s.last cpu).page.came ++ xs)
        (ap (λ p. p.came) (each cpu k).is_page ∙ window_came knobs.slack (stream cpu) (ends cpu)
        (nat_le (length (steps_at cpu window)) (each cpu k).made))

    -- a ticket of a line so far, and of one of the window
    lines_later : (line cpu : ℕ) → (k : cpu < cpus) → line ≤ edge_line
        → AllByRecursion (λ (step : Step). line < step.line) (take (each cpu k).made (steps_at cpu window))
    lines_later line cpu k by = all_take (λ (step : Step). line < step.line) (each cpu k).made (steps_at cpu window)
        (steps_all (λ at time. line < at) cpu window
        (all_map (λ (event : Claimed). (edge_line < event.entry.line) × (edge_time ≤ event.entry.time))
        (λ (event : Claimed). line < event.entry.line)
        (λ event h. (let a : edge_line < event.entry.line = h.0 in omega (arith, a, by))) window behind))

    left_kept : (line : ℕ) → line ≤ edge_line → (cpu : ℕ) → cpu < cpus
        → ticket_at line (s.last cpu).page.left ≡ ticket_at line (whole_page cpu).left
    left_kept line by cpu k =
        sym (ap (ticket_at line) (left_is cpu k)
        ∙ ticket_kept (λ page. page.left) left_of left_tickets line knobs cpu (s.last cpu) _ (whole_end cpu)
        (from_last cpu k) (lines_later line cpu k by))

    came_kept : (line : ℕ) → line ≤ edge_line → (cpu : ℕ) → cpu < cpus
        → ticket_at line (s.last cpu).page.came ≡ ticket_at line (whole_page cpu).came
    came_kept line by cpu k =
        sym (ap (ticket_at line) (came_is cpu k)
        ∙ ticket_kept (λ page. page.came) came_of came_tickets line knobs cpu (s.last cpu) _ (whole_end cpu)
        (from_last cpu k) (lines_later line cpu k by))

    left_new : (line : ℕ) → edge_line < line → (cpu : ℕ) → cpu < cpus
        → ticket_at line (pages cpu).left ≡ ticket_at line (whole_page cpu).left
    left_new line past cpu k =
        sym (ticket_later line edge_line (s.last cpu).page.left (pages cpu).left (left_so_far cpu k) past)

    came_new : (line : ℕ) → edge_line < line → (cpu : ℕ) → cpu < cpus
        → ticket_at line (pages cpu).came ≡ ticket_at line (whole_page cpu).came
    came_new line past cpu k =
        sym (ticket_later line edge_line (s.last cpu).page.came (pages cpu).came (came_so_far cpu k) past)

    abbrev Within : Claimed → Type 0
    Within event = AllByRecursion (λ (c : ℕ). c < cpus) (touched event.entry.act)

    -- the roll as a function
    alive_is : alive ≡ roll_of (named tasks) before
    alive_is = fun_ext s.roll

    roll_is : (events : List Claimed) → roll_of alive events ≡ roll_of (named tasks) (before ++ events)
    roll_is events = ap (λ f. roll_of f events) alive_is ∙ sym (roll_append (named tasks) before events)

    -- what the window's pages don't say against its first events, the whole pages don't against these and those so far
    say : (fine rest : List Claimed) → window ≡ fine ++ rest → SayNothingInWindow pages cpus alive fine
        → SayNothing whole_page cpus tasks (before ++ fine)
    say fine rest e w =
        let within = all_back Within before window r.events_within in
        let lines = all_map (λ (event : Claimed). (edge_line < event.entry.line) × (edge_time ≤ event.entry.time))
        (λ (event : Claimed). edge_line < event.entry.line) (λ event h. h.0) window behind in
        record {
          no_fault = λ cpu k. all_append
              (λ (event : Claimed). (¬ IdlesBefore event (whole_page cpu).fault)
              × (touches cpu event ≡ true → ¬ FailsHere event (whole_page cpu).fault))
              before fine (not_due cpu k) (w.no_fault cpu k);
          tickets = all_append
              (λ (event : Claimed). TicketsAgree whole_page event.entry.line event.entry.act) before fine
              (agree_all cpus (λ cpu. (s.last cpu).page) whole_page (λ line. line ≤ edge_line) before
              (all_front Within before window r.events_within)
              (all_map (λ (event : Claimed). (event.entry.line ≤ edge_line) × (event.entry.time ≤ edge_time))
              (λ (event : Claimed). event.entry.line ≤ edge_line) (λ event h. h.0) before so_far)
              left_kept came_kept s.tickets)
              (agree_all cpus pages whole_page (λ line. edge_line < line) fine
              (all_front Within fine rest (subst (AllByRecursion Within) e within))
              (all_front (λ (event : Claimed). edge_line < event.entry.line) fine rest
              (subst (AllByRecursion (λ (event : Claimed). edge_line < event.entry.line)) e lines))
              left_new came_new w.tickets);
          births = births_append (named tasks) before fine s.births
              (subst (λ f. BirthsAreNew f fine) alive_is w.births);
        }

    -- behind a window against which nothing is said each replay passes
    passes : SayNothing whole_page cpus tasks (before ++ window) → (cpu : ℕ) → cpu < cpus
        → PassesCut knobs start floors tasks (before ++ window) cpu (whole_end cpu)
    unfolding suffice
    passes w cpu k =
        let done = silent_done knobs start floors tasks (before ++ window) cpus whole_page r suffice w cpu k in
        let all : length (steps_at cpu (before ++ window)) ≤ all_made cpu k = done.1 in
        let tested = ap (λ b. cond b (end_page knobs.slack (stream cpu) (whole_end cpu).since (whole_end cpu).page.fault
        (whole_end cpu).page) (whole_end cpu).page)
        (le-leb (length (steps_at cpu (before ++ window))) (all_made cpu k) all) in
        let well = ends_well knobs.slack (stream cpu) (whole_end cpu)
        (ap (λ p. p.fault) (sym (page_is cpu k ∙ tested)) ∙ done.0) in
        record {
          cut_replay = record {
            first = (s.passes cpu k).cut_replay.first;
            is_start = is_start cpu k;
            replay = subst (λ xs. IsReplay knobs cpu (s.passes cpu k).cut_replay.first xs (whole_end cpu))
                (take_all (all_made cpu k) (steps_at cpu (before ++ window)) all) (by_all cpu k);
          };
          no_fault = well.0;
          in_time = well.1;
        }

    so_far_behind : SayNothingInWindow pages cpus alive window
        → IsSoFar knobs start floors tasks (before ++ window) cpus (λ cpu. kept_of (ends cpu)) (roll_of alive window)
    so_far_behind w =
        let nothing = say window [] (sym (append-nil window)) w in
        record {
          last = whole_end;
          passes = passes nothing;
          keeps = λ cpu k. refl;
          tickets = agree_all cpus whole_page (λ cpu. (whole_end cpu).page) (λ line. ℕ) (before ++ window)
              r.events_within (any_lines (before ++ window))
              (λ line is cpu k. ap (ticket_at line) (left_is cpu k))
              (λ line is cpu k. ap (ticket_at line) (came_is cpu k)) nothing.tickets;
          births = nothing.births;
          roll = λ pid. ap (λ f. f pid) (roll_is window);
        }
      where
        any_lines : (events : List Claimed) → AllByRecursion (λ (event : Claimed). ℕ) events
        any_lines [] = tt
        any_lines (event ∷ events) = (0, any_lines events)

    -- the first thing that the window's pages say against an event is the first that the whole pages say
    page_cause : (event : Claimed) (cpu : ℕ) (cause : FaultCause) → IsPageCause event cpu (pages cpu) cause
        → IsPageCause event cpu (whole_page cpu) cause
    page_cause event cpu cause c = record { fault = c.fault; is_fault = c.is_fault; here = c.here; is = c.is }

    act_cause : (event : Claimed) (cause : FaultCause) (roll : ℕ → Bool) (act : Act) → edge_line < event.entry.line
        → AllByRecursion (λ (c : ℕ). c < cpus) (touched act) → IsActCauseOf pages roll event act cause
        → IsActCauseOf whole_page roll event act cause
    act_cause event cause roll (Switch cpu prev pn way next nn) past within c = page_cause event cpu cause c
    act_cause event cause roll (Wake cpu pid nice) past within c = page_cause event cpu cause c
    act_cause event cause roll (Born cpu pid nice) past within (inl c) = inl (page_cause event cpu cause c)
    act_cause event cause roll (Born cpu pid nice) past within (inr c) = inr c
    act_cause event cause roll (Shift orig dest pid nice) past within (inl c) = inl (page_cause event orig cause c)
    act_cause event cause roll (Shift orig dest pid nice) past within (inr (inl c)) =
        inr (inl (c.0, page_cause event dest cause c.1))
    act_cause event cause roll (Shift orig dest pid nice) past within (inr (inr c)) =
        let differ = λ (same : ticket_at event.entry.line (whole_page orig).left
        ≡ ticket_at event.entry.line (whole_page dest).came).
        c.2 (left_new event.entry.line past orig within.0 ∙ same
        ∙ sym (came_new event.entry.line past dest within.1.0)) in
        inr (inr (c.0, c.1, differ, c.3))

    cause_of : (event : Claimed) (cause : FaultCause) (roll : ℕ → Bool) → edge_line < event.entry.line → Within event
        → IsCauseOf pages cpus roll event cause → IsCauseOf whole_page cpus roll event cause
    cause_of event cause roll past within (inl c) = inl (record {
      within = c.within;
      idles = c.idles;
      lowest = c.lowest;
      pid = c.pid;
      kind = c.kind;
    })
    cause_of event cause roll past within (inr c) =
        inr (c.0, act_cause event cause roll event.entry.act past within c.1)

pub window_passes : WindowPasses
window_passes knobs start floors tasks before window cpus kept ends alive pages r s each w =
    so_far_behind knobs start floors tasks before window cpus kept ends alive pages r s each w

pub window_tells_fault : WindowTellsFault
window_tells_fault knobs start floors tasks before window fine rest event cpus kept ends alive pages cause r s each e w
    c =
    let edge = last_line_after no_line before in
    let time = last_time_of start before in
    let all = behind knobs start floors tasks before window cpus kept ends alive pages r s each in
    let within = all_back (λ (x : Claimed). AllByRecursion (λ (c : ℕ). c < cpus) (touched x.entry.act)) before window
    r.events_within in
    let past = (all_back (λ (x : Claimed). (edge < x.entry.line) × (time ≤ x.entry.time)) fine (event ∷ rest)
    (subst (AllByRecursion (λ (x : Claimed). (edge < x.entry.line) × (time ≤ x.entry.time))) e all)).0 in
    let here = (all_back (λ (x : Claimed). AllByRecursion (λ (c : ℕ). c < cpus) (touched x.entry.act)) fine
    (event ∷ rest)
    (subst (AllByRecursion (λ (x : Claimed). AllByRecursion (λ (c : ℕ). c < cpus) (touched x.entry.act))) e within)).0
    in
    let whole = λ (cpu : ℕ). page_behind (s.last cpu).page (pages cpu) in
    let cause_there = cause_of knobs start floors tasks before window cpus kept ends alive pages r s each event cause
    (roll_of alive fine) past.0 here c in
    pages_tell_fault knobs start floors tasks (before ++ window) (before ++ fine) rest event cpus whole cause r
    (suffice knobs start floors tasks before window cpus kept ends alive pages r s each)
    (ap (λ xs. before ++ xs) e ∙ sym (append_assoc before fine (event ∷ rest)))
    (say knobs start floors tasks before window cpus kept ends alive pages r s each fine (event ∷ rest) e w)
    (subst (λ f. IsCauseOf whole cpus f event cause)
    (roll_is knobs start floors tasks before window cpus kept ends alive pages r s each fine) cause_there)
