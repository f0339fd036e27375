-- A window that all processors went through: their pages suffice in it, so where these say nothing the events with it
-- are a run so far, and what is kept is where the replays stand; else the first thing that they say is the first fault.
use Rattle.std.proofs.Common.{◌≡◌, ◌≢◌, ℕ, zero, suc, ◌+◌, ◌^◌, ◌<◌, ◌≤◌, nat_lt, nat_le, Bool, true, false, List}
use Rattle.std.proofs.Common.{[]}
use Rattle.std.proofs.Common.{◌∷◌, ◌++◌, length, map, get_or, Option, Some, None, inl, inr, refl, sym, ap, ◌∙◌}
use Rattle.std.proofs.Common.{subst}
use Rattle.std.proofs.Common.{All, arith}
use Rattle.std.specs.Prelude.{filter}
use Rattle.std.specs.List.{AllByRecursion, AllPairs}
use Rattle.std.proofs.lemmas.Bool.{cases_lt, cond-false, cond-true, le-leb, ltb-true}
use Rattle.std.proofs.lemmas.List.{length-append, length-map, take_all}
use Rattle.std.proofs.lemmas.List.Elements.{All-from_recursion}
use Rattle.cfs_model.specs.Claimed.{Claimed}
use Rattle.cfs_model.specs.Knobs.{KnobsView}
use Rattle.cfs_model.specs.Start.{start_machine}
use Rattle.cfs_model.specs.Touch.{touched}
use Rattle.cfs_model.specs.declared.act.Entry.{Entry}
use Rattle.replay_model.specs.Cause.{IsFirstFault}
use Rattle.replay_model.specs.Cut.{StreamView, cut, last_line_after, last_time_of, steps_at, touches}
use Rattle.replay_model.specs.Noted.{PageView}
use Rattle.replay_model.specs.Page.{ReplayStateView, IsReplay, end_page}
use Rattle.replay_model.specs.QueueTests.{IsIdleTooLong}
use Rattle.replay_model.specs.Record.{LinesRise}
use Rattle.replay_model.specs.Roll.{named, roll_of}
use Rattle.replay_model.specs.StepAt.{step_at}
use Rattle.replay_model.specs.declared.first_fault.FirstFault.{FirstFault}
use Rattle.replay_model.specs.declared.page.StepFault.{StepFault}
use Rattle.replay_model.specs.declared.page.Ticket.{Ticket}
use Rattle.replay_model.specs.declared.step.Step.{Step}
use Rattle.sched_record.proofs.Pairs.{pairs_filter, pairs_map}
use Rattle.ticket_book.specs.Told.{TellFaultFrom, TellFrom, cause_view, empty_view, view_at}
use Rattle.ticket_book.specs.Walk.{TicketsRise}
use Rattle.ticket_book.specs.WindowBook.{IsBookOf}
use Rattle.ticket_book.proofs.TicketOrder.{came_rise, left_rise}
use Rattle.window_laws.specs.InWindow.{SayNothingInWindow, SufficesInWindow}
use Rattle.window_laws.specs.Kept.{kept_of}
use Rattle.window_laws.specs.SoFar.{IsSoFar}
use Rattle.window_laws.specs.Windows.{WindowPasses, WindowTellsFault}
use Rattle.window_laws.proofs.Appended.{all_back}
use Rattle.window_audit.specs.Audit.{Beginning, ComesNext, IsAuditOf, IsToldOf}
use Rattle.window_audit.specs.Last.{IsLastOf}
use Rattle.window_audit.specs.Member.{IsThroughWindow, replay_of}
use Rattle.window_audit.specs.States.{AllWentThrough, AreOwn, empty_state, forgotten, state_at}
use Rattle.window_audit.specs.declared.audit.WindowAudit.{WindowAudit}
use Rattle.window_audit.specs.declared.member.Member.{Member}
use Rattle.window_audit.proofs.Lists.{element, last_line_behind, last_time_behind, page_here, state_here, steps_few}

-- the pages of some members
abbrev pub pages_of : List Member → List PageView
pages_of members = map (λ (m : Member). (replay_of m).state.page) members

-- a processor's replay of a window ends so, and its page is that with the end test
pub record IsThrough (of : Beginning) (so_far window : List Claimed) (before after : List Member) (cpu : ℕ)
    (ends : ReplayStateView) : Type 0 where
  pub replay : IsReplay of.knobs cpu (state_at before cpu) (steps_at cpu window) ends
  pub page : (state_at after cpu).page
      ≡ end_page of.knobs.slack (cut of.start of.floors of.tasks (so_far ++ window) cpu) ends.since ends.page.fault
      ends.page
  pub part : (state_at after cpu).part ≡ ends.part
  pub since : (state_at after cpu).since ≡ ends.since

-- an end test that finds nothing changes nothing
end_quiet : (slack : ℕ) (stream : StreamView) (since : Option ℕ) (fault : Option StepFault) (page : PageView)
    → fault ≡ None → ¬ IsIdleTooLong slack since stream.last_time 0
    → end_page slack stream since fault page ≡ page
end_quiet slack stream None fault page none calm = refl
end_quiet slack stream (Some since) (Some fault) page none calm = refl
end_quiet slack stream (Some since) None page none calm = go (nat_lt (since + slack) stream.last_time) refl
  where
    go : (b : Bool) → nat_lt (since + slack) stream.last_time ≡ b → end_page slack stream (Some since) None page ≡ page
    go true is = absurd (calm (ltb-true (since + slack) stream.last_time is, refl))
    go false is = cond-false (nat_lt (since + slack) stream.last_time) _ page is

same_state : (a b : ReplayStateView) → a.part ≡ b.part → a.since ≡ b.since → a.page ≡ b.page → a ≡ b
same_state a b part since page = λ i. record { part = part i; since = since i; page = page i }

-- lines that rise from above one are above it, and rise pairwise
lines_above : (line : ℕ) (xs : List Claimed) → LinesRise line xs → All (λ e. line < e.entry.line) xs
lines_above line [] rise k d lt = absurd (omega arith)
lines_above line (x ∷ xs) rise zero d lt = rise.0
lines_above line (x ∷ xs) rise (suc k) d lt =
    let up = lines_above x.entry.line xs rise.1 k d (omega arith) in let low = rise.0 in omega (arith, up, low)

lines_pairs : (line : ℕ) (xs : List Claimed) → LinesRise line xs → AllPairs (λ a b. a.entry.line < b.entry.line) xs
lines_pairs line [] rise i j d lt h = absurd (omega arith)
lines_pairs line (x ∷ xs) rise zero zero d lt h = absurd (omega arith)
lines_pairs line (x ∷ xs) rise zero (suc j) d lt h = lines_above x.entry.line xs rise.1 j d (omega arith)
lines_pairs line (x ∷ xs) rise (suc i) zero d lt h = absurd (omega arith)
lines_pairs line (x ∷ xs) rise (suc i) (suc j) d lt h =
    lines_pairs x.entry.line xs rise.1 i j d (omega arith) (omega arith)

lines_back : (line : ℕ) (xs ys : List Claimed) → LinesRise line (xs ++ ys) → LinesRise (last_line_after line xs) ys
lines_back line [] ys rise = rise
lines_back line (x ∷ xs) ys rise = lines_back x.entry.line xs ys rise.1

inside_of : (cpus : ℕ) (xs : List Claimed)
    → AllByRecursion (λ event. AllByRecursion (λ cpu. cpu < cpus) (touched event.entry.act)) xs
    → All (λ event. All (λ cpu. cpu < cpus) (touched event.act)) (map (λ event. event.entry) xs)
inside_of cpus [] within k d lt = absurd (omega arith)
inside_of cpus (x ∷ xs) within zero d lt = All-from_recursion (λ cpu. cpu < cpus) (touched x.entry.act) within.0
inside_of cpus (x ∷ xs) within (suc k) d lt = inside_of cpus xs within.1 k d (omega arith)

-- there is nothing on a page behind the last
beyond : (pages : List PageView) (cpu : ℕ) → length pages ≤ cpu → view_at pages cpu ≡ empty_view
beyond [] cpu le = refl
beyond (page ∷ pages) zero le = absurd (omega arith)
beyond (page ∷ pages) (suc cpu) le = beyond pages cpu (omega arith)

no_tickets : (ts : List Ticket) → ts ≡ [] → AllPairs (λ t u. t.line ≤ u.line) ts
no_tickets ts none = subst (AllPairs (λ (t u : Ticket). t.line ≤ u.line)) (sym none)
    (λ i j d lt h. absurd (omega arith))

-- an answer, where nothing was told, and where a fault was
pub none_told : (of : Beginning) (so_far window : List Claimed) (told : Option FirstFault) (later : WindowAudit)
    → told ≡ None → IsAuditOf of (so_far ++ window) later → IsToldOf of so_far window told later
none_told of so_far window told later none passed = subst (λ t. IsToldOf of so_far window t later) (sym none) passed

pub one_told : (of : Beginning) (so_far window : List Claimed) (told : Option FirstFault) (later : WindowAudit)
    (pages : ℕ → PageView) → told ≢ None
    → TellFrom pages of.cpus (roll_of (named of.tasks) so_far) window told
    → ((fault : FirstFault)
    → TellFaultFrom pages of.cpus (roll_of (named of.tasks) so_far) window fault.line (cause_view fault)
    → IsFirstFault of.knobs of.start (start_machine of.start of.floors of.tasks) (so_far ++ window) fault.line
    (cause_view fault))
    → IsToldOf of so_far window told later
one_told of so_far window None later pages not tell is = absurd (not refl)
one_told of so_far window (Some fault) later pages not tell is = is fault tell

module _ (of : Beginning) (so_far window : List Claimed) (audit : WindowAudit) (next : ComesNext of so_far window audit)
  where
    -- no processor makes too many steps
    pub all_few : All (λ member. (replay_of member).made + length (steps_at (replay_of member).cpu window) < 2 ^ 64)
        audit.members.items
    all_few k d lt =
        let own = next.audit_is.own k d lt in
        let few = steps_few (replay_of (get_or audit.members.items k d)).cpu window in
        let made = own.made in let fit = next.fit in omega (arith, made, few, fit)

    pub rises : AllPairs (λ a b. a.entry.line < b.entry.line) window
    rises = lines_pairs (last_line_after 0 so_far) window (lines_back 0 so_far window next.is_record.lines_rise)

    pub in_order : AllPairs (λ a b. a.line < b.line) (map (λ event. event.entry) window)
    in_order = pairs_map (λ (a b : Entry). a.line < b.line) (λ (event : Claimed). event.entry) window rises

    pub inside : All (λ event. All (λ cpu. cpu < of.cpus) (touched event.act)) (map (λ event. event.entry) window)
    inside = inside_of of.cpus window
        (all_back (λ (event : Claimed). AllByRecursion (λ cpu. cpu < of.cpus) (touched event.entry.act)) so_far window
        next.is_record.events_within)

    steps_rise : (cpu : ℕ) → AllPairs (λ a b. a.line < b.line) (steps_at cpu window)
    steps_rise cpu =
        pairs_map (λ (a b : Step). a.line < b.line) (step_at cpu) (filter (touches cpu) window)
        (pairs_filter (λ (a b : Claimed). a.entry.line < b.entry.line) (touches cpu) window rises)

    module _ (time line : ℕ) (some : window ≢ []) (last : IsLastOf window time line) (after : List Member)
        (same : length after ≡ length audit.members.items)
        (went : AllWentThrough window time line audit.members.items after)
        (calm : All (λ member. member.wants_memory ≡ false) after) where
      abbrev Through : ℕ → ReplayStateView → Type 0
      Through = IsThrough of so_far window audit.members.items after

      through_at : (cpu : ℕ) (d : Member) → cpu < of.cpus
          → IsThroughWindow (replay_of (get_or audit.members.items cpu d))
          (steps_at (replay_of (get_or audit.members.items cpu d)).cpu window) time line
          (replay_of (get_or after cpu d))
      through_at cpu d lt =
          let n = next.audit_is.count in
          went cpu d (omega (arith, n, lt)) (calm cpu d (omega (arith, n, lt, same)))

      gone : (cpu : ℕ) → cpu < of.cpus → (ends : ReplayStateView) × Through cpu ends
      gone cpu lt =
          let n = next.audit_is.count in
          let within : cpu < length audit.members.items = omega (arith, n, lt) in
          let within_after : cpu < length after = omega (arith, n, lt, same) in
          let d = (element audit.members.items cpu within).0 in
          let t = through_at cpu d lt in
          let own = next.audit_is.own cpu d within in
          let b = replay_of (get_or audit.members.items cpu d) in
          let here = state_here audit.members.items cpu d within in
          let there = state_here after cpu d within_after in
          let stream = cut of.start of.floors of.tasks (so_far ++ window) cpu in
          let ends = t.ends.state in (
            ends,
            record {
              replay = subst (λ s. IsReplay of.knobs cpu s (steps_at cpu window) ends) (sym here)
                  (subst (λ k. IsReplay k cpu b.state (steps_at cpu window) ends) own.knobs_are
                  (subst (λ n. IsReplay b.knobs n b.state (steps_at n window) ends) own.cpu_is t.through.replay));
              page = ap (λ (s : ReplayStateView). s.page) there
                  ∙ t.page stream (last_time_behind of.start so_far window time line some last)
                  (last_line_behind 0 so_far window time line some last)
                  ∙ ap (λ (k : KnobsView). end_page k.slack stream ends.since ends.page.fault ends.page)
                  (t.through.knobs ∙ own.knobs_are);
              part = ap (λ (s : ReplayStateView). s.part) there ∙ t.part;
              since = ap (λ (s : ReplayStateView). s.since) there ∙ t.since;
            },
          )

      found : (cpu : ℕ) → (ends : ReplayStateView) × (cpu < of.cpus → Through cpu ends)
      found cpu = elim (cases_lt cpu of.cpus) [
        | inl lt ↦ let g = gone cpu lt in (g.0, λ _. g.1)
        | inr le ↦ (empty_state, λ lt. absurd (omega arith))
      ]

      -- where each processor's replay of the window ends
      pub ends_at : ℕ → ReplayStateView
      ends_at cpu = (found cpu).0

      through : (cpu : ℕ) → cpu < of.cpus → Through cpu (ends_at cpu)
      unfolding ends_at
      through cpu lt = (found cpu).1 lt

      abbrev pub alive_before : ℕ → Bool
      alive_before = roll_of (named of.tasks) so_far

      within_pages : (cpu : ℕ) → cpu < of.cpus → cpu < length after
      within_pages cpu lt = let n = next.audit_is.count in omega (arith, n, lt, same)

      pub suffices : (cpu : ℕ) → cpu < of.cpus
          → SufficesInWindow of.knobs of.start of.floors of.tasks so_far window of.cpus (state_at audit.members.items)
          ends_at (view_at (pages_of after)) cpu
      suffices cpu lt =
          let t = through cpu lt in
          let steps = steps_at cpu window in
          record {
            made = length steps;
            replay = subst (λ l. IsReplay of.knobs cpu (state_at audit.members.items cpu) l (ends_at cpu))
                (sym (take_all (length steps) steps (omega arith))) t.replay;
            is_page = page_here after cpu (within_pages cpu lt) ∙ t.page
                ∙ sym (cond-true (nat_le (length steps) (length steps)) _ _
                (le-leb (length steps) (length steps) (omega arith)));
            enough = inr (inl (omega arith));
          }

      pub tickets_rise : TicketsRise (pages_of after)
      tickets_rise = record {
        left = λ cpu. elim (cases_lt cpu of.cpus) [
          | inl lt ↦
              let t = through cpu lt in
              left_rise of.knobs cpu (state_at audit.members.items cpu) (steps_at cpu window) (ends_at cpu)
              of.knobs.slack (cut of.start of.floors of.tasks (so_far ++ window) cpu)
              (view_at (pages_of after) cpu)
              (ap (λ (s : ReplayStateView). s.page.left) (next.audit_is.run.keeps cpu lt)) (steps_rise cpu) t.replay
              (page_here after cpu (within_pages cpu lt) ∙ t.page)
          | inr ge ↦ no_tickets (view_at (pages_of after) cpu).left
              (ap (λ (v : PageView). v.left) (beyond (pages_of after) cpu (outside cpu ge)))
        ];
        came = λ cpu. elim (cases_lt cpu of.cpus) [
          | inl lt ↦
              let t = through cpu lt in
              came_rise of.knobs cpu (state_at audit.members.items cpu) (steps_at cpu window) (ends_at cpu)
              of.knobs.slack (cut of.start of.floors of.tasks (so_far ++ window) cpu)
              (view_at (pages_of after) cpu)
              (ap (λ (s : ReplayStateView). s.page.came) (next.audit_is.run.keeps cpu lt)) (steps_rise cpu) t.replay
              (page_here after cpu (within_pages cpu lt) ∙ t.page)
          | inr ge ↦ no_tickets (view_at (pages_of after) cpu).came
              (ap (λ (v : PageView). v.came) (beyond (pages_of after) cpu (outside cpu ge)))
        ];
      }
        where
          outside : (cpu : ℕ) → of.cpus ≤ cpu → length (pages_of after) ≤ cpu
          outside cpu ge =
              let n = next.audit_is.count in
              let m = length-map after (λ (m : Member). (replay_of m).state.page) in omega (arith, n, m, same, ge)

      -- the first thing that is said is the first fault
      pub fault_told : WindowTellsFault → (fault : FirstFault)
          → TellFaultFrom (view_at (pages_of after)) of.cpus alive_before window fault.line (cause_view fault)
          → IsFirstFault of.knobs of.start (start_machine of.start of.floors of.tasks) (so_far ++ window) fault.line
          (cause_view fault)
      fault_told law fault tell =
          subst (λ n. IsFirstFault of.knobs of.start (start_machine of.start of.floors of.tasks) (so_far ++ window) n
          (cause_view fault)) tell.line_is
          (law of.knobs of.start of.floors of.tasks so_far window tell.before tell.rest tell.event of.cpus
          (state_at audit.members.items) ends_at alive_before (view_at (pages_of after)) (cause_view fault)
          next.is_record next.audit_is.run suffices tell.whole tell.nothing tell.why)

      module _ (law : WindowPasses)
          (nothing : SayNothingInWindow (view_at (pages_of after)) of.cpus alive_before window) where
        on : IsSoFar of.knobs of.start of.floors of.tasks (so_far ++ window) of.cpus (λ cpu. kept_of (ends_at cpu))
            (roll_of alive_before window)
        on = law of.knobs of.start of.floors of.tasks so_far window of.cpus (state_at audit.members.items) ends_at
            alive_before (view_at (pages_of after)) next.is_record next.audit_is.run suffices nothing

        -- where nothing is said no end test finds anything
        stands : (cpu : ℕ) → cpu < of.cpus → state_at after cpu ≡ ends_at cpu
        stands cpu lt =
            let t = through cpu lt in
            let keeps = on.keeps cpu lt in
            let passes = on.passes cpu lt in
            same_state (state_at after cpu) (ends_at cpu) t.part t.since
            (t.page ∙ end_quiet of.knobs.slack (cut of.start of.floors of.tasks (so_far ++ window) cpu)
            (ends_at cpu).since (ends_at cpu).page.fault (ends_at cpu).page
            (ap (λ (s : ReplayStateView). s.page.fault) keeps ∙ passes.no_fault)
            (subst (λ since. ¬ IsIdleTooLong of.knobs.slack since (last_time_of of.start (so_far ++ window)) 0)
            (sym (ap (λ (s : ReplayStateView). s.since) keeps)) passes.in_time))

        module _ (later : WindowAudit) (length_is : length later.members.items ≡ length after)
            (forgot : (cpu : ℕ) (d : Member) → cpu < length after
            → replay_of (get_or later.members.items cpu d) ≡ forgotten (replay_of (get_or after cpu d)))
            (book : IsBookOf of.tasks (so_far ++ window) later.book) where
          kept_there : (cpu : ℕ) → cpu < of.cpus → state_at later.members.items cpu ≡ kept_of (ends_at cpu)
          kept_there cpu lt =
              let within = within_pages cpu lt in
              let d = (element after cpu within).0 in
              state_here later.members.items cpu d (omega (arith, length_is, within))
              ∙ ap (λ r. r.state) (forgot cpu d within)
              ∙ ap kept_of (sym (state_here after cpu d within) ∙ stands cpu lt)

          own_later : AreOwn of.knobs (length (so_far ++ window)) later.members.items
          own_later cpu d lt =
              let n = next.audit_is.count in
              let inside_cpus : cpu < of.cpus = omega (arith, n, lt, same, length_is) in
              let within : cpu < length audit.members.items = omega (arith, n, inside_cpus) in
              let t = through_at cpu d inside_cpus in
              let own = next.audit_is.own cpu d within in
              let is = forgot cpu d (omega (arith, lt, length_is)) in
              let few = steps_few (replay_of (get_or audit.members.items cpu d)).cpu window in
              record {
                cpu_is = ap (λ r. r.cpu) is ∙ t.cpu ∙ t.through.cpu ∙ own.cpu_is;
                knobs_are = ap (λ r. r.knobs) is ∙ t.knobs ∙ t.through.knobs ∙ own.knobs_are;
                made = (let a = ap (λ r. r.made) is in let b = t.made in let m = t.through.at_most in
                    let o = own.made in let l = length-append so_far window in omega (arith, a, b, m, o, l, few));
              }

          pub passed_on : IsAuditOf of (so_far ++ window) later
          passed_on = record {
            run = record {
              last = on.last;
              passes = on.passes;
              keeps = λ cpu lt. kept_there cpu lt ∙ on.keeps cpu lt;
              tickets = on.tickets;
              births = on.births;
              roll = λ pid. refl;
            };
            count = length_is ∙ same ∙ next.audit_is.count;
            own = own_later;
            book = book;
          }
