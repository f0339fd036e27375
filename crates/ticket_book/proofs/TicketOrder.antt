-- The lines of the tickets on a page never fall: each step that passes adds at most one, of its own line, and the lines
-- of a stream's steps rise.
use Rattle.std.proofs.Common.{◌≡◌, ℕ, zero, suc, ◌+◌, ◌<◌, ◌≤◌, nat_lt, nat_le, Bool, true, false, cond, Option, Some}
use Rattle.std.proofs.Common.{None, inl, inr, List, [], ◌∷◌, ◌++◌, length, take, All, refl, sym, ap, ◌∙◌, subst, arith}
use Rattle.std.specs.Prelude.{slice_get}
use Rattle.std.specs.List.{AllByRecursion, AllPairs}
use Rattle.std.proofs.lemmas.List.Elements.{All-from_recursion}
use Rattle.cfs_model.specs.Knobs.{KnobsView}
use Rattle.replay_model.specs.Cut.{StreamView}
use Rattle.replay_model.specs.Noted.{PageView}
use Rattle.replay_model.specs.Page.{ReplayStateView, IsStartOf, IsReplayStep, IsReplay, IsPageOf, end_page}
use Rattle.replay_model.specs.Part.{Part}
use Rattle.replay_model.proofs.TicketLines.{IsTickets, all_append, all_map, came_of, came_tickets, left_of}
use Rattle.replay_model.proofs.TicketLines.{left_tickets}
use Rattle.cfs_model.specs.declared.kind.Kind.TheVariants.{IdleTooLong}
use Rattle.replay_model.specs.declared.page.StepFault.{StepFault}
use Rattle.replay_model.specs.declared.page.Ticket.{Ticket}
use Rattle.replay_model.specs.declared.step.Step.{Step}
use Rattle.queue_replay.specs.Replay.{ReplayView}
use Rattle.sched_record.proofs.Pairs.{pairs_head, pairs_tail}
use Rattle.ticket_book.specs.Told.{pages_of, view_at}
use Rattle.ticket_book.specs.Walk.{TicketsRise}

-- the page of its stream by the steps made, and the lines of the stream's steps rise
pub record IsPageInOrder (page : ReplayView) : Type 0 where
  pub is_page : IsPageOf page.stream page.knobs page.made page.page
  pub lines : AllPairs (λ a b. a.line < b.line) page.stream.steps

-- the lines never fall
abbrev LinesNeverFall : List Ticket → Type 0
LinesNeverFall [] = Unit {0}
LinesNeverFall (t ∷ ts) = AllByRecursion (λ u. t.line ≤ u.line) ts × LinesNeverFall ts

-- the steps' lines never fall, from this one on
abbrev StepsFrom : ℕ → List Step → Type 0
StepsFrom line [] = Unit {0}
StepsFrom line (step ∷ steps) = (line ≤ step.line) × StepsFrom step.line steps

rise_one : (line : ℕ) (ts : List Ticket) → AllByRecursion (λ (t : Ticket). t.line ≡ line) ts → LinesNeverFall ts
rise_one line [] each = tt
rise_one line (t ∷ ts) each = (
  all_map (λ u. u.line ≡ line) (λ u. t.line ≤ u.line) (λ u e. let here : t.line ≡ line = each.0 in
      omega arith) ts each.1,
  rise_one line ts each.1,
)

-- tickets of a line not below theirs, behind
rise_append : (low line : ℕ) (xs ys : List Ticket) → LinesNeverFall xs
    → AllByRecursion (λ (t : Ticket). t.line ≤ low) xs
    → AllByRecursion (λ (t : Ticket). t.line ≡ line) ys → low ≤ line → LinesNeverFall (xs ++ ys)
rise_append low line [] ys rise each same le = rise_one line ys same
rise_append low line (x ∷ xs) ys rise each same le = (
  all_append (λ u. x.line ≤ u.line) xs ys rise.0
      (all_map (λ u. u.line ≡ line) (λ u. x.line ≤ u.line) (λ u e. let here : x.line ≤ low = each.0 in
      omega arith) ys same),
  rise_append low line xs ys rise.1 each.1 same le,
)

pairs_from : (ts : List Ticket) → LinesNeverFall ts → AllPairs (λ t u. t.line ≤ u.line) ts
pairs_from [] rise i j d lt within = absurd (omega arith)
pairs_from (t ∷ ts) rise zero zero d lt within = absurd (omega arith)
pairs_from (t ∷ ts) rise zero (suc j) d lt within =
    All-from_recursion (λ u. t.line ≤ u.line) ts rise.0 j d (omega arith)
pairs_from (t ∷ ts) rise (suc i) zero d lt within = absurd (omega arith)
pairs_from (t ∷ ts) rise (suc i) (suc j) d lt within = pairs_from ts rise.1 i j d (omega arith) (omega arith)

-- the first of some steps whose lines rise
steps_from : (line : ℕ) (steps : List Step) → All (λ (s : Step). line ≤ s.line) steps
    → AllPairs (λ a b. a.line < b.line) steps → StepsFrom line steps
steps_from line [] low rise = tt
steps_from line (step ∷ steps) low rise = (
  low 0 step (omega arith),
  steps_from step.line steps
      (λ k d lt. let h = pairs_head (λ (a b : Step). a.line < b.line) step steps rise k d lt in omega arith)
      (pairs_tail (λ (a b : Step). a.line < b.line) step steps rise),
)

steps_take : (n : ℕ) (line : ℕ) (steps : List Step) → StepsFrom line steps → StepsFrom line (take n steps)
steps_take zero line steps from = tt
steps_take (suc n) line [] from = tt
steps_take (suc n) line (step ∷ steps) from = (from.0, steps_take n step.line steps from.1)

module _ (tickets : PageView → List Ticket) (by : Part → Step → List Ticket) (is : IsTickets tickets by)
    (kept : (page : PageView) (o : Option StepFault) → tickets (record page { fault = o }) ≡ tickets page) where
  -- what a page's tickets keep before a step
  abbrev Keep : ℕ → PageView → Type 0
  Keep line page = LinesNeverFall (tickets page) × AllByRecursion (λ (t : Ticket). t.line ≤ line) (tickets page)

  keep_later : (line later : ℕ) (page : PageView) → line ≤ later → Keep line page → Keep later page
  keep_later line later page le keep = (
    keep.0,
    all_map (λ t. t.line ≤ line) (λ t. t.line ≤ later) (λ t h. omega arith) (tickets page) keep.1,
  )

  one_step : (knobs : KnobsView) (cpu line : ℕ) (o : Option StepFault) (before : ReplayStateView) (step : Step)
      (after : ReplayStateView) → line ≤ step.line → IsReplayStep knobs cpu o before step after → Keep line before.page
      → Keep step.line after.page
  one_step knobs cpu line (Some fault) before step after le same keep =
      subst (λ (s : ReplayStateView). Keep step.line s.page) (sym same) (keep_later line step.line before.page le keep)
  one_step knobs cpu line None before step after le (inr fails) keep =
      subst (λ (s : ReplayStateView). Keep step.line s.page) (sym fails.result)
      (subst (λ ts. LinesNeverFall ts × AllByRecursion (λ (t : Ticket). t.line ≤ step.line) ts)
      (sym (kept before.page _))
      (keep_later line step.line before.page le keep))
  one_step knobs cpu line None before step after le (inl passes) keep =
      let grown = ap tickets passes.page ∙ is.grows before.page before.part passes.found step in
      let same = is.lines passes.found step in
      subst (λ ts. LinesNeverFall ts × AllByRecursion (λ (t : Ticket). t.line ≤ step.line) ts) (sym grown) (
        rise_append line step.line (tickets before.page) (by passes.found step) keep.0 keep.1 same le,
        all_append (λ t. t.line ≤ step.line) (tickets before.page) (by passes.found step)
            (keep_later line step.line before.page le keep).1
            (all_map (λ t. t.line ≡ step.line) (λ t. t.line ≤ step.line) (λ t e. omega arith)
            (by passes.found step) same),
      )

  rise_by_steps : (knobs : KnobsView) (cpu line : ℕ) (before : ReplayStateView) (steps : List Step)
      (end : ReplayStateView)
      → StepsFrom line steps → IsReplay knobs cpu before steps end → Keep line before.page
      → LinesNeverFall (tickets end.page)
  rise_by_steps knobs cpu line before [] end from replay keep =
      subst (λ (s : ReplayStateView). LinesNeverFall (tickets s.page)) (sym replay) keep.0
  rise_by_steps knobs cpu line before (step ∷ steps) end from replay keep =
      rise_by_steps knobs cpu step.line replay.0 steps end from.1 replay.2
      (one_step knobs cpu line before.page.fault before step replay.0 from.0 replay.1 keep)

  -- the end test changes no ticket
  end_kept : (slack : ℕ) (stream : StreamView) (since : Option ℕ) (o : Option StepFault) (page : PageView)
      → tickets (end_page slack stream since o page) ≡ tickets page
  end_kept slack stream None o page = refl
  end_kept slack stream (Some since) (Some fault) page = refl
  end_kept slack stream (Some since) None page = go (nat_lt (since + slack) stream.last_time)
    where
      go : (b : Bool) → tickets (cond b
          (record page {
            fault = Some (record {
              line = stream.last_line;
              kind = IdleTooLong;
              pid = 0;
              deadline =
                  Some (since + slack);
            });
          })
          page) ≡ tickets page
      go true = kept page _
      go false = refl

  rise_on : (stream : StreamView) (knobs : KnobsView) (made : ℕ) (page : PageView) → StepsFrom 0 stream.steps
      → ((start : PageView) → tickets start ≡ [] → Keep 0 start)
      → ((s : ReplayStateView) → IsStartOf stream s → tickets s.page ≡ [])
      → IsPageOf stream knobs made page → LinesNeverFall (tickets page)
  rise_on stream knobs made page from none start is_page =
      let risen = rise_by_steps knobs stream.cpu 0 is_page.start (take made stream.steps) is_page.end
      (steps_take made 0 stream.steps from) is_page.replay
      (none is_page.start.page (start is_page.start is_page.is_start)) in
      subst LinesNeverFall (sym (ap tickets is_page.result ∙ go (nat_le (length stream.steps) made))) risen
    where
      go : (b : Bool) → tickets
          (cond b (end_page knobs.slack stream is_page.end.since is_page.end.page.fault is_page.end.page)
          is_page.end.page) ≡ tickets is_page.end.page
      go true = end_kept knobs.slack stream is_page.end.since is_page.end.page.fault is_page.end.page
      go false = refl

  rise_of : (page : ReplayView) → IsPageInOrder page
      → ((s : ReplayStateView) → IsStartOf page.stream s → tickets s.page ≡ [])
      → AllPairs (λ t u. t.line ≤ u.line) (tickets page.page)
  rise_of page own start =
      pairs_from (tickets page.page)
      (rise_on page.stream page.knobs page.made page.page
      (steps_from 0 page.stream.steps (λ k d lt. omega arith) own.lines)
      (λ view none. subst (λ ts. LinesNeverFall ts × AllByRecursion (λ (t : Ticket). t.line ≤ 0) ts) (sym none)
      (tt, tt)) start own.is_page)

  -- so do those of a replay from where there were none, whatever fault its page then has
  pub rise_from_none : (knobs : KnobsView) (cpu : ℕ) (before : ReplayStateView) (steps : List Step)
      (end : ReplayStateView) (page : PageView) → tickets before.page ≡ [] → AllPairs (λ a b. a.line < b.line) steps
      → IsReplay knobs cpu before steps end → tickets page ≡ tickets end.page
      → AllPairs (λ t u. t.line ≤ u.line) (tickets page)
  rise_from_none knobs cpu before steps end page none rise replay same =
      pairs_from (tickets page)
      (subst LinesNeverFall (sym same)
      (rise_by_steps knobs cpu 0 before steps end (steps_from 0 steps (λ k d lt. omega arith) rise) replay
      (subst (λ ts. LinesNeverFall ts × AllByRecursion (λ (t : Ticket). t.line ≤ 0) ts) (sym none) (tt, tt))))

-- of the tickets that left and of those that came, behind the end test
pub left_rise : (knobs : KnobsView) (cpu : ℕ) (before : ReplayStateView) (steps : List Step) (end : ReplayStateView)
    (slack : ℕ) (stream : StreamView) (page : PageView) → before.page.left ≡ []
    → AllPairs (λ a b. a.line < b.line) steps → IsReplay knobs cpu before steps end
    → page ≡ end_page slack stream end.since end.page.fault end.page
    → AllPairs (λ t u. t.line ≤ u.line) page.left
left_rise knobs cpu before steps end slack stream page none rise replay is =
    rise_from_none (λ view. view.left) left_of left_tickets (λ view o. refl) knobs cpu before steps end page none rise
    replay (ap (λ (view : PageView). view.left) is
    ∙ end_kept (λ view. view.left) left_of left_tickets (λ view o. refl) slack stream end.since end.page.fault end.page)

pub came_rise : (knobs : KnobsView) (cpu : ℕ) (before : ReplayStateView) (steps : List Step) (end : ReplayStateView)
    (slack : ℕ) (stream : StreamView) (page : PageView) → before.page.came ≡ []
    → AllPairs (λ a b. a.line < b.line) steps → IsReplay knobs cpu before steps end
    → page ≡ end_page slack stream end.since end.page.fault end.page
    → AllPairs (λ t u. t.line ≤ u.line) page.came
came_rise knobs cpu before steps end slack stream page none rise replay is =
    rise_from_none (λ view. view.came) came_of came_tickets (λ view o. refl) knobs cpu before steps end page none rise
    replay (ap (λ (view : PageView). view.came) is
    ∙ end_kept (λ view. view.came) came_of came_tickets (λ view o. refl) slack stream end.since end.page.fault end.page)

-- each of the pages is the page of its stream
abbrev pub ArePagesInOrder : List ReplayView → Type 0
ArePagesInOrder pages = (cpu : ℕ) (page : ReplayView) → slice_get pages cpu ≡ Some page → IsPageInOrder page

others : (page : ReplayView) (pages : List ReplayView) → ArePagesInOrder (page ∷ pages) → ArePagesInOrder pages
others page pages own cpu p is = own (suc cpu) p is

-- those that left, and those that came
all_left : (pages : List ReplayView) → ArePagesInOrder pages → (cpu : ℕ)
    → AllPairs (λ t u. t.line ≤ u.line) (view_at (pages_of pages) cpu).left
all_left [] own cpu = λ i j d lt within. absurd (omega arith)
all_left (page ∷ pages) own zero =
    rise_of (λ view. view.left) left_of left_tickets (λ view o. refl) page (own 0 page refl)
    (λ s start. ap (λ view. view.left) start.page)
all_left (page ∷ pages) own (suc cpu) = all_left pages (others page pages own) cpu

all_came : (pages : List ReplayView) → ArePagesInOrder pages → (cpu : ℕ)
    → AllPairs (λ t u. t.line ≤ u.line) (view_at (pages_of pages) cpu).came
all_came [] own cpu = λ i j d lt within. absurd (omega arith)
all_came (page ∷ pages) own zero =
    rise_of (λ view. view.came) came_of came_tickets (λ view o. refl) page (own 0 page refl)
    (λ s start. ap (λ view. view.came) start.page)
all_came (page ∷ pages) own (suc cpu) = all_came pages (others page pages own) cpu

pub own_tickets_rise : (pages : List ReplayView) → ArePagesInOrder pages → TicketsRise (pages_of pages)
own_tickets_rise pages own = record { left = all_left pages own; came = all_came pages own }
