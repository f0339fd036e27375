-- Every processor's replay of its steps: by its page, by what it ends at, or of a processor past the record's.
use Rattle.std.proofs.Common.{◌≡◌, ℕ, ◌+◌, ◌<◌, ◌≤◌, nat_eq, nat_lt, nat_le, Bool, true, false, ◌||◌, cond, Option}
use Rattle.std.proofs.Common.{Some, None, ℤ, inl, inr, List, [], ◌∷◌, map, filter, length, refl, sym, ap, ◌∙◌, subst}
use Rattle.std.proofs.Common.{arith}
use Rattle.std.proofs.lemmas.Bool.{le-leb, lt-ltb, ne_eqb, cases_lt}
use Rattle.std.proofs.lemmas.List.{take_all}
use Rattle.std.specs.List.{AllByRecursion, list_any}
use Rattle.cfs_model.specs.Knobs.{KnobsView}
use Rattle.cfs_model.specs.Claimed.{Claimed}
use Rattle.cfs_model.specs.Touch.{touched}
use Rattle.replay_model.specs.PartWords.{PartIdles, start_part}
use Rattle.replay_model.specs.QueueTests.{IsIdleTooLong}
use Rattle.replay_model.specs.Cut.{StreamView, touches, steps_at, last_time_of, tasks_at, cut}
use Rattle.replay_model.specs.StepAt.{step_at}
use Rattle.replay_model.specs.Noted.{PageView}
use Rattle.replay_model.specs.Page.{ReplayStateView, IsReplay, IsStartOf, start_page, end_page}
use Rattle.replay_model.specs.Record.{IsRecord}
use Rattle.replay_laws.specs.CutReplay.{IsCutReplay, IsDone, PassesCut}
use Rattle.replay_model.proofs.Options.{no_some, some_no}
use Rattle.cfs_model.specs.declared.kind.Kind.TheVariants.{IdleTooLong}
use Rattle.cfs_model.specs.declared.task.Place.TheVariants.{Wait}
use Rattle.cfs_model.specs.declared.task.Task.{Task}
use Rattle.replay_model.specs.declared.page.StepFault.{StepFault}

-- a processor's replay of all its steps, without a fault to the record's last time
pub record IsCutDone (knobs : KnobsView) (start : ℕ) (floors : List ℤ) (tasks : List Task) (events : List Claimed)
    (cpu : ℕ) : Type 0 where
  pub first : ReplayStateView
  pub is_start : IsStartOf (cut start floors tasks events cpu) first
  pub end : ReplayStateView
  pub replay : IsReplay knobs cpu first (steps_at cpu events) end
  pub no_fault : end.page.fault ≡ None
  pub in_time : (pid : ℕ) → ¬ IsIdleTooLong knobs.slack end.since (last_time_of start events) pid

-- the fault of the end test
abbrev pub late_fault : ℕ → StreamView → ℕ → StepFault
late_fault slack stream x = record { line = stream.last_line; kind = IdleTooLong; pid = 0; deadline = Some (x + slack) }

-- a page without a fault after the end test had none before it
no_fault_before : (slack : ℕ) (stream : StreamView) (since : Option ℕ) (page : PageView)
    → (end_page slack stream since page.fault page).fault ≡ None → page.fault ≡ None
no_fault_before slack stream since page h = go since page.fault refl h
  where
    go : (since : Option ℕ) (o : Option StepFault) → page.fault ≡ o → (end_page slack stream since o page).fault ≡ None
        → page.fault ≡ None
    go since None e h = e
    go None (Some fault) e h = h
    go (Some x) (Some fault) e h = h

fault_free : (b : Bool) (slack : ℕ) (stream : StreamView) (since : Option ℕ) (page : PageView)
    → (cond b (end_page slack stream since page.fault page) page).fault ≡ None → page.fault ≡ None
fault_free true slack stream since page h = no_fault_before slack stream since page h
fault_free false slack stream since page h = h

-- the end test changes no ticket and no tally, and where it adds no fault the processor is in time
pub end_left : (slack : ℕ) (stream : StreamView) (since : Option ℕ) (o : Option StepFault) (page : PageView)
    → (end_page slack stream since o page).left ≡ page.left
end_left slack stream None o page = refl
end_left slack stream (Some x) (Some fault) page = refl
end_left slack stream (Some x) None page = go (nat_lt (x + slack) stream.last_time)
  where
    go : (b : Bool) → (cond b (record page { fault = Some (late_fault slack stream x) }) page).left ≡ page.left
    go true = refl
    go false = refl

pub end_came : (slack : ℕ) (stream : StreamView) (since : Option ℕ) (o : Option StepFault) (page : PageView)
    → (end_page slack stream since o page).came ≡ page.came
end_came slack stream None o page = refl
end_came slack stream (Some x) (Some fault) page = refl
end_came slack stream (Some x) None page = go (nat_lt (x + slack) stream.last_time)
  where
    go : (b : Bool) → (cond b (record page { fault = Some (late_fault slack stream x) }) page).came ≡ page.came
    go true = refl
    go false = refl

pub end_tallies : (slack : ℕ) (stream : StreamView) (since : Option ℕ) (o : Option StepFault) (page : PageView)
    → (end_page slack stream since o page).tallies ≡ page.tallies
end_tallies slack stream None o page = refl
end_tallies slack stream (Some x) (Some fault) page = refl
end_tallies slack stream (Some x) None page = go (nat_lt (x + slack) stream.last_time)
  where
    go : (b : Bool)
        → (cond b (record page { fault = Some (late_fault slack stream x) }) page).tallies ≡ page.tallies
    go true = refl
    go false = refl

end_in_time : (slack : ℕ) (stream : StreamView) (since : Option ℕ) (page : PageView)
    → (end_page slack stream since None page).fault ≡ None → (pid : ℕ)
    → ¬ IsIdleTooLong slack since stream.last_time pid
end_in_time slack stream None page h pid k = k
end_in_time slack stream (Some x) page h pid k = some_no (late_fault slack stream x)
    (sym (ap (λ b. (cond b (record page { fault = Some (late_fault slack stream x) }) page).fault)
    (lt-ltb (x + slack) stream.last_time k.0)) ∙ h)

-- what a page that is done says of its replay
cut_done : (knobs : KnobsView) (start : ℕ) (floors : List ℤ) (tasks : List Task) (events : List Claimed) (cpu : ℕ)
    (page : PageView) → IsDone knobs start floors tasks events cpu page
    → (d : IsCutDone knobs start floors tasks events cpu) × (page.left ≡ d.end.page.left)
    × (page.came ≡ d.end.page.came)
cut_done knobs start floors tasks events cpu page d =
    let g = d.is_page in
    let stream = cut start floors tasks events cpu in
    let all : nat_le (length (steps_at cpu events)) d.made ≡ true = lt-leb-le
    (length (steps_at cpu events)) d.made d.all_made in
    let result : page ≡ end_page knobs.slack stream g.end.since g.end.page.fault g.end.page =
    g.result ∙ ap (λ b. cond b (end_page knobs.slack stream g.end.since g.end.page.fault g.end.page) g.end.page) all in
    let none : g.end.page.fault ≡ None =
    fault_free (nat_le (length (steps_at cpu events)) d.made) knobs.slack stream g.end.since g.end.page
    (ap (λ x. x.fault) (sym g.result) ∙ d.no_fault) in (
      record {
        first = g.start;
        is_start = g.is_start;
        end = g.end;
        replay = subst (λ xs. IsReplay knobs cpu g.start xs g.end)
            (take_all d.made (steps_at cpu events) d.all_made) g.replay;
        no_fault = none;
        in_time = end_in_time knobs.slack stream g.end.since g.end.page
            (ap (λ o. (end_page knobs.slack stream g.end.since o g.end.page).fault) (sym none)
            ∙ ap (λ x. x.fault) (sym result) ∙ d.no_fault);
      },
      ap (λ x. x.left) result ∙ end_left knobs.slack stream g.end.since g.end.page.fault g.end.page,
      ap (λ x. x.came) result ∙ end_came knobs.slack stream g.end.since g.end.page.fault g.end.page,
    )
  where
    lt-leb-le : (a b : ℕ) → a ≤ b → nat_le a b ≡ true
    lt-leb-le a b h = le-leb a b h

-- a processor past the record's has no task and no step
no_tasks : (cpus cpu : ℕ) (tasks : List Task) → AllByRecursion (λ (t : Task). t.cpu < cpus) tasks → cpus ≤ cpu
    → tasks_at cpu tasks ≡ []
no_tasks cpus cpu [] h k = refl
no_tasks cpus cpu (t ∷ tasks) h k =
    ap (λ b. cond b (t ∷ tasks_at cpu tasks) (tasks_at cpu tasks))
    (ne_eqb t.cpu cpu (λ e. let a : t.cpu < cpus = h.0 in absurd (omega arith))) ∙ no_tasks cpus cpu tasks h.1 k

none_touched : (cpus cpu : ℕ) (touched : List ℕ) → AllByRecursion (λ (c : ℕ). c < cpus) touched → cpus ≤ cpu
    → list_any (λ other. nat_eq other cpu) touched ≡ false
none_touched cpus cpu [] h k = refl
none_touched cpus cpu (c ∷ touched) h k =
    ap (λ b. b || list_any (λ other. nat_eq other cpu) touched)
    (ne_eqb c cpu (λ e. let a : c < cpus = h.0 in absurd (omega arith))) ∙ none_touched cpus cpu touched h.1 k

no_steps : (cpus cpu : ℕ) (events : List Claimed)
    → AllByRecursion (λ (event : Claimed). AllByRecursion (λ (c : ℕ). c < cpus) (touched event.entry.act)) events
    → cpus ≤ cpu → steps_at cpu events ≡ []
no_steps cpus cpu events h k = ap (map (step_at cpu)) (go events h)
  where
    go : (events : List Claimed)
        → AllByRecursion (λ (event : Claimed). AllByRecursion (λ (c : ℕ). c < cpus) (touched event.entry.act)) events
        → filter (touches cpu) events ≡ []
    go [] h = refl
    go (event ∷ events) h =
        ap (λ b. cond b (event ∷ filter (touches cpu) events) (filter (touches cpu) events))
        (none_touched cpus cpu (touched event.entry.act) h.0 k) ∙ go events h.1

empty_part : (floor : ℤ) (start : ℕ) → ¬ PartIdles (start_part [] floor start)
empty_part floor start i = no_some Wait i.waits

pub past_cut : (knobs : KnobsView) (start : ℕ) (floors : List ℤ) (tasks : List Task) (events : List Claimed)
    (cpus cpu : ℕ) → IsRecord start floors tasks events cpus → cpus ≤ cpu
    → (last : ReplayStateView) × IsCutReplay knobs start floors tasks events cpu last × (last.page.fault ≡ None)
    × (last.since ≡ None)
past_cut knobs start floors tasks events cpus cpu r k =
    let stream = cut start floors tasks events cpu in
    let first : ReplayStateView = record
    { part = start_part stream.tasks stream.floor stream.start; since = None; page = start_page stream } in (
      first,
      record {
        first = first;
        is_start = record {
          part = refl;
          since = inr (
            subst (λ ts. ¬ PartIdles (start_part ts stream.floor stream.start))
                (sym (no_tasks cpus cpu tasks r.tasks_within k)) (empty_part stream.floor stream.start),
            refl,
          );
          page = refl;
        };
        replay = subst (λ xs. IsReplay knobs cpu first xs first)
            (sym (no_steps cpus cpu events r.events_within k)) refl;
      },
      refl,
      refl,
    )

pub never_too_long : (slack : ℕ) (since : Option ℕ) (time pid : ℕ) → since ≡ None → ¬ IsIdleTooLong slack since time pid
never_too_long slack None time pid e h = h
never_too_long slack (Some x) time pid e h = some_no x e

past_done : (knobs : KnobsView) (start : ℕ) (floors : List ℤ) (tasks : List Task) (events : List Claimed) (cpus cpu : ℕ)
    → IsRecord start floors tasks events cpus → cpus ≤ cpu
    → IsCutDone knobs start floors tasks events cpu
past_done knobs start floors tasks events cpus cpu r k =
    let p = past_cut knobs start floors tasks events cpus cpu r k in
    record {
      first = p.1.first;
      is_start = p.1.is_start;
      end = p.0;
      replay = p.1.replay;
      no_fault = p.2;
      in_time = λ pid. never_too_long knobs.slack p.0.since (last_time_of start events) pid p.3;
    }

-- a processor's replay, which has its page's tickets
pub record CutOf (knobs : KnobsView) (start : ℕ) (floors : List ℤ) (tasks : List Task) (events : List Claimed)
    (cpus : ℕ)
    (page : PageView) (cpu : ℕ) : Type 0 where
  pub cut_replay : IsCutDone knobs start floors tasks events cpu
  pub left : cpu < cpus → page.left ≡ cut_replay.end.page.left
  pub came : cpu < cpus → page.came ≡ cut_replay.end.page.came

-- of a processor past the record's, whatever its page
pub past_cut_of : (knobs : KnobsView) (start : ℕ) (floors : List ℤ) (tasks : List Task) (events : List Claimed)
    (cpus : ℕ) (page : PageView) → IsRecord start floors tasks events cpus → (cpu : ℕ) → cpus ≤ cpu
    → CutOf knobs start floors tasks events cpus page cpu
past_cut_of knobs start floors tasks events cpus page r cpu k = record {
  cut_replay = past_done knobs start floors tasks events cpus cpu r k;
  left = λ h. absurd (omega arith);
  came = λ h. absurd (omega arith);
}

pub cut_of : (knobs : KnobsView) (start : ℕ) (floors : List ℤ) (tasks : List Task) (events : List Claimed) (cpus : ℕ)
    (page : PageView) → IsRecord start floors tasks events cpus
    → (cpu : ℕ) → (cpu < cpus → IsDone knobs start floors tasks events cpu page)
    → CutOf knobs start floors tasks events cpus page cpu
cut_of knobs start floors tasks events cpus page r cpu d = elim (cases_lt cpu cpus) [
  | inl k ↦ (let s = cut_done knobs start floors tasks events cpu page
      (d k) in record { cut_replay = s.0; left = λ h. s.1; came = λ h. s.2 })
  | inr k ↦ past_cut_of knobs start floors tasks events cpus page r cpu k
]

-- a replay that passes its cut, as every processor's is wanted
pub cut_from : (knobs : KnobsView) (start : ℕ) (floors : List ℤ) (tasks : List Task) (events : List Claimed) (cpus : ℕ)
    (last : ReplayStateView) → IsRecord start floors tasks events cpus → (cpu : ℕ)
    → (cpu < cpus → PassesCut knobs start floors tasks events cpu last)
    → CutOf knobs start floors tasks events cpus last.page cpu
cut_from knobs start floors tasks events cpus last r cpu d = elim (cases_lt cpu cpus) [
  | inl k ↦
      (let p = d k in
      record {
        cut_replay = record {
          first = p.cut_replay.first;
          is_start = p.cut_replay.is_start;
          end = last;
          replay = p.cut_replay.replay;
          no_fault = p.no_fault;
          in_time = λ pid h. p.in_time (for_nobody knobs.slack last.since (last_time_of start events) pid h);
        };
        left = λ h. refl;
        came = λ h. refl;
      })
  | inr k ↦ past_cut_of knobs start floors tasks events cpus last.page r cpu k
]
  where
    for_nobody : (slack : ℕ) (since : Option ℕ) (time pid : ℕ) → IsIdleTooLong slack since time pid
        → IsIdleTooLong slack since time 0
    for_nobody slack None time pid h = h
    for_nobody slack (Some x) time pid h = (h.0, refl)
