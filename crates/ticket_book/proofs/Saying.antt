-- What the walk's answer at one event says in the words of the closing: by what the event does, and whether a page's
-- fault is of it.
use Rattle.std.proofs.Common.{◌≡◌, ◌≢◌, ℕ, ◌<◌, nat_eq, Bool, true, false, ◌||◌, cond, Option, Some, None, is_none}
use Rattle.std.proofs.Common.{option_and_then, MatchOption, ℤ, inl, inr, List, [], ◌∷◌, length, refl, sym, ap, ◌∙◌}
use Rattle.std.proofs.Common.{subst, ◌&&◌, true≢false}
use Rattle.std.specs.List.{AllByRecursion, list_any}
use Rattle.std.specs.Option.{option_or}
use Rattle.std.proofs.lemmas.Bool.{eqb-true, eq-eqb, ltb-true, lt-ltb}
use Rattle.cfs_model.specs.Claimed.{Claimed}
use Rattle.cfs_model.specs.Touch.{touched}
use Rattle.cfs_model.specs.declared.act.Act.{Act}
use Rattle.cfs_model.specs.declared.act.Act.TheVariants.{Switch, Wake, Born, Shift}
use Rattle.cfs_model.specs.declared.act.Way.{Way}
use Rattle.cfs_model.specs.declared.kind.Kind.TheVariants.{IdleTooLong, TicketUnequal}
use Rattle.replay_laws.specs.Telling.{IdlesBefore, FailsHere, IsPageCause, IsActCauseOf, IsCauseOf}
use Rattle.replay_model.specs.Roll.{BirthIsNew}
use Rattle.replay_model.specs.Tickets.{TicketsAgree, ticket_at}
use Rattle.replay_model.specs.Noted.{PageView}
use Rattle.replay_model.specs.declared.page.StepFault.{StepFault}
use Rattle.ticket_book.specs.Idling.{IsFirstLate, NoneLate, is_past}
use Rattle.ticket_book.specs.Told.{Allow, AllowAct, cause_view, view_at}
use Rattle.ticket_book.specs.Walk.{AllowShift, IsShiftCause, born_twice_on, failed_on}
use Rattle.replay_model.specs.declared.first_fault.FirstFault.{FirstFault}

-- a fault is of a test that failed at the event's line, or it isn't
pub failed_says : (event : Claimed) (cpu line : ℕ) (page : PageView) → event.entry.line ≡ line
    → MatchOption (failed_on cpu line page.fault) (¬ FailsHere event page.fault)
    (λ found. IsPageCause event cpu page (cause_view found))
failed_says event cpu line page on = go page.fault refl
  where
    some_none : (d : ℕ) → Some d ≡ None → ⊥
    some_none d e = cc

    late : (fault : StepFault) (d : Option ℕ) → fault.deadline ≡ d → (b : Bool) → nat_eq fault.line line ≡ b
        → page.fault ≡ Some fault
        → MatchOption (cond (is_none d && b)
        (Some (record { line = line; cpu = cpu; pid = fault.pid; kind = fault.kind })) None)
        (¬ FailsHere event (Some fault)) (λ found. IsPageCause event cpu page (cause_view found))
    late fault (Some d) is b at has = λ here. some_none d (sym is ∙ here.0)
    late fault None is true at has = record {
      fault = fault;
      is_fault = has;
      here = (is, eqb-true fault.line line at ∙ sym on);
      is = refl;
    }
    late fault None is false at has = λ here. true≢false (sym (eq-eqb fault.line line (here.1 ∙ on)) ∙ at)

    go : (fault : Option StepFault) → page.fault ≡ fault
        → MatchOption (failed_on cpu line fault) (¬ FailsHere event fault)
        (λ found. IsPageCause event cpu page (cause_view found))
    go None is = λ h. h
    go (Some fault) is = late fault fault.deadline refl (nat_eq fault.line line) refl is

-- what holds of each touched processor
at_touched : (P : ℕ → Type 0) (cpus : List ℕ) → AllByRecursion P cpus → (cpu : ℕ)
    → list_any (λ other. nat_eq other cpu) cpus ≡ true → P cpu
at_touched P [] each cpu h = absurd (true≢false (sym h))
at_touched P (c ∷ cpus) each cpu h =
    go (nat_eq c cpu) refl (at_touched P cpus each.1 cpu)
  where
    go : (b : Bool) → nat_eq c cpu ≡ b → (list_any (λ other. nat_eq other cpu) cpus ≡ true → P cpu) → P cpu
    go true e later = subst P (eqb-true c cpu e) each.0
    go false e later = later (sym (ap (λ b. b || list_any (λ other. nat_eq other cpu) cpus) e) ∙ h)

module _ (pages : ℕ → PageView) (alive : ℕ → Bool) (event : Claimed) where
  -- nothing is said against an act
  allow : (act : Act) → event.entry.act ≡ act
      → AllByRecursion (λ cpu. ¬ FailsHere event (pages cpu).fault) (touched act)
      → TicketsAgree pages event.entry.line act → BirthIsNew alive act → AllowAct pages alive event
  allow act is each agree new = record {
    no_fault = at_touched (λ cpu. ¬ FailsHere event (pages cpu).fault) (touched event.entry.act)
        (subst (λ a. AllByRecursion (λ cpu. ¬ FailsHere event (pages cpu).fault) (touched a)) (sym is) each);
    tickets = subst (TicketsAgree pages event.entry.line) (sym is) agree;
    birth = subst (BirthIsNew alive) (sym is) new;
  }

  -- an answer on an act, as the answer on what the act is
  abbrev pub Answers : Act → Option FirstFault → Type 0
  Answers act o = MatchOption o (AllowAct pages alive event)
      (λ found. IsActCauseOf pages alive event act (cause_view found))

  module _ (line : ℕ) (on : event.entry.line ≡ line) where
    pub switch_said : (act : Act) (cpu prev : ℕ) (pn : ℤ) (way : Way) (next : ℕ) (nn : ℤ) → event.entry.act ≡ act
        → act ≡ Switch cpu prev pn way next nn → Answers act (failed_on cpu line (pages cpu).fault)
    switch_said act cpu prev pn way next nn does is =
        subst (λ a. Answers a (failed_on cpu line (pages cpu).fault)) (sym is)
        (go (failed_on cpu line (pages cpu).fault) (failed_says event cpu line (pages cpu) on))
      where
        go : (o : Option FirstFault) → MatchOption o (¬ FailsHere event (pages cpu).fault)
            (λ found. IsPageCause event cpu (pages cpu) (cause_view found)) → Answers (Switch cpu prev pn way next nn) o
        go None h = allow (Switch cpu prev pn way next nn) (does ∙ is) (h, tt) tt tt
        go (Some found) h = h

    pub wake_said : (act : Act) (cpu pid : ℕ) (nice : ℤ) → event.entry.act ≡ act → act ≡ Wake cpu pid nice
        → Answers act (failed_on cpu line (pages cpu).fault)
    wake_said act cpu pid nice does is =
        subst (λ a. Answers a (failed_on cpu line (pages cpu).fault)) (sym is)
        (go (failed_on cpu line (pages cpu).fault) (failed_says event cpu line (pages cpu) on))
      where
        go : (o : Option FirstFault) → MatchOption o (¬ FailsHere event (pages cpu).fault)
            (λ found. IsPageCause event cpu (pages cpu) (cause_view found)) → Answers (Wake cpu pid nice) o
        go None h = allow (Wake cpu pid nice) (does ∙ is) (h, tt) tt tt
        go (Some found) h = h

    pub birth_said : (act : Act) (cpu pid : ℕ) (nice : ℤ) → event.entry.act ≡ act → act ≡ Born cpu pid nice
        → Answers act (option_or (failed_on cpu line (pages cpu).fault) (born_twice_on cpu pid line (alive pid)))
    birth_said act cpu pid nice does is =
        subst (λ a. Answers a (option_or (failed_on cpu line (pages cpu).fault)
        (born_twice_on cpu pid line (alive pid)))) (sym is)
        (go (failed_on cpu line (pages cpu).fault) (failed_says event cpu line (pages cpu) on) (alive pid) refl)
      where
        go : (o : Option FirstFault) → MatchOption o (¬ FailsHere event (pages cpu).fault)
            (λ found. IsPageCause event cpu (pages cpu) (cause_view found)) → (b : Bool) → alive pid ≡ b
            → Answers (Born cpu pid nice) (option_or o (born_twice_on cpu pid line b))
        go (Some found) h b e = inl h
        go None h true e = inr (h, e, refl)
        go None h false e = allow (Born cpu pid nice) (does ∙ is) (h, tt) tt e

    pub shift_said : (act : Act) (orig dest pid : ℕ) (nice : ℤ) → event.entry.act ≡ act → act ≡ Shift orig dest pid nice
        → (o : Option FirstFault)
        → MatchOption o (AllowShift pages orig dest event)
        (λ found. IsShiftCause pages orig dest pid event (cause_view found))
        → Answers act o
    shift_said act orig dest pid nice does is None h =
        allow act does (subst (λ a. AllByRecursion (λ cpu. ¬ FailsHere event (pages cpu).fault) (touched a)) (sym is)
        (h.leaves, (h.comes, tt))) (subst (TicketsAgree pages event.entry.line) (sym is) h.agree)
        (subst (BirthIsNew alive) (sym is) tt)
    shift_said act orig dest pid nice does is (Some found) h =
        subst (λ a. IsActCauseOf pages alive event a (cause_view found)) (sym is) h

-- a deadline before the event's time is of a processor that had idled for too long
says_idle : (event : Claimed) (time : ℕ) (fault : Option StepFault) → event.entry.time ≡ time
    → is_past time (option_and_then (λ f. f.deadline) fault) ≡ true → IdlesBefore event fault
says_idle event time None on late = absurd (true≢false (sym late))
says_idle event time (Some fault) on late = go fault.deadline refl late
  where
    go : (d : Option ℕ) → fault.deadline ≡ d → is_past time d ≡ true → IdlesBefore event (Some fault)
    go None e h = absurd (true≢false (sym h))
    go (Some d) e h = (d, e, subst (λ n. d < n) (sym on) (ltb-true d time h))

no_idling : (event : Claimed) (time : ℕ) (fault : Option StepFault) → event.entry.time ≡ time
    → is_past time (option_and_then (λ f. f.deadline) fault) ≡ false → ¬ IdlesBefore event fault
no_idling event time None on late = λ h. h
no_idling event time (Some fault) on late = λ h.
    true≢false (sym (ap (is_past time) h.1 ∙ lt-ltb h.0 time (subst (λ n. h.0 < n) on h.2)) ∙ late)

module _ (pages : List PageView) (cpus : ℕ) (count : length pages ≡ cpus) (alive : ℕ → Bool) (event : Claimed)
    (time : ℕ) (on : event.entry.time ≡ time) where
  -- the lowest processor that is late
  pub idling_said : (cpu : ℕ) → IsFirstLate pages time cpu
      → IsCauseOf (view_at pages) cpus alive event (record { cpu = cpu; pid = 0; kind = IdleTooLong })
  idling_said cpu first = inl (record {
    within = subst (λ n. cpu < n) count first.within;
    idles = says_idle event time (view_at pages cpu).fault on first.late;
    lowest = λ other lt. no_idling event time (view_at pages other).fault on (first.lowest other lt);
    pid = refl;
    kind = refl;
  })

  -- where none is late, the answer on what the event does
  pub act_said : NoneLate pages time cpus → (o : Option FirstFault)
      → MatchOption o (AllowAct (view_at pages) alive event)
      (λ found. IsActCauseOf (view_at pages) alive event event.entry.act (cause_view found))
      → MatchOption o (Allow (view_at pages) cpus alive event)
      (λ found. IsCauseOf (view_at pages) cpus alive event (cause_view found))
  act_said none None h = record {
    no_idling = λ cpu lt. no_idling event time (view_at pages cpu).fault on (none cpu lt);
    act = h;
  }
  act_said none (Some found) h = inr ((λ cpu lt. no_idling event time (view_at pages cpu).fault on (none cpu lt)), h)

-- what is said against a migration, whose tickets differ
pub unequal_said : (pages : ℕ → PageView) (event : Claimed) (line orig dest pid : ℕ) → event.entry.line ≡ line
    → failed_on orig line (pages orig).fault ≡ None → failed_on dest line (pages dest).fault ≡ None
    → ticket_at line (pages orig).left ≢ ticket_at line (pages dest).came
    → IsShiftCause pages orig dest pid event (record { cpu = dest; pid = pid; kind = TicketUnequal })
unequal_said pages event line orig dest pid on leaves comes differ = inr (inr (
  passed orig leaves,
  passed dest comes,
  subst (λ n. ticket_at n (pages orig).left ≢ ticket_at n (pages dest).came) (sym on) differ,
  refl,
))
  where
    passed : (cpu : ℕ) → failed_on cpu line (pages cpu).fault ≡ None → ¬ FailsHere event (pages cpu).fault
    passed cpu e = subst (λ o. MatchOption o (¬ FailsHere event (pages cpu).fault)
        (λ found. IsPageCause event cpu (pages cpu) (cause_view found))) e (failed_says event cpu line (pages cpu) on)
