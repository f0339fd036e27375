-- A walk along a record's events: the pages say nothing against the events passed, the walk knows who is alive after
-- them, and it stands before each later one.
use Rattle.std.proofs.Common.{◌≡◌, ℕ, zero, suc, ◌+◌, ◌<◌, ◌≤◌, Bool, true, Option, Some, None, List, map, [], ◌∷◌}
use Rattle.std.proofs.Common.{◌++◌, length, get_or, take, drop, refl}
use Rattle.std.proofs.Common.{sym, ap, ◌∙◌, subst, arith}
use Rattle.std.specs.List.{AllByRecursion, AllPairs}
use Rattle.std.proofs.Math.Path.{fun_ext}
use Rattle.std.proofs.lemmas.List.{get_or_default, length-map, take_all, take_more}
use Rattle.cfs_model.specs.Claimed.{Claimed, claimed}
use Rattle.cfs_model.specs.declared.claim.Claim.{Claim}
use Rattle.cfs_model.specs.declared.charge_line.ChargeLine.{ChargeLine}
use Rattle.cfs_model.specs.declared.nice_line.NiceLine.{NiceLine}
use Rattle.cfs_model.specs.declared.policy.Policy.{Policy}
use Rattle.cfs_model.specs.declared.act.Entry.{Entry}
use Rattle.cfs_model.specs.declared.task.Task.{Task}
use Rattle.replay_model.specs.Cause.{FaultCause}
use Rattle.replay_laws.specs.Telling.{IdlesBefore, FailsHere, IsCauseOf}
use Rattle.window_laws.specs.InWindow.{SayNothingInWindow}
use Rattle.window_laws.proofs.Appended.{roll_append}
use Rattle.replay_model.specs.Roll.{named, roll_after, BirthIsNew, BirthsAreNew}
use Rattle.replay_model.specs.Tickets.{TicketsAgree}
use Rattle.replay_model.specs.Cut.{touches}
use Rattle.replay_model.specs.Roll.{roll_of}
use Rattle.replay_model.specs.Noted.{PageView}
use Rattle.sched_record.proofs.Rising.{split_at}
use Rattle.ticket_book.specs.Alive.{alive_view}
use Rattle.ticket_book.specs.Told.{Allow, Tell, TellFaultFrom, TellFrom, view_at}
use Rattle.ticket_book.specs.Walk.{StandsAt}
use Rattle.ticket_book.specs.declared.alive.Alive.{Alive}
use Rattle.ticket_book.specs.declared.walk.Walk.{Walk}
use Rattle.replay_model.specs.declared.first_fault.FirstFault.{FirstFault}
use Rattle.cfs_model.specs.declared.policy.Policy.TheVariants.{Normal}
use Rattle.ticket_book.proofs.WalkKept.{stands_later}

-- how far a walk has come along events, of which this is said, from where these pids were alive
pub record HasCome (pages : List PageView) (cpus : ℕ) (first : ℕ → Bool) (said : List Claimed) (i : ℕ) (walk : Walk)
    (alive : Alive) : Type 0 where
  pub nothing : SayNothingInWindow (view_at pages) cpus first (take i said)
  pub roll : (pid : ℕ) → alive_view alive pid ≡ roll_of first (take i said) pid
  pub stands : (k : ℕ) (d : Claimed) → i ≤ k → k < length said → StandsAt pages (get_or said k d).entry.line walk

-- one more element
all_push : (P : Claimed → Type 0) (xs : List Claimed) (x : Claimed) → AllByRecursion P xs → P x
    → AllByRecursion P (xs ++ x ∷ [])
all_push P [] x each here = (here, tt)
all_push P (y ∷ xs) x each here = (each.0, all_push P xs x each.1 here)

births_push : (alive : ℕ → Bool) (xs : List Claimed) (x : Claimed) → BirthsAreNew alive xs
    → BirthIsNew (roll_of alive xs) x.entry.act → BirthsAreNew alive (xs ++ x ∷ [])
births_push alive [] x each here = (here, tt)
births_push alive (y ∷ xs) x each here = (each.0, births_push (roll_after alive y.entry.act) xs x each.1 here)

-- nothing is said against one more event
say_push : (pages : ℕ → PageView) (cpus : ℕ) (alive : ℕ → Bool) (xs : List Claimed) (x : Claimed)
    → SayNothingInWindow pages cpus alive xs → Allow pages cpus (roll_of alive xs) x
    → SayNothingInWindow pages cpus alive (xs ++ x ∷ [])
say_push pages cpus alive xs x nothing allow = record {
  no_fault = λ cpu lt. all_push
      (λ event. (¬ IdlesBefore event (pages cpu).fault)
      × (touches cpu event ≡ true → ¬ FailsHere event (pages cpu).fault)) xs x
      (nothing.no_fault cpu lt) (allow.no_idling cpu lt, allow.act.no_fault cpu);
  tickets = all_push (λ event. TicketsAgree pages event.entry.line event.entry.act) xs x nothing.tickets
      allow.act.tickets;
  births = births_push alive xs x nothing.births allow.act.birth;
}

-- the event at an index, with what is said on its line
pub said_at : (said : List Claimed) (events : List Entry) (i : ℕ) (event : Entry) → map (λ s. s.entry) said ≡ events
    → i < length events → event ≡ get_or events i event
    → (here : Claimed) × (here.entry ≡ event) × (i < length said) × (here ≡ get_or said i here)
said_at said events i event are lt is = go said i (subst (λ l. i < length l) (sym are) lt)
    (is ∙ ap (λ l. get_or l i event) (sym are))
  where
    go : (said : List Claimed) (i : ℕ) → i < length (map (λ (s : Claimed). s.entry) said)
        → event ≡ get_or (map (λ (s : Claimed). s.entry) said) i event
        → (here : Claimed) × (here.entry ≡ event) × (i < length said) × (here ≡ get_or said i here)
    go [] i lt e = absurd (omega arith)
    go (s ∷ said) zero lt e = (s, sym e, omega arith, refl)
    go (s ∷ said) (suc i) lt e =
        let r = go said i (omega arith) e in
        (r.0, r.1, (let h = r.2 in omega arith), r.3)

-- something is said of any events
pub some_said : (events : List Entry) → (said : List Claimed) × (map (λ s. s.entry) said ≡ events)
some_said [] = ([], refl)
some_said (event ∷ events) =
    let r = some_said events in (
      record { entry = event; claim = None; nice = None; charge = None; policy = Normal } ∷ r.0,
      ap (λ es. event ∷ es) r.1,
    )

-- and what a companion says
pub entries_claimed : (claims : List Claim) (nices : List NiceLine) (charges : List ChargeLine) (policy : Entry →
    Policy)
    (events : List Entry) → map (λ s. s.entry) (claimed claims nices charges policy events) ≡ events
entries_claimed claims nices charges policy [] = refl
entries_claimed claims nices charges policy (event ∷ events) =
    ap (λ es. event ∷ es) (entries_claimed claims nices charges policy events)

entry_at : (said : List Claimed) (i : ℕ) (d : Claimed)
    → get_or (map (λ s. s.entry) said) i d.entry ≡ (get_or said i d).entry
entry_at [] i d = refl
entry_at (s ∷ said) zero d = refl
entry_at (s ∷ said) (suc i) d = entry_at said i d

pub said_length : (said : List Claimed) (events : List Entry) (i : ℕ) → map (λ s. s.entry) said ≡ events
    → length events ≤ i → length said ≤ i
said_length said events i are le =
    let n = length-map said (λ (s : Claimed). s.entry) in let m = ap length are in omega (arith, n, m)

-- lines that rise do so with what is said on them
pub said_rises : (said : List Claimed) (events : List Entry) → map (λ s. s.entry) said ≡ events
    → AllPairs (λ a b. a.line < b.line) events → AllPairs (λ a b. a.entry.line < b.entry.line) said
said_rises said events are rise i j d low within =
    let n = length-map said (λ (s : Claimed). s.entry) in
    let up = subst (AllPairs (λ (a b : Entry). a.line < b.line)) (sym are) rise i j d.entry low (omega (arith, n)) in
    let one = ap (λ (e : Entry). e.line) (entry_at said i d) in
    let other = ap (λ (e : Entry). e.line) (entry_at said j d) in
    omega (arith, up, one, other)

module _ (pages : List PageView) (cpus : ℕ) (first : ℕ → Bool) (said : List Claimed) where
  -- before the first event
  pub walk_starts : (walk : Walk) (alive : Alive) → ((pid : ℕ) → alive_view alive pid ≡ first pid)
      → ((line : ℕ) → StandsAt pages line walk) → HasCome pages cpus first said 0 walk alive
  walk_starts walk alive same stands = record {
    nothing = record { no_fault = λ cpu lt. tt; tickets = tt; births = tt };
    roll = same;
    stands = λ k d low lt. stands (get_or said k d).entry.line;
  }

  module _ (i : ℕ) (event : Claimed) (lt : i < length said) (is : event ≡ get_or said i event) where
    one_more : take (i + 1) said ≡ take i said ++ event ∷ []
    one_more = take_more said i event lt ∙ ap (λ e. take i said ++ e ∷ []) (sym is)

    -- after the next event, where nothing is said against it
    pub walk_goes_on : (before here : Walk) (alive later : Alive)
        → AllPairs (λ a b. a.entry.line < b.entry.line) said
        → HasCome pages cpus first said i before alive
        → StandsAt pages event.entry.line here
        → Allow (view_at pages) cpus (alive_view alive) event
        → ((pid : ℕ) → alive_view later pid ≡ roll_after (alive_view alive) event.entry.act pid)
        → HasCome pages cpus first said (i + 1) here later
    walk_goes_on before here alive later rise come stands allow passed =
        let roll : alive_view alive ≡ roll_of first (take i said) = fun_ext come.roll in
        record {
          nothing = subst (SayNothingInWindow (view_at pages) cpus first) (sym one_more)
              (say_push (view_at pages) cpus first (take i said) event come.nothing
              (subst (λ f. Allow (view_at pages) cpus f event) roll allow));
          roll = λ pid. passed pid
              ∙ ap (λ f. roll_after f event.entry.act pid) roll
              ∙ ap (λ f. f pid) (sym (roll_append first (take i said) (event ∷ [])))
              ∙ ap (λ xs. roll_of first xs pid) (sym one_more);
          stands = λ k d low within.
              let this = ap (λ (e : Claimed). e.entry.line) is in
              let up = rise i k event (omega arith) within in
              let default = ap (λ (e : Claimed). e.entry.line) (get_or_default said k event d within) in
              stands_later pages event.entry.line (get_or said k d).entry.line here
              (omega (arith, this, up, default)) stands;
        }

    -- what is said first against the next event is what the pages tell
    pub walk_ends : (before : Walk) (alive : Alive) (cause : FaultCause) → HasCome pages cpus first said i before alive
        → IsCauseOf (view_at pages) cpus (alive_view alive) event cause
        → TellFaultFrom (view_at pages) cpus first said event.entry.line cause
    walk_ends before alive cause come why = record {
      before = take i said;
      event = event;
      rest = drop (i + 1) said;
      whole = split_at said i event lt is;
      line_is = refl;
      nothing = come.nothing;
      why = subst (λ f. IsCauseOf (view_at pages) cpus f event cause) (fun_ext come.roll) why;
    }

  -- where nothing was said against any event
  pub walk_is_done : (i : ℕ) (walk : Walk) (alive : Alive) → length said ≤ i
      → HasCome pages cpus first said i walk alive
      → SayNothingInWindow (view_at pages) cpus first said
  walk_is_done i walk alive le come =
      subst (SayNothingInWindow (view_at pages) cpus first) (take_all i said le) come.nothing

  pub alive_is_done : (i : ℕ) (walk : Walk) (alive : Alive) → length said ≤ i
      → HasCome pages cpus first said i walk alive
      → (pid : ℕ) → alive_view alive pid ≡ roll_of first said pid
  alive_is_done i walk alive le come pid = come.roll pid ∙ ap (λ xs. roll_of first xs pid) (take_all i said le)

-- a walk that has come so far whatever is said of the events stands before the next
pub walk_stands : (pages : List PageView) (cpus : ℕ) (first : ℕ → Bool) (events : List Entry) (i : ℕ) (event : Entry)
    (walk : Walk) (alive : Alive)
    → ((said : List Claimed) → map (λ s. s.entry) said ≡ events → HasCome pages cpus first said i walk alive)
    → i < length events → event ≡ get_or events i event → StandsAt pages event.line walk
walk_stands pages cpus first events i event walk alive come lt is =
    let some = some_said events in
    let here = said_at some.0 events i event some.1 lt is in
    subst (λ (e : Entry). StandsAt pages e.line walk) here.1
    (subst (λ (e : Claimed). StandsAt pages e.entry.line walk) (sym here.3)
    ((come some.0 some.1).stands i here.0 (omega arith) here.2))

-- what is told from the tasks of the start on is told of the whole
pub tell_all : (pages : ℕ → PageView) (cpus : ℕ) (tasks : List Task) (alive : ℕ → Bool) (events : List Claimed)
    (answer : Option FirstFault) → ((pid : ℕ) → alive pid ≡ named tasks pid)
    → TellFrom pages cpus alive events answer → Tell pages cpus tasks events answer
tell_all pages cpus tasks alive events answer same told =
    go answer (subst (λ f. TellFrom pages cpus f events answer) (fun_ext same) told)
  where
    go : (answer : Option FirstFault) → TellFrom pages cpus (named tasks) events answer
        → Tell pages cpus tasks events answer
    go None h = record { no_fault = h.no_fault; tickets = h.tickets; births = h.births }
    go (Some fault) h = record {
      before = h.before;
      event = h.event;
      rest = h.rest;
      whole = h.whole;
      line_is = h.line_is;
      nothing = record { no_fault = h.nothing.no_fault; tickets = h.nothing.tickets; births = h.nothing.births };
      why = h.why;
    }
