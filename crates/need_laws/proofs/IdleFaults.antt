-- The first fault is at the first event by whose time a processor has idled for longer than the slack: the events
-- before it are a run at these settings too, and there it idles since the least time.
use Rattle.std.proofs.Common.{◌≡◌, ◌≢◌, ℕ, ◌+◌, ◌<◌, ◌≤◌, Bool, Option, Some, None, ℤ, ◌⊎◌, inl, inr, List, [], ◌∷◌}
use Rattle.std.proofs.Common.{◌++◌}
use Rattle.std.proofs.Common.{append_assoc, refl, sym, ap, ◌∙◌, subst, arith}
use Rattle.std.proofs.lemmas.Bool.{cases_lt}
use Rattle.std.specs.List.{AllByRecursion}
use Rattle.cfs_model.specs.Claimed.{Claimed}
use Rattle.cfs_model.specs.Knobs.{KnobsView, value_at}
use Rattle.cfs_model.specs.Least.{AtMost, larger}
use Rattle.cfs_model.specs.Run.{IsRun}
use Rattle.cfs_model.specs.Start.{start_machine}
use Rattle.replay_model.specs.Cause.{IsFirstFault}
use Rattle.replay_model.specs.Cut.{last_time_of, steps_at}
use Rattle.replay_model.specs.Needs.{AllPassNeeding}
use Rattle.replay_model.specs.Page.{ReplayStateView}
use Rattle.replay_model.specs.QueueTests.{IsIdleTooLong}
use Rattle.replay_model.specs.Record.{IsRecord, TimesRise}
use Rattle.replay_laws.specs.CutReplay.{IsCutReplay}
use Rattle.window_laws.specs.Kept.{state_behind}
use Rattle.window_laws.specs.SoFar.{IsSoFar}
use Rattle.need_laws.specs.Reaching.{AreIdling, IdlesAtEnd, IdlesAtStep, IdlesFrom, IdlingIsFault}
use Rattle.need_laws.specs.Within.{StaysWithin}
use Rattle.cfs_model.proofs.LeastSettings.{at_most_trans, larger_at_most}
use Rattle.cfs_model.proofs.Moves.{same_or_not}
use Rattle.cfs_model.proofs.Prefix.{run_prefix}
use Rattle.replay_laws.proofs.composing.CutReplays.{past_cut}
use Rattle.replay_laws.proofs.following.FollowLaws.{slack_follows}
use Rattle.replay_laws.proofs.telling.FrontRun.{append_none}
use Rattle.replay_laws.proofs.telling.Fronts.{record_front, rise_back}
use Rattle.window_laws.proofs.Appended.{steps_all, steps_append}
use Rattle.need_laws.proofs.FirstReach.{le_through}
use Rattle.need_laws.proofs.IdleFronts.{FrontIdle, front_idle, front_since}
use Rattle.need_laws.proofs.ShortFaults.{slack_is_fault, slack_kept}
use Rattle.need_laws.proofs.WindowFronts.{cut_by, joins, le_itself, starts}
use Rattle.need_laws.proofs.WithinRuns.{front_within}
use Rattle.cfs_model.specs.declared.kind.Kind.TheVariants.{IdleTooLong}
use Rattle.cfs_model.specs.declared.task.Task.{Task}
use Rattle.replay_model.specs.declared.step.Step.{Step}

-- the times of events that rise from a time are no lower
no_lower : (time from : ℕ) (events : List Claimed) → time ≤ from → TimesRise from events
    → AllByRecursion (λ (x : Claimed). time ≤ x.entry.time) events
no_lower time from [] k h = tt
no_lower time from (event ∷ events) k h =
    let a : from ≤ event.entry.time = h.0 in
    ((omega arith), no_lower time event.entry.time events (omega arith) h.1)

-- the last time is no lower than where they rise from
last_no_lower : (time : ℕ) (events : List Claimed) → TimesRise time events → time ≤ last_time_of time events
last_no_lower time [] h = omega arith
last_no_lower time (event ∷ events) h =
    let a : time ≤ event.entry.time = h.0 in
    let b = last_no_lower event.entry.time events h.1 in
    omega (arith, a, b)

last_append : (time : ℕ) (before rest : List Claimed)
    → last_time_of time (before ++ rest) ≡ last_time_of (last_time_of time before) rest
last_append time [] rest = refl
last_append time (event ∷ before) rest = last_append event.entry.time before rest

-- the last of some events' times, where none is above a limit
last_low : (time limit : ℕ) (events : List Claimed) → AllByRecursion (λ (x : Claimed). x.entry.time ≤ limit) events
    → (events ≡ []) ⊎ (last_time_of time events ≤ limit)
last_low time limit [] h = inl refl
last_low time limit (event ∷ events) h = inr (go event.entry.time events h.0 h.1)
  where
    go : (time : ℕ) (xs : List Claimed) → time ≤ limit → AllByRecursion (λ (x : Claimed). x.entry.time ≤ limit) xs
        → last_time_of time xs ≤ limit
    go time [] k h = k
    go time (x ∷ xs) k h = go x.entry.time xs h.0 h.1

in_time_by : (bound time : ℕ) (since : Option ℕ) → ((y : ℕ) → since ≡ Some y → time ≤ y + bound)
    → ¬ IsIdleTooLong bound since time 0
in_time_by bound time None h k = k
in_time_by bound time (Some y) h k = let a = h y refl in let b : y + bound < time = k.0 in absurd (omega arith)

not_late : (bound time y : ℕ) (since : Option ℕ) → since ≡ Some y → ¬ IsIdleTooLong bound since time 0
    → time ≤ y + bound
not_late bound time y since e h = elim (cases_lt (y + bound) time) [
  | inl k ↦ absurd (h (subst (λ o. IsIdleTooLong bound o time 0) (sym e) (k, refl)))
  | inr k ↦ k
]

below_next : (y bound time limit least : ℕ) → least ≤ y → limit ≡ least + bound → time ≤ limit → time ≤ y + bound
below_next y bound time limit least k e h = omega arith

times_less : (limit time : ℕ) (steps : List Step) (least bound : ℕ) → limit ≡ least + bound → limit < time
    → AllByRecursion (λ (x : Step). time ≤ x.time) steps → AllByRecursion (λ (x : Step). least < x.time) steps
times_less limit time [] least bound e k h = tt
times_less limit time (x ∷ steps) least bound e k h =
    ((let a : time ≤ x.time = h.0 in omega arith), times_less limit time steps least bound e k h.1)

module _ (knobs wider other : KnobsView) (start : ℕ) (floors : List ℤ) (tasks : List Task)
    (before front rest : List Claimed) (event : Claimed) (cpus : ℕ) (kept ends : ℕ → ReplayStateView)
    (had here : ℕ → KnobsView) (behind : ℕ → ReplayStateView) (alive : ℕ → Bool) (least : ℕ)
    (r : IsRecord start floors tasks (before ++ (front ++ event ∷ rest)) cpus)
    (so_far : IsSoFar knobs start floors tasks (before ++ (front ++ event ∷ rest)) cpus behind alive)
    (run : IsRun wider start (start_machine start floors tasks) (before ++ (front ++ event ∷ rest)))
    (one_more : wider.slack ≤ other.slack + 1)
    (idling : AreIdling knobs wider other start floors tasks before (front ++ event ∷ rest) cpus kept ends had here
    least)
    (low : AllByRecursion (λ (x : Claimed). x.entry.time ≤ least + other.slack) front)
    (late : least + other.slack < event.entry.time) where
  joined : before ++ (front ++ event ∷ rest) ≡ (before ++ front) ++ event ∷ rest
  joined = sym (append_assoc before front (event ∷ rest))

  is_record : IsRecord start floors tasks ((before ++ front) ++ event ∷ rest) cpus
  is_record = subst (λ xs. IsRecord start floors tasks xs cpus) joined r

  run_all : IsRun wider start (start_machine start floors tasks) ((before ++ front) ++ event ∷ rest)
  run_all = subst (IsRun wider start (start_machine start floors tasks)) joined run

  run_front : IsRun wider start (start_machine start floors tasks) (before ++ front)
  run_front = run_prefix wider start (start_machine start floors tasks) (before ++ front) (event ∷ rest) run_all

  run_event : IsRun wider start (start_machine start floors tasks) ((before ++ front) ++ event ∷ [])
  run_event = run_prefix wider start (start_machine start floors tasks) ((before ++ front) ++ event ∷ []) rest
      (subst (IsRun wider start (start_machine start floors tasks))
      (sym (append_assoc (before ++ front) (event ∷ []) rest)) run_all)

  times : TimesRise start (before ++ front)
  times = (record_front start floors tasks (before ++ front) (event ∷ rest) cpus is_record).times_rise

  -- what is within the wider settings, and within these of the slack, is within these
  at_other : (needs : KnobsView) → AtMost needs wider → needs.slack ≤ other.slack → AtMost needs other
  at_other needs h k setting = elim (idling.others setting) [
    | inl e ↦ subst (λ x. value_at needs x ≤ value_at other x) (sym e) k
    | inr le ↦ le_through (value_at needs setting) (value_at wider setting) (value_at other setting) (h setting) le
  ]

  rise : (last_time_of start (before ++ front) ≤ event.entry.time) × TimesRise event.entry.time rest
  rise = rise_back start (before ++ front) (event ∷ rest) is_record.times_rise

  abbrev last : ℕ
  last = last_time_of start (before ++ (front ++ event ∷ rest))

  event_up_to : event.entry.time ≤ last
  event_up_to = subst (λ n. event.entry.time ≤ n)
      (sym (ap (last_time_of start) joined ∙ last_append start (before ++ front) (event ∷ rest)))
      (last_no_lower event.entry.time rest rise.1)

  front_low : (cpu : ℕ) → AllByRecursion (λ (x : Step). x.time ≤ least + other.slack) (steps_at cpu front)
  front_low cpu = steps_all (λ line time. time ≤ least + other.slack) cpu front low

  rest_high : (cpu : ℕ) → AllByRecursion (λ (x : Step). event.entry.time ≤ x.time) (steps_at cpu (event ∷ rest))
  rest_high cpu = steps_all (λ line time. event.entry.time ≤ time) cpu (event ∷ rest)
      (le_itself event.entry.time, no_lower event.entry.time event.entry.time rest (le_itself event.entry.time) rise.1)

  -- how a processor idles at the front, that begins to do so no sooner than at a time
  at_front_from : (cpu from : ℕ) → least ≤ from
      → IdlesFrom knobs cpu (kept cpu) (steps_at cpu (front ++ event ∷ rest)) (ends cpu) (here cpu) other.slack last
      from
      → FrontIdle knobs cpu (kept cpu) (steps_at cpu front) (here cpu) other.slack event.entry.time from
  at_front_from cpu from k h =
      front_idle knobs cpu (kept cpu) (steps_at cpu front) (steps_at cpu (event ∷ rest)) (ends cpu) (here cpu)
      other.slack last from (least + other.slack) event.entry.time (front_low cpu) (rest_high cpu) (omega arith)
      event_up_to
      (subst (λ xs. IdlesFrom knobs cpu (kept cpu) xs (ends cpu) (here cpu) other.slack last from)
      (steps_append cpu front (event ∷ rest)) h)

  within_wider : (cpu : ℕ) → cpu < cpus → (needs : KnobsView) → AtMost needs (here cpu) → AtMost needs wider
  within_wider cpu k needs h = at_most_trans needs (here cpu) wider h (idling.here_wider cpu k)

  cut_of : (cpu from : ℕ) → (k : cpu < cpus)
      → (f : FrontIdle knobs cpu (kept cpu) (steps_at cpu front) (here cpu) other.slack event.entry.time from)
      → IsCutReplay other start floors tasks (before ++ front) cpu (state_behind (idling.so_far cpu k).last.page f.mid)
  cut_of cpu from k f = cut_by knobs start floors tasks before front cpus kept had idling.so_far cpu k other f.mid
      f.here
      f.passes (at_other (had cpu) (idling.had_wider cpu k) (idling.had_slack cpu k))
      (at_other f.here (within_wider cpu k f.here f.at_most) f.within)

  front_in_time : (cpu : ℕ) → (k : cpu < cpus)
      → (f : FrontIdle knobs cpu (kept cpu) (steps_at cpu front) (here cpu) other.slack event.entry.time least)
      → (y : ℕ)
      → f.mid.since ≡ Some y → last_time_of start (before ++ front) ≤ y + other.slack
  front_in_time cpu k f y e = elim (cases_lt (y + other.slack) (last_time_of start (before ++ front))) [
    | inl over ↦ elim (last_low (last_time_of start before) (least + other.slack) front low) [
      | inl none ↦ subst (λ n. n ≤ y + other.slack)
          (ap (last_time_of start) (sym (append_none before) ∙ ap (λ xs. before ++ xs) (sym none)))
          (idling.had_time cpu y k
          (ap (λ (s : ReplayStateView). s.since)
          (sym ((subst (λ xs. AllPassNeeding knobs cpu (kept cpu) (steps_at cpu xs) f.mid f.here) none f.passes).0))
          ∙ e))
      | inr most ↦ below_next y other.slack (last_time_of start (before ++ front)) (least + other.slack) least
          (f.since y e (let a = rise.0 in omega arith)) refl
          (subst (λ n. n ≤ least + other.slack) (sym (last_append start before front)) most)
    ]
    | inr fine ↦ fine
  ]

  stay : (cpu : ℕ) → cpu < cpus → StaysWithin knobs other start floors tasks (before ++ front) cpu
  stay cpu k =
      let n = idling.so_far cpu k in
      let f = at_front_from cpu least (le_itself least) (idling.idles cpu k) in
      record {
        first = n.first;
        is_start = starts knobs start floors tasks before front cpus kept had idling.so_far cpu k;
        mid = state_behind n.last.page f.mid;
        needs = larger (had cpu) f.here;
        passes = joins knobs start floors tasks before front cpus kept had idling.so_far cpu k f.mid f.here f.passes;
        within = larger_at_most (had cpu) f.here other
            (at_other (had cpu) (idling.had_wider cpu k) (idling.had_slack cpu k))
            (at_other f.here (within_wider cpu k f.here f.at_most) f.within);
        in_time = in_time_by other.slack (last_time_of start (before ++ front)) f.mid.since (front_in_time cpu k f);
      }

  run_other : IsRun other start (start_machine start floors tasks) (before ++ front)
  run_other = front_within knobs other start floors tasks (before ++ front) rest event cpus behind alive is_record
      (subst (λ xs. IsSoFar knobs start floors tasks xs cpus behind alive) joined so_far) stay

  module _ (cpu : ℕ) (k : cpu < cpus)
      (since : IdlesAtEnd knobs cpu (kept cpu) (steps_at cpu (front ++ event ∷ rest)) (ends cpu) (here cpu) other.slack
      least
      ⊎ IdlesAtStep knobs cpu (kept cpu) (steps_at cpu (front ++ event ∷ rest)) (ends cpu) (here cpu) other.slack least)
      (lowest : (lower : ℕ) → lower < cpu
      → IdlesFrom knobs lower (kept lower) (steps_at lower (front ++ event ∷ rest)) (ends lower) (here lower)
      other.slack
      last (least + 1)) where
    mine : (f : FrontIdle knobs cpu (kept cpu) (steps_at cpu front) (here cpu) other.slack event.entry.time least)
        × (f.mid.since ≡ Some least)
    mine = front_since knobs cpu (kept cpu) (steps_at cpu front) (steps_at cpu (event ∷ rest)) (ends cpu) (here cpu)
        other.slack last least (least + other.slack) event.entry.time (front_low cpu) (rest_high cpu)
        (le_itself (least + other.slack)) event_up_to least (le_itself least) (omega arith)
        (subst (λ xs. IdlesAtEnd knobs cpu (kept cpu) xs (ends cpu) (here cpu) other.slack least
        ⊎ IdlesAtStep knobs cpu (kept cpu) xs (ends cpu) (here cpu) other.slack least)
        (steps_append cpu front (event ∷ rest)) since)

    -- by a nanosecond more it is in time
    on_time : event.entry.time ≤ least + other.slack + 1
    on_time =
        let f = mine.0 in
        let state = state_behind (idling.so_far cpu k).last.page f.mid in
        let follows = slack_follows wider start floors tasks (before ++ front) cpu state event.entry.time r.is_start
        times
        run_front (cut_by knobs start floors tasks before front cpus kept had idling.so_far cpu k wider f.mid f.here
        f.passes (idling.had_wider cpu k) (within_wider cpu k f.here f.at_most)) in
        let most = not_late wider.slack event.entry.time least f.mid.since mine.1
        (λ late. slack_kept wider wider start (start_machine start floors tasks) (before ++ front) event run_front
        run_event
        (le_itself wider.slack) cpu (follows.1 late)) in
        omega arith

    -- where each processor stands at the front
    record Stands (one : ℕ) : Type 0 where
      state : ReplayStateView
      cut_replay : IsCutReplay other start floors tasks (before ++ front) one state
      own : one ≡ cpu → state.since ≡ Some least
      in_time : one < cpu → (s : ℕ) → state.since ≡ Some s → event.entry.time ≤ s + other.slack

    own_stand : Stands cpu
    own_stand = record {
      state = state_behind (idling.so_far cpu k).last.page mine.0.mid;
      cut_replay = cut_of cpu least k mine.0;
      own = λ e. mine.1;
      in_time = λ below. absurd (omega arith);
    }

    lower_stand : (one : ℕ) → one < cpu → Stands one
    lower_stand one below =
        let within : one < cpus = omega arith in
        let f = at_front_from one (least + 1) (omega arith) (lowest one below) in
        record {
          state = state_behind (idling.so_far one within).last.page f.mid;
          cut_replay = cut_of one (least + 1) within f;
          own = λ e. absurd (omega arith);
          in_time = λ h s e. elim (cases_lt (s + other.slack) event.entry.time) [
            | inl over ↦ (let more = f.since s e over in let most = on_time in absurd (omega arith))
            | inr fine ↦ fine
          ];
        }

    higher_stand : (one : ℕ) → cpu < one → Stands one
    higher_stand one above = elim (cases_lt one cpus) [
      | inl within ↦ (let f = at_front_from one least (le_itself least) (idling.idles one within) in
          record {
            state = state_behind (idling.so_far one within).last.page f.mid;
            cut_replay = cut_of one least within f;
            own = λ e. absurd (omega arith);
            in_time = λ below. absurd (omega arith);
          })
      | inr past ↦ (let p = past_cut other start floors tasks (before ++ front) cpus one
          (record_front start floors tasks (before ++ front) (event ∷ rest) cpus is_record) past in
          record {
            state = p.0;
            cut_replay = p.1;
            own = λ e. absurd (omega arith);
            in_time = λ below. absurd (omega arith);
          })
    ]

    stands : (one : ℕ) → Stands one
    stands one = elim (same_or_not one cpu) [
      | inl e ↦ subst Stands (sym e) own_stand
      | inr ne ↦ elim (cases_lt one cpu) [
        | inl below ↦ lower_stand one below
        | inr above ↦ higher_stand one (next one cpu above ne)
      ]
    ]
      where
        next : (a b : ℕ) → b ≤ a → a ≢ b → b < a
        next a b h ne = elim (cases_lt b a) [ inl k ↦ k | inr k ↦ absurd (ne (omega arith)) ]

    fault : IsFirstFault other start (start_machine start floors tasks) ((before ++ front) ++ event ∷ rest)
        event.entry.line (record { cpu = cpu; pid = 0; kind = IdleTooLong })
    fault = slack_is_fault other start floors tasks (before ++ front) rest event cpu least (λ one. (stands one).state)
        r.is_start times run_other (λ one. (stands one).cut_replay) ((stands cpu).own refl) late
        (λ lower s below e. (stands lower).in_time below s e)

pub idling_is_fault : IdlingIsFault
idling_is_fault knobs wider other start floors tasks before front rest event cpus kept ends had here behind alive cpu
    least r so_far run one_more idling low late k since lowest =
    subst (λ xs. IsFirstFault other start (start_machine start floors tasks) xs event.entry.line
    (record { cpu = cpu; pid = 0; kind = IdleTooLong })) (append_assoc before front (event ∷ rest))
    (fault knobs wider other start floors tasks before front rest event cpus kept ends had here behind alive least r
    so_far run one_more idling low late cpu k since lowest)
