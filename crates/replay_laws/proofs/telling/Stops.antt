-- A replay without a fault that stopped at a step is that of the first events of the record, up to the step's own: it
-- has made all their steps, and its processor is in time at the last of them, since the step was.
use Rattle.std.proofs.Common.{◌≡◌, ℕ, zero, suc, ◌+◌, ◌<◌, ◌≤◌, nat_le, Bool, true, false, cond, Some, None, ℤ, inl}
use Rattle.std.proofs.Common.{inr, List, [], ◌∷◌, ◌++◌, length, take, refl, sym, ap, ◌∙◌, subst, arith}
use Rattle.std.proofs.lemmas.Bool.{cases_lt, leb-false}
use Rattle.cfs_model.specs.Limits.{no_line}
use Rattle.cfs_model.specs.Knobs.{KnobsView}
use Rattle.cfs_model.specs.Claimed.{Claimed}
use Rattle.replay_model.specs.QueueTests.{IsIdleTooLong}
use Rattle.replay_model.specs.Cut.{touches, steps_at, last_time_of, last_line_after, cut}
use Rattle.replay_model.specs.StepAt.{step_at}
use Rattle.replay_model.specs.Noted.{PageView}
use Rattle.replay_model.specs.Page.{ReplayStateView, PassesStep, IsReplayStep, IsReplay, IsPageOf}
use Rattle.replay_model.specs.Record.{LinesRise, IsRecord}
use Rattle.replay_model.proofs.Replayed.{first_passes}
use Rattle.replay_model.proofs.Options.{no_some}
use Rattle.replay_laws.proofs.following.Follow.{since_begun, touched_steps, untouched_steps}
use Rattle.replay_laws.proofs.following.FollowLaws.{starts_at}
use Rattle.replay_laws.proofs.telling.Fronts.{record_front}
use Rattle.replay_laws.proofs.composing.StepLines.{lines_back}
use Rattle.replay_laws.proofs.telling.WholeReplay.{WholeReplay}
use Rattle.cfs_model.specs.declared.task.Task.{Task}

-- the first events, of which a replay made all steps: the last of them is the last step's
record Seen (knobs : KnobsView) (cpu : ℕ) (s end : ReplayStateView) (time line : ℕ) (events : List Claimed)
    : Type 0 where
  seen : List Claimed
  more : List Claimed
  whole : events ≡ seen ++ more
  replay : IsReplay knobs cpu s (steps_at cpu seen) end
  in_time : (x : ℕ) → end.since ≡ Some x → last_time_of time seen ≤ x + knobs.slack
  line_is : end.page.line ≡ last_line_after line seen

-- a processor is in time right after a step that passed
in_time_after : (knobs : KnobsView) (cpu : ℕ) (s : ReplayStateView) (event : Claimed) (next : ReplayStateView)
    → PassesStep knobs cpu s (step_at cpu event) next → (x : ℕ) → next.since ≡ Some x
    → event.entry.time ≤ x + knobs.slack
in_time_after knobs cpu s event next p x e =
    elim (since_begun s.since event.entry.time next.part next.since p.since x e) [
      | inl h ↦ elim (cases_lt (x + knobs.slack) event.entry.time) [
        | inl late ↦ absurd (p.in_time 0
            (subst (λ o. IsIdleTooLong knobs.slack o event.entry.time 0) (sym h) (late, refl)))
        | inr k ↦ k
      ]
      | inr h ↦ omega arith
    ]

line_after : (knobs : KnobsView) (cpu : ℕ) (s : ReplayStateView) (event : Claimed) (next : ReplayStateView)
    → PassesStep knobs cpu s (step_at cpu event) next → next.page.line ≡ event.entry.line
line_after knobs cpu s event next p = ap (λ y. y.line) p.page

-- one more event before those seen: of another processor, or of a step
untouched_seen : (knobs : KnobsView) (cpu : ℕ) (s end : ReplayStateView) (time line : ℕ) (event : Claimed)
    (events : List Claimed) → touches cpu event ≡ false
    → Seen knobs cpu s end event.entry.time event.entry.line events → Seen knobs cpu s end time line (event ∷ events)
untouched_seen knobs cpu s end time line event events t later = record {
  seen = event ∷ later.seen;
  more = later.more;
  whole = ap (λ xs. event ∷ xs) later.whole;
  replay = subst (λ xs. IsReplay knobs cpu s xs end) (sym (untouched_steps cpu event later.seen t)) later.replay;
  in_time = later.in_time;
  line_is = later.line_is;
}

replayed_first : (knobs : KnobsView) (cpu : ℕ) (s next end : ReplayStateView) (time line : ℕ) (event : Claimed)
    (events : List Claimed) → touches cpu event ≡ true
    → IsReplayStep knobs cpu s.page.fault s (step_at cpu event) next
    → Seen knobs cpu next end event.entry.time event.entry.line events
    → Seen knobs cpu s end time line (event ∷ events)
replayed_first knobs cpu s next end time line event events t step later = record {
  seen = event ∷ later.seen;
  more = later.more;
  whole = ap (λ xs. event ∷ xs) later.whole;
  replay = subst (λ xs. IsReplay knobs cpu s xs end) (sym (touched_steps cpu event later.seen t))
      (next, step, later.replay);
  in_time = later.in_time;
  line_is = later.line_is;
}

seen_from : (knobs : KnobsView) (cpu : ℕ) (s end : ReplayStateView) (time line : ℕ) (events : List Claimed) (n : ℕ)
    → n ≤ length (steps_at cpu events) → s.page.fault ≡ None → end.page.fault ≡ None
    → (n ≡ 0 → (x : ℕ) → s.since ≡ Some x → time ≤ x + knobs.slack) → (n ≡ 0 → s.page.line ≡ line)
    → IsReplay knobs cpu s (take n (steps_at cpu events)) end → Seen knobs cpu s end time line events
seen_from knobs cpu s end time line events zero few none through in_time at r = record {
  seen = [];
  more = events;
  whole = refl;
  replay = r;
  in_time = λ x e. in_time refl x (ap (λ y. y.since) (sym r) ∙ e);
  line_is = ap (λ y. y.page.line) r ∙ at refl;
}
seen_from knobs cpu s end time line [] (suc n) few none through in_time at r = absurd (omega arith)
seen_from knobs cpu s end time line (event ∷ events) (suc n) few none through in_time at r = go (touches cpu event) refl
    (λ few r. seen_from knobs cpu s end event.entry.time event.entry.line events (suc n) few none through
    (λ no. absurd (omega arith)) (λ no. absurd (omega arith)) r)
    (λ next few no_fault within line_is r. seen_from knobs cpu next end event.entry.time event.entry.line events n few
    no_fault through within line_is r)
  where
    go : (b : Bool) → touches cpu event ≡ b
        → (suc n ≤ length (steps_at cpu events) → IsReplay knobs cpu s (take (suc n) (steps_at cpu events)) end
        → Seen knobs cpu s end event.entry.time event.entry.line events)
        → ((next : ReplayStateView) → n ≤ length (steps_at cpu events) → next.page.fault ≡ None
        → (n ≡ 0 → (x : ℕ) → next.since ≡ Some x → event.entry.time ≤ x + knobs.slack)
        → (n ≡ 0 → next.page.line ≡ event.entry.line) → IsReplay knobs cpu next (take n (steps_at cpu events)) end
        → Seen knobs cpu next end event.entry.time event.entry.line events)
        → Seen knobs cpu s end time line (event ∷ events)
    go false t away here =
        let same = untouched_steps cpu event events t in
        untouched_seen knobs cpu s end time line event events t
        (away (subst (λ xs. suc n ≤ length xs) same few)
        (subst (λ xs. IsReplay knobs cpu s (take (suc n) xs) end) same r))
    go true t away here =
        let same = touched_steps cpu event events t in
        let h = subst (λ xs. IsReplay knobs cpu s (take (suc n) xs) end) same r in
        let count : suc n ≤ suc (length (steps_at cpu events)) = subst (λ xs. suc n ≤ length xs) same few in
        let p = first_passes knobs cpu s (step_at cpu event) h.0 (take n (steps_at cpu events)) end none h.1 h.2
        through in
        replayed_first knobs cpu s h.0 end time line event events t h.1
        (here h.0 (omega arith) p.1 (λ no x e. in_time_after knobs cpu s event h.0 p.0 x e)
        (λ no. line_after knobs cpu s event h.0 p.0) h.2)

-- an event whose line isn't past the last of the first events is among them
record Among (before : List Claimed) (event : Claimed) (seen more : List Claimed) : Type 0 where
  rest : List Claimed
  is : seen ≡ before ++ event ∷ rest

same_first : (a b : Claimed) (xs ys : List Claimed) → a ∷ xs ≡ b ∷ ys → (a ≡ b) × (xs ≡ ys)
same_first a b xs ys e = (cc, cc)

among : (before rest : List Claimed) (event : Claimed) (seen more : List Claimed) (line : ℕ)
    → before ++ event ∷ rest ≡ seen ++ more → LinesRise line (before ++ event ∷ rest)
    → event.entry.line ≤ last_line_after line seen → Among before event seen more
among before rest event [] more line e rise by =
    absurd (let above : line < event.entry.line = (lines_back line before (event ∷ rest) rise).0 in omega arith)
among [] rest event (x ∷ seen) more line e rise by =
    let h = same_first event x rest (seen ++ more) e in
    record { rest = seen; is = ap (λ y. y ∷ seen) (sym h.0) }
among (b ∷ before) rest event (x ∷ seen) more line e rise by =
    let h = same_first b x (before ++ event ∷ rest) (seen ++ more) e in
    let later = among before rest event seen more b.entry.line h.1 rise.1
    (subst (λ (y : Claimed). event.entry.line ≤ last_line_after y.entry.line seen) (sym h.0) by) in
    record { rest = later.rest; is = ap (λ y. y ∷ seen) (sym h.0) ∙ ap (λ xs. b ∷ xs) later.is }

-- the replay of a page that stopped at an event's line or past it, as that of the events up to where it stopped
pub record StopsPast (knobs : KnobsView) (start : ℕ) (floors : List ℤ) (tasks : List Task) (before : List Claimed)
    (event : Claimed) (cpus cpu : ℕ) (page : PageView) : Type 0 where
  pub rest : List Claimed
  pub kept : IsRecord start floors tasks (before ++ event ∷ rest) cpus
  pub replay : WholeReplay knobs start floors tasks (before ++ event ∷ rest) cpu page

cut_off : {X : Type 0} (b : Bool) (x y : X) → b ≡ false → cond b x y ≡ y
cut_off true x y e = absurd cc
cut_off false x y e = refl

pub stops_past : (knobs : KnobsView) (start : ℕ) (floors : List ℤ) (tasks : List Task) (before rest : List Claimed)
    (event : Claimed) (cpus cpu made : ℕ) (page : PageView)
    → IsRecord start floors tasks (before ++ event ∷ rest) cpus
    → IsPageOf (cut start floors tasks (before ++ event ∷ rest) cpu) knobs made page → page.fault ≡ None
    → nat_le (length (steps_at cpu (before ++ event ∷ rest))) made ≡ false → event.entry.line ≤ page.line
    → StopsPast knobs start floors tasks before event cpus cpu page
stops_past knobs start floors tasks before rest event cpus cpu made page r g none short by =
    record { rest = a.rest; kept = kept; replay = replay }
  where
    all : List Claimed
    all = before ++ event ∷ rest

    is_end : page ≡ g.end.page
    is_end = g.result ∙ cut_off (nat_le (length (steps_at cpu all)) made) _ g.end.page short

    through : g.end.page.fault ≡ None
    through = ap (λ p. p.fault) (sym is_end) ∙ none

    s : Seen knobs cpu g.start g.end start no_line all
    s = seen_from knobs cpu g.start g.end start no_line all made
        (let k = leb-false (length (steps_at cpu all)) made short in omega (arith, k))
        (ap (λ p. p.fault) g.is_start.page) through
        (λ no x e. (let at : x ≡ start = starts_at start g.start.part g.start.since g.is_start.since x e in
        omega arith))
        (λ no. ap (λ p. p.line) g.is_start.page) g.replay

    a : Among before event s.seen s.more
    a = among before rest event s.seen s.more no_line s.whole r.lines_rise
        (subst (λ n. event.entry.line ≤ n) (ap (λ p. p.line) is_end ∙ s.line_is) by)

    kept : IsRecord start floors tasks (before ++ event ∷ a.rest) cpus
    kept = subst (λ xs. IsRecord start floors tasks xs cpus) a.is
        (record_front start floors tasks s.seen s.more cpus
        (subst (λ xs. IsRecord start floors tasks xs cpus) s.whole r))

    of_seen : WholeReplay knobs start floors tasks s.seen cpu page
    of_seen = record {
      first = g.start;
      is_start = record { part = g.is_start.part; since = g.is_start.since; page = g.is_start.page };
      end = g.end;
      replay = s.replay;
      fault = record {
        of_step = λ fault e. no_some fault (sym through ∙ e);
        of_end = λ x n e late. absurd (let k = s.in_time x e in omega (arith, k, late));
        from = λ fault e. no_some fault (sym none ∙ e);
      };
      line = λ fault e. no_some fault (sym none ∙ e);
      left = ap (λ p. p.left) is_end;
      came = ap (λ p. p.came) is_end;
      tallies = ap (λ p. p.tallies) is_end;
    }

    replay : WholeReplay knobs start floors tasks (before ++ event ∷ a.rest) cpu page
    replay = subst (λ xs. WholeReplay knobs start floors tasks xs cpu page) a.is of_seen
