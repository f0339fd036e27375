-- What is known of a recording stays as its companion is read on and let go, and as windows are joined with it.
use Rattle.std.proofs.Common.{◌≡◌, ℕ, ◌<◌, ◌≤◌, Bool, true, false, List, [], ◌++◌, length, Option, Some, None, Ok, Err}
use Rattle.std.proofs.Common.{refl, sym, subst, ◌∙◌, inl, inr, arith}
use Rattle.std.specs.Prelude.{MatchOption, IsNone, OnOk, Result, is_some}
use Rattle.cfs_model.specs.Claimed.{Claimed}
use Rattle.stream_audit.specs.Aim.{AimView}
use Rattle.cfs_model.specs.Limits.{no_line}
use Rattle.cfs_model.specs.declared.act.Entry.{Entry}
use Rattle.cfs_model.specs.declared.charge_line.ChargeLine.{ChargeLine}
use Rattle.cfs_model.specs.declared.claim.Claim.{Claim}
use Rattle.cfs_model.specs.declared.nice_line.NiceLine.{NiceLine}
use Rattle.companion_file.proofs.Reader.{said_in_order, where_none}
use Rattle.companion_file.specs.Companion.{CompanionView}
use Rattle.companion_file.specs.Earlier.{Said, summed}
use Rattle.companion_file.specs.Order.{IsCompanionInOrder}
use Rattle.companion_file.specs.Piecewise.{SaysOn as SaysLines}
use Rattle.companion_file.specs.Reader.{HasNoStart, HasReadCompanion, HoldsOf, IsStartOf, TellsStart, with_all_said}
use Rattle.companion_file.specs.Seen.{companion_view}
use Rattle.companion_file.specs.declared.bad_line.BadLine.{BadLine}
use Rattle.companion_file.specs.declared.companion.Companion.{Companion}
use Rattle.input_blocks.specs.Blocks.{IsThen}
use Rattle.input_blocks.specs.OfCompanion.{ReadsCompanion}
use Rattle.input_blocks.specs.declared.line_blocks.LineBlocks.{LineBlocks}
use Rattle.text_parts.specs.Lines.{lines_of}
use Rattle.window_joining.proofs.Adding.{held_on}
use Rattle.window_joining.specs.Joining.{IsHeadOf, IsHeld, StandBehind, edge_of}
use Rattle.stream_audit.proofs.Calm.{calm_from, same_refusal}
use Rattle.stream_audit.proofs.Companion.{good_same}
use Rattle.stream_audit.proofs.Joined.{all_behind}
use Rattle.stream_audit.specs.Companion.{GoesPast, IsCompanionAt, IsPast, SaysOn}
use Rattle.stream_audit.specs.Course.{AreEventsNext, IsAmidJoining, IsCalm, IsCourseOf, IsNotBegun, IsReadyFor}
use Rattle.stream_audit.specs.Joined.{Comes, AreJoinedSoFar}
use Rattle.stream_audit.specs.declared.companion_input.CompanionInput.{CompanionInput}
use Rattle.stream_audit.specs.declared.course.Course.{Course}
use Rattle.stream_audit.specs.declared.joined_events.JoinedEvents.{JoinedEvents}
use Rattle.stream_audit.proofs.EventLines.{edge_rises}
use Rattle.stream_audit.proofs.SayingMore.{joined_stays_so, more_above, reached_begun, start_stays}

-- ---- a companion that is read on

amid_stays : (gave left : Option (List ℕ)) (course later : Course) (said : Said) (edge : ℕ)
    (events : List Entry) (handed : List Claimed) (joined : JoinedEvents)
    (on : SaysOn gave left course.companion later.companion said edge)
    → IsAmidJoining course said events handed joined → IsAmidJoining later on.after events handed joined
amid_stays gave left course later said edge events handed joined on amid =
    elim amid.past [
      | inl ended ↦
          let same = on.ended ended in
          record {
            start = amid.start;
            starts = subst (λ (s : Said). IsStartOf s amid.start) (sym same.1) amid.starts;
            so_far = subst (λ (s : Said). AreJoinedSoFar (with_all_said amid.start s) events handed joined)
                (sym same.1) amid.so_far;
            past = inl same.0;
            trace = amid.trace;
          }
      | inr reached ↦ record {
        start = amid.start;
        starts = start_stays said on.after amid.start (on.more.start (reached_begun said (edge_of events) reached))
            amid.starts;
        so_far = joined_stays_so said on.after amid.start events handed joined
            (more_above (edge_of events) said on.after amid.start on.more reached) amid.so_far;
        past = inr (on.more.reached (edge_of events) reached);
        trace = amid.trace;
      }
    ]

none_stays : (gave left : Option (List ℕ)) (course later : Course) (said : Said) (edge : ℕ) (events : List Entry)
    (handed : List Claimed) (on : SaysOn gave left course.companion later.companion said edge)
    → IsNotBegun course said events handed → IsNotBegun later on.after events handed
none_stays gave left course later said edge events handed on (empty, inl none) = (empty, inl none)
none_stays gave left course later said edge events handed on (empty, inr p) =
    let same = on.ended p.0 in (empty, inr (same.0, subst HasNoStart (sym same.1) p.1))

-- what holds of an audit that there may be
both_stay : {A : Type 0} (N M : Type 0) (P Q : A → Type 0) (audit : Option A) → (N → M)
    → ((a : A) → P a → Q a) → MatchOption audit N P → MatchOption audit M Q
both_stay N M P Q None none some holds = none holds
both_stay N M P Q (Some a) none some holds = some a holds

-- the companion was read on
pub goes_with : (aim : AimView) (gave before left : Option (List ℕ)) (course later : Course) (said : Said)
    (events : List Entry) (handed : List Claimed) (so : IsCourseOf aim gave before course said events handed)
    → later.joined ≡ course.joined
    → later.aim ≡ course.aim → (on : SaysOn gave left course.companion later.companion said so.edge)
    → IsCourseOf aim gave left later on.after events handed
goes_with aim gave before left course later said events handed so same settings on = record {
  settings = settings ∙ so.settings;
  edge = so.edge;
  passed = so.passed;
  stands = on.at;
  audited = λ none. both_stay (IsNotBegun course said events handed) (IsNotBegun later on.after events handed)
      (λ joined. IsAmidJoining course said events handed joined)
      (λ joined. IsAmidJoining later on.after events handed joined)
      later.joined (none_stays gave left course later said so.edge events handed on)
      (λ joined. amid_stays gave left course later said so.edge events handed joined on)
      (subst (λ (o : Option JoinedEvents). MatchOption o (IsNotBegun course said events handed)
      (λ joined. IsAmidJoining course said events handed joined)) (sym same) (so.audited (on.good none)));
}

-- ---- what is let go

past_as : (line : ℕ) (said : Said) (old new : CompanionInput) → new.goes_on ≡ old.goes_on → GoesPast line said old
    → GoesPast line said new
past_as line said old new runs (inl ended) = inl (runs ∙ ended)
past_as line said old new runs (inr reached) = inr reached

not_begun_as : (course later : Course) (said : Said) (events : List Entry) (handed : List Claimed)
    → later.companion.goes_on ≡ course.companion.goes_on → IsNotBegun course said events handed
    → IsNotBegun later said events handed
not_begun_as course later said events handed runs (empty, inl none) = (empty, inl none)
not_begun_as course later said events handed runs (empty, inr p) = (empty, inr (runs ∙ p.0, p.1))

amid_as : (course later : Course) (said : Said) (events : List Entry) (handed : List Claimed) (joined : JoinedEvents)
    → later.companion.goes_on ≡ course.companion.goes_on → IsAmidJoining course said events handed joined
    → IsAmidJoining later said events handed joined
amid_as course later said events handed joined runs amid = record {
  start = amid.start;
  starts = amid.starts;
  so_far = amid.so_far;
  past = past_as (edge_of events) said course.companion later.companion runs amid.past;
  trace = amid.trace;
}

pub forgets : (aim : AimView) (gave left : Option (List ℕ)) (course later : Course) (said : Said)
    (events : List Entry) (handed : List Claimed) (line : ℕ)
    (so : IsCourseOf aim gave left course said events handed) → line ≡ edge_of events
    → later.joined ≡ course.joined → later.aim ≡ course.aim
    → later.companion.blocks ≡ course.companion.blocks → later.companion.goes_on ≡ course.companion.goes_on
    → ((lines : List (List ℕ)) (s : Said) (edge : ℕ) → HasReadCompanion course.companion.reader lines s edge
    → edge ≤ line → HasReadCompanion later.companion.reader lines s line)
    → IsCourseOf aim gave left later said events handed
forgets aim gave left course later said events handed line so is same settings blocks runs let_go =
    let at = so.stands in
    let up = subst (λ n. so.edge ≤ n) (sym is) so.passed in
    let read = let_go (lines_of at.done) said so.edge at.read up in
    record {
      settings = settings ∙ so.settings;
      edge = line;
      passed = omega (arith, is);
      stands = record {
        done = at.done;
        read = read;
        few = at.few;
        stands = subst (λ (b : LineBlocks). IsThen ReadsCompanion gave left b at.done later.companion.goes_on)
            (sym blocks) (subst (λ (g : Bool). IsThen ReadsCompanion gave left course.companion.blocks at.done g)
            (sym runs) at.stands);
        at_end = λ ended. at.at_end (sym runs ∙ ended);
      };
      audited = λ none. both_stay (IsNotBegun course said events handed) (IsNotBegun later said events handed)
          (λ joined. IsAmidJoining course said events handed joined)
          (λ joined. IsAmidJoining later said events handed joined)
          later.joined (λ n. not_begun_as course later said events handed runs n)
          (λ joined amid. amid_as course later said events handed joined runs amid)
          (subst (λ (o : Option JoinedEvents). MatchOption o (IsNotBegun course said events handed)
          (λ joined. IsAmidJoining course said events handed joined)) (sym same)
          (so.audited (good_same course.companion.reader later.companion.reader (lines_of at.done) said so.edge line
          at.few at.read read none)));
    }

-- and what was found stays found
pub forgets_calm : (aim : AimView) (gave left : Option (List ℕ)) (course later : Course) (said : Said)
    (events : List Entry) (handed : List Claimed) (line : ℕ)
    (so : IsCourseOf aim gave left course said events handed) → line ≡ edge_of events
    → later.joined ≡ course.joined
    → ((lines : List (List ℕ)) (s : Said) (edge : ℕ) → HasReadCompanion course.companion.reader lines s edge
    → edge ≤ line → HasReadCompanion later.companion.reader lines s line)
    → IsCalm later → IsCalm course
forgets_calm aim gave left course later said events handed line so is same let_go =
    let at = so.stands in
    let up = subst (λ n. so.edge ≤ n) (sym is) so.passed in
    let read = let_go (lines_of at.done) said so.edge at.read up in
    calm_from course later
    (λ none. good_same course.companion.reader later.companion.reader (lines_of at.done) said so.edge line at.few
    at.read read none) (same_refusal course.joined later.joined same)

-- ---- a window

held_of : (edge : ℕ) (said held : Said) (start : CompanionView) → HoldsOf edge said held
    → IsHeld edge (with_all_said start said) held.claims held.nices held.charges
held_of edge said held start h = record {
  claims = record { gone = h.claims.gone; parts = h.claims.parts; passed = h.claims.passed };
  nices = record { gone = h.nices.gone; parts = h.nices.parts; passed = h.nices.passed };
  charges = record { gone = h.charges.gone; parts = h.charges.parts; passed = h.charges.passed };
}

pub amid_of : (aim : AimView) (gave left : Option (List ℕ)) (course : Course) (said : Said) (events : List Entry)
    (handed : List Claimed) (joined : JoinedEvents) → IsCourseOf aim gave left course said events handed
    → IsNone course.companion.reader.bad → course.joined ≡ Some joined
    → IsAmidJoining course said events handed joined
amid_of aim gave left course said events handed joined so none is =
    subst (λ (o : Option JoinedEvents). MatchOption o (IsNotBegun course said events handed)
    (λ j. IsAmidJoining course said events handed j)) is (so.audited none)

-- what the companion has said is in order, and what is held of it is what joining asks for
pub record AsksFor (course : Course) (said : Said) (events : List Entry) (joined : JoinedEvents)
    (start : CompanionView) : Type 0
  where
    pub companion : IsCompanionInOrder (with_all_said start said)
    pub held : IsHeld joined.joining.line (with_all_said start said) course.companion.reader.draft.claims
        course.companion.reader.draft.nices course.companion.reader.draft.charges

pub asks_for : (aim : AimView) (gave left : Option (List ℕ)) (course : Course) (said : Said) (events : List Entry)
    (handed : List Claimed) (joined : JoinedEvents) → IsCourseOf aim gave left course said events handed
    → IsNone course.companion.reader.bad
    → (amid : IsAmidJoining course said events handed joined) → AsksFor course said events joined amid.start
asks_for aim gave left course said events handed joined so none amid =
    let reader = course.companion.reader in
    let c = with_all_said amid.start said in
    let read = where_none _ reader.bad none so.stands.read in
    record {
      companion = said_in_order (lines_of so.stands.done) said amid.start read.good amid.starts;
      held = held_on so.edge joined.joining.line c reader.draft.claims reader.draft.nices reader.draft.charges
          (subst (λ n. so.edge ≤ n) (sym amid.so_far.joining.edge) so.passed)
          (held_of so.edge said reader.draft amid.start read.holds);
    }

-- a window's events come next
pub comes_next : (aim : AimView) (gave left : Option (List ℕ)) (course : Course) (said : Said)
    (before : List Entry) (handed : List Claimed) (events : List Entry) (joined : JoinedEvents)
    → IsCourseOf aim gave left course said before handed
    → AreEventsNext before events → IsNone course.companion.reader.bad
    → (amid : IsAmidJoining course said before handed joined)
    → Comes (with_all_said amid.start said) before handed events course.companion.reader.draft.claims
    course.companion.reader.draft.nices course.companion.reader.draft.charges joined
comes_next aim gave left course said before handed events joined so next none amid =
    let asks = asks_for aim gave left course said before handed joined so none amid in
    record {
      so_far = amid.so_far;
      next = record { companion = asks.companion; trace = next.in_order; few = next.few };
      held = asks.held;
    }

-- how far the events go, nothing more can be let go than before
still_passed : (edge : ℕ) (before events : List Entry) → AreEventsNext before events → edge ≤ edge_of before
    → edge ≤ edge_of (before ++ events)
still_passed edge before events next passed =
    let up = edge_rises before events next.in_order in omega (arith, up, passed)

-- they were joined
pub goes_through : (aim : AimView) (gave left : Option (List ℕ)) (course : Course) (said : Said)
    (before : List Entry) (handed : List Claimed) (events : List Entry) (joined new : JoinedEvents)
    (so : IsCourseOf aim gave left course said before handed)
    → AreEventsNext before events → IsPast (edge_of (before ++ events)) said course.companion
    → (amid : IsAmidJoining course said before handed joined)
    → AreJoinedSoFar (with_all_said amid.start said) (before ++ events) handed new
    → IsCourseOf aim gave left (record course { joined = Some new }) said (before ++ events) handed
goes_through aim gave left course said before handed events joined new so next past amid went = record {
  settings = so.settings;
  edge = so.edge;
  passed = still_passed so.edge before events next so.passed;
  stands = so.stands;
  audited = λ none. record {
    start = amid.start;
    starts = amid.starts;
    so_far = went;
    past = past none;
    trace = record { in_order = next.in_order; few = next.few };
  };
}

-- of a companion that is refused nothing is joined
pub bad_passes : (aim : AimView) (gave left : Option (List ℕ)) (course : Course) (said : Said)
    (before : List Entry) (handed : List Claimed) (events : List Entry)
    (so : IsCourseOf aim gave left course said before handed) → AreEventsNext before events
    → is_some course.companion.reader.bad ≡ true → IsCourseOf aim gave left course said (before ++ events) handed
bad_passes aim gave left course said before handed events so next bad = record {
  settings = so.settings;
  edge = so.edge;
  passed = still_passed so.edge before events next so.passed;
  stands = so.stands;
  audited = λ none. (let wrong = sym bad ∙ none in absurd cc);
}

none_past : (line : ℕ) (said : Said) (input : CompanionInput) → HasNoStart said → GoesPast line said input
    → input.goes_on ≡ false
none_past line said input no_start (inl ended) = ended
none_past line said input no_start (inr reached) =
    let wrong = sym (reached_begun said line reached) ∙ no_start.early in absurd cc

-- where joining hasn't begun nothing was handed on
none_handed : (aim : AimView) (gave left : Option (List ℕ)) (course : Course) (said : Said) (events : List Entry)
    (handed : List Claimed) → IsCourseOf aim gave left course said events handed → course.joined ≡ None
    → IsNone course.companion.reader.bad → handed ≡ []
none_handed aim gave left course said events handed so is none =
    (subst (λ (o : Option JoinedEvents). MatchOption o (IsNotBegun course said events handed)
    (λ j. IsAmidJoining course said events handed j)) is (so.audited none)).0

-- nor of one without a start
pub none_passes : (aim : AimView) (gave left : Option (List ℕ)) (course : Course) (said : Said)
    (before : List Entry) (handed : List Claimed) (events : List Entry)
    (so : IsCourseOf aim gave left course said before handed) → AreEventsNext before events
    → IsPast (edge_of (before ++ events)) said course.companion → course.joined ≡ None
    → (IsNone course.companion.reader.bad → HasNoStart said)
    → IsCourseOf aim gave left course said (before ++ events) handed
none_passes aim gave left course said before handed events so next past is no_start = record {
  settings = so.settings;
  edge = so.edge;
  passed = still_passed so.edge before events next so.passed;
  stands = so.stands;
  audited = λ none. subst (λ (o : Option JoinedEvents). MatchOption o
      (IsNotBegun course said (before ++ events) handed)
      (λ j. IsAmidJoining course said (before ++ events) handed j)) (sym is) (
        none_handed aim gave left course said before handed so is none,
        inr (none_past (edge_of (before ++ events)) said course.companion (no_start none) (past none), no_start none),
      );
}

-- what is held may be told in another way
pub comes_as : (c : CompanionView) (before : List Entry) (handed : List Claimed) (events : List Entry)
    (joined : JoinedEvents) (claims as_claims : List Claim)
    (nices as_nices : List NiceLine) (charges as_charges : List ChargeLine) → as_claims ≡ claims → as_nices ≡ nices
    → as_charges ≡ charges → Comes c before handed events claims nices charges joined
    → Comes c before handed events as_claims as_nices as_charges joined
comes_as c before handed events joined claims as_claims nices as_nices charges as_charges e f g comes =
    rw (e, f, g) comes

-- what a reader tells of the start
pub start_told : (bad : Option BadLine) (said : Said) (found : Option Companion) (start : Companion)
    → found ≡ Some start → MatchOption bad (TellsStart said found) (λ b. IsNone found) → IsNone bad
    → IsStartOf said (companion_view start)
start_told bad said found start is told none =
    subst (λ (o : Option Companion). TellsStart said o) is (where_none _ bad none told)

-- where a call comes back, what follows from what it promises holds
pub on_ok : {T E : Type 0} (A B : Type 0) (r : Result T E) → (A → B) → OnOk r A → OnOk r B
on_ok A B (Ok x) follows holds = follows holds
on_ok A B (Err x) follows holds = holds

-- the same, where it promises two things
pub on_both : {T E : Type 0} (A B C : Type 0) (r : Result T E) → (A → B → C) → OnOk r A → OnOk r B → OnOk r C
on_both A B C (Ok x) follows one other = follows one other
on_both A B C (Err x) follows one other = other

-- the companion was read past the events that come next
pub made_ready : (aim : AimView) (gave before left : Option (List ℕ)) (course later : Course) (said : Said)
    (front : List Entry) (handed : List Claimed) (events : List Entry)
    (so : IsCourseOf aim gave before course said front handed)
    → (0 < length events → AreEventsNext front events)
    → later.joined ≡ course.joined → later.aim ≡ course.aim
    → (on : SaysOn gave left course.companion later.companion said so.edge)
    → (0 < length events → IsPast (edge_of (front ++ events)) on.after later.companion)
    → IsReadyFor aim gave left later front handed events
made_ready aim gave before left course later said front handed events so next same settings on past = record {
  said = on.after;
  so_far = goes_with aim gave before left course later said front handed so same settings on;
  next = next;
  past = past;
}

-- what is let go leaves how far the companion was read
pub still_past : (aim : AimView) (gave left : Option (List ℕ)) (course later : Course) (said : Said)
    (events : List Entry) (handed : List Claimed) (line edge : ℕ)
    (so : IsCourseOf aim gave left course said events handed) → line ≡ edge_of events
    → later.companion.goes_on ≡ course.companion.goes_on
    → ((lines : List (List ℕ)) (s : Said) (e : ℕ) → HasReadCompanion course.companion.reader lines s e
    → e ≤ line → HasReadCompanion later.companion.reader lines s line)
    → IsPast edge said course.companion → IsPast edge said later.companion
still_past aim gave left course later said events handed line edge so is runs let_go past none =
    let at = so.stands in
    let up = subst (λ n. so.edge ≤ n) (sym is) so.passed in
    let read = let_go (lines_of at.done) said so.edge at.read up in
    past_as edge said course.companion later.companion runs
    (past (good_same course.companion.reader later.companion.reader (lines_of at.done) said so.edge line at.few at.read
    read none))

-- ---- the beginning

pub not_begun : (aim : AimView) (gave left : Option (List ℕ)) (course : Course)
    → IsCompanionAt gave left course.companion (summed []) 0 → course.aim ≡ aim → course.joined ≡ None
    → IsCourseOf aim gave left course (summed []) [] []
not_begun aim gave left course at settings is = record {
  settings = settings;
  edge = 0;
  passed = omega arith;
  stands = at;
  audited = λ none. subst (λ (o : Option JoinedEvents). MatchOption o (IsNotBegun course (summed []) [] [])
      (λ j. IsAmidJoining course (summed []) [] [] j)) (sym is) (refl, inl refl);
}

no_events : AreEventsNext [] []
no_events = record {
  in_order = record {
    from_one = λ k d within. absurd (omega (arith, within));
    lines_rise = λ i j d below within. absurd (omega (arith, within));
    never_falls = λ i j d below within. absurd (omega (arith, within));
    named = λ k d within. absurd (omega (arith, within));
  };
  few = λ k d within. absurd (omega (arith, within));
}

first_joined : (course : Course) (said : Said) (events : List Entry) (handed : List Claimed) (start : Companion)
    (joined : JoinedEvents) (lines : List (List ℕ)) → SaysLines (summed []) lines said
    → IsStartOf said (companion_view start) → GoesPast no_line said course.companion
    → ((c : CompanionView) → IsHeadOf (companion_view start) c → StandBehind no_line c
    → AreJoinedSoFar c [] [] joined)
    → IsNotBegun course said events handed → IsAmidJoining course said events handed joined
first_joined course said events handed start joined lines good of past made (empty, inl none) =
    let c = with_all_said (companion_view start) said in
    subst (λ (es : List Entry). IsAmidJoining course said es handed joined) (sym none)
    (subst (λ (cs : List Claimed). IsAmidJoining course said [] cs joined) (sym empty)
    (record {
      start = companion_view start;
      starts = of;
      so_far = made c (record { cpus = refl; start = refl; floors = refl; tasks = refl; idles = refl })
          (all_behind c (said_in_order lines said (companion_view start) good of));
      past = past;
      trace = no_events;
    }))
first_joined course said events handed start joined lines good of past made (empty, inr p) =
    let wrong = sym of.whole ∙ p.1.missing in absurd cc

-- joining begins with a start of which nothing more can be said
pub begins : (aim : AimView) (gave left : Option (List ℕ)) (course : Course) (said : Said) (events : List Entry)
    (handed : List Claimed) (start : Companion) (joined : JoinedEvents)
    (so : IsCourseOf aim gave left course said events handed)
    → IsPast no_line said course.companion → is_some course.joined ≡ false
    → (IsNone course.companion.reader.bad → IsStartOf said (companion_view start))
    → ((c : CompanionView) → IsHeadOf (companion_view start) c → StandBehind no_line c
    → AreJoinedSoFar c [] [] joined)
    → IsCourseOf aim gave left (record course { joined = Some joined }) said events handed
begins aim gave left course said events handed start joined so past is of made = record {
  settings = so.settings;
  edge = so.edge;
  passed = so.passed;
  stands = so.stands;
  audited = λ none. first_joined (record course { joined = Some joined }) said events handed start joined
      (lines_of so.stands.done) (where_none _ course.companion.reader.bad none so.stands.read).good (of none)
      (past none) made (where_none _ course.joined is (so.audited none));
}
