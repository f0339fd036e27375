-- What was joined is handed on.
use Rattle.std.proofs.Common.{◌≡◌, ℕ, false, List, [], ◌++◌, Option, Some, sym, ap, subst, ◌∙◌, append-nil}
use Rattle.std.specs.Prelude.{MatchOption}
use Rattle.cfs_model.specs.Claimed.{Claimed}
use Rattle.stream_audit.specs.Aim.{AimView}
use Rattle.cfs_model.specs.declared.act.Entry.{Entry}
use Rattle.companion_file.specs.Companion.{CompanionView}
use Rattle.companion_file.specs.Earlier.{Said}
use Rattle.companion_file.specs.Reader.{with_all_said}
use Rattle.companion_file.specs.Seen.{companion_view}
use Rattle.companion_file.specs.declared.companion.Companion.{Companion}
use Rattle.sched_record.specs.Window.{window_view}
use Rattle.window_joining.specs.Joining.{GoTogetherSoFar, HasJoined, IsHeadOf, is_refused}
use Rattle.window_joining.specs.declared.joining.Joining.{Joining}
use Rattle.stream_audit.proofs.Going.{amid_of, asks_for}
use Rattle.stream_audit.proofs.Joined.{awaits}
use Rattle.stream_audit.specs.Course.{AreJudged, IsAmidJoining, IsCalm, IsCourseOf}
use Rattle.stream_audit.specs.Judge.{IsAwaiting, begun}
use Rattle.stream_audit.specs.declared.course.Course.{Course}
use Rattle.stream_audit.specs.declared.joined_events.JoinedEvents.{JoinedEvents}
use Rattle.stream_audit.specs.declared.judge.Judge.{Judge}

-- a law of joining: events of which nothing is refused go together with the companion
abbrev pub Together : Type 0
Together = (joining : Joining) (c : CompanionView) (events : List Entry) → HasJoined joining c events
    → is_refused joining ≡ false → GoTogetherSoFar events c

module _ (aim : AimView) (gave left : Option (List ℕ)) (course : Course) (said : Said) (events : List Entry)
    (handed : List Claimed) (joined new : JoinedEvents) (so : IsCourseOf aim gave left course said events handed)
    (is : course.joined ≡ Some joined) (starts : new.start ≡ joined.start) (joining : new.joining ≡ joined.joining)
    (emptied : window_view new.window ≡ []) where
  abbrev pub later : Course
  later = record course { joined = Some new }

  abbrev pub after : List Claimed
  after = handed ++ window_view joined.window

  amid_after : IsAmidJoining course said events handed joined → IsAmidJoining later said events after new
  amid_after amid = record {
    start = amid.start;
    starts = amid.starts;
    so_far = record {
      head = subst (λ (s : Companion). IsHeadOf (companion_view s) (with_all_said amid.start said)) (sym starts)
          amid.so_far.head;
      joining = subst (λ (j : Joining). HasJoined j (with_all_said amid.start said) events) (sym joining)
          amid.so_far.joining;
      window = ap (λ (w : List Claimed). after ++ w) emptied ∙ append-nil after ∙ amid.so_far.window;
    };
    past = amid.past;
    trace = amid.trace;
  }

  pub course_after : IsCourseOf aim gave left later said events after
  course_after = record {
    settings = so.settings;
    edge = so.edge;
    passed = so.passed;
    stands = so.stands;
    audited = λ none. amid_after (amid_of aim gave left course said events handed joined so none is);
  }

  calm_before : IsCalm later → IsCalm course
  calm_before calm = (
    calm.0,
    subst (λ (o : Option JoinedEvents). MatchOption o (Unit {0}) (λ j. is_refused j.joining ≡ false)) (sym is)
        (subst (λ (j : Joining). is_refused j ≡ false) joining calm.1),
  )

  pub judged_after : Together → (old now : Judge) → now.progress ≡ old.progress
      → window_view now.window ≡ window_view joined.window → window_view old.window ≡ []
      → (IsCalm course → IsAwaiting (begun course.aim joined.start) handed old)
      → AreJudged later after (Some now)
  judged_after together old now same given none awaiting = λ calm.
      let before = calm_before calm in
      let amid = amid_of aim gave left course said events handed joined so before.0 is in
      let c = with_all_said amid.start said in
      let asks = asks_for aim gave left course said events handed joined so before.0 amid in
      let refused : is_refused joined.joining ≡ false =
      subst (λ (j : Joining). is_refused j ≡ false) joining calm.1 in
      subst (λ (s : Companion). IsAwaiting (begun course.aim s) after now) (sym starts)
      (awaits c events handed joined course.aim old now asks.companion amid.trace.in_order amid.trace.few
      (together joined.joining c events amid.so_far.joining refused) amid.so_far (awaiting before) none given same)
