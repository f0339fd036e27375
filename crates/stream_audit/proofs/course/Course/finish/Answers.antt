use Rattle.std.proofs.Common.{◌≡◌, false, [], Option, ap, inl, sym, subst}
use Rattle.std.specs.Prelude.{IsNone, MatchOption, is_some}
use Rattle.companion_file.specs.Reader.{with_all_said}
use Rattle.least_places.specs.Finding.{IsFinding}
use Rattle.sched_record.specs.Join.{RecordAnswer, joined_record}
use Rattle.sched_record.specs.Window.{window_view}
use Rattle.sched_record.specs.declared.joining.JoinFault.{JoinFault}
use Rattle.window_joining.specs.Joining.{is_refused, joined_answer}
use Rattle.stream_audit.specs.Course.{IsCalm}
use Rattle.stream_audit.specs.Judge.{IsAwaiting, begun}
use Rattle.stream_audit.specs.declared.companion_input.CompanionInput.{CompanionInput}
use Rattle.stream_audit.specs.declared.joined_events.JoinedEvents.{JoinedEvents}
use Rattle.stream_audit.specs.Aim.{AimView}
use Rattle.stream_audit.proofs.Calm.{at_some, begun_refusal, begun_start, calm_from, judged_stays}
use Rattle.stream_audit.proofs.Joined.{at_end}
use Rattle.stream_audit.proofs.Closed.{ends_begun, ends_good, ends_so, last_as}
use Rattle.stream_audit.proofs.course.Course.finish.Goals as goal

pub finish-apart-requires : goal.finish-apart-requires
finish-apart-requires c =
    let events = c.requires.1 in
    let w = c.requires.2 in
    let course = c.begin.new.self in
    let draft = course.companion.reader.draft in
    let joined = c.in-Some.joined in
    let end = ends_so c.args.self.now.aim c.args.self.now course c.requires.0 events c.args.judge joined w
    c.in_default.ensures
    (c.in_ok-begin.ensures.stays w.gave w.left w.said events w.handed w.so_far (λ none. inl w.ended))
    c.in_ok-begin.ensures.companion c.in-Some.is in
    let of = with_all_said end.start end.said in (
      of,
      events,
      w.handed,
      last_as of events w.handed joined draft.claims _ draft.nices _ draft.charges _ c.claims.ensures c.nices.ensures
          c.charges.ensures end.last,
    )

pub unreachable-requires : goal.unreachable-requires
unreachable-requires c =
    let events = c.requires.1 in
    let w = c.requires.2 in
    let self = c.args.self.now in
    let good = ends_good self.aim self c.requires.0 events c.args.judge w c.in_default.ensures in
    ends_begun self.aim self c.requires.0 events c.args.judge w c.in_default.ensures
    (c.in_ok-begin.ensures.begun w.gave w.left w.said events w.handed w.so_far
    (subst (λ (input : CompanionInput). is_some input.reader.bad ≡ false) (sym c.in_ok-begin.ensures.companion) good)
    (ap (λ (o : Option JoinedEvents). is_some o) c.in-None.is))

pub returns-in-Some-apart : goal.returns-in-Some-apart
returns-in-Some-apart c = λ text events w.
    let course = c.begin.new.self in
    let draft = course.companion.reader.draft in
    let joined = c.in-Some.joined in
    let end = ends_so c.args.self.now.aim c.args.self.now course text events c.args.judge joined w
    c.in_default.ensures
    (c.in_ok-begin.ensures.stays w.gave w.left w.said events w.handed w.so_far (λ none. inl w.ended))
    c.in_ok-begin.ensures.companion c.in-Some.is in
    let of = with_all_said end.start end.said in (
      of,
      end.answer,
      subst (λ (found : Option JoinFault). RecordAnswer events of (joined_answer events of found)) c.in-Some-apart.is
          (c.finish-apart.ensures.answered of events w.handed
          (last_as of events w.handed joined draft.claims _ draft.nices _ draft.charges _ c.claims.ensures
          c.nices.ensures c.charges.ensures end.last)),
    )

pub finding_of-requires : goal.finding_of-requires
finding_of-requires c =
    let events = c.requires.1 in
    let w = c.requires.2 in
    let first = c.args.self.now in
    let course = c.begin.new.self in
    let draft = course.companion.reader.draft in
    let joined = c.in-Some.joined in
    let b = c.in_ok-begin.ensures in
    let end = ends_so first.aim first course c.requires.0 events c.args.judge joined w c.in_default.ensures
    (b.stays w.gave w.left w.said events w.handed w.so_far (λ none. inl w.ended)) b.companion c.in-Some.is in
    let of = with_all_said end.start end.said in
    let calm : is_refused joined.joining ≡ false = c.finish-apart.ensures.calm c.in_default-apart.is in
    let still : IsCalm course = (
      end.good,
      subst (λ (o : Option JoinedEvents). MatchOption o (Unit {0}) (λ j. is_refused j.joining ≡ false))
          (sym c.in-Some.is) calm,
    ) in
    let settled = judged_stays first course w.handed c.args.judge b.aim
    (calm_from first course (subst (λ (input : CompanionInput). IsNone input.reader.bad) b.companion)
    (begun_refusal first.joined course.joined b.same)) (begun_start first.joined course.joined b.same) w.judged still in
    let awaiting = at_some _ (λ from. MatchOption c.args.judge (w.handed ≡ [])
    (λ j. IsAwaiting (begun course.aim from.start) w.handed j)) course.joined joined c.in-Some.is settled in
    let all = at_end of events w.handed draft.claims draft.nices draft.charges joined course.aim
    c.in_ok-judge-in-Some.judge end.last (c.together.ensures joined.joining of events end.last.so_far.joining calm)
    (c.in_ok-judge-in-Some.ensures w.handed w.idle awaiting)
    (at_some (Unit {0}) (λ j. window_view j.window ≡ []) course.joined joined c.in-Some.is (b.handed_on w.handed_on)) in
    (joined_record events of, all)

pub returns : goal.returns
returns c = λ text events w.
    let first = c.args.self.now in
    let course = c.begin.new.self in
    let draft = course.companion.reader.draft in
    let joined = c.in-Some.joined in
    let b = c.in_ok-begin.ensures in
    let end = ends_so first.aim first course text events c.args.judge joined w c.in_default.ensures
    (b.stays w.gave w.left w.said events w.handed w.so_far (λ none. inl w.ended)) b.companion c.in-Some.is in
    let of = with_all_said end.start end.said in
    let calm : is_refused joined.joining ≡ false = c.finish-apart.ensures.calm c.in_default-apart.is in
    let still : IsCalm course = (
      end.good,
      subst (λ (o : Option JoinedEvents). MatchOption o (Unit {0}) (λ j. is_refused j.joining ≡ false))
          (sym c.in-Some.is) calm,
    ) in
    let settled = judged_stays first course w.handed c.args.judge b.aim
    (calm_from first course (subst (λ (input : CompanionInput). IsNone input.reader.bad) b.companion)
    (begun_refusal first.joined course.joined b.same)) (begun_start first.joined course.joined b.same) w.judged still in
    let awaiting = at_some _ (λ from. MatchOption c.args.judge (w.handed ≡ [])
    (λ j. IsAwaiting (begun course.aim from.start) w.handed j)) course.joined joined c.in-Some.is settled in
    let all = at_end of events w.handed draft.claims draft.nices draft.charges joined course.aim
    c.in_ok-judge-in-Some.judge end.last (c.together.ensures joined.joining of events end.last.so_far.joining calm)
    (c.in_ok-judge-in-Some.ensures w.handed w.idle awaiting)
    (at_some (Unit {0}) (λ j. window_view j.window ≡ []) course.joined joined c.in-Some.is
    (b.handed_on w.handed_on)) in (
      of,
      end.answer,
      (
        subst (λ (found : Option JoinFault). RecordAnswer events of (joined_answer events of found))
            c.in_default-apart.is
            (c.finish-apart.ensures.answered of events w.handed
            (last_as of events w.handed joined draft.claims _ draft.nices _ draft.charges _ c.claims.ensures
            c.nices.ensures c.charges.ensures end.last)),
        subst (λ (a : AimView). IsFinding a.least a.knobs (joined_record events of) c.finding_of.result)
            b.aim
            (c.finding_of.ensures (joined_record events of) all),
      ),
    )
