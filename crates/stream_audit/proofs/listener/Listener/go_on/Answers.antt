use Rattle.std.proofs.Common.{◌∙◌, sym, subst}
use Rattle.input_blocks.specs.Blocks.{IsThen}
use Rattle.input_blocks.specs.OfEntries.{ReadsEntries}
use Rattle.input_blocks.specs.declared.line_blocks.LineBlocks.{LineBlocks}
use Rattle.stream_audit.specs.Companion.{IsFedBy}
use Rattle.stream_audit.specs.Course.{AreJudged}
use Rattle.stream_audit.specs.declared.course.Course.{Course}
use Rattle.stream_audit.proofs.Calm.{calm_told, known_stays}
use Rattle.stream_audit.proofs.UnderWay.{coming_of, of_err, of_ok, on_ok_of, told_as}
use Rattle.stream_audit.proofs.listener.Listener.go_on.Goals as goal

pub judge_and_come-judged-requires-clause-judged : goal.judge_and_come-judged-requires-clause-judged
judge_and_come-judged-requires-clause-judged g c κs within = λ told.
    let under = c.requires.under_way.3 in
    (c.args.self.now.intake.course, under.handed, c.is_calm-calm.ensures.calm told, under.judged)

pub judge_and_come-judged-requires-clause-coming : goal.judge_and_come-judged-requires-clause-coming
judge_and_come-judged-requires-clause-coming g c κs within =
    let under = c.requires.under_way in (
      under.0,
      under.1,
      under.2,
      under.3.handed,
      coming_of under.0 under.1 _ under.2 _ c.args.self.now under.3,
    )

pub returns-in_err-goes_on-clause-reads : goal.returns-in_err-goes_on-clause-reads
returns-in_err-goes_on-clause-reads g c =
    told_as _ c.from_residual.result _ c.from_residual.ensures.1
    (of_err _ _ _ c.in_err-goes_on.was c.judge_and_come-judged.ensures.reads)

pub hand_on-requires-clause-calm : goal.hand_on-requires-clause-calm
hand_on-requires-clause-calm g c κs within = λ off now.
    let under = c.requires.under_way in
    let came = of_ok _ _ _ c.in_ok-goes_on.was
    (c.judge_and_come-judged.ensures.came under.0 under.1 under.2 under.3.handed
    (coming_of under.0 under.1 _ under.2 _ c.args.self.now under.3)) in
    c.is_calm-calm.ensures.found off (came.calm now)

pub hand_on-requires-clause-next : goal.hand_on-requires-clause-next
hand_on-requires-clause-next g c κs within =
    on_ok_of _ _ _ c.in_ok-goes_on.was c.judge_and_come-judged.ensures.next

pub hand_on-requires-clause-ready : goal.hand_on-requires-clause-ready
hand_on-requires-clause-ready g c κs within =
    let under = c.requires.under_way in
    let old = c.args.self.now.intake.course in
    let handed = under.3.handed in
    let both = c.judge_and_come-judged in
    let came = of_ok _ _ _ c.in_ok-goes_on.was
    (both.ensures.came under.0 under.1 under.2 handed
    (coming_of under.0 under.1 _ under.2 _ c.args.self.now under.3)) in
    let known = on_ok_of _ _ _ c.in_ok-judged.was
    (both.ensures.judged old handed (calm_told _ c.is_calm-calm.result c.is_calm-calm.ensures.found)
    under.3.judged) in (
      under.0,
      under.2,
      _,
      came.bytes,
      handed,
      came.ready,
      known_stays old both.new.intake.course handed both.new.judge came.same_knobs came.calm came.starts known,
    )

pub returns-clause-under_way : goal.returns-clause-under_way
returns-clause-under_way g c = λ aim trace_gave gave under.
    let old = c.args.self.now.intake.course in
    let handed = under.handed in
    let both = c.judge_and_come-judged in
    let came = of_ok _ _ _ c.in_ok-goes_on.was
    (both.ensures.came aim trace_gave gave handed (coming_of aim trace_gave _ gave _ c.args.self.now under)) in
    let known = on_ok_of _ _ _ c.in_ok-judged.was
    (both.ensures.judged old handed (calm_told _ c.is_calm-calm.result c.is_calm-calm.ensures.found)
    under.judged) in
    let on = c.in_ok-hand_on.ensures in
    let heard = on.heard aim gave (g.C.Feed.left both.new.companion) came.bytes handed came.ready
    (known_stays old both.new.intake.course handed both.new.judge came.same_knobs came.calm came.starts known) in
    let taken = c.take_next.ensures in
    record {
      bytes = came.bytes;
      stands = subst (λ (b : LineBlocks). IsThen ReadsEntries trace_gave (g.T.Feed.left both.new.trace) b came.bytes
          c.in_ok-goes_on.goes_on) (sym (taken.blocks ∙ on.blocks)) came.stands;
      handed = heard.handed;
      pending = taken.pending aim gave (g.C.Feed.left both.new.companion) came.bytes heard.handed heard.by;
      judged = subst (λ (course : Course). AreJudged course heard.handed c.hand_on.new.self.judge) (sym taken.course)
          heard.judged;
    }

pub returns-clause-fed : goal.returns-clause-fed
returns-clause-fed g c =
    let feed = g.C.Feed in
    let companion = c.judge_and_come-judged.new.companion in
    subst (λ (course : Course). IsFedBy (feed.calls companion) (feed.has_ended companion) (feed.has_failed companion)
    course.companion) (sym c.take_next.ensures.course)
    (c.hand_on.ensures.fed _ _ _ (on_ok_of _ _ _ c.in_ok-goes_on.was c.judge_and_come-judged.ensures.fed))
