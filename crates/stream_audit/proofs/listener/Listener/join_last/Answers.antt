use Rattle.stream_audit.proofs.Calm.{calm_told, known_stays}
use Rattle.stream_audit.proofs.listener.Listener.join_last.Goals as goal

pub judge_waiting-requires-after_bounds : goal.judge_waiting-requires-after_bounds
judge_waiting-requires-after_bounds g c κs within = λ told.
    let p = c.requires.pending in
    (c.args.self.now.intake.course, p.3, c.is_calm-calm.ensures.calm told, p.5)

pub hand_on-requires-clause-calm : goal.hand_on-requires-clause-calm
hand_on-requires-clause-calm g c κs within = λ off now.
    let p = c.requires.pending in
    c.is_calm-calm.ensures.found off ((c.in_ok-join_last.ensures.ready p.0 p.1 p.2 p.3 p.4).1 now)

pub hand_on-requires-clause-ready : goal.hand_on-requires-clause-ready
hand_on-requires-clause-ready g c κs within =
    let p = c.requires.pending in
    let old = c.args.self.now.intake.course in
    let joined = c.in_ok-join_last.ensures in
    let ready = joined.ready p.0 p.1 p.2 p.3 p.4 in (
      p.0,
      p.1,
      _,
      p.2,
      p.3,
      ready.0,
      known_stays old c.join_last.new.self.course p.3 c.judge_waiting.new.judge joined.aim ready.1 joined.starts
          (c.in_ok-judge_waiting.ensures old p.3
          (calm_told _ c.is_calm-calm.result c.is_calm-calm.ensures.found) p.5),
    )

pub returns-clause-heard : goal.returns-clause-heard
returns-clause-heard g c = λ aim gave bytes handed pending judged.
    let old = c.args.self.now.intake.course in
    let joined = c.in_ok-join_last.ensures in
    let ready = joined.ready aim gave bytes handed pending in
    c.in_ok-hand_on.ensures.heard aim gave _ bytes handed ready.0
    (known_stays old c.join_last.new.self.course handed c.judge_waiting.new.judge joined.aim ready.1 joined.starts
    (c.in_ok-judge_waiting.ensures old handed
    (calm_told _ c.is_calm-calm.result c.is_calm-calm.ensures.found) judged))

pub returns-clause-fed : goal.returns-clause-fed
returns-clause-fed g c = c.in_ok-hand_on.ensures.fed _ _ _ c.in_ok-join_last.ensures.fed
