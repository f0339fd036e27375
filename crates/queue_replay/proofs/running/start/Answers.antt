use Rattle.std.proofs.Common.{◌∙◌, sym, ap, subst, length, arith}
use Rattle.std.proofs.lemmas.Bool.{eqb-true, eqb-false}
use Rattle.queue_replay.specs.Made.{IsAt}
use Rattle.queue_replay.proofs.Replays.{reached_start, at_middle, at_end}
use Rattle.queue_replay.proofs.running.start.Goals as goal
use Rattle.queue_replay.proofs.running.start.Goals.{then-is_empty, else-is_empty}
use Rattle.processor_stream.specs.Stream.{stream_view}

pub returns-clause-at : goal.returns-clause-at
returns-clause-at c =
    let s = stream_view c.args.stream.now in
    let first = c.in_ok-state.state in
    let e = c.in_ok-state.ensures in
    let r = reached_start s c.args.knobs first e.made e.start e.going e.needs in
    let n = ap length c.steps.ensures in
    elim c.if-is_empty.branch [
      | then-is_empty w ↦
          let z = eqb-true (length c.steps.result.now) 0 (sym c.is_empty.ensures ∙ w.if-is_empty.true) in
          subst (IsAt s c.args.knobs) (sym w.state-is)
          (at_end s c.args.knobs first w.end_test.new.state r (e.made ∙ sym z
          ∙ n) w.end_test.ensures.made w.end_test.ensures.part w.end_test.ensures.since w.end_test.ensures.page
          w.end_test.ensures.needs)
      | else-is_empty w ↦
          let z = eqb-false (length c.steps.result.now) 0 (sym c.is_empty.ensures ∙ w.if-is_empty.false) in
          subst (IsAt s c.args.knobs) (sym w.state-is)
          (at_middle s c.args.knobs first r (let m = e.made in omega (arith, z, n)))
    ]
