use Rattle.std.proofs.Common.{rules, ◌≡◌, ◌<◌, length}
use Rattle.recording_audit.proofs.Events.{all_events, one_more}
use Rattle.recording_audit.proofs.scanning.event_count.Goals as goal

pub loop-rest-preserved-then-is_event : goal.loop-rest-preserved-then-is_event
loop-rest-preserved-then-is_event c =
    let rest = c.loop-rest.rest.now in
    let some : 0 < length rest = search rules in
    record {
      whole = λ left have. one_more c.args.text.now rest c.next_line.result.1.now c.next_line.result.0.now
          c.loop-rest.count left c.loop-rest.invariant.whole (c.next_line.ensures.lines some)
          (c.is_event.ensures.0 c.if-is_event.true) have;
      within = search rules;
    }

pub returns : goal.returns
returns c =
    let none : length c.loop-rest.rest.now ≡ 0 = search rules in
    all_events c.args.text.now c.loop-rest.rest.now c.loop-rest.count c.loop-rest.invariant.whole none
