use Rattle.std.proofs.Common.{length, ap, ◌∙◌, arith}
use Rattle.companion_file.proofs.EndedSpans.{ended_length}
use Rattle.sched_record.proofs.SpanEnds.{forgotten_more}
use Rattle.sched_record.proofs.ending.forget_ends.Goals as goal

pub loop-index-preserved : goal.loop-index-preserved
loop-index-preserved c =
    let i = c.loop-index.invariant in
    let within = c.loop-index-test.true in
    let count = i.count in
    let size = ap length c.spans-index-end.ensures in
    record {
      count = ap length c.end_span.ensures.spans ∙ ended_length _ _ _ ∙ count;
      forgotten = forgotten_more _ _ c.loop-index.index c.end_span.ensures.spans (omega (arith, within, count, size))
          i.forgotten;
      others = c.end_span.ensures.others ∙ i.others;
    }
