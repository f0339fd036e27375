use Rattle.companion_file.proofs.EndedSpans.{still_spans}
use Rattle.companion_file.proofs.companion.Companion.end_span.Goals as goal

pub invariant_of-self : goal.invariant_of-self
invariant_of-self c = record {
  in_order = c.args.self.now.in_order;
  spans_told = rw c.end_at.ensures (still_spans c.args.self.now.idles c.args.self.now.spans c.args.index c.args.line
      c.args.self.now.spans_told);
}
