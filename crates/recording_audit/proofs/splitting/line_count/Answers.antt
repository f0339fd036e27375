use Rattle.std.proofs.Common.{length, sym, ◌∙◌}
use Rattle.std.proofs.lemmas.Bool.{eqb-true}
use Rattle.text_parts.specs.Lines.{lines_of}
use Rattle.recording_audit.proofs.Splits.{all_counted}
use Rattle.recording_audit.proofs.splitting.line_count.Goals as goal

pub returns-clause-count : goal.returns-clause-count
returns-clause-count c =
    all_counted c.loop-rest.count (length (lines_of c.args.text.now)) c.loop-rest.rest.now c.loop-rest.invariant.counted
    (eqb-true (length c.loop-rest.rest.now) 0 (sym c.is_empty.ensures ∙ c.loop-rest-test.false))
