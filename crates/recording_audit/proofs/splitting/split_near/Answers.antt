use Rattle.std.proofs.Common.{arith}
use Rattle.recording_audit.proofs.Splits.{split_whole}
use Rattle.recording_audit.proofs.splitting.split_near.Goals as goal

pub returns : goal.returns
returns c =
    split_whole c.lines_after_whole.ensures c.args.text.now c.split_at.result.0.now c.split_at.result.1.now c.args.end
    c.whole_lines-whole.result c.whole_lines-whole.ensures.within c.whole_lines-whole.ensures.whole
    c.split_at.ensures.front c.split_at.ensures.back (omega (arith, c.if-whole-eq0.false))
