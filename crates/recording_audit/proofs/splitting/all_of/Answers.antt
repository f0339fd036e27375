use Rattle.std.proofs.Common.{length, ◌∙◌, arith}
use Rattle.std.proofs.lemmas.List.{drop_all, take_all}
use Rattle.recording_audit.proofs.Splits.{split_all}
use Rattle.recording_audit.proofs.splitting.all_of.Goals as goal

pub returns : goal.returns
returns c =
    let text = c.args.text.now in
    split_all text c.split_at.result.0.now c.split_at.result.1.now
    (c.split_at.ensures.front ∙ take_all (length text) text (omega arith))
    (c.split_at.ensures.back ∙ drop_all (length text) text (omega arith)) c.requires
