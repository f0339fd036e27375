use Rattle.std.proofs.Common.{sym, ◌∙◌}
use Rattle.recording_audit.proofs.Starts.{start_line}
use Rattle.recording_audit.proofs.scanning.is_start.Goals as goal

pub returns-then-begins_with : goal.returns-then-begins_with
returns-then-begins_with c =
    λ ends. start_line c.args.line.now (sym c.begins_with.ensures ∙ c.if-begins_with.true)
    (sym c.ends_with.ensures.value ∙ ends)
