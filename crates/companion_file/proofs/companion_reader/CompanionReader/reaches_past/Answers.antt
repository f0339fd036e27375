use Rattle.std.proofs.Common.{sym, ◌∙◌}
use Rattle.companion_file.proofs.Holding.{alike, reached_alike}
use Rattle.companion_file.proofs.Reader.{where_none}
use Rattle.companion_file.proofs.companion_reader.CompanionReader.reaches_past.Goals as goal

pub returns-else-is_bad : goal.returns-else-is_bad
returns-else-is_bad c lines said edge read =
    let reader = c.args.self.now in
    let none = sym c.is_bad.ensures ∙ c.if-is_bad.false in
    let so = where_none _ reader.bad none read in
    rw none (c.reaches_past.ensures ∙ sym (reached_alike said reader.draft c.args.line (alike edge said reader.draft
    so.holds)))
