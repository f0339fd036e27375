use Rattle.text_parts.specs.Lines.{lines_of}
use Rattle.audit_input.proofs.Versions.{tells_at, tells_none}
use Rattle.audit_input.proofs.texts.tells_charges.Goals as goal

pub returns-in-Some : goal.returns-in-Some
returns-in-Some c = tells_at (lines_of c.args.companion.now) c.in-Some.version c.in-Some.ensures

pub returns-in-None : goal.returns-in-None
returns-in-None c = tells_none (lines_of c.args.companion.now) c.in-None.ensures
