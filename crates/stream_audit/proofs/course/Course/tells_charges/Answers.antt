use Rattle.std.proofs.Common.{refl}
use Rattle.audit_input.proofs.Versions.{tells_at, tells_none}
use Rattle.text_parts.specs.Lines.{lines_of}
use Rattle.stream_audit.proofs.course.Course.tells_charges.Goals as goal

pub returns-in-Some : goal.returns-in-Some
returns-in-Some c = λ text done.
    let read = done.1 in
    tells_at (lines_of text) c.in-Some.version
    ((c.in-Some.ensures (lines_of text) read.0 read.1 read.2 c.in-Some.version).0 refl)

pub returns-in-None : goal.returns-in-None
returns-in-None c = λ text done.
    let read = done.1 in
    tells_none (lines_of text)
    (λ version a. (let e = (c.in-None.ensures (lines_of text) read.0 read.1 read.2 version).1 a in absurd cc))
