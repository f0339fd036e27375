-- Behind lines of which none is bad, one more is passed over, adds its event, or is the first bad one.
use Rattle.std.proofs.Common.{◌+◌, ◌++◌, ◌∷◌, [], ap, sym, subst, ◌∙◌}
use Rattle.sched_record.specs.ReadLines.{AreKept, AreRead}
use Rattle.sched_record.specs.Said.{LineSays}
use Rattle.sched_record.proofs.Lines.{turns_back, refuses}
use Rattle.sched_record.proofs.Reader.{where_none, as_none, as_told}
use Rattle.entry_reader.proofs.Reading.{on_event, on_nothing}
use Rattle.entry_reader.proofs.reader.EntryReader.take.Goals as goal

pub returns-in-Ok-None-clause-read : goal.returns-in-Ok-None-clause-read
returns-in-Ok-None-clause-read c lines line given says read =
    let before = c.args.self.now in
    let is = where_none _ before.bad c.requires.good read in
    let more = on_nothing lines before.count before.last _ line (record { read = is.read; kept = is.kept })
    (as_told (before.count + 1) line c.in-Ok-None.field-0-is
    (subst (LineSays (before.count + 1) line) c.in-Ok-None.is says)) in
    as_none _ before.bad c.requires.good (record { read = more.read; kept = more.kept })

pub returns-then-time-self-clause-read : goal.returns-then-time-self-clause-read
returns-then-time-self-clause-read c lines line given says read =
    turns_back line c.in-Ok-Some.entry (where_none _ c.args.self.now.bad c.requires.good read).read
    (as_told (c.args.self.now.count + 1) line c.in-Ok-Some.field-0-is
    (subst (LineSays (c.args.self.now.count + 1) line) c.in-Ok-Some.is says)) c.if-time-self.true

pub returns-in_ok-reserve-in-Ok-Some-clause-read : goal.returns-in_ok-reserve-in-Ok-Some-clause-read
returns-in_ok-reserve-in-Ok-Some-clause-read c lines line given says read =
    let before = c.args.self.now in
    let is = where_none _ before.bad c.requires.good read in
    let more = on_event lines before.count before.last given before.entries.items line c.in-Ok-Some.entry
    (record { read = is.read; kept = is.kept })
    (as_told (before.count + 1) line c.in-Ok-Some.field-0-is
    (subst (LineSays (before.count + 1) line) c.in-Ok-Some.is says)) c.if-time-self.false in
    let pushed = sym (c.push_reserved.ensures.items
    ∙ ap (λ es. es ++ c.in-Ok-Some.entry ∷ []) c.in_ok-reserve-in-Ok-Some.ensures.items) in
    as_none _ before.bad c.requires.good (record {
      read = subst (λ es. AreRead (lines ++ line ∷ []) (before.count + 1) c.in-Ok-Some.entry.time (given ++ es)) pushed
          more.read;
      kept = subst (λ es. AreKept (given ++ es) (before.count + 1) c.in-Ok-Some.entry.time) pushed more.kept;
    })

pub returns-in-Err-clause-read : goal.returns-in-Err-clause-read
returns-in-Err-clause-read c lines line given says read =
    refuses line c.in-Err.cause (where_none _ c.args.self.now.bad c.requires.good read).read
    (subst (LineSays (c.args.self.now.count + 1) line) c.in-Err.is says)
