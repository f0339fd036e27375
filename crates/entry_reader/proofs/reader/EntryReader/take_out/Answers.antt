use Rattle.std.proofs.Common.{ap, ◌∙◌}
use Rattle.sched_record.specs.Trace.{IsFirstBadTraceLine}
use Rattle.entry_reader.proofs.Reading.{emptied}
use Rattle.sched_record.proofs.Settled.{both_ways}
use Rattle.entry_reader.proofs.reader.EntryReader.take_out.Goals as goal

pub returns-clause-given : goal.returns-clause-given
returns-clause-given c lines given read =
    let before = c.args.self.now in
    both_ways (λ bad. IsFirstBadTraceLine lines bad.line bad.cause)
    (λ bad. IsFirstBadTraceLine lines bad.line bad.cause) before.bad
    (λ is.
    let more = emptied lines before.count before.last given before.entries.items _
    (ap (λ list. list.items) c.swap.ensures.x_after ∙ c.clear.ensures.items)
    (record { read = is.read; kept = is.kept }) in
    record { read = more.read; kept = more.kept })
    (λ bad is. is) read
