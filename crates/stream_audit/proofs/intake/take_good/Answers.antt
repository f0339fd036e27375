use Rattle.std.proofs.Common.{◌++◌, List, length, sym, ap, subst, ◌∙◌, append-nil, arith}
use Rattle.cfs_model.specs.declared.act.Entry.{Entry}
use Rattle.entry_reader.specs.Reader.{HasReadOut}
use Rattle.stream_audit.specs.Course.{AreEventsNext}
use Rattle.stream_audit.proofs.Heard.{bad_by, events_next, good_by, read_out}
use Rattle.stream_audit.proofs.intake.take_good.Goals as goal

pub returns-then-is_good-clause-given : goal.returns-then-is_good-clause-given
returns-then-is_good-clause-given c = λ lines given read.
    subst (λ (es : List Entry). HasReadOut c.take_out.new.self lines (given ++ es)) (sym c.take_out.ensures.taken)
    (c.take_out.ensures.given lines given read)

pub returns-then-is_good-clause-next : goal.returns-then-is_good-clause-next
returns-then-is_good-clause-next c = λ lines given read some.
    let reader = c.args.reader.now in
    let good = good_by reader c.is_good.result c.is_good.ensures c.if-is_good.true in
    subst (AreEventsNext given) (sym c.take_out.ensures.taken)
    (events_next reader lines given (read_out reader lines given good read))

pub returns-else-is_good-clause-given : goal.returns-else-is_good-clause-given
returns-else-is_good-clause-given c = λ lines given read.
    subst (λ (es : List Entry). HasReadOut c.args.reader.now lines es)
    (sym (append-nil given) ∙ ap (λ es. given ++ es) (sym c.clear.ensures.items)) read

pub returns-else-is_good-clause-next : goal.returns-else-is_good-clause-next
returns-else-is_good-clause-next c = λ lines given read some.
    let none = ap (λ (es : List Entry). length es) c.clear.ensures.items in absurd (omega (arith, none, some))

pub returns-else-is_good-clause-taken : goal.returns-else-is_good-clause-taken
returns-else-is_good-clause-taken c = λ none.
    absurd (bad_by c.args.reader.now c.is_good.result c.is_good.ensures c.if-is_good.false none)
