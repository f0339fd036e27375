-- Behind lines of which none is bad, one more is passed over, adds its event, or is the first bad one.
use Rattle.std.proofs.Common.{rules, ◌+◌, length, ap, subst, arith}
use Rattle.std.proofs.lemmas.List.{length_push}
use Rattle.sched_record.specs.Said.{LineSays}
use Rattle.sched_record.proofs.Lines.{passes_over, adds, turns_back, refuses}
use Rattle.sched_record.proofs.Order.{keeps_event}
use Rattle.sched_record.proofs.Indexing.{indexed_more}
use Rattle.sched_record.proofs.Reader.{where_none, as_none, as_told}
use Rattle.sched_record.proofs.trace_reader.TraceReader.take.Goals as goal

pub invariant_of-self-else-time-self : goal.invariant_of-self-else-time-self
invariant_of-self-else-time-self c =
    let before = c.args.self.now in
    let line = c.requires.says.0 in
    let says = as_told (before.count + 1) line c.in-Ok-Some.field-0-is
    (subst (LineSays (before.count + 1) line) c.in-Ok-Some.is c.requires.says.1) in
    record {
      few = says.0;
      counted = omega (
        arith,
        before.counted,
        ap length c.in_ok-push-in-Ok-Some.ensures.items,
        ap length c.reserve.ensures.items,
        length_push c.reserve.new.self.items c.in-Ok-Some.entry,
      );
      indexed = rw c.in_ok-push-in-Ok-Some.ensures.items
          (indexed_more c.reserve.new.self.items before.indices c.add_with_hint.new.self c.in-Ok-Some.entry _
          (rw c.reserve.ensures.items before.indexed) (search rules)
          c.in_ok-add_with_hint-in-Ok-Some.ensures.added);
      kept = rw (c.in_ok-push-in-Ok-Some.ensures.items, c.reserve.ensures.items)
          (keeps_event before.entries.items before.count before.last line c.in-Ok-Some.entry before.kept says
          c.if-time-self.false);
    }

pub returns-in-Ok-None-clause-read : goal.returns-in-Ok-None-clause-read
returns-in-Ok-None-clause-read c lines line says read =
    let bad = c.args.self.now.bad in
    as_none _ bad c.requires.good (passes_over line (where_none _ bad c.requires.good read)
    (as_told (c.args.self.now.count + 1) line c.in-Ok-None.field-0-is
    (subst (LineSays (c.args.self.now.count + 1) line) c.in-Ok-None.is says)))

pub returns-then-time-self-clause-read : goal.returns-then-time-self-clause-read
returns-then-time-self-clause-read c lines line says read =
    turns_back line c.in-Ok-Some.entry (where_none _ c.args.self.now.bad c.requires.good read)
    (as_told (c.args.self.now.count + 1) line c.in-Ok-Some.field-0-is
    (subst (LineSays (c.args.self.now.count + 1) line) c.in-Ok-Some.is says)) c.if-time-self.true

pub returns-in_ok-push-in-Ok-Some-clause-read : goal.returns-in_ok-push-in-Ok-Some-clause-read
returns-in_ok-push-in-Ok-Some-clause-read c lines line says read =
    let bad = c.args.self.now.bad in
    as_none _ bad c.requires.good
    (rw (c.in_ok-push-in-Ok-Some.ensures.items, c.reserve.ensures.items)
    (adds line c.in-Ok-Some.entry (where_none _ bad c.requires.good read) c.args.self.now.kept.times
    (as_told (c.args.self.now.count + 1) line c.in-Ok-Some.field-0-is
    (subst (LineSays (c.args.self.now.count + 1) line) c.in-Ok-Some.is says)) c.if-time-self.false))

pub invariant_of-self-in-Ok-None : goal.invariant_of-self-in-Ok-None
invariant_of-self-in-Ok-None c =
    let before = c.args.self.now in
    let line = c.requires.says.0 in
    let says = as_told (before.count + 1) line c.in-Ok-None.field-0-is
    (subst (LineSays (before.count + 1) line) c.in-Ok-None.is c.requires.says.1) in
    record {
      few = says.0;
      kept = record {
        in_order = before.kept.in_order;
        lines = λ k d h. let earlier = before.kept.lines k d h in omega (arith, earlier);
        times = before.kept.times;
      };
      counted = omega (arith, before.counted);
      indexed = before.indexed;
    }

pub returns-in-Err-clause-read : goal.returns-in-Err-clause-read
returns-in-Err-clause-read c lines line says read =
    refuses line c.in-Err.cause (where_none _ c.args.self.now.bad c.requires.good read)
    (subst (LineSays (c.args.self.now.count + 1) line) c.in-Err.is says)
