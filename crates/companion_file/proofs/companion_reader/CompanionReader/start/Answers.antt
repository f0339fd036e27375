use Rattle.std.proofs.Common.{sym, ◌∙◌}
use Rattle.companion_file.proofs.Reader.{where_none, as_none, order_start, tells_start}
use Rattle.companion_file.proofs.companion_reader.CompanionReader.start.Goals as goal

pub spans-requires : goal.spans-requires
spans-requires c = rw c.in_ok-start.ensures (order_start c.args.self.now.draft c.args.self.now.ordered)

pub finish-requires-clause-order : goal.finish-requires-clause-order
finish-requires-clause-order c = rw c.in_ok-start.ensures
    (order_start c.args.self.now.draft c.args.self.now.ordered)

pub returns : goal.returns
returns c lines said edge read =
    let reader = c.args.self.now in
    let none = sym c.is_bad.ensures ∙ c.if-is_bad.false in
    as_none _ reader.bad none
    (tells_start lines reader.count reader.draft said edge c.finish.result (where_none _ reader.bad none read)
    (rw c.in_ok-start.ensures at c.finish.ensures))
