use Rattle.std.proofs.Common.{◌≡◌, ◌<◌, ◌-◌, length, get_or, ap, ◌∙◌, sym, true, arith}
use Rattle.std.specs.BTreeMap.{is_at}
use Rattle.std.specs.List.{list_any}
use Rattle.std.proofs.lemmas.List.{nil_from_length}
use Rattle.runqueue.specs.Entities.{by_runtime}
use Rattle.runqueue.proofs.WaitingLists.{alone, last_least}
use Rattle.runqueue.proofs.WaitingOrder.{turned}
use Rattle.runqueue.proofs.waiting_tasks.WaitingTasks.first.Goals as goal

pub returns-then-count-gt0-clause-least : goal.returns-then-count-gt0-clause-least
returns-then-count-gt0-clause-least c q there =
    let self = c.self.inside in
    let items = self.list.items in
    let keys = self.tree.keys in
    let n = c.len-count.ensures in
    let t = c.if-count-gt0.true in
    let some : 0 < length items = omega (arith, n, t) in
    let count : c.len-count.result ≡ length items = omega (arith, n) in
    let none = nil_from_length keys (alone (length keys) (length items) self.apart some) in
    let here : list_any (is_at (by_runtime q)) items ≡ true =
    sym (turned q items keys none) ∙ ap (λ set. list_any (is_at (by_runtime q)) set.keys) c.self.view_is ∙ there in
    last_least items c.index.result.now q self.in_order some
    (c.index.ensures ∙ ap (λ count. get_or items (count - 1) c.index.result.now) count) here
