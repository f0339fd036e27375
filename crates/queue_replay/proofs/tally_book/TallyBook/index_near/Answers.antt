use Rattle.std.proofs.Common.{◌<◌, ◌∙◌, IfSome, length, subst, sym}
use Rattle.queue_replay.proofs.Indexed.{own_apart, own_there, own_nowhere}
use Rattle.queue_replay.proofs.tally_book.TallyBook.index_near.Goals as goal

pub returns-clause-found : goal.returns-clause-found
returns-clause-found c index is =
    let book = c.args.self.now in
    let e = c.index_near.ensures in
    let within = subst (λ r. IfSome r (λ p. p < length book.table.rows)) is e.within in
    (within, λ d. own_there book.table book.own c.args.pid index d (sym e.index ∙ is) within)

pub returns-clause-none : goal.returns-clause-none
returns-clause-none c is =
    let book = c.args.self.now in
    own_nowhere book.table book.own c.args.pid (sym c.index_near.ensures.index ∙ is)

pub returns-clause-apart : goal.returns-clause-apart
returns-clause-apart c =
    let book = c.args.self.now in
    own_apart book.table book.own c.index_near.ensures.sound
