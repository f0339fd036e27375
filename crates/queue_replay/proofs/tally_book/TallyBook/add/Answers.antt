use Rattle.std.proofs.Common.{refl, ap, sym, subst, length, IfSome, ◌<◌, ◌∙◌, ◌++◌, ◌∷◌, []}
use Rattle.replay_model.specs.Noted.{new_tally}
use Rattle.queue_replay.proofs.Indexed.{kept_tally, own_more, own_nowhere, own_there, pushed_tally}
use Rattle.queue_replay.proofs.tally_book.TallyBook.add.Goals as goal

pub invariant_of-self : goal.invariant_of-self
invariant_of-self c =
    let book = c.args.self.now in
    record {
      own = own_more book.table c.add.new.self c.args.pid (new_tally c.args.pid) book.own refl c.add.ensures.pids
          (c.add.ensures.rows ∙ ap (λ t. book.table.rows ++ t ∷ []) c.new_tally.ensures);
    }

pub returns-in-None : goal.returns-in-None
returns-in-None c =
    let book = c.args.self.now in
    c.add.ensures.rows ∙ ap (λ t. book.table.rows ++ t ∷ []) c.new_tally.ensures
    ∙ pushed_tally book.table.rows c.args.pid
    (own_nowhere book.table book.own c.args.pid (sym c.index_of.ensures.index ∙ c.in-None.is))

pub returns-in-Some : goal.returns-in-Some
returns-in-Some c =
    let book = c.args.self.now in
    let index = c.in-Some.field-0 in
    let is = c.in-Some.is in
    let e = c.index_of.ensures in
    let within = subst (λ r. IfSome r (λ p. p < length book.table.rows)) is e.within in
    kept_tally book.table.rows c.args.pid index (new_tally 0) within
    (own_there book.table book.own c.args.pid index (new_tally 0) (sym e.index ∙ is) within)
