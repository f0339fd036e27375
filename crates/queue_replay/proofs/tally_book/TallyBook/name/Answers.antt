use Rattle.std.proofs.Common.{◌∙◌, ap}
use Rattle.replay_model.specs.Noted.{with_tally}
use Rattle.queue_replay.proofs.tally_book.TallyBook.name.Goals as goal

pub returns-clause-named : goal.returns-clause-named
returns-clause-named c = c.add.ensures ∙ ap (with_tally c.args.pid) c.in_ok-make_room.ensures.same
