use Rattle.std.proofs.Common.{true, ◌∙◌}
use Rattle.ticket_book.specs.Alive.{alive_view}
use Rattle.ticket_book.proofs.Lives.{place_put}
use Rattle.ticket_book.proofs.Living.{put_along}
use Rattle.ticket_book.proofs.alive.Alive.begin.Goals as goal

pub returns : goal.returns
returns c = λ q.
    let reached = c.reach.new.self in
    place_put reached.lives.items c.args.pid true c.in_ok-reach.ensures.there q
    ∙ put_along (alive_view reached) (alive_view c.args.self.now) c.args.pid true c.in_ok-reach.ensures.same q
