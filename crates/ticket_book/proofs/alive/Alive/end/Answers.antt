use Rattle.std.proofs.Common.{false, length, ◌<◌, ◌≤◌, arith}
use Rattle.ticket_book.proofs.Lives.{place_put, nothing_put}
use Rattle.ticket_book.proofs.alive.Alive.end.Goals as goal

pub returns-then-index-len : goal.returns-then-index-len
returns-then-index-len c =
    let lives = c.args.self.now.lives.items in
    let within : c.args.pid < length lives = omega (arith, c.if-index-len.true, c.len.ensures) in
    place_put lives c.args.pid false within

pub returns-else-index-len : goal.returns-else-index-len
returns-else-index-len c =
    let lives = c.args.self.now.lives.items in
    let beyond : length lives ≤ c.args.pid = omega (arith, c.if-index-len.false, c.len.ensures) in
    nothing_put lives c.args.pid beyond
