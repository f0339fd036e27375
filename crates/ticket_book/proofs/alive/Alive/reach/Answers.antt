use Rattle.std.proofs.Common.{length, ◌≤◌, ◌+◌, ◌∙◌, ap, arith}
use Rattle.std.specs.Vec.{vec_len}
use Rattle.ticket_book.specs.Alive.{lives_in}
use Rattle.ticket_book.proofs.Lives.{places_more}
use Rattle.ticket_book.proofs.alive.Alive.reach.Goals as goal

pub returns-in_ok-resize-clause-same : goal.returns-in_ok-resize-clause-same
returns-in_ok-resize-clause-same c = λ q.
    let lives = c.args.self.now.lives in
    let n = c.args.index + 4096 in
    let le : length lives.items ≤ n = omega (arith, c.if-index-len.true, c.len.ensures) in
    ap (λ l. lives_in l q) c.in_ok-resize.ensures.items ∙ places_more lives.items n (vec_len lives) (lives.ok.0) le q
