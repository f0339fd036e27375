use Rattle.std.proofs.Common.{true, false, sym, ap, ◌∙◌}
use Rattle.ticket_book.specs.Alive.{alive_view}
use Rattle.ticket_book.proofs.Living.{put_any, roll_by_lives}
use Rattle.ticket_book.proofs.alive.Alive.pass.Goals as goal
use Rattle.ticket_book.proofs.alive.Alive.pass.Goals.{in-Some+in_ok-begin, in_default}

pub returns-in-Some-ended : goal.returns-in-Some-ended
returns-in-Some-ended c =
    let old = alive_view c.args.self.now in
    let between = alive_view c.match-begun.self in
    roll_by_lives old between (alive_view c.end.new.self) c.args.event.now.act
    (λ q. elim c.match-begun.branch [
      | in-Some+in_ok-begin w ↦
          ap (λ m. alive_view m q) w.self-is ∙ w.in_ok-begin.ensures q
          ∙ ap (λ o. put_any old o true q) (sym w.in-Some.is ∙ c.begun.ensures)
      | in_default w ↦ ap (λ m. alive_view m q) w.self-is
          ∙ ap (λ o. put_any old o true q) (sym w.in_default.is ∙ c.begun.ensures)
    ])
    (λ q. c.end.ensures q ∙ ap (λ o. put_any between o false q) (sym c.in-Some-ended.is ∙ c.ended.ensures))

pub returns-in_default-ended : goal.returns-in_default-ended
returns-in_default-ended c =
    let old = alive_view c.args.self.now in
    let between = alive_view c.match-begun.self in
    roll_by_lives old between between c.args.event.now.act
    (λ q. elim c.match-begun.branch [
      | in-Some+in_ok-begin w ↦
          ap (λ m. alive_view m q) w.self-is ∙ w.in_ok-begin.ensures q
          ∙ ap (λ o. put_any old o true q) (sym w.in-Some.is ∙ c.begun.ensures)
      | in_default w ↦ ap (λ m. alive_view m q) w.self-is
          ∙ ap (λ o. put_any old o true q) (sym w.in_default.is ∙ c.begun.ensures)
    ])
    (λ q. ap (λ o. put_any between o false q) (sym c.in_default-ended.is ∙ c.ended.ensures))
