use Rattle.ticket_book.specs.declared.cursor.Cursor.TheVariants.{At}
use Rattle.ticket_book.proofs.StreamsFollowed.{followed_here, followed_past, set_elsewhere}
use Rattle.ticket_book.proofs.following.follow_at.Goals as goal

pub returns-then-index-cursors-clause-here : goal.returns-then-index-cursors-clause-here
returns-then-index-cursors-clause-here c = λ dealt.
    followed_here c.args.slots.now c.args.cursors.now c.args.cpu c.steps_of.result.now dealt
    (At 0) c.after.result c.args.step c.steps_of.ensures
    c.if-index-cursors.true (c.after.ensures dealt)

pub returns-then-index-cursors-clause-others : goal.returns-then-index-cursors-clause-others
returns-then-index-cursors-clause-others c =
    λ other ne. set_elsewhere c.args.cursors.now c.args.cpu other c.after.result ne

pub returns-else-index-cursors-clause-here : goal.returns-else-index-cursors-clause-here
returns-else-index-cursors-clause-here c =
    λ dealt followed. followed_past c.args.slots.now c.args.cursors.now c.args.cpu _ c.if-index-cursors.false
