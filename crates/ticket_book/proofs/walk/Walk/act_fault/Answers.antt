use Rattle.std.proofs.Common.{map, sym, subst}
use Rattle.ticket_book.specs.Alive.{alive_view}
use Rattle.ticket_book.specs.Told.{view_at}
use Rattle.ticket_book.proofs.Saying.{Answers, switch_said, wake_said, birth_said, shift_said}
use Rattle.ticket_book.proofs.walk.Walk.act_fault.Goals as goal

pub returns-in-Switch-clause-said : goal.returns-in-Switch-clause-said
returns-in-Switch-clause-said g c = λ said on does.
    let s = c.in-Switch in
    let pages = view_at (map g.P.Paged.page c.args.pages.now) in
    let alive = alive_view c.args.alive.now in
    subst (Answers pages alive said c.args.act) (sym c.failed_at.ensures.fault)
    (switch_said pages alive said c.args.line on c.args.act s.cpu s.prev s.prev_nice s.way s.next s.next_nice does s.is)

pub returns-in-Wake-clause-said : goal.returns-in-Wake-clause-said
returns-in-Wake-clause-said g c = λ said on does.
    let s = c.in-Wake in
    let pages = view_at (map g.P.Paged.page c.args.pages.now) in
    let alive = alive_view c.args.alive.now in
    subst (Answers pages alive said c.args.act) (sym c.failed_at-in-Wake.ensures.fault)
    (wake_said pages alive said c.args.line on c.args.act s.cpu s.pid s.nice does s.is)

pub returns-in-Born-clause-said : goal.returns-in-Born-clause-said
returns-in-Born-clause-said g c = λ said on does.
    let s = c.in-Born in
    let pages = view_at (map g.P.Paged.page c.args.pages.now) in
    let alive = alive_view c.args.alive.now in
    subst (Answers pages alive said c.args.act) (sym c.birth_fault.ensures.fault)
    (birth_said pages alive said c.args.line on c.args.act s.cpu s.pid s.nice does s.is)

pub returns-in-Shift-clause-said : goal.returns-in-Shift-clause-said
returns-in-Shift-clause-said g c = λ said on does.
    let s = c.in-Shift in
    let pages = view_at (map g.P.Paged.page c.args.pages.now) in
    let alive = alive_view c.args.alive.now in
    shift_said pages alive said c.args.line on c.args.act s.orig s.dest s.pid s.nice does s.is c.shift_fault.result
    (c.shift_fault.ensures.said said on)
