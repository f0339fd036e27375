use Rattle.std.proofs.Common.{◌≡◌, ◌<◌, subst, arith}
use Rattle.std.proofs.lemmas.Result.{IfOk-weaker}
use Rattle.sched_record.specs.Record.{record_view}
use Rattle.ticket_book.specs.BookView.{book_view}
use Rattle.audit_crew.proofs.InTurn.{AreFirst, first_are_own, no_page_remade, one_more_page}
use Rattle.audit_crew.proofs.Started.{start_of}
use Rattle.audit_crew.proofs.serial.audit_serial.Goals as goal
use Rattle.audit_crew.proofs.serial.audit_serial.Goals.{After-loop-cpu}

pub loop-cpu-preserved : goal.loop-cpu-preserved
loop-cpu-preserved c =
    let r = record_view c.args.joined.now in
    let within : c.loop-cpu.cpu < r.cpus =
    (let below = c.loop-cpu-test.true in let end = c.cpus-cpu-end.ensures in omega (arith, below, end)) in
    record {
      posted =
          one_more_page c.args.knobs r (book_view c.loop-cpu.book) (book_view c.post-told.new.self) c.loop-cpu.cpu
          c.in_ok-page.page c.post-told.result c.loop-cpu.invariant.posted within c.in_ok-page.ensures
          c.post-told.ensures.refused c.post-told.ensures.added;
    }

-- where the loop ends the pages of all processors are posted
all_posted : (c : After-loop-cpu) → let r = record_view c.args.joined.now in
    AreFirst c.args.knobs r (book_view c.loop-cpu.book) r.cpus
all_posted c =
    let r = record_view c.args.joined.now in
    let all : c.loop-cpu.cpu ≡ r.cpus =
    (let not_below = c.loop-cpu-test.false in let at_most = c.loop-cpu.auto.cpu-end in let end =
    c.cpus-cpu-end.ensures in
    omega (arith, not_below, at_most, end)) in
    subst (AreFirst c.args.knobs r (book_view c.loop-cpu.book)) all c.loop-cpu.invariant.posted

pub returns-clause-nothing_remade : goal.returns-clause-nothing_remade
returns-clause-nothing_remade c =
    let r = record_view c.args.joined.now in
    IfOk-weaker c.close_own.result _ _
    (λ closed remade. no_page_remade c.args.knobs r (book_view c.loop-cpu.book) closed.remade
    (all_posted (goal.at.returns-clause-nothing_remade c).After-loop-cpu) remade)
    c.close_own.ensures.remade

pub returns-clause-one : goal.returns-clause-one
returns-clause-one c =
    let r = record_view c.args.joined.now in
    IfOk-weaker c.close_own.result _ _
    (λ closed verdict. c.one_verdict.ensures c.args.knobs r closed.verdict
    (start_of r c.args.joined.now.in_order) verdict)
    c.close_own.ensures.verdict

pub close_own-requires : goal.close_own-requires
close_own-requires c =
    record {
      own = first_are_own c.args.knobs (record_view c.args.joined.now) (book_view c.loop-cpu.book)
          (all_posted c);
    }
