use Rattle.std.proofs.Common.{◌<◌, [], length, sym, subst, arith}
use Rattle.companion_file.specs.Seen.{companion_view}
use Rattle.replay_model.specs.Cut.{cut}
use Rattle.replay_model.specs.Page.{IsStartOf}
use Rattle.ticket_book.specs.WindowBook.{IsBookOf}
use Rattle.window_audit.specs.States.{state_at}
use Rattle.window_audit.proofs.Lists.{element, state_here}
use Rattle.window_audit.proofs.audit.WindowAudit.new.Goals as goal

pub returns : goal.returns
returns c =
    let of = companion_view c.args.companion.now in
    let members = c.in_ok-members_of.field-0.items in
    let e = c.in_ok-members_of.ensures in
    record {
      run = c.beginnings.ensures c.args.knobs of.start of.floors of.tasks of.cpus (state_at members)
          (λ cpu lt.
          let n = e.count in
          let within : cpu < length members = omega (arith, n, lt) in
          let d = (element members cpu within).0 in
          subst (IsStartOf (cut of.start of.floors of.tasks [] cpu)) (sym (state_here members cpu d within))
          (e.start cpu d lt));
      count = e.count;
      own = e.own;
      book = subst (λ ts. IsBookOf ts [] c.in_ok-new.field-0) c.tasks.ensures c.in_ok-new.ensures;
    }
