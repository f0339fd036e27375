use Rattle.std.proofs.Common.{◌∙◌, length, Option, None, sym, ap, subst}
use Rattle.std.proofs.lemmas.List.{length-replicate}
use Rattle.queue_replay.specs.Replay.{ReplayView}
use Rattle.sched_record.specs.Record.{RecordView}
use Rattle.ticket_book.specs.Own.{AreOwn}
use Rattle.audit_crew.specs.Filled.{filled}
use Rattle.audit_crew.proofs.Owned.{none_own}
use Rattle.audit_crew.proofs.Pages.{none_filled}
use Rattle.audit_crew.proofs.threads.crew_of.Goals as goal

pub new-requires-2 : goal.new-requires-2
new-requires-2 g c =
    let empty : Option ReplayView = None in
    record {
      slots =
          ap length c.in_ok-new.ensures ∙ length-replicate c.cpus-cpus.result empty ∙ c.cpus-cpus.ensures
          ∙ sym (ap (λ (r : RecordView). r.cpus) c.requires.joined);
      own = subst (AreOwn _ _) (sym c.in_ok-new.ensures) (none_own _ _ c.cpus-cpus.result);
      counted = ap filled c.in_ok-new.ensures ∙ none_filled c.cpus-cpus.result ∙ sym c.open-posts.ensures.total;
    }
