use Rattle.std.proofs.Common.{◌∙◌, inr, refl, sym, subst}
use Rattle.std.proofs.lemmas.Option.{same_Some}
use Rattle.cfs_model.specs.Knobs.{KnobsView}
use Rattle.replay_model.specs.Cut.{StreamView}
use Rattle.sched_record.specs.Record.{RecordView, record_view}
use Rattle.sched_record.specs.Stream.{cut_of}
use Rattle.audit_crew.specs.Ending.{IsBroughtBack}
use Rattle.audit_crew.specs.Own.{IsOwnReplay}
use Rattle.audit_crew.specs.declared.underway.Underway.{Underway}
use Rattle.audit_crew.proofs.member.Member.begin.Goals as goal

pub invariant_of-self : goal.invariant_of-self
invariant_of-self g c =
    let begun = c.in-Ok.begun in
    let own : IsOwnReplay g.L.CrewLedger.knobs g.L.CrewLedger.joined begun.replay =
    subst (λ (r : RecordView). IsOwnReplay g.L.CrewLedger.knobs r begun.replay) (sym c.requires.joined)
    (subst (λ (k : KnobsView). IsOwnReplay k (record_view c.args.joined.now) begun.replay)
    (sym c.requires.knobs) c.in-Ok.ensures.own) in
    record {
      part = c.args.self.now.part;
      counted = c.args.self.now.counted;
      free = λ going. c.requires.free;
      own = λ other same. subst (λ (u : Underway). IsOwnReplay g.L.CrewLedger.knobs g.L.CrewLedger.joined u.replay)
          (same_Some begun other same) own;
    }

-- its auditor has ended at the first stretch
pub returns-in-Ok-2-clause-ended : goal.returns-in-Ok-2-clause-ended
returns-in-Ok-2-clause-ended g c =
    λ over.
    let after = c.finish.new.self in
    let own = c.in-Ok.ensures.own in
    subst (λ (s : StreamView). IsBroughtBack s c.args.knobs after.posted after.refused after.memory)
    c.in-Ok.ensures.dealt
    (subst (λ (k : KnobsView). IsBroughtBack c.in-Ok.begun.replay.stream k after.posted after.refused after.memory)
    own.knobs_are c.finish.ensures.ended)

pub returns-in-Err-clause-ended : goal.returns-in-Err-clause-ended
returns-in-Err-clause-ended g c = λ over. inr (inr refl)
