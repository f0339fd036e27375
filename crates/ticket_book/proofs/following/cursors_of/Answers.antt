use Rattle.std.proofs.Common.{rules, ◌≡◌, ◌+◌, ◌≤◌, List, length, get_or, take, sym, ap, ◌∙◌, subst, arith}
use Rattle.std.proofs.lemmas.List.{take_all}
use Rattle.cfs_model.specs.Claimed.{claim_at, claimed, charge_at, nice_at}
use Rattle.cfs_model.specs.declared.act.Entry.{Entry}
use Rattle.sched_record.specs.RecordView.{policy_of}
use Rattle.sched_record.specs.Record.{record_view}
use Rattle.ticket_book.specs.Cursor.{AreFollowed}
use Rattle.ticket_book.proofs.EventsFollowed.{followed_one_more, lent_back}
use Rattle.ticket_book.proofs.following.cursors_of.Goals as goal

pub returns-clause-followed : goal.returns-clause-followed
returns-clause-followed c =
    let r = record_view c.args.joined.now in
    let count = ap length c.events-event-items.ensures in
    let all : length r.events ≤ c.loop-index.index = let end = c.loop-index-test.false in omega (arith, count, end) in
    subst (λ (events : List Entry). AreFollowed c.args.slots.now c.loop-index.cursors.items
    (claimed r.claims r.nices r.charges (policy_of r) events))
    (take_all c.loop-index.index r.events all) c.loop-index.invariant.followed

pub loop-index-preserved : goal.loop-index-preserved
loop-index-preserved c =
    let r = record_view c.args.joined.now in
    let slots = c.args.slots.now in
    let event = c.event-item.result in
    let before = c.loop-index.cursors.items in
    let after = c.follow.new.cursors in
    let lent : c.deref_mut.result.now ≡ before = search rules in
    let count : length after ≡ c.loop-index.cursors.len = search rules in
    let is : event ≡ get_or r.events c.loop-index.index event =
    c.event-item.is ∙ ap (λ es. get_or es c.loop-index.index event) c.events-event-items.ensures in
    let claim = c.claim_beside-claim.ensures.claim event ∙ ap (λ (e : Entry). claim_at r.claims e.line) (sym is) in
    let nice = c.nice_beside-nice.ensures.nice event ∙ ap (λ (e : Entry). nice_at r.nices e.line) (sym is) in
    let charge = c.charge_beside-charge.ensures.charge event
    ∙ ap (λ (e : Entry). charge_at r.charges e.line) (sym is) in
    let policy = c.policy_at-policy.ensures event ∙ ap (policy_of r) (sym is) in
    let within = c.loop-index-test.true in
    let total = ap length c.events-event-items.ensures in
    record {
      count = search rules;
      claims = search rules;
      nices = search rules;
      charges = search rules;
      followed = subst (λ cs. AreFollowed slots cs
          (claimed r.claims r.nices r.charges (policy_of r) (take (c.loop-index.index + 1) r.events)))
          (sym (lent_back after before c.loop-index.cursors.len count))
          (followed_one_more slots c.deref_mut.result.now after r.claims r.nices r.charges
          (policy_of r) r.events c.loop-index.index event _ _ _ _
          (omega (arith, within, total)) is claim nice charge policy c.follow.ensures
          (subst (λ cs. AreFollowed slots cs
          (claimed r.claims r.nices r.charges (policy_of r) (take c.loop-index.index r.events)))
          (sym lent) c.loop-index.invariant.followed));
    }
