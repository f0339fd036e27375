use Rattle.std.proofs.Common.{◌≡◌, ℕ, ◌<◌, List, get_or, map, sym, ap, ◌∙◌, subst, arith}
use Rattle.std.specs.List.{AllPairs}
use Rattle.std.proofs.lemmas.List.{take_all}
use Rattle.cfs_model.specs.Claimed.{claimed}
use Rattle.cfs_model.specs.declared.act.Entry.{Entry}
use Rattle.cfs_model.specs.declared.claim.Claim.{Claim}
use Rattle.cfs_model.specs.declared.nice_line.NiceLine.{NiceLine}
use Rattle.cfs_model.specs.declared.charge_line.ChargeLine.{ChargeLine}
use Rattle.replay_model.specs.StepAt.{deed_at}
use Rattle.replay_model.specs.Cut.{steps_at}
use Rattle.sched_record.specs.RecordView.{policy_of}
use Rattle.sched_record.specs.Record.{record_view}
use Rattle.sched_record.specs.Seen.{trace_view}
use Rattle.sched_record.specs.declared.trace.Trace.{Trace}
use Rattle.sched_record.specs.Indices.{indices_touching, touches_cpu}
use Rattle.sched_record.proofs.Dealt.{dealt_more}
use Rattle.sched_record.proofs.Pairs.{pairs_filter}
use Rattle.sched_record.proofs.Indexing.{count_touching, index_below, next_touching, step_of, steps_are, touching}
use Rattle.sched_record.proofs.Walk.{above_here, passed_more}
use Rattle.sched_record.proofs.record.Record.steps_of.Goals as goal

abbrev line_of_event : Entry → ℕ
line_of_event event = event.line

abbrev line_of_claim : Claim → ℕ
line_of_claim claim = claim.line

abbrev line_of_nice : NiceLine → ℕ
line_of_nice change = change.line

abbrev line_of_charge : ChargeLine → ℕ
line_of_charge charge = charge.line

-- the lines of the events that touch a processor rise
touching_rise : (cpu : ℕ) (events all : List Entry) → events ≡ all → AllPairs (λ a b. a.line < b.line) all
    → AllPairs (λ a b. a.line < b.line) (touching cpu events)
touching_rise cpu events all same rise =
    pairs_filter (λ a b. a.line < b.line) (λ event. touches_cpu cpu event.act) events
    (subst (λ es. AllPairs (λ a b. a.line < b.line) es) (sym same) rise)

-- the indices are those of the events at hand
indexed_here : (cpu : ℕ) (events all : List Entry) (indices : List ℕ) → events ≡ all → indices
    ≡ indices_touching cpu all
    → indices ≡ indices_touching cpu events
indexed_here cpu events all indices same indexed = indexed ∙ ap (indices_touching cpu) (sym same)

pub bounds-events-index : goal.bounds-events-index
bounds-events-index c =
    index_below c.args.cpu c.events-events.result.now c.indices-indices.result.now c.loop-index.index-index
    (indexed_here c.args.cpu c.events-events.result.now _ c.indices-indices.result.now c.events-events.ensures
    (c.indices-indices.ensures ∙ ap (λ (trace : Trace). indices_touching c.args.cpu (trace_view trace))
    c.trace-trace.ensures))
    c.loop-index-test.true

pub policy_of-policy-requires : goal.policy_of-policy-requires
policy_of-policy-requires c =
    let r = record_view c.args.self.now in
    let index = get_or c.indices-indices.result.now c.loop-index.index-index 0 in
    let event = c.index-events-index.result in
    let at = ap (λ (e : Entry). e.line) (c.index-events-index.is
    ∙ ap (λ es. get_or es index event) c.events-events.ensures) in
    let within = index_below c.args.cpu r.events c.indices-indices.result.now c.loop-index.index-index
    (c.indices-indices.ensures ∙ ap (λ (trace : Trace). indices_touching c.args.cpu (trace_view trace))
    c.trace-trace.ensures)
    c.loop-index-test.true in
    let above = c.args.self.now.in_order.events.from_one index event within in
    omega (arith, at, above)

pub item_on-claimed-requires-clause-above : goal.item_on-claimed-requires-clause-above
item_on-claimed-requires-clause-above c =
    let events = c.events-events.result.now in
    let i = c.loop-index.index-index in
    let event = c.index-events-index.result in
    let is = indexed_here c.args.cpu events _ c.indices-indices.result.now c.events-events.ensures
    (c.indices-indices.ensures ∙ ap (λ (trace : Trace). indices_touching c.args.cpu (trace_view trace))
    c.trace-trace.ensures) in
    let here = next_touching c.args.cpu events c.indices-indices.result.now i event is c.loop-index-test.true
    c.index-events-index.is in
    above_here line_of_claim line_of_event c.claims-claims.result.now (touching c.args.cpu events)
    c.loop-index.claims_from c.index_near-claims_from.result i event.line
    event (ap line_of_event here.1) here.0 c.loop-index.invariant.claims_passed c.index_near-claims_from.ensures.below

pub item_on-change-requires-clause-above : goal.item_on-change-requires-clause-above
item_on-change-requires-clause-above c =
    let events = c.events-events.result.now in
    let i = c.loop-index.index-index in
    let event = c.index-events-index.result in
    let is = indexed_here c.args.cpu events _ c.indices-indices.result.now c.events-events.ensures
    (c.indices-indices.ensures ∙ ap (λ (trace : Trace). indices_touching c.args.cpu (trace_view trace))
    c.trace-trace.ensures) in
    let here = next_touching c.args.cpu events c.indices-indices.result.now i event is c.loop-index-test.true
    c.index-events-index.is in
    above_here line_of_nice line_of_event c.nices-nices.result.now (touching c.args.cpu events) c.loop-index.nices_from
    c.index_near-nices_from.result i event.line
    event (ap line_of_event here.1) here.0 c.loop-index.invariant.nices_passed c.index_near-nices_from.ensures.below

pub item_on-told-requires-clause-above : goal.item_on-told-requires-clause-above
item_on-told-requires-clause-above c =
    let events = c.events-events.result.now in
    let i = c.loop-index.index-index in
    let event = c.index-events-index.result in
    let is = indexed_here c.args.cpu events _ c.indices-indices.result.now c.events-events.ensures
    (c.indices-indices.ensures ∙ ap (λ (trace : Trace). indices_touching c.args.cpu (trace_view trace))
    c.trace-trace.ensures) in
    let here = next_touching c.args.cpu events c.indices-indices.result.now i event is c.loop-index-test.true
    c.index-events-index.is in
    above_here line_of_charge line_of_event c.charges-charges.result.now (touching c.args.cpu events)
    c.loop-index.charges_from c.index_near-charges_from.result i event.line
    event (ap line_of_event here.1) here.0 c.loop-index.invariant.charges_passed
    c.index_near-charges_from.ensures.below

pub loop-index-preserved : goal.loop-index-preserved
loop-index-preserved c =
    let r = record_view c.args.self.now in
    let events = c.events-events.result.now in
    let i = c.loop-index.index-index in
    let event = c.index-events-index.result in
    let there = touching c.args.cpu events in
    let is = indexed_here c.args.cpu events _ c.indices-indices.result.now c.events-events.ensures
    (c.indices-indices.ensures ∙ ap (λ (trace : Trace). indices_touching c.args.cpu (trace_view trace))
    c.trace-trace.ensures) in
    let here = next_touching c.args.cpu events c.indices-indices.result.now i event is c.loop-index-test.true
    c.index-events-index.is in
    let rise = touching_rise c.args.cpu events _ c.events-events.ensures c.args.self.now.in_order.events.lines_rise in
    record {
      claims_within = c.index_near-claims_from.ensures.within.1;
      claims_passed = passed_more line_of_claim line_of_event c.claims-claims.result.now there c.loop-index.claims_from
          c.index_near-claims_from.result i event.line event
          rise (ap line_of_event here.1) here.0 c.loop-index.invariant.claims_passed
          c.index_near-claims_from.ensures.below;
      nices_within = c.index_near-nices_from.ensures.within.1;
      nices_passed = passed_more line_of_nice line_of_event c.nices-nices.result.now there c.loop-index.nices_from
          c.index_near-nices_from.result i event.line event
          rise (ap line_of_event here.1) here.0 c.loop-index.invariant.nices_passed
          c.index_near-nices_from.ensures.below;
      charges_within = c.index_near-charges_from.ensures.within.1;
      charges_passed = passed_more line_of_charge line_of_event c.charges-charges.result.now there
          c.loop-index.charges_from c.index_near-charges_from.result i event.line event
          rise (ap line_of_event here.1) here.0 c.loop-index.invariant.charges_passed
          c.index_near-charges_from.ensures.below;
      dealt =
          rw c.in_ok-push.ensures.items
          (dealt_more c.args.cpu c.claims-claims.result.now c.nices-nices.result.now c.charges-charges.result.now
          (policy_of r) events i event
          c.loop-index.steps.items _ _ _ _ _ _ _ here.0 here.1
          c.loop-index.invariant.dealt (c.deed_at-deed.ensures
          ∙ ap (λ b. deed_at c.args.cpu b event.act) c.policy_of-policy.ensures) c.item_on-claimed.ensures
          c.claim_for-claim.ensures
          c.item_on-change.ensures c.nice_for-nice.ensures c.item_on-told.ensures c.charge_for-charge.ensures);
    }

pub returns : goal.returns
returns c =
    let r = record_view c.args.self.now in
    let events = c.events-events.result.now in
    let there = touching c.args.cpu events in
    let is = indexed_here c.args.cpu events _ c.indices-indices.result.now c.events-events.ensures
    (c.indices-indices.ensures ∙ ap (λ (trace : Trace). indices_touching c.args.cpu (trace_view trace))
    c.trace-trace.ensures) in
    let all = count_touching c.args.cpu events c.indices-indices.result.now is in
    let claims = c.claims-claims.result.now in
    let nices = c.nices-nices.result.now in
    let charges = c.charges-charges.result.now in
    c.from_vec.ensures ∙ c.loop-index.invariant.dealt
    ∙ ap (map (step_of c.args.cpu claims nices charges (policy_of r)))
    (take_all c.loop-index.index-index there (omega (arith, all)))
    ∙ sym (steps_are c.args.cpu claims nices charges (policy_of r) events)
    ∙ ap (λ es. steps_at c.args.cpu (claimed claims nices charges (policy_of r) es)) c.events-events.ensures
    ∙ ap (λ cs. steps_at c.args.cpu (claimed cs nices charges (policy_of r) r.events)) c.claims-claims.ensures
    ∙ ap (λ ns. steps_at c.args.cpu (claimed r.claims ns charges (policy_of r) r.events)) c.nices-nices.ensures
    ∙ ap (λ ts. steps_at c.args.cpu (claimed r.claims r.nices ts (policy_of r) r.events)) c.charges-charges.ensures
