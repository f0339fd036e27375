use Rattle.std.proofs.Common.{w64, rules, ◌∙◌, sym, subst}
use Rattle.std.proofs.lemmas.Int.{to_z-of_z}
use mir.Val.{SFits}
use Rattle.sched_record.specs.Record.{record_view}
use Rattle.processor_stream.specs.StreamKept.{IsStream}
use Rattle.sched_record.proofs.StreamsKept.{cut_is, stream_of_record}
use Rattle.sched_record.proofs.record.Record.deal.Goals as goal

pub new-requires : goal.new-requires
new-requires c =
    let fits : SFits w64 c.floor_of.result = search rules in
    let r = record_view c.args.self.now in
    let is_cut =
    cut_is r c.args.cpu _ _ _ _ _ _ _ _ c.tasks.ensures c.in_ok-tasks.ensures c.floors.ensures c.floor_of.ensures
    c.start.ensures c.in_ok-steps.ensures c.last_time.ensures c.last_line.ensures in
    rw to_z-of_z (subst IsStream (sym is_cut) (stream_of_record r c.args.cpu c.args.self.now.in_order c.requires))

pub returns : goal.returns
returns c =
    let fits : SFits w64 c.floor_of.result = search rules in
    let is_cut =
    cut_is (record_view c.args.self.now) c.args.cpu _ _ _ _ _ _ _ _ c.tasks.ensures c.in_ok-tasks.ensures
    c.floors.ensures c.floor_of.ensures c.start.ensures c.in_ok-steps.ensures c.last_time.ensures
    c.last_line.ensures in
    c.new.ensures ∙ (rw to_z-of_z is_cut)
