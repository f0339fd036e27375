use Rattle.std.proofs.Common.{w64, rules, sym, subst}
use Rattle.std.proofs.lemmas.Int.{to_z-of_z}
use mir.Val.{SFits}
use Rattle.companion_file.specs.Seen.{companion_view}
use Rattle.processor_stream.specs.StreamKept.{IsStream}
use Rattle.sched_record.proofs.StreamsKept.{start_cut_is, stream_of_start}
use Rattle.sched_record.proofs.dealing.deal_start.Goals as goal

pub new-requires-2 : goal.new-requires-2
new-requires-2 c =
    let fits : SFits w64 c.floor_of.result = search rules in
    let of = companion_view c.args.companion.now in
    let is_cut =
    start_cut_is of c.args.cpu _ _ _ _ _ _ _ _ c.tasks.ensures c.in_ok-tasks.ensures c.floors.ensures
    c.floor_of.ensures c.start.ensures c.start-2.ensures c.new.ensures.items c.from_vec-steps.ensures in
    rw to_z-of_z (subst IsStream (sym is_cut)
    (stream_of_start of c.args.cpu c.args.companion.now.in_order c.requires))
