use Rattle.sched_event.proofs.UsualFields.{first_gap_at}
use Rattle.sched_event.proofs.usual_fields.first_gap.Goals as goal

pub returns-else-gaps-eq0-clause-within : goal.returns-else-gaps-eq0-clause-within
returns-else-gaps-eq0-clause-within c =
    let gaps = c.gaps_of_sixteen-gaps in
    let first = first_gap_at c.args.text.now gaps.result c.requires gaps.ensures c.if-gaps-eq0.false in
    first.within

pub returns-else-gaps-eq0-clause-plain : goal.returns-else-gaps-eq0-clause-plain
returns-else-gaps-eq0-clause-plain c =
    let gaps = c.gaps_of_sixteen-gaps in
    let first = first_gap_at c.args.text.now gaps.result c.requires gaps.ensures c.if-gaps-eq0.false in
    first.plain
