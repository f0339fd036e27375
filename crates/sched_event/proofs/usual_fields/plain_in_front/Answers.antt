use Rattle.std.proofs.Common.{leb, get_or}
use Rattle.std.proofs.lemmas.Bool.{leb-true, leb-false, lt-ltb, le-ltb}
use Rattle.sched_event.specs.Usual.{is_plain}
use Rattle.text_parts.proofs.FrontRuns.{front_run}
use Rattle.sched_event.proofs.usual_fields.plain_in_front.Goals as goal

pub returns : goal.returns
returns c =
    let text = c.args.text.now in
    front_run is_plain (λ byte. leb byte 32) text c.requires
    (λ k fails. lt-ltb 32 (get_or text k 0) (leb-false (get_or text k 0) 32 fails))
    (λ k fails. le-ltb 32 (get_or text k 0) (leb-true (get_or text k 0) 32 fails)) c.gaps.result
    c.first_set.result c.gaps.ensures c.first_set.ensures
