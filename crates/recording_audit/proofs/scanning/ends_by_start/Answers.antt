use Rattle.std.proofs.Common.{rules, ◌≡◌, ◌<◌, ◌++◌, ◌∷◌, [], length}
use Rattle.recording_audit.proofs.Starts.{ends_by, gone_more}
use Rattle.recording_audit.proofs.scanning.ends_by_start.Goals as goal

pub returns-then-is_empty : goal.returns-then-is_empty
returns-then-is_empty c =
    let rest = c.loop-rest.rest.now in
    let some : 0 < length rest = search rules in
    let none : length c.next_line.result.1.now ≡ 0 = search rules in
    λ starts. ends_by c.args.text.now rest c.next_line.result.1.now c.loop-rest.invariant.0 c.next_line.result.0.now
    c.loop-rest.invariant.1 (c.next_line.ensures.lines some) none (c.is_start.ensures starts)

pub loop-rest-preserved : goal.loop-rest-preserved
loop-rest-preserved c =
    let rest = c.loop-rest.rest.now in
    let some : 0 < length rest = search rules in
    let gone = c.loop-rest.invariant.0 in (
      gone ++ c.next_line.result.0.now ∷ [],
      gone_more c.args.text.now rest c.next_line.result.1.now gone c.next_line.result.0.now c.loop-rest.invariant.1
          (c.next_line.ensures.lines some),
    )
