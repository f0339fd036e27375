use Rattle.recording_audit.proofs.breach.Breach.of.Goals as goal

-- of the front that was tried it is known what it came to
pub loop-preserved : goal.loop-preserved
loop-preserved g c =
    c.learn-breach.ensures c.args.asked.now.limits c.args.text.now c.split_lines.result.0.now
    c.split_lines.result.1.now c.split_lines.ensures c.in_ok-judged.ensures c.loop.invariant

-- what was found last is known, whether or not the search is done
pub returns : goal.returns
returns g c = c.end.ensures c.args.text.now c.loop.invariant
