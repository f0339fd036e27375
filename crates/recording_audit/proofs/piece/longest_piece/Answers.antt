use Rattle.std.proofs.Common.{rules, [], inr, refl}
use Rattle.recording_audit.specs.Parts.{IsBadFor}
use Rattle.recording_audit.proofs.Causing.{known_of_bad}
use Rattle.recording_audit.proofs.piece.longest_piece.Goals as goal

-- the front is no run up to this line, and neither is the text
pub of-requires-clause-known : goal.of-requires-clause-known
of-requires-clause-known g c =
    let front = c.split_near.result.0.now in
    let rest = c.split_near.result.1.now in
    let bad : IsBadFor front c.in-Bad.line c.in-Bad.why = search rules in
    λ lifetimes lives. known_of_bad c.args.text.now front rest c.in-Bad.line c.in-Bad.why c.split_near.ensures bad

-- tries are given up, and nothing is refused
pub returns-clause-refused : goal.returns-clause-refused
returns-clause-refused g c = λ before. c.cut_piece.ensures.refused before [] (inr refl) tt
