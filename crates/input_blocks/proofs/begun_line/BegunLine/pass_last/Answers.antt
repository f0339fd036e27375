use Rattle.std.proofs.Common.{List, ℕ, subst}
use Rattle.text_parts.specs.Lines.{lines_of}
use Rattle.input_blocks.proofs.Holding.{held_read, on_ok}
use Rattle.input_blocks.proofs.begun_line.BegunLine.pass_last.Goals as goal

pub returns : goal.returns
returns g c =
    let reads = g.L.LineReader.reads in
    on_ok _ _ c.read.result
    (λ read line h. held_read reads c.args.reader.now c.read.new.self c.args.self.now line h
    (subst (λ (t : List ℕ). reads c.args.reader.now c.read.new.self (lines_of t)) c.deref.ensures.value read))
    c.read.ensures
