use Rattle.std.proofs.Common.{◌≡◌, ◌++◌, List, ℕ, ap, subst, ◌∙◌, if◌then◌else◌, is_ok}
use Rattle.text_parts.specs.Lines.{lines_of}
use Rattle.input_blocks.proofs.Holding.{open_read, settled_read}
use Rattle.input_blocks.specs.declared.begun_line.BegunLine.{BegunLine}
use Rattle.input_blocks.proofs.begun_line.BegunLine.end.Goals.{then-not-self+in_ok-extend_from_slice, else-not-self}
use Rattle.input_blocks.proofs.begun_line.BegunLine.end.Goals as goal

pub returns-clause-read : goal.returns-clause-read
returns-clause-read g c line h =
    let reads = g.L.LineReader.reads in
    let begun = c.args.self.now in
    let end = c.args.end.now in
    let read = subst (λ (t : List ℕ). reads c.args.reader.now c.read.new.self (lines_of t)) c.deref.ensures.value
    c.in_ok-read.ensures in
    elim c.if-not-self.branch [
      | then-not-self+in_ok-extend_from_slice w ↦
          let items : w.extend_from_slice.new.self.items ≡ begun.bytes.items ++ end =
          w.extend_from_slice.ensures.items
          ∙ ap (λ r. if is_ok r then begun.bytes.items ++ end else begun.bytes.items) w.in_ok-extend_from_slice.was in
          open_read reads c.args.reader.now c.read.new.self begun line end c.if-not-self.self.bytes.items
          w.if-not-self.true (ap (λ (b : BegunLine). b.bytes.items) w.self-is ∙ items) h read
      | else-not-self w ↦
          settled_read reads c.args.reader.now c.read.new.self begun line c.requires.0 end
          w.if-not-self.false c.requires.1 c.requires.2 h
          (subst (λ (t : List ℕ). reads c.args.reader.now c.read.new.self (lines_of t))
          (ap (λ (b : BegunLine). b.bytes.items) w.self-is) read)
    ]
