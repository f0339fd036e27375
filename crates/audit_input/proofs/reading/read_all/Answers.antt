use Rattle.std.proofs.Common.{◌∙◌, ap, ◌++◌, take, drop, subst, sym, ne_eqb}
use Rattle.std.proofs.Math.Seq.{take-add}
use Rattle.std.proofs.KnownBytes.{Consumes-trans}
use Rattle.std.specs.Io.KnownBytes.{Consumes}
use Rattle.audit_input.proofs.Counting.{one_more-below}
use Rattle.audit_input.proofs.reading.read_all.Goals as goal

pub loop-preserved : goal.loop-preserved
loop-preserved g c =
    let before = c.loop.invariant in
    let read = c.in_ok-count.ensures in
    let filled = c.loop.filled in
    let count = c.in_ok-count.count in
    let items = c.read_chunk.new.bytes.items in
    record {
      within = read.fits;
      counted = read.counted ∙ one_more-below _ _ before.counted c.loop-test.true;
      heard = read.heard ∙ before.heard;
      unended = read.ended ∙ ne_eqb count 0 c.if-count-eq0.false;
      read = subst (Consumes _ _) (sym (take-add filled count items
          ∙ ap (λ front. front ++ take count (drop filled items)) read.front))
          (Consumes-trans _ _ _ _ _ before.read read.read);
    }
