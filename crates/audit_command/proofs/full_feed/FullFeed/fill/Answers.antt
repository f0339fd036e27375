-- What a read gave lies behind what came before.
use Rattle.std.proofs.Common.{◌++◌, ap, subst, sym, ◌∙◌, take, drop}
use Rattle.std.proofs.KnownBytes.{Consumes-trans}
use Rattle.std.proofs.Math.Seq.{take-add}
use Rattle.std.specs.Io.KnownBytes.{Consumes}
use Rattle.audit_command.proofs.full_feed.FullFeed.fill.Goals as goal

pub loop-filled-preserved : goal.loop-filled-preserved
loop-filled-preserved g c =
    let before = c.loop-filled.invariant in
    let read = c.in-Ok.ensures in
    let filled = c.loop-filled.filled in
    let count = c.in-Ok.count in
    let bytes = c.read_behind.new.buf in
    record {
      within = read.fits;
      length = read.length ∙ before.length;
      bytes = subst (Consumes _ _)
          (ap (λ front. front ++ take count (drop filled bytes)) (sym read.front) ∙ sym (take-add filled count bytes))
          (Consumes-trans _ _ _ _ _ before.bytes read.read);
      behind = before.behind;
      calls = before.calls;
      failed = before.failed;
      ended = before.ended;
    }
