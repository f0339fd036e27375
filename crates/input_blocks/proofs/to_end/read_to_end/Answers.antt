use Rattle.std.proofs.Common.{◌++◌, [], Bool, sym, subst, ◌∙◌}
use Rattle.text_parts.proofs.TextLines.{lines_of_nil}
use Rattle.input_blocks.proofs.Beginning.{fresh}
use Rattle.input_blocks.specs.Blocks.{IsThen}
use Rattle.input_blocks.proofs.to_end.read_to_end.Goals as goal

pub loop-goes_on-init : goal.loop-goes_on-init
loop-goes_on-init g c =
    let reads = g.L.LineReader.reads in
    let reader = c.args.reader.now in
    let untouched = g.met.F.Feed.untouched c.args.feed.now c.requires.fresh in
    record {
      counted = c.requires.fresh ∙ sym c.new-blocks.ensures.reads;
      ended = untouched.1;
      heard = untouched.0;
      at_end = λ e. cc;
      done = [];
      read = subst (reads reader reader) (sym lines_of_nil) (g.met.L.LineReader.reads_none reader);
      stands = fresh reads (g.F.Feed.left c.args.feed.now) c.new-blocks.result c.new-blocks.ensures;
    }

pub loop-goes_on-preserved : goal.loop-goes_on-preserved
loop-goes_on-preserved g c =
    let reads = g.L.LineReader.reads in
    let gave = g.F.Feed.left c.args.feed.now in
    let left = g.F.Feed.left c.loop-goes_on.feed in
    let before = c.loop-goes_on.invariant in
    let next = c.in_ok-goes_on.ensures in
    let comes = next.passed gave before.done
    (subst (λ (on : Bool). IsThen reads gave left c.loop-goes_on.blocks before.done on) c.loop-goes_on-test.true
    before.stands) in
    record {
      counted = next.counted;
      ended = next.ended;
      heard = next.heard ∙ before.heard;
      at_end = next.end;
      done = before.done ++ comes.more;
      read = subst (reads c.args.reader.now c.next.new.reader) (sym comes.lines)
          (g.met.L.LineReader.reads_on c.args.reader.now c.loop-goes_on.reader c.next.new.reader _ _ before.read
          comes.read);
      stands = comes.next;
    }
