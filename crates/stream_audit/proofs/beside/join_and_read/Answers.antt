use Rattle.std.proofs.Common.{◌<◌, ◌≤◌, ◌++◌, ℕ, refl, sym, subst}
use Rattle.input_blocks.specs.Blocks.{ComesTo}
use Rattle.input_blocks.specs.OfEntries.{ReadsEntries, reads_on}
use Rattle.input_blocks.specs.declared.line_blocks.LineBlocks.{LineBlocks}
use Rattle.input_blocks.proofs.Turning.{beside, turned}
use Rattle.stream_audit.proofs.ReadBeside.{further_by_both, left_by_both, of_both, on_ok, read_by_both}
use Rattle.stream_audit.proofs.UnderWay.{if_ok}
use Rattle.stream_audit.proofs.beside.join_and_read.Goals as goal

pub returns-clause-joins : goal.returns-clause-joins
returns-clause-joins g c = c.pass_and_read-passed.ensures.joined.joins

pub returns-clause-starts : goal.returns-clause-starts
returns-clause-starts g c = c.pass_and_read-passed.ensures.joined.starts

pub returns-clause-aim : goal.returns-clause-aim
returns-clause-aim g c = c.pass_and_read-passed.ensures.joined.aim

pub returns-clause-within : goal.returns-clause-within
returns-clause-within g c = c.pass_and_read-passed.ensures.joined.within

pub returns-clause-some : goal.returns-clause-some
returns-clause-some g c = c.pass_and_read-passed.ensures.joined.some

pub returns-clause-fed : goal.returns-clause-fed
returns-clause-fed g c = c.pass_and_read-passed.ensures.joined.fed

pub returns-clause-bounded : goal.returns-clause-bounded
returns-clause-bounded g c = c.pass_and_read-passed.ensures.joined.bounded

pub returns-clause-cut_short : goal.returns-clause-cut_short
returns-clause-cut_short g c = c.pass_and_read-passed.ensures.joined.cut_short

pub returns-clause-passed : goal.returns-clause-passed
returns-clause-passed g c = λ gave done amid.
    let old = c.args.blocks.now in
    let both = c.pass_and_read-passed in
    let turn = c.turn.ensures in
    let before = g.T.Feed.left c.args.trace.now in
    let after = g.T.Feed.left both.new.trace in
    let now : LineBlocks = record { passing = both.new.passing; source = both.new.source } in
    let first = c.args.reader.now in
    let mid = both.new.reader in
    let law = c.lines_after_whole.ensures in
    let few = both.new.source.bounded in
    let small = both.new.source.small in
    of_both _ _ _ (ComesTo ReadsEntries first c.turn.new.reader gave after c.turn.new.self done) both.result.1.1
    both.result.0 c.turn.result turn.same both.ensures.read.read both.ensures.passed both.ensures.none
    (λ read passed none.
    let so_far = beside ReadsEntries law reads_on first mid gave before after old now done amid read passed none few
    small in
    if_ok _ _ c.turn.result
    (λ goes_on comes. turned ReadsEntries law reads_on first mid gave before after old now done amid read passed none
    few small c.turn.new.reader c.turn.new.self goes_on comes)
    (turn.passed gave after (done ++ so_far.more) so_far.next both.ensures.read.end))

pub returns-clause-read : goal.returns-clause-read
returns-clause-read g c =
    let both = c.pass_and_read-passed in
    let turn = c.turn.ensures in
    read_by_both _ _ _ _ _ c.args.blocks.now.source both.new.source c.turn.new.self.source both.result.1.1
    both.result.0 both.ensures.read turn.reads turn.ended c.turn.new.self refl c.turn.result turn.same

pub returns-clause-read_on : goal.returns-clause-read_on
returns-clause-read_on g c =
    let both = c.pass_and_read-passed in
    let turn = c.turn.ensures in
    further_by_both _ both.result.1.1 both.result.0 c.turn.result turn.same
    (on_ok _ _ both.result.1.1 (λ more. subst (λ (n : ℕ). c.args.blocks.now.source.reads < n) (sym turn.reads) more)
    both.ensures.read.read_on)

pub returns-clause-never_fewer : goal.returns-clause-never_fewer
returns-clause-never_fewer g c =
    subst (λ (n : ℕ). c.args.blocks.now.source.reads ≤ n) (sym c.turn.ensures.reads)
    c.pass_and_read-passed.ensures.read.never_fewer

pub returns-clause-stands : goal.returns-clause-stands
returns-clause-stands g c =
    let both = c.pass_and_read-passed in
    let turn = c.turn.ensures in
    left_by_both _ _ _ _ _ c.args.blocks.now.source both.new.source c.turn.new.self.source both.result.1.1
    both.result.0 c.turn.result both.ensures.read turn.reads turn.ended turn.same turn.told turn.wanted
