use Rattle.std.proofs.Common.{◌≡◌, ◌≤◌, ◌∙◌, ℕ, [], Option, inl, refl, sym, subst}
use Rattle.std.specs.Prelude.{IsNone}
use Rattle.entry_reader.specs.Reader.{entries_of}
use Rattle.entry_reader.specs.declared.reader.EntryReader.{EntryReader}
use Rattle.audit_input.specs.Known.{most_reads}
use Rattle.audit_input.specs.declared.fault.Fault.TheVariants.{Memory, ReadCompanion}
use Rattle.input_blocks.specs.OfEntries.{ReadsEntries}
use Rattle.stream_audit.proofs.BothRead.{both_read, companion_cut, few_reads, no_write, read_or_memory, told_by}
use Rattle.stream_audit.proofs.BothRead.{unwritten_by}
use Rattle.stream_audit.proofs.Heard.{all_that_came, both_done, hearing_is, none_left, read_to_end, text_of}
use Rattle.stream_audit.specs.Hearing.{AreBothDone}
use Rattle.stream_audit.specs.declared.judge.Judge.{Judge}
use Rattle.stream_audit.proofs.UnderWay.{still_read, still_under_way}
use Rattle.stream_audit.proofs.judging.hear.Goals as goal

pub loop-goes_on-init : goal.loop-goes_on-init
loop-goes_on-init g c =
    let trace = g.met.T.Feed.untouched c.args.trace.now c.requires.trace in
    let companion = c.unread.ensures in
    let fed = c.requires.unfed in
    record {
      read = record {
        counted = c.requires.trace ∙ sym c.requires.unread;
        heard = trace.0;
        ended = trace.1;
        at_end = λ e. cc;
      };
      fed = record {
        counted = c.requires.companion ∙ fed.counted;
        ended = companion.goes_on ∙ fed.ended;
        heard = companion.heard;
      };
      taken = λ e. cc;
      under_way = λ aim nothing. nothing (g.T.Feed.left c.args.trace.now) (g.C.Feed.left c.args.companion.now);
    }

pub go_on-requires-clause-under_way : goal.go_on-requires-clause-under_way
go_on-requires-clause-under_way g c κs within = (
  c.requires.nothing.0,
  g.T.Feed.left c.args.trace.now,
  g.C.Feed.left c.args.companion.now,
  still_under_way _ _ _ _ _ c.loop-goes_on.listener _ c.loop-goes_on-test.true
      (c.loop-goes_on.invariant.under_way c.requires.nothing.0 c.requires.nothing.1),
)

pub go_on-requires-clause-read : goal.go_on-requires-clause-read
go_on-requires-clause-read g c κs within =
    still_read _ _ _ _ c.loop-goes_on.listener.intake.blocks _ c.loop-goes_on-test.true c.loop-goes_on.invariant.read

pub go_on-requires-clause-fed : goal.go_on-requires-clause-fed
go_on-requires-clause-fed g c κs within = c.loop-goes_on.invariant.fed

pub loop-goes_on-preserved : goal.loop-goes_on-preserved
loop-goes_on-preserved g c =
    let went = c.in_ok-goes_on.ensures in
    record {
      read = went.read;
      fed = went.fed;
      taken = λ ended. went.taken;
      under_way = λ aim nothing. went.under_way aim _ _
          (still_under_way _ _ _ _ _ c.loop-goes_on.listener _ c.loop-goes_on-test.true
          (c.loop-goes_on.invariant.under_way aim nothing));
    }

pub returns-in_err-goes_on-clause-reads : goal.returns-in_err-goes_on-clause-reads
returns-in_err-goes_on-clause-reads g c =
    told_by _ _ c.from_residual.result c.in_err-goes_on.field-0.0 c.from_residual.ensures.1
    c.in_err-goes_on.ensures.reads.0

pub returns-in_err-goes_on-clause-unwritten : goal.returns-in_err-goes_on-clause-unwritten
returns-in_err-goes_on-clause-unwritten g c =
    unwritten_by c.from_residual.result c.in_err-goes_on.field-0.0 c.from_residual.ensures.1
    c.in_err-goes_on.ensures.reads.1

pub read_rest-requires-clause-pending : goal.read_rest-requires-clause-pending
read_rest-requires-clause-pending g c κs within =
    let aim = c.requires.nothing.0 in
    let under = c.loop-goes_on.invariant.under_way aim c.requires.nothing.1 in
    (aim, g.C.Feed.left c.args.companion.now, under.bytes, under.handed, under.pending, under.judged)

pub read_rest-requires-clause-fed : goal.read_rest-requires-clause-fed
read_rest-requires-clause-fed g c κs within = c.loop-goes_on.invariant.fed

pub returns-in_err-read_rest-clause-reads : goal.returns-in_err-read_rest-clause-reads
returns-in_err-read_rest-clause-reads g c =
    let read = c.loop-goes_on.invariant.read in
    let failed = c.in_err-read_rest.ensures in
    told_by _ _ c.from_residual-in_err-read_rest.result c.in_err-read_rest.field-0.0
    c.from_residual-in_err-read_rest.ensures.1
    (companion_cut _ _ _ failed.cut_short (read_to_end _ _ read.ended c.loop-goes_on-test.false) read.heard (
      subst (λ (n : ℕ). n ≤ most_reads) (sym read.counted) c.loop-goes_on.listener.intake.blocks.source.bounded,
      failed.bounded,
    ))

pub returns-in_err-read_rest-clause-unwritten : goal.returns-in_err-read_rest-clause-unwritten
returns-in_err-read_rest-clause-unwritten g c =
    unwritten_by c.from_residual-in_err-read_rest.result c.in_err-read_rest.field-0.0
    c.from_residual-in_err-read_rest.ensures.1
    (read_or_memory _ ReadCompanion _ _ (λ e. cc) c.in_err-read_rest.ensures.cut_short)

pub hearing_of-requires : goal.hearing_of-requires
hearing_of-requires g c =
    let aim = c.requires.nothing.0 in
    let under = c.loop-goes_on.invariant.under_way aim c.requires.nothing.1 in
    let rest = c.in_ok-read_rest.ensures in
    let gave = g.C.Feed.left c.args.companion.now in
    let listener = c.read_rest.new.self in
    let reader = listener.intake.reader in
    let course = listener.intake.course in
    let heard = rest.heard aim gave under.bytes under.handed under.pending under.judged in (
      under.bytes,
      text_of aim gave _ reader course listener.judge under.bytes heard rest.done,
      subst (λ (j : Option Judge). AreBothDone reader course j under.bytes
          (text_of aim gave _ reader course listener.judge under.bytes heard rest.done))
          (sym c.take-judge.ensures.value)
          (both_done aim gave _ reader course listener.judge under.bytes heard rest.done
          (subst (λ (r : EntryReader). IsNone r.bad → entries_of r ≡ []) (sym rest.reader)
          (c.loop-goes_on.invariant.taken c.loop-goes_on-test.false)) rest.idle),
    )

pub returns-clause-outcome : goal.returns-clause-outcome
returns-clause-outcome g c = λ aim nothing.
    let under = c.loop-goes_on.invariant.under_way aim nothing in
    let rest = c.in_ok-read_rest.ensures in
    let gave = g.C.Feed.left c.args.companion.now in
    let listener = c.read_rest.new.self in
    let reader = listener.intake.reader in
    let course = listener.intake.course in
    let heard = rest.heard aim gave under.bytes under.handed under.pending under.judged in
    hearing_is aim gave _ reader course listener.judge under.bytes heard rest.done _ _
    (all_that_came ReadsEntries _ _ c.loop-goes_on.listener.intake.blocks under.bytes c.loop-goes_on.goes_on
    c.loop-goes_on-test.false under.stands)
    (c.in_ok-hearing_of.ensures under.bytes
    (text_of aim gave _ reader course listener.judge under.bytes heard rest.done)
    (subst (λ (j : Option Judge). AreBothDone reader course j under.bytes
    (text_of aim gave _ reader course listener.judge under.bytes heard rest.done)) (sym c.take-judge.ensures.value)
    (both_done aim gave _ reader course listener.judge under.bytes heard rest.done
    (subst (λ (r : EntryReader). IsNone r.bad → entries_of r ≡ []) (sym rest.reader)
    (c.loop-goes_on.invariant.taken c.loop-goes_on-test.false)) rest.idle)))

pub returns-clause-reads : goal.returns-clause-reads
returns-clause-reads g c =
    let read = c.loop-goes_on.invariant.read in
    let aim = c.requires.nothing.0 in
    let under = c.loop-goes_on.invariant.under_way aim c.requires.nothing.1 in
    let rest = c.in_ok-read_rest.ensures in
    let gave = g.C.Feed.left c.args.companion.now in
    let listener = c.read_rest.new.self in
    let reader = listener.intake.reader in
    let course = listener.intake.course in
    let heard = rest.heard aim gave under.bytes under.handed under.pending under.judged in
    both_read _ _ _
    (read_to_end _ _ read.ended c.loop-goes_on-test.false, read_to_end _ _ rest.fed.ended rest.done) (
      read.at_end c.loop-goes_on-test.false,
      none_left aim gave _ reader course listener.judge under.bytes heard rest.done,
    ) (read.heard, rest.fed.heard) (
      subst (λ (n : ℕ). n ≤ most_reads) (sym read.counted) c.loop-goes_on.listener.intake.blocks.source.bounded,
      few_reads _ _ _ course.companion rest.fed,
    )

pub returns-in_err-hearing_of-clause-reads : goal.returns-in_err-hearing_of-clause-reads
returns-in_err-hearing_of-clause-reads g c =
    let read = c.loop-goes_on.invariant.read in
    let fed = c.in_ok-read_rest.ensures.fed in
    told_by _ _ c.from_residual-in_err-hearing_of.result Memory c.from_residual-in_err-hearing_of.ensures.1
    (companion_cut _ _ Memory (inl (refl, fed.heard)) (read_to_end _ _ read.ended c.loop-goes_on-test.false)
    read.heard (
      subst (λ (n : ℕ). n ≤ most_reads) (sym read.counted) c.loop-goes_on.listener.intake.blocks.source.bounded,
      few_reads _ _ _ c.read_rest.new.self.intake.course.companion fed,
    ))

pub returns-in_err-hearing_of-clause-unwritten : goal.returns-in_err-hearing_of-clause-unwritten
returns-in_err-hearing_of-clause-unwritten g c =
    unwritten_by c.from_residual-in_err-hearing_of.result Memory c.from_residual-in_err-hearing_of.ensures.1
    (no_write Memory (inl refl))
