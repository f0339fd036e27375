use Rattle.std.proofs.Common.{◌++◌, ◌∙◌, drop, string_bytes, subst, arith}
use Rattle.std.proofs.KnownBytes.{Appends-trans}
use Rattle.audit_report.specs.Report.{tally_lines}
use Rattle.audit_report.specs.Taken.{AppendsFront}
use Rattle.audit_report.proofs.Piecewise.{front_behind, line_more, on_err, on_err_weaker}
use Rattle.audit_report.proofs.pieces.write_tallies.Goals as goal

pub returns-in_err-write_full-clause-front : goal.returns-in_err-write_full-clause-front
returns-in_err-write_full-clause-front g c =
    let before = c.loop-tally.invariant in
    on_err c.from_residual.result
    (front_behind _ _ _ _ before.done (string_bytes c.loop-tally.text)
    (tally_lines (drop c.loop-tally.tally-index c.args.tallies.now)) before.split before.taken
    c.in_err-write_full.ensures.front)

pub loop-tally-preserved : goal.loop-tally-preserved
loop-tally-preserved g c =
    let before = c.loop-tally.invariant in
    let flushed = c.in_ok-write_full.ensures.taken in
    let wide = c.in_ok-write_full.ensures.room in
    record {
      done = before.done ++ flushed.0;
      split = line_more _ before.done (string_bytes c.loop-tally.text) flushed.0 (string_bytes c.write_full.new.text)
          (string_bytes c.put_tally.new.text) c.args.tallies.now c.loop-tally.tally-index _ c.loop-tally-test.true
          before.split flushed.1 c.put_tally.ensures.bytes;
      taken = Appends-trans _ _ _ before.done flushed.0 before.taken flushed.2;
      heard = c.in_ok-write_full.ensures.heard ∙ before.heard;
      room = omega (arith, wide, c.put_tally.ensures.room);
    }

pub returns-clause-front : goal.returns-clause-front
returns-clause-front g c =
    let before = c.loop-tally.invariant in
    on_err_weaker c.write_all.result
    (λ front. front_behind _ _ _ _ before.done (string_bytes c.loop-tally.text)
    (tally_lines (drop c.loop-tally.tally-index c.args.tallies.now)) before.split before.taken
    (subst (AppendsFront _ _) c.as_bytes.ensures.value front)) c.write_all.ensures.front
