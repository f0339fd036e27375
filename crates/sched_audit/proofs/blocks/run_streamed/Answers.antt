use Rattle.sched_audit.proofs.Ended.{answered_as, unwritten_as}
use Rattle.sched_audit.proofs.InBlocks.{reads_both_on}
use Rattle.sched_audit.proofs.blocks.run_streamed.Goals as goal

pub returns : goal.returns
returns g c =
    let hearing = c.in_ok-heard.heard in
    let heard = c.in_ok-heard.ensures in
    let written = c.write_in_pieces.ensures in
    record {
      answered = answered_as _ _ _ c.write_in_pieces.result hearing.outcome hearing.tells_charges heard.outcome
          written.whole written.status;
      reads = reads_both_on _ _ hearing c.write_in_pieces.result heard.reads written.fault;
      written = written.written;
      write = written.write;
      front = λ e. (hearing.outcome, hearing.tells_charges, heard.outcome, written.front e);
      unwritten = unwritten_as c.write_in_pieces.result written.fault written.unwritten;
    }
