use Rattle.text_parts.specs.Lines.{lines_of}
use Rattle.sched_audit.proofs.judging.judge.Goals as goal

pub returns-clause-outcome : goal.returns-clause-outcome
returns-clause-outcome g c =
    let read = c.in_ok-trace.ensures.all in
    record {
      trace_bytes = read.0;
      companion_bytes = c.in_ok-companion.companion.items;
      trace_whole = read.1;
      companion_whole = c.in_ok-companion.ensures.all;
      answer = c.in_ok-hearing_of.ensures.outcome read.0 (c.finish.ensures.answered (lines_of read.0) read.2);
      tells = c.in_ok-hearing_of.ensures.tells;
    }

pub returns-clause-heard : goal.returns-clause-heard
returns-clause-heard g c =
    let read = c.in_ok-trace.ensures.all in
    record {
      trace_bytes = read.0;
      companion_bytes = c.in_ok-companion.companion.items;
      trace_whole = read.1;
      companion_whole = c.in_ok-companion.ensures.all;
      answer = c.in_ok-hearing_of.ensures.heard read.0 (c.finish.ensures.answered (lines_of read.0) read.2);
      tells = c.in_ok-hearing_of.ensures.tells;
    }
