-- A word is a time where nothing is left behind the time at its front.
use Rattle.std.proofs.Common.{sym}
use Rattle.text_parts.proofs.Words.{time_from_word, one_time, no_time, no_time_word}
use Rattle.text_parts.proofs.time.read_time.Goals as goal

pub returns-in_err-time : goal.returns-in_err-time
returns-in_err-time c = rw c.from_residual.ensures (record {
  reads = no_time c.args.word.now c.in_err-time.ensures;
  only = λ s n time. absurd (no_time c.args.word.now c.in_err-time.ensures s n time);
})

pub returns-then-is_empty : goal.returns-then-is_empty
returns-then-is_empty c =
    let time = c.in_ok-time.time in
    record {
      reads = time_from_word c.args.word.now time.seconds time.nanoseconds c.in_ok-time.rest.now c.in_ok-time.ensures
          (sym c.if-is_empty.ensures);
      only = one_time c.args.word.now time.seconds time.nanoseconds c.in_ok-time.rest.now c.in_ok-time.ensures;
    }

pub returns-else-is_empty : goal.returns-else-is_empty
returns-else-is_empty c =
    let time = c.in_ok-time.time in
    let none =
    no_time_word c.args.word.now time.seconds time.nanoseconds c.in_ok-time.rest.now c.in_ok-time.ensures
    (sym c.if-is_empty.ensures) in
    record { reads = none; only = λ s n time. absurd (none s n time) }
