use Rattle.companion_file.proofs.Starts.{start_again, no_start}
use Rattle.companion_file.proofs.shapes.start_shape.Goals as goal

pub returns-in_err-read_time : goal.returns-in_err-read_time
returns-in_err-read_time c = rw c.from_residual.ensures (no_start c.args.text.now c.in_err-read_time.ensures.reads)

pub returns : goal.returns
returns c = let reads = c.in_ok-read_time.ensures.reads in rw (reads.2) (start_again c.args.text.now reads.0 _ reads.1)
