use Rattle.entry_reader.proofs.Settled.{has_read_too}
use Rattle.entry_reader.proofs.reader.EntryReader.settled_line.Goals as goal

pub returns : goal.returns
returns c = has_read_too
