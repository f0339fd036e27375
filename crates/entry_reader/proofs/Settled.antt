-- What a reader has read of lines that end with a settled one, it has read of those that end with a longer one.
use Rattle.std.proofs.Common.{ℕ, List, [], ◌∷◌, ◌++◌}
use Rattle.cfs_model.specs.declared.act.Entry.{Entry}
use Rattle.entry_reader.specs.Reader.{HasReadOut, entries_of}
use Rattle.entry_reader.specs.declared.reader.EntryReader.{EntryReader}
use Rattle.ftrace_line.specs.Front.{IsSettled}
use Rattle.sched_record.proofs.Settled.{both_ways, first_bad_too, read_too, settled_too}
use Rattle.sched_record.specs.Trace.{IsFirstBadTraceLine}

pub has_read_too : (reader : EntryReader) (lines : List (List ℕ)) (front more : List ℕ) (given : List Entry)
    → IsSettled front → HasReadOut reader (lines ++ front ∷ []) given
    → HasReadOut reader (lines ++ (front ++ more) ∷ []) given
has_read_too reader lines front more given settled read =
    let too = settled_too front more settled in
    both_ways (λ bad. IsFirstBadTraceLine (lines ++ front ∷ []) bad.line bad.cause)
    (λ bad. IsFirstBadTraceLine (lines ++ (front ++ more) ∷ []) bad.line bad.cause) reader.bad
    (λ is. record {
      read = read_too lines front (front ++ more) reader.count reader.last (given ++ entries_of reader) too is.read;
      kept = is.kept;
    })
    (λ bad. first_bad_too lines front (front ++ more) bad.line bad.cause too) read
