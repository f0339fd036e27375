-- The lines that are gone from the rest were read.
use Rattle.std.proofs.Common.{◌≡◌, ℕ, ◌++◌, List, length}
use Rattle.text_parts.specs.Lines.{lines_of}
use Rattle.cfs_model.specs.declared.act.Entry.{Entry}
use Rattle.entry_reader.specs.Reader.{HasReadOut}
use Rattle.entry_reader.proofs.reader.EntryReader.read.Given as goal

abbrev pub invariant-loop-rest : goal.invariant-loop-rest
invariant-loop-rest l = record {
  front : List (List ℕ);
  parts : lines_of l.text ≡ front ++ lines_of l.rest;
  read : (lines : List (List ℕ)) (given : List Entry) → HasReadOut l.initial.self lines given
      → HasReadOut l.self (lines ++ front) given;
}

abbrev pub decreases-loop-rest : goal.decreases-loop-rest
decreases-loop-rest l = length l.rest
