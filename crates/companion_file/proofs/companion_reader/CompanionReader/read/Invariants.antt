-- The lines that are gone from the rest were read.
use Rattle.std.proofs.Common.{◌≡◌, ℕ, ◌++◌, List, length}
use Rattle.text_parts.specs.Lines.{lines_of}
use Rattle.companion_file.specs.Reader.{ReadsOn}
use Rattle.companion_file.proofs.companion_reader.CompanionReader.read.Given as goal

abbrev pub invariant-loop-rest : goal.invariant-loop-rest
invariant-loop-rest l = record {
  front : List (List ℕ);
  parts : lines_of l.text ≡ front ++ lines_of l.rest;
  read : ReadsOn l.initial.self front l.self;
}

abbrev pub decreases-loop-rest : goal.decreases-loop-rest
decreases-loop-rest l = length l.rest
