-- The pieces so far were read, and those that are left have their readers.
use Rattle.std.proofs.Common.{drop, take}
use Rattle.std.specs.List.{AllZip, flat_map}
use Rattle.std.specs.Vec.Iter.{into_iter_items}
use Rattle.text_parts.specs.Lines.{lines_of}
use Rattle.sched_record.specs.Reader.{HasRead}
use Rattle.sched_record.proofs.reading_wide.joined.Given as goal

abbrev pub invariant-loop-piece : goal.invariant-loop-piece
invariant-loop-piece l = record {
  left : AllZip (λ piece reader. HasRead reader (lines_of piece.now)) (drop l.piece-index l.pieces)
      (into_iter_items l.readers);
  read : HasRead l.whole (flat_map (λ piece. lines_of piece.now) (take l.piece-index l.pieces));
}
