use Rattle.std.proofs.Common.{◌≡◌, take}
use Rattle.std.specs.Prelude.{bytes_eq}
use Rattle.text_parts.proofs.pieces.begins_with.Given as goal

abbrev pub invariant-loop-index : goal.invariant-loop-index
invariant-loop-index l = l.same ≡ bytes_eq (take l.index l.text) (take l.index l.front)
