use Rattle.std.proofs.Common.{◌≡◌, take, min}
use Rattle.text_parts.specs.Numerals.{value_of, many}
use Rattle.text_parts.proofs.numerals.number_of.Given as goal

abbrev pub invariant-loop-byte : goal.invariant-loop-byte
invariant-loop-byte l = l.value ≡ min (value_of (take l.byte-index l.digits)) many
