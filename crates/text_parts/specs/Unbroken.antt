-- Bytes of one line, for what is read of a text before the end of its line is looked for.
use Rattle.std.specs.Prelude.{ℕ, IsFalse, List}
use Rattle.std.specs.List.{list_any}
use Rattle.text_parts.specs.Lines.{is_line_feed}

-- no line feed is among the bytes
abbrev pub IsUnbroken : List ℕ → Type 0
IsUnbroken bytes = IsFalse (list_any is_line_feed bytes)
