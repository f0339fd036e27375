-- The lines of a text, and its comments (ftrace.rst: the file `trace` has one event a line, and heads its columns by
-- lines that begin with `#`). A line ends at a line feed, and a last line without one counts if it isn't empty.
use Rattle.std.specs.Prelude.{◌≡◌, ℕ, Bool, true, IsTrue, List, [], ◌∷◌, ◌++◌, ◌==◌, ◌⊎◌, if◌then◌else◌}

-- the byte that ends a line
abbrev pub is_line_feed : ℕ → Bool
is_line_feed byte = byte == 10

-- a byte that stands in the first of these lines
abbrev pub with_front : ℕ → List (List ℕ) → List (List ℕ)
with_front byte [] = (byte ∷ []) ∷ []
with_front byte (line ∷ lines) = (byte ∷ line) ∷ lines

-- the lines of a text, each without its line feed
unfoldable pub lines_of : List ℕ → List (List ℕ)
lines_of [] = []
lines_of (byte ∷ text) = if is_line_feed byte then [] ∷ lines_of text else with_front byte (lines_of text)

-- a text of whole lines: it is empty, or its last byte ends a line
abbrev pub IsWhole : List ℕ → Type 0
IsWhole text = (text ≡ []) ⊎ ((front : List ℕ) × (text ≡ front ++ 10 ∷ []))

-- whether a line is empty, or begins with `#`
unfoldable pub is_comment : List ℕ → Bool
is_comment [] = true
is_comment (byte ∷ line) = byte == 35

-- a comment
abbrev pub IsComment : List ℕ → Type 0
IsComment line = IsTrue (is_comment line)
