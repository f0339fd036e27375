-- The pieces of a text: what stands at its front, runs of bytes, gaps, and parts one behind the other.
use Rattle.std.specs.Prelude.{ℕ, ◌<◌, ◌==◌, Bool, List, [], ◌∷◌, ◌++◌, IsTrue, length, take, bytes_eq}
use Rattle.std.specs.List.{list_all}

-- whether a text begins with these bytes
abbrev pub begins_with : List ℕ → List ℕ → Bool
begins_with front text = bytes_eq (take (length front) text) front

-- one or more bytes, each of which passes the test
pub record IsRunOf (test : ℕ → Bool) (text : List ℕ) : Type 0 where
  pub some : 0 < length text
  pub all : IsTrue (list_all test text)

-- a space
abbrev pub is_space : ℕ → Bool
is_space byte = byte == 32

-- one or more spaces
abbrev pub IsGap : List ℕ → Type 0
IsGap text = IsRunOf is_space text

-- the parts of a text, one behind the other
abbrev pub joined : List (List ℕ) → List ℕ
joined [] = []
joined (part ∷ []) = part
joined (part ∷ next ∷ parts) = part ++ joined (next ∷ parts)
