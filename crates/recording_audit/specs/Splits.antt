-- A text cut in two behind whole lines.
use Rattle.std.specs.Prelude.{◌≡◌, ℕ, ◌<◌, List, ◌++◌, length}
use Rattle.text_parts.specs.Lines.{lines_of}

-- the text is its front and then its rest, and so are its lines; something stands in the front
pub record AreSplit (text front rest : List ℕ) : Type 0 where
  pub bytes : text ≡ front ++ rest
  pub lines : lines_of text ≡ lines_of front ++ lines_of rest
  pub some : 0 < length front
