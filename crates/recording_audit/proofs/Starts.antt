-- A line that says that a processor's buffer begins there, and the last of a text's lines.
use Rattle.std.proofs.Common.{◌≡◌, ℕ, ◌-◌, List, [], ◌∷◌, ◌++◌, true, length, take, drop, codes, nat_eq, sym, ap, ◌∙◌}
use Rattle.std.proofs.Common.{append_assoc}
use Rattle.std.proofs.lemmas.List.{nil_from_length}
use Rattle.std.proofs.lemmas.Slice.Eq.{bytes_eq-Decides}
use Rattle.std.specs.List.{ends_with}
use Rattle.text_parts.specs.Lines.{lines_of}
use Rattle.text_parts.specs.Pieces.{begins_with}
use Rattle.text_parts.proofs.TextLines.{lines_of_nil}
use Rattle.recording_audit.specs.Causes.{EndsByStart, IsStart}

-- it begins and ends so
pub start_line : (line : List ℕ) → begins_with (codes "##### CPU ") line ≡ true
    → ends_with nat_eq line (codes " buffer started ####") ≡ true → IsStart line
start_line line front back = record {
  front = (bytes_eq-Decides (take 10 line) (codes "##### CPU ")).0 front;
  back = sym ((bytes_eq-Decides (codes " buffer started ####") (drop (length line - 20) line)).0 back);
}

-- one more line is gone
pub gone_more : (text rest after : List ℕ) (gone : List (List ℕ)) (line : List ℕ)
    → lines_of text ≡ gone ++ lines_of rest → lines_of rest ≡ line ∷ lines_of after
    → lines_of text ≡ (gone ++ line ∷ []) ++ lines_of after
gone_more text rest after gone line so_far next =
    so_far ∙ ap (λ lines. gone ++ lines) next ∙ sym (append_assoc gone (line ∷ []) (lines_of after))

-- nothing is left behind a line that says so
pub ends_by : (text rest after : List ℕ) (gone : List (List ℕ)) (line : List ℕ)
    → lines_of text ≡ gone ++ lines_of rest → lines_of rest ≡ line ∷ lines_of after → length after ≡ 0
    → IsStart line → EndsByStart text
ends_by text rest after gone line so_far next none start = record {
  before = gone;
  line = line;
  lines = so_far ∙ ap (λ lines. gone ++ lines)
      (next ∙ ap (λ lines. line ∷ lines) (ap lines_of (nil_from_length after none) ∙ lines_of_nil));
  start = start;
}
