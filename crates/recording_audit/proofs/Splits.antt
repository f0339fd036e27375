-- A text that is cut behind whole lines, or behind all of it.
use Rattle.std.proofs.Common.{◌≡◌, ℕ, ◌+◌, ◌<◌, ◌≤◌, List, [], ◌++◌, length, take, drop, sym, ap, ◌∙◌, subst, arith}
use Rattle.std.proofs.Common.{length-take, take-append-drop}
use Rattle.std.proofs.lemmas.List.{append-nil, nil_from_length, take-take}
use Rattle.text_parts.specs.Lines.{IsWhole, lines_of}
use Rattle.text_parts.proofs.TextLines.{lines_of_nil}
use Rattle.recording_audit.specs.Splits.{AreSplit}

-- all of a text, and nothing behind it
pub split_all : (text front back : List ℕ) → front ≡ text → back ≡ [] → 0 < length text → AreSplit text front back
split_all text front back all none some =
    rw (all, none) (record {
      bytes = sym (append-nil text);
      lines = rw lines_of_nil (sym (append-nil (lines_of text)));
      some = some;
    })

-- whole lines, and what follows
pub split_whole : ((text more : List ℕ) → IsWhole text → lines_of (text ++ more) ≡ lines_of text ++ lines_of more)
    → (text front back : List ℕ) (end whole : ℕ) → whole ≤ length (take end text) → IsWhole (take whole (take end text))
    → front ≡ take whole text → back ≡ drop whole text → 0 < whole → AreSplit text front back
split_whole law text front back end whole within is first last some =
    let count = length-take end text in
    let same : take whole (take end text) ≡ take whole text = take-take whole end text (omega (arith, count, within)) in
    let parts = take-append-drop whole text in
    let long = length-take whole text in
    rw (first, last) (record {
      bytes = sym parts;
      lines = ap lines_of (sym parts) ∙ law (take whole text) (drop whole text) (subst IsWhole same is);
      some = omega (arith, long, within, count, some);
    })

-- where nothing is left, all lines are counted
pub all_counted : (count all : ℕ) (rest : List ℕ) → count + length (lines_of rest) ≡ all → length rest ≡ 0 → count ≡ all
all_counted count all rest counted none =
    let no_line : length (lines_of rest) ≡ 0 = ap (λ r. length (lines_of r)) (nil_from_length rest none)
    ∙ ap length lines_of_nil in
    omega (arith, counted, no_line)
