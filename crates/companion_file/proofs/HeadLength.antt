-- Up to a line feed with `at ` behind it a text is whole lines.
use Rattle.std.proofs.Common.{◌≡◌, ℕ, ◌+◌, ◌∷◌, ◌++◌, [], List, take, get_or, inr, ap, ◌∙◌, lit<, arith}
use Rattle.std.proofs.lemmas.List.{take_more}
use Rattle.text_parts.specs.Lines.{IsWhole}
use Rattle.companion_file.specs.Piecewise.{BeginsClaim}

pub whole_before : (text : List ℕ) (feed : ℕ) → BeginsClaim text feed → IsWhole (take (feed + 1) text)
whole_before text feed begins =
    let read : get_or text (feed + 0) 0 ≡ 10 = begins.reads 0 (lit< tt) in
    let here : get_or text feed 0 ≡ 10 = ap (λ n. get_or text n 0) (omega arith) ∙ read in
    let fits = begins.fits in
    inr (take feed text, take_more text feed 0 (omega arith) ∙ ap (λ byte. take feed text ++ byte ∷ []) here)
