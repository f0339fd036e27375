-- The first line ends where the first line feed stands, or where the text ends.
use Rattle.std.proofs.Common.{◌≡◌, [], length, take, drop, ◌-◌, ap, ◌∙◌, arith}
use Rattle.std.proofs.lemmas.List.{take_rest, drop_all}
use Rattle.text_parts.proofs.TextLines.{CutsLine, cut_at_feed, cut_at_end}
use Rattle.text_parts.proofs.lines.next_line.Goals as goal

pub returns-in-Some : goal.returns-in-Some
returns-in-Some c =
    let text = c.args.text.now in
    let k = c.in-Some.end in
    let back = c.split_at.result.1.now in
    let cut : CutsLine text (take k text) (drop 1 (drop k text)) =
    cut_at_feed text k c.in-Some.ensures.0.high c.in-Some.ensures.0.before c.in-Some.ensures.1 in
    let line : c.split_at.result.0.now ≡ take k text = c.split_at.ensures.front in
    let rest : take (length back - 1) (drop 1 back) ≡ drop 1 (drop k text) = take_rest back 1
    ∙ ap (drop 1) c.split_at.ensures.back in
    rw (line, rest) (record { line = cut.line_is; rest = cut.rest_is; lines = cut.lines_are; shorter = cut.shorter })

pub returns-in-None : goal.returns-in-None
returns-in-None c =
    let text = c.args.text.now in
    let cut : CutsLine text text [] = cut_at_end text c.in-None.ensures in
    let rest : take (length text - length text) (drop (length text) text) ≡ [] =
    take_rest text (length text) ∙ drop_all (length text) text (omega arith) in
    rw rest (record { line = cut.line_is; rest = cut.rest_is; lines = cut.lines_are; shorter = cut.shorter })
