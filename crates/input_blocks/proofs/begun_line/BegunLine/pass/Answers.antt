use Rattle.std.proofs.Common.{◌≡◌, ◌+◌, ◌++◌, [], List, ℕ, ap, inl, inr, sym, subst, ◌∙◌, arith, drop, length}
use Rattle.std.proofs.lemmas.List.{take-append-drop}
use Rattle.std.specs.List.{before_first}
use Rattle.text_parts.specs.Lines.{is_line_feed, IsWhole}
use Rattle.input_blocks.proofs.Feeds.{first_end, no_feed, no_feed_before}
use Rattle.input_blocks.proofs.Holding.{held_none, on_ok, passes_lines, passes_longer}
use Rattle.input_blocks.proofs.begun_line.BegunLine.pass.Goals as goal

pub hold-requires : goal.hold-requires
hold-requires g c =
    let all = c.if-width-bytes.true in
    no_feed c.args.bytes.now c.next_line.result.0.now c.next_line.ensures.line (omega (arith, all))

pub returns-then-width-bytes-clause-passed : goal.returns-then-width-bytes-clause-passed
returns-then-width-bytes-clause-passed g c =
    on_ok _ _ c.hold.result
    (λ held line h. passes_longer g.L.LineReader.reads g.met.L.LineReader.reads_none c.args.reader.now
    c.hold.new.self line c.args.bytes.now (held line h)) c.hold.ensures.held

pub returns-then-width-bytes-clause-let_go : goal.returns-then-width-bytes-clause-let_go
returns-then-width-bytes-clause-let_go g c =
    on_ok _ _ c.hold.result (λ same settled. inl (same settled)) c.hold.ensures.let_go

pub end-requires : goal.end-requires
end-requires g c = (
  before_first is_line_feed c.args.bytes.now,
  no_feed_before c.args.bytes.now,
  c.split_at.ensures.front ∙ first_end c.args.bytes.now c.next_line.result.0.now c.next_line.ensures.line
      c.if-width-bytes.false,
)

pub returns-clause-let_go : goal.returns-clause-let_go
returns-clause-let_go g c =
    let bytes = c.args.bytes.now in
    let none = ap length c.in_ok-end.ensures.none in
    let first = c.split_at.ensures.front_len in
    let rest = c.split_at.ensures.back_len in
    let begun = c.split_at-2.ensures.back_len in
    on_ok _ _ c.hold-2.result (λ within settled. inr (omega (arith, within, none, first, rest, begun)))
    c.hold-2.ensures.within

pub returns-clause-passed : goal.returns-clause-passed
returns-clause-passed g c =
    let reads = g.L.LineReader.reads in
    let bytes = c.args.bytes.now in
    let width = length c.next_line.result.0.now in
    let end = c.split_at.result.0.now in
    let rest = c.split_at.result.1.now in
    let whole = c.split_at-2.result.0.now in
    let begun = c.split_at-2.result.1.now in
    let is = c.split_at.ensures.front ∙ first_end bytes c.next_line.result.0.now c.next_line.ensures.line
    c.if-width-bytes.false in
    let behind : rest ≡ whole ++ begun =
    sym (take-append-drop c.whole_lines.result rest)
    ∙ ap (λ (t : List ℕ). t ++ drop c.whole_lines.result rest) (sym c.split_at-2.ensures.front)
    ∙ ap (λ (t : List ℕ). whole ++ t) (sym c.split_at-2.ensures.back) in
    let parts : bytes ≡ end ++ (whole ++ begun) =
    sym (take-append-drop (width + 1) bytes)
    ∙ ap (λ (t : List ℕ). t ++ drop (width + 1) bytes) (sym c.split_at.ensures.front)
    ∙ ap (λ (t : List ℕ). end ++ t) (sym c.split_at.ensures.back ∙ behind) in
    let emptied = c.in_ok-end.ensures in
    let first = before_first is_line_feed bytes in
    on_ok _ _ c.hold-2.result
    (λ held line h. passes_lines reads c.lines_after_whole.ensures g.met.L.LineReader.reads_on c.args.reader.now
    c.end.new.reader c.read.new.self line first end whole begun bytes c.hold-2.new.self is parts
    (subst IsWhole (sym c.split_at-2.ensures.front) c.whole_lines.ensures.whole) (emptied.read line h)
    c.in_ok-read.ensures (held [] (held_none reads c.end.new.self emptied.none emptied.unsettled)))
    c.hold-2.ensures.held
