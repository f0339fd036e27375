use Rattle.std.proofs.Common.{◌≡◌, ℕ, ◌<◌, ◌++◌, ◌∷◌, [], eqb, false, sym, ap, subst, ◌∙◌, arith}
use Rattle.std.proofs.lemmas.Bool.{eqb-true, eqb-false}
use Rattle.std.proofs.lemmas.List.{append_assoc, nil_from_length}
use Rattle.std.specs.List.{before_first}
use Rattle.text_parts.specs.Lines.{is_line_feed, lines_of}
use Rattle.entry_reader.specs.Reader.{HasReadOut}
use Rattle.entry_reader.proofs.Reading.{bad_stays}
use Rattle.sched_record.proofs.Reader.{no_lines}
use Rattle.entry_reader.proofs.reader.EntryReader.read.Goals as goal

-- what a test for emptiness says
some_left : (n : ℕ) → eqb n 0 ≡ false → 0 < n
some_left n e = let ne = eqb-false n 0 e in omega (arith, ne)

pub read_line-requires-clause-some : goal.read_line-requires-clause-some
read_line-requires-clause-some c = some_left _ (sym c.is_empty.ensures ∙ c.loop-rest-test.true)

pub read_line-requires-clause-good : goal.read_line-requires-clause-good
read_line-requires-clause-good c = sym c.is_some.ensures ∙ c.if-is_some.false

pub returns-then-is_some-clause-read : goal.returns-then-is_some-clause-read
returns-then-is_some-clause-read c lines given read =
    let before = c.loop-rest.invariant in
    let left = lines_of c.loop-rest.rest.now in
    subst (λ ls. HasReadOut c.loop-rest.self ls given) (append_assoc lines before.front left
    ∙ ap (λ ls. lines ++ ls) (sym before.parts))
    (bad_stays c.loop-rest.self (lines ++ before.front) left given (sym c.is_some.ensures ∙ c.if-is_some.true)
    (before.read lines given read))

pub loop-rest-preserved : goal.loop-rest-preserved
loop-rest-preserved c =
    let before = c.loop-rest.invariant in
    let line = before_first is_line_feed c.loop-rest.rest.now in
    let after = c.in_ok-rest.rest.now in
    record {
      front = before.front ++ line ∷ [];
      parts = before.parts ∙ ap (λ ls. before.front ++ ls) c.in_ok-rest.ensures.lines
          ∙ sym (append_assoc before.front (line ∷ []) (lines_of after));
      read = λ lines given read.
          subst (λ ls. HasReadOut c.read_line.new.self ls given) (append_assoc lines before.front (line ∷ []))
          (c.in_ok-rest.ensures.read (lines ++ before.front) given (before.read lines given read));
    }

pub returns-clause-read : goal.returns-clause-read
returns-clause-read c lines given read =
    let before = c.loop-rest.invariant in
    let none = nil_from_length _ (eqb-true _ 0 (sym c.is_empty.ensures ∙ c.loop-rest-test.false)) in
    let whole : lines_of c.args.text.now ≡ before.front = before.parts ∙ no_lines before.front _ none in
    subst (λ ls. HasReadOut c.loop-rest.self (lines ++ ls) given) (sym whole) (before.read lines given read)
