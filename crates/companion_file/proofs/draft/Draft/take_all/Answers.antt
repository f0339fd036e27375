use Rattle.std.proofs.Common.{Result, length, ap, subst, sym, ◌∙◌}
use Rattle.std.specs.List.{before_first}
use Rattle.std.specs.Result.{result_from_control_flow}
use Rattle.std.proofs.lemmas.Bool.{eqb-true}
use Rattle.std.proofs.lemmas.List.{nil_from_length}
use Rattle.text_parts.specs.Lines.{is_line_feed, lines_of}
use Rattle.text_parts.proofs.TextLines.{lines_of_nil}
use Rattle.companion_file.specs.declared.fault.Refusal.{Refusal}
use Rattle.companion_file.specs.Draft.{Takes}
use Rattle.companion_file.proofs.Piecewise.{taken_order, taken_then, said_at_end}
use Rattle.companion_file.proofs.draft.Draft.take_all.Goals as goal

pub loop-rest-preserved : goal.loop-rest-preserved
loop-rest-preserved c =
    let old = c.loop-rest.self in
    let new = c.take_next-taken.new.self in
    let line = before_first is_line_feed c.loop-rest.rest.now in
    let after = lines_of c.take_next-taken.result.1.now in
    let taken = subst (λ (r : Result Unit Refusal). Takes old line r new)
    (c.branch-taken.ensures ∙ ap (λ b. result_from_control_flow b) c.in_ok-taken.is)
    c.take_next-taken.ensures.taken in
    record {
      order = taken_order old new line c.in_ok-taken.field-0 c.loop-rest.invariant.order taken;
      on = λ said says. c.loop-rest.invariant.on said
          (taken_then old new said (lines_of c.loop-rest.rest.now) line after c.in_ok-taken.field-0
          c.take_next-taken.ensures.lines taken says);
    }

pub returns : goal.returns
returns c =
    let none = ap lines_of (nil_from_length c.loop-rest.rest.now
    (eqb-true (length c.loop-rest.rest.now) 0 (sym c.is_empty.ensures ∙ c.loop-rest-test.false))) ∙ lines_of_nil in
    c.loop-rest.invariant.on c.loop-rest.self (said_at_end c.loop-rest.self (lines_of c.loop-rest.rest.now) none)
