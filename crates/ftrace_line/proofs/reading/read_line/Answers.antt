-- What was read is the line's one meaning, so a fault is answered exactly where it is what the line means.
use Rattle.std.proofs.Common.{◌≡◌, ◌+◌, ◌*◌, List, ℕ, Result, Ok, Err, sym, ap, subst, ◌∙◌, rules}
use Rattle.std.specs.Prelude.{◌↔◌, IsErrOf}
use Rattle.ftrace_line.specs.declared.kinds.Sched.{Sched}
use Rattle.ftrace_line.specs.declared.kinds.Line.{Line}
use Rattle.ftrace_line.specs.declared.kinds.Line.TheVariants as line_variants
use Rattle.ftrace_line.specs.declared.fault.LineFault.{LineFault}
use Rattle.ftrace_line.specs.declared.fault.LineFault.TheVariants.{BadHead, NumberRange}
use Rattle.ftrace_line.specs.Line.{LineAnswer, IsHeadless, IsHeadOutOfRange}
use Rattle.ftrace_line.specs.Seen.{line_answer_view}
use Rattle.ftrace_line.specs.Meaning.{meaning_of}
use Rattle.cfs_model.specs.Limits.{nanoseconds_per_second}
use Rattle.ftrace_line.proofs.OneReading.{answer_only}
use Rattle.ftrace_line.proofs.Answered.{answer_so}
use Rattle.ftrace_line.proofs.Labels.{label_within}
use Rattle.ftrace_line.proofs.reading.read_line.Goals as goal

-- what the contract says of an answer
record Told (line : List ℕ) (answer : Result Line LineFault) : Type 0 where
  answers : LineAnswer line (line_answer_view answer)
  bad : IsErrOf answer BadHead ↔ IsHeadless line
  range : IsErrOf answer NumberRange ↔ IsHeadOutOfRange line

fault_seen : (answer : Result Line LineFault) (fault : LineFault) → line_answer_view answer ≡ Err fault
    → answer ≡ Err fault
fault_seen (Ok line) fault e = absurd cc
fault_seen (Err found) fault e = cc

-- it is so where the answer is what is read
told : (line : List ℕ) (answer : Result Line LineFault) → line_answer_view answer ≡ meaning_of line → Told line answer
told line answer e = record {
  answers = subst (LineAnswer line) (sym e) (answer_so line);
  bad = (
    (λ is. subst (LineAnswer line) (sym e ∙ ap line_answer_view is) (answer_so line)),
    (λ headless. fault_seen answer BadHead (e ∙ answer_only line (Err BadHead) headless)),
  );
  range = (
    (λ is. subst (LineAnswer line) (sym e ∙ ap line_answer_view is) (answer_so line)),
    (λ beyond. fault_seen answer NumberRange (e ∙ answer_only line (Err NumberRange) beyond)),
  );
}

pub fields_of-requires : goal.fields_of-requires
fields_of-requires c = label_within c.in-Some.head.text.now c.in-Some-kind_of.which (sym c.in-Some-kind_of.ensures)

pub returns-then-is_comment : goal.returns-then-is_comment
unfolding meaning_of
returns-then-is_comment c =
    let t = told c.args.line.now (Ok line_variants.Comment) (search rules) in
    record { answers = t.answers; bad = t.bad; range = t.range }

pub returns-then-is_lost : goal.returns-then-is_lost
unfolding meaning_of
returns-then-is_lost c =
    let t = told c.args.line.now (Ok line_variants.Lost) (search rules) in
    record { answers = t.answers; bad = t.bad; range = t.range }

pub returns-in_default : goal.returns-in_default
unfolding meaning_of
returns-in_default c =
    let t = told c.args.line.now (Err BadHead) (search rules) in
    record { answers = t.answers; bad = t.bad; range = t.range }

pub returns-then-head-gt-GREATEST_PROCESSOR : goal.returns-then-head-gt-GREATEST_PROCESSOR
unfolding meaning_of
returns-then-head-gt-GREATEST_PROCESSOR c =
    let t = told c.args.line.now (Err NumberRange) (search rules) in
    record { answers = t.answers; bad = t.bad; range = t.range }

pub returns-in_default-kind_of : goal.returns-in_default-kind_of
unfolding meaning_of
returns-in_default-kind_of c =
    let t = told c.args.line.now (Ok line_variants.Other) (search rules) in
    record { answers = t.answers; bad = t.bad; range = t.range }

pub returns : goal.returns
unfolding meaning_of
returns c =
    let head = c.in-Some.head in
    let event : Sched = record {
      cpu = head.cpu;
      which = c.in-Some-kind_of.which;
      time =
          head.time.seconds * nanoseconds_per_second + head.time.nanoseconds;
      rest = c.fields_of.result;
    } in
    let t = told c.args.line.now (Ok (line_variants.Sched event)) (search rules) in
    record { answers = t.answers; bad = t.bad; range = t.range }
