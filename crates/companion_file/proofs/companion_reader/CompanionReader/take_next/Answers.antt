-- Behind lines of which none is bad, one more is passed over, says more, or is the first bad one.
use Rattle.std.proofs.Common.{Result, Err, subst}
use Rattle.std.specs.List.{before_first}
use Rattle.text_parts.specs.Lines.{is_line_feed}
use Rattle.companion_file.specs.Draft.{Takes}
use Rattle.companion_file.specs.declared.fault.Refusal.{Refusal}
use Rattle.companion_file.proofs.GoingOn.{goes_nothing}
use Rattle.companion_file.proofs.Piecewise.{taken_order}
use Rattle.companion_file.proofs.Reader.{where_none, as_none, good_step, bad_step, unmoved}
use Rattle.companion_file.proofs.companion_reader.CompanionReader.take_next.Goals as goal

pub invariant_of-self : goal.invariant_of-self
invariant_of-self c =
    let line = before_first is_line_feed c.args.text.now in
    let old = c.args.self.now.draft in
    let new = c.take_next-taken.new.self in
    record {
      ordered = taken_order old new line c.in-Ok.field-0 c.args.self.now.ordered
          (subst (λ (r : Result Unit Refusal). Takes old line r new) c.in-Ok.is c.take_next-taken.ensures.taken);
    }

pub returns-in-Ok-clause-read : goal.returns-in-Ok-clause-read
returns-in-Ok-clause-read c before said edge read =
    let reader = c.args.self.now in
    let line = before_first is_line_feed c.args.text.now in
    let new = c.take_next-taken.new.self in
    let takes = subst (λ (r : Result Unit Refusal). Takes reader.draft line r new) c.in-Ok.is
    c.take_next-taken.ensures.taken in
    let step = good_step before line reader.count c.saturating_add-number.result reader.draft new said edge
    c.in-Ok.field-0 c.saturating_add-number.ensures (where_none _ reader.bad c.requires.good read) takes in
    (step.0, as_none _ reader.bad c.requires.good step.1, step.2)

pub returns-in-Err-Bad-clause-read : goal.returns-in-Err-Bad-clause-read
returns-in-Err-Bad-clause-read c before said edge read =
    let reader = c.args.self.now in
    let line = before_first is_line_feed c.args.text.now in
    let new = c.take_next-taken.new.self in
    let takes = subst (λ (r : Result Unit Refusal). Takes reader.draft line r new) c.in-Err-Bad.is
    c.take_next-taken.ensures.taken in (
      said,
      bad_step before line reader.count c.saturating_add-number.result reader.draft new said edge c.in-Err-Bad.cause
          c.saturating_add-number.ensures (where_none _ reader.bad c.requires.good read)
          (subst (λ (e : Refusal). Takes reader.draft line (Err e) new)
          (rw c.in-Err-Bad.is at c.in-Err-Bad.field-0-is) takes),
      goes_nothing said,
    )

pub returns-in-Err-Memory-clause-memory : goal.returns-in-Err-Memory-clause-memory
returns-in-Err-Memory-clause-memory c before said edge read =
    let reader = c.args.self.now in
    let line = before_first is_line_feed c.args.text.now in
    let new = c.take_next-taken.new.self in
    let takes = subst (λ (r : Result Unit Refusal). Takes reader.draft line r new) c.in-Err-Memory.is
    c.take_next-taken.ensures.taken in (
      said,
      unmoved reader.bad before reader.count reader.draft new said edge
          (subst (λ (e : Refusal). Takes reader.draft line (Err e) new)
          (rw c.in-Err-Memory.is at c.in-Err-Memory.field-0-is) takes) read,
      goes_nothing said,
    )
