use Rattle.std.proofs.Common.{refl, sym, ap, ◌∙◌}
use Rattle.std.proofs.lemmas.Bool.{ne_eqb, eq-eqb}
use Rattle.cfs_model.specs.Limits.{no_line}
use Rattle.cfs_model.specs.declared.idle_line.IdleLine.{IdleLine}
use Rattle.companion_file.specs.Shape.{idle_line}
use Rattle.companion_file.proofs.Faults.{fault_limits, fault_above, fault_known, no_fault}
use Rattle.companion_file.proofs.Idling.{adds_tested, is_there, none_known, birth_known, start_known}
use Rattle.companion_file.proofs.draft.Draft.say_idle.Goals as goal

pub returns-in_default : goal.returns-in_default
returns-in_default c = (
  fault_limits c.args.self.now (idle_line (record { line = c.args.line; pid = c.args.pid }))
      (sym c.is_at_start.ensures ∙ c.if-not-is_at_start.false)
      (c.in_default.ensures 0),
  refl,
)

pub returns-then-not-may_be_idle : goal.returns-then-not-may_be_idle
returns-then-not-may_be_idle c = (
  fault_above c.args.self.now (idle_line (record { line = c.args.line; pid = c.args.pid }))
      (sym c.is_at_start.ensures ∙ c.if-not-is_at_start.false) (c.in-Some.ensures.1 0) refl refl refl
      (rw c.in-Some.ensures.0 at (sym c.may_be_idle.ensures ∙ c.if-not-may_be_idle.true)),
  refl,
)

pub returns-then-idle-ne-NO_LINE : goal.returns-then-idle-ne-NO_LINE
returns-then-idle-ne-NO_LINE c =
    adds_tested c.args.self.now (idle_line (record { line = c.args.line; pid = c.args.pid })) c.add_from_birth.result
    c.add_from_birth.new.self
    (no_fault c.args.self.now (idle_line (record { line = c.args.line; pid = c.args.pid }))
    (sym c.is_at_start.ensures ∙ c.if-not-is_at_start.false) (c.in-Some.ensures.1 0) refl refl refl
    (rw c.in-Some.ensures.0 at (sym c.may_be_idle.ensures ∙ c.if-not-may_be_idle.false))
    (birth_known c.args.line _ (ne_eqb c.args.line no_line
    (λ e. c.if-idle-ne-NO_LINE.true (ap (λ (idle : IdleLine). idle.line) c.in-Some.ensures.0 ∙ e)))))
    (rw c.in-Some.ensures.0 at c.add_from_birth.ensures)

pub returns-in_default-index_of : goal.returns-in_default-index_of
returns-in_default-index_of c =
    let start = eq-eqb c.args.line no_line (sym (ap (λ (idle : IdleLine). idle.line) c.in-Some.ensures.0)
    ∙ c.if-idle-ne-NO_LINE.false) in (
      fault_known c.args.self.now (idle_line (record { line = c.args.line; pid = c.args.pid }))
          (sym c.is_at_start.ensures ∙ c.if-not-is_at_start.false) (c.in-Some.ensures.1 0) refl refl refl
          (rw c.in-Some.ensures.0 at (sym c.may_be_idle.ensures ∙ c.if-not-may_be_idle.false))
          (none_known c.args.line _ start (rw c.in-Some.ensures.0 at c.in_default-index_of.ensures)),
      refl,
    )

pub returns : goal.returns
returns c =
    adds_tested c.args.self.now (idle_line (record { line = c.args.line; pid = c.args.pid })) c.add_from_start.result
    c.add_from_start.new.self
    (no_fault c.args.self.now (idle_line (record { line = c.args.line; pid = c.args.pid }))
    (sym c.is_at_start.ensures ∙ c.if-not-is_at_start.false) (c.in-Some.ensures.1 0) refl refl refl
    (rw c.in-Some.ensures.0 at (sym c.may_be_idle.ensures ∙ c.if-not-may_be_idle.false))
    (start_known c.args.line _ (is_there c.args.self.now.tasks c.args.pid c.in-Some-index_of.index
    (rw c.in-Some.ensures.0 at c.in-Some-index_of.ensures))))
    (rw c.in-Some.ensures.0 at c.add_from_start.ensures)
