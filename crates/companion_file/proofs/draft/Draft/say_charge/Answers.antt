use Rattle.std.proofs.Common.{refl, sym, ◌∙◌, w64}
use Rattle.std.proofs.lemmas.Int.{to_z-of_z}
use Rattle.companion_file.specs.Shape.{charge_line}
use Rattle.companion_file.proofs.Faults.{fault_limits, fault_above, no_fault}
use Rattle.companion_file.proofs.draft.Draft.say_charge.Goals as goal

pub returns-in_default : goal.returns-in_default
returns-in_default c = (
  fault_limits c.args.self.now (charge_line (record { line = c.args.line; pid = c.args.pid; v = c.args.v }))
      (sym c.has_all_floors.ensures ∙ c.if-not-has_all_floors.false)
      (rw (to_z-of_z w64 c.args.v c.ranges.v) at (c.in_default.ensures 0)),
  refl,
)

pub returns-then-not-may_charge_at : goal.returns-then-not-may_charge_at
returns-then-not-may_charge_at c = (
  fault_above c.args.self.now (charge_line (record { line = c.args.line; pid = c.args.pid; v = c.args.v }))
      (sym c.has_all_floors.ensures ∙ c.if-not-has_all_floors.false)
      (rw (to_z-of_z w64 c.args.v c.ranges.v) at (c.in-Some.ensures.1 0)) refl refl refl
      (sym c.may_charge_at.ensures ∙ c.if-not-may_charge_at.true),
  refl,
)

pub returns : goal.returns
returns c = (
  no_fault c.args.self.now (charge_line (record { line = c.args.line; pid = c.args.pid; v = c.args.v }))
      (sym c.has_all_floors.ensures ∙ c.if-not-has_all_floors.false)
      (rw (to_z-of_z w64 c.args.v c.ranges.v) at (c.in-Some.ensures.1 0)) refl refl refl
      (sym c.may_charge_at.ensures ∙ c.if-not-may_charge_at.false) refl,
  rw (
    ← c.self.view_is,
    c.push_reserved.ensures.items,
    c.in_ok-reserve.ensures.items,
    c.in-Some.ensures.0,
    to_z-of_z w64 c.args.v c.ranges.v,
  ) refl,
)
