use Rattle.std.proofs.Common.{refl}
use Rattle.cfs_model.specs.declared.claim.Claim.{Claim}
use Rattle.cfs_model.specs.declared.nice_line.NiceLine.{NiceLine}
use Rattle.cfs_model.specs.declared.charge_line.ChargeLine.{ChargeLine}
use Rattle.companion_file.proofs.Holding.{left_so}
use Rattle.companion_file.proofs.draft.Draft.forget_through.Goals as goal

pub returns-clause-claims : goal.returns-clause-claims
returns-clause-claims c =
    let order = rw (← c.self.view_is) at c.requires in
    (left_so (λ (k : Claim). k.line) c.args.line c.self.inside.claims.items c.as_slice.result.now
    c.forget_first.new.list.items c.passed_claims-claims.result order.lines_rise c.as_slice.ensures.value
    c.passed_claims-claims.ensures c.forget_first.ensures).first

pub returns-clause-nices : goal.returns-clause-nices
returns-clause-nices c =
    let order = rw (← c.self.view_is) at c.requires in
    (left_so (λ (k : NiceLine). k.line) c.args.line c.self.inside.nices.items c.as_slice-2.result.now
    c.forget_first-2.new.list.items c.passed_changes-changes.result order.nice_lines_rise c.as_slice-2.ensures.value
    c.passed_changes-changes.ensures c.forget_first-2.ensures).first

pub returns-clause-charges : goal.returns-clause-charges
returns-clause-charges c =
    let order = rw (← c.self.view_is) at c.requires in
    (left_so (λ (k : ChargeLine). k.line) c.args.line c.self.inside.charges.items c.as_slice-3.result.now
    c.forget_first-3.new.list.items c.passed_charges-charges.result order.charge_lines_rise
    c.as_slice-3.ensures.value c.passed_charges-charges.ensures c.forget_first-3.ensures).first

pub returns-clause-holds : goal.returns-clause-holds
returns-clause-holds c =
    let order = rw (← c.self.view_is) at c.requires in
    rw (← c.self.view_is) (record {
      start = refl;
      claims = (left_so (λ (k : Claim). k.line) c.args.line c.self.inside.claims.items c.as_slice.result.now
          c.forget_first.new.list.items c.passed_claims-claims.result order.lines_rise c.as_slice.ensures.value
          c.passed_claims-claims.ensures c.forget_first.ensures).is_held;
      nices = (left_so (λ (k : NiceLine). k.line) c.args.line c.self.inside.nices.items c.as_slice-2.result.now
          c.forget_first-2.new.list.items c.passed_changes-changes.result order.nice_lines_rise
          c.as_slice-2.ensures.value c.passed_changes-changes.ensures c.forget_first-2.ensures).is_held;
      charges = (left_so (λ (k : ChargeLine). k.line) c.args.line c.self.inside.charges.items
          c.as_slice-3.result.now c.forget_first-3.new.list.items c.passed_charges-charges.result
          order.charge_lines_rise c.as_slice-3.ensures.value c.passed_charges-charges.ensures
          c.forget_first-3.ensures).is_held;
    })
