use Rattle.companion_file.proofs.Reader.{order_held, forgotten}
use Rattle.companion_file.proofs.companion_reader.CompanionReader.forget_through.Goals as goal

pub invariant_of-self : goal.invariant_of-self
invariant_of-self c = record {
  ordered = order_held c.args.line c.args.self.now.draft c.forget_through.new.self c.args.self.now.ordered
      c.forget_through.ensures.holds;
}

pub returns-clause-stays : goal.returns-clause-stays
returns-clause-stays c lines said edge read up =
    let reader = c.args.self.now in
    forgotten reader.bad lines reader.count reader.draft c.forget_through.new.self said edge c.args.line
    c.forget_through.ensures.holds up read
