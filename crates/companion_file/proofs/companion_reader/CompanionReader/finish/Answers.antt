use Rattle.std.proofs.Common.{Option, sym, ap, ◌∙◌, inr}
use Rattle.std.specs.Prelude.{is_some}
use Rattle.companion_file.specs.declared.bad_line.BadLine.{BadLine}
use Rattle.companion_file.proofs.Reader.{where_none, closes_whole, closes_short}
use Rattle.companion_file.proofs.companion_reader.CompanionReader.finish.Goals as goal

pub returns-in-None : goal.returns-in-None
returns-in-None c lines said edge read few =
    let reader = c.args.self.now in
    let none = ap (λ (o : Option BadLine). is_some o) c.in-None.is in
    closes_whole lines reader.count reader.draft said edge (where_none _ reader.bad none read)
    (sym c.has_all_floors.ensures ∙ c.if-has_all_floors.true)

pub returns-in-None-2 : goal.returns-in-None-2
returns-in-None-2 c lines said edge read few =
    let reader = c.args.self.now in
    let none = ap (λ (o : Option BadLine). is_some o) c.in-None-2.is in
    inr (closes_short lines reader.count c.saturating_add.result reader.draft said edge
    (where_none _ reader.bad none read) (sym c.has_all_floors.ensures ∙ c.if-has_all_floors.false)
    c.saturating_add.ensures few)
