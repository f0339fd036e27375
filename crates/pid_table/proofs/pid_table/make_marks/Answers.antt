use Rattle.std.proofs.Common.{◌≡◌, ℕ, length, sym, ◌∙◌, arith}
use Rattle.std.proofs.lemmas.Bool.{eqb-true}
use Rattle.pid_table.proofs.pid_table.make_marks.Goals as goal

pub returns-then-is_empty : goal.returns-then-is_empty
returns-then-is_empty c =
    let none = eqb-true (length c.args.pids.now) 0 (sym c.is_empty.ensures ∙ c.if-is_empty.true) in
    λ i d h. absurd (omega (arith, h, none))
