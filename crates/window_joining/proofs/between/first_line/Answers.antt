use Rattle.std.proofs.Common.{Some, sym, subst, arith}
use Rattle.std.specs.Prelude.{Any, ◌≡◌}
use Rattle.sched_record.specs.Join.{IsLeastOf}
use Rattle.window_joining.proofs.Firsts.{first_least}
use Rattle.window_joining.proofs.between.first_line.Goals as goal

pub returns-in-len1-up : goal.returns-in-len1-up
returns-in-len1-up g c =
    let line_of = g.T.OnLine.line in
    subst (λ n. IsLeastOf (λ m. Any (λ x. line_of x ≡ m) c.args.items.now) (Some n)) (sym c.line.ensures)
    (first_least line_of c.args.items.now c.item-item.result c.requires (omega arith) c.item-item.is)
