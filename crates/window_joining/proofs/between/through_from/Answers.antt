use Rattle.std.proofs.Common.{inl, inr}
use Rattle.std.proofs.lemmas.Bool.{cases_lt}
use Rattle.window_joining.proofs.Firsts.{through_here}
use Rattle.window_joining.proofs.between.through_from.Goals as goal

pub returns : goal.returns
returns g c =
    through_here g.T.OnLine.line c.args.items.now c.args.line c.count_from.result c.requires.rise
    c.count_from.ensures.within.1
    (λ k d lt. elim (cases_lt k c.args.from) [
      | inl before ↦ c.requires.passed k d before
      | inr behind ↦ c.count_from.ensures.passed k d behind lt
    ]) c.count_from.ensures.reached
