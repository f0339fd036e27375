use Rattle.std.proofs.Common.{◌∙◌, ap, inr, rules}
use Rattle.pid_table.specs.Marks.{is_set}
use Rattle.pid_table.proofs.Marks.{none_set}
use Rattle.pid_table.proofs.pid_marks.PidMarks.make_room.Goals as goal

pub returns-clause-fresh : goal.returns-clause-fresh
returns-clause-fresh c =
    let words = c.in_ok-self.ensures.items_if_clones_equal (λ y same. search rules) in
    inr (λ pid. ap (λ w. is_set w pid) words ∙ none_set pid)
