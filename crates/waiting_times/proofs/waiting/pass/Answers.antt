use Rattle.std.proofs.Common.{◌+◌}
use Rattle.std.proofs.lemmas.List.Elements.{All-weaker}
use Rattle.waiting_times.specs.Rows.{IsWithin}
use Rattle.waiting_times.proofs.Changed.{within_more}
use Rattle.waiting_times.proofs.waiting.pass.Goals as goal

pub returns-in-Wake-clause-within : goal.returns-in-Wake-clause-within
returns-in-Wake-clause-within c = λ n all.
    All-weaker (IsWithin n) (IsWithin (n + 1)) (within_more n) c.wake.new.self.table.rows
    (c.wake.ensures.within n all)

pub returns-in-Born-clause-within : goal.returns-in-Born-clause-within
returns-in-Born-clause-within c = λ n all.
    All-weaker (IsWithin n) (IsWithin (n + 1)) (within_more n) c.put.new.self.table.rows (c.put.ensures.within n all)
