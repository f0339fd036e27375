-- What a table ends as once a row that it lent has ended (this project's profile).
use Rattle.std.specs.Prelude.{ℕ}
use Rattle.std.specs.Borrow.{Fml, Lends, MutBor, RattleType}
use Rattle.pid_table.specs.Rows.{Rows, with_row}
use Rattle.pid_table.specs.contracts.pid_table.PidTable.{the_row}

-- the row at the index is the last value behind the reference
abbrev pub LendsRow : (V : RattleType) → MutBor (Rows V.Denot) → ℕ → MutBor V.Denot → Fml
LendsRow V table index row = Lends (the_row V) V table row (with_row table.now index)
