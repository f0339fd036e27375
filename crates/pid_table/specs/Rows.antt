-- Rows by pid, as contracts see them (this project's profile).
use Rattle.std.specs.Prelude.{◌≡◌, ℕ, List, Option, length, set, nat_eq, refl}
use Rattle.std.specs.Coded.{Coded, code_by, coded×, coded_list, coded_ℕ}
use Rattle.std.specs.List.{IsDistinct, position}

pub record Rows (V : Type 0) : Type 0 where
  -- in the order in which they were named
  pub pids : List ℕ
  -- in the order of their pids
  pub rows : List V
  -- how many more surely fit without memory
  pub room : ℕ

abbrev pub rows_code : {V : Type 0} → Coded V → Coded (Rows V)
rows_code {V} code = code_by (List ℕ × (List V × ℕ)) (coded× (coded_list coded_ℕ) (coded× (coded_list code) coded_ℕ))
    (λ t. (t.pids, (t.rows, t.room))) (λ p. record { pids = p.0; rows = p.1.0; room = p.1.1 }) (λ _. refl)

-- each pid has one row, and each row one pid
pub record AreSound {V : Type 0} (table : Rows V) : Type 0 where
  pub one_each : length table.rows ≡ length table.pids
  pub apart : IsDistinct nat_eq table.pids

-- where a pid stands in a list of pids
abbrev pub index_in : List ℕ → ℕ → Option ℕ
index_in pids pid = position (nat_eq pid) pids

-- the table with a row at an index
abbrev pub with_row : {V : Type 0} → Rows V → ℕ → V → Rows V
with_row table index row = record table { rows = set table.rows index row }
