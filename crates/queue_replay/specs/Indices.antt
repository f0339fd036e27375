-- Tallies that stand by their pids, each under its own (this project's profile).
use Rattle.std.specs.Prelude.{◌≡◌, ℕ, List, map, nat_eq}
use Rattle.std.specs.List.{IsDistinct}
use Rattle.std.proofs.Props.{props}
use Rattle.replay_model.specs.declared.page.Tally.{Tally}
use Rattle.pid_table.specs.Rows.{Rows}

-- the tally of each pid is that pid's
unfoldable pub AreOwn : Rows Tally → Type 0
AreOwn table = map (λ tally. tally.pid) table.rows ≡ table.pids

pub AreOwn-prop : (table : Rows Tally) → IsProp (AreOwn table)
unfolding AreOwn
AreOwn-prop table = Prim.hlevel props

abbrev pub pids_of : List Tally → List ℕ
pids_of tallies = map (λ tally. tally.pid) tallies

-- no two tallies are of one pid
abbrev pub AreApart : List Tally → Type 0
AreApart tallies = IsDistinct nat_eq (pids_of tallies)
