-- What a charge adds to the tallies of a page, where each pid that stands at the processor has one: the time since the
-- mark and its cost, exact or as told, to that of who runs.
use Rattle.std.proofs.Common.{◌≡◌, ℕ, ◌+◌, ◌-◌, true, false, Option, Some, None, List, refl, sym, ap, ◌∙◌, arith}
use Rattle.replay_model.specs.Part.{Part, Entity}
use Rattle.replay_model.specs.Noted.{told_cost, tallies_after_run, charged_tally, charged_tallies}
use Rattle.tally_laws.proofs.TalliesSaid.{said, has_tally, Once, KeepsPid, has_map, said_map, once_map}
use Rattle.cfs_model.specs.declared.charge_line.ChargeLine.{ChargeLine}
use Rattle.cfs_model.specs.declared.task.Place.{Place}
use Rattle.cfs_model.specs.declared.task.Place.TheVariants.{Run, Wait, Rest}
use Rattle.replay_model.specs.declared.page.Tally.{Tally}

-- an amount, of one who runs
abbrev pub of_runner : Place → ℕ → ℕ
of_runner Run amount = amount
of_runner _ amount = 0

-- how long a task is charged for at a time, and what it is charged
abbrev pub time_of : Part → ℕ → Option Entity → ℕ
time_of part time None = 0
time_of part time (Some s) = of_runner s.place (time - part.mark)

abbrev pub charge_to : Part → ℕ → Option ChargeLine → ℕ → Option Entity → ℕ
charge_to part time charge pid None = 0
charge_to part time charge pid (Some s) = of_runner s.place (told_cost charge part time pid s)

run_pid : (place : Place) (time cost : ℕ) (tally : Tally) → (tallies_after_run place time cost tally).pid ≡ tally.pid
run_pid Run time cost tally = refl
run_pid Wait time cost tally = refl
run_pid Rest time cost tally = refl

run_ran : (place : Place) (time cost : ℕ) (tally : Tally)
    → (tallies_after_run place time cost tally).ran ≡ tally.ran + of_runner place time
run_ran Run time cost tally = refl
run_ran Wait time cost tally = omega arith
run_ran Rest time cost tally = omega arith

run_charged : (place : Place) (time cost : ℕ) (tally : Tally)
    → (tallies_after_run place time cost tally).charged ≡ tally.charged + of_runner place cost
run_charged Run time cost tally = refl
run_charged Wait time cost tally = omega arith
run_charged Rest time cost tally = omega arith

run_picks : (place : Place) (time cost : ℕ) (tally : Tally)
    → (tallies_after_run place time cost tally).picks ≡ tally.picks + 0
run_picks Run time cost tally = omega arith
run_picks Wait time cost tally = omega arith
run_picks Rest time cost tally = omega arith

-- the charge of one tally
module _ (part : Part) (time : ℕ) (charge : Option ChargeLine) where
  charge_pid : (o : Option Entity) (tally : Tally) → (charged_tally part time charge o tally).pid ≡ tally.pid
  charge_pid None tally = refl
  charge_pid (Some s) tally = run_pid s.place (time - part.mark) (told_cost charge part time tally.pid s) tally

  charge_ran : (o : Option Entity) (tally : Tally)
      → (charged_tally part time charge o tally).ran ≡ tally.ran + time_of part time o
  charge_ran None tally = omega arith
  charge_ran (Some s) tally = run_ran s.place (time - part.mark) (told_cost charge part time tally.pid s) tally

  charge_charged : (o : Option Entity) (tally : Tally)
      → (charged_tally part time charge o tally).charged ≡ tally.charged + charge_to part time charge tally.pid o
  charge_charged None tally = omega arith
  charge_charged (Some s) tally = run_charged s.place (time - part.mark) (told_cost charge part time tally.pid s) tally

  charge_picks : (o : Option Entity) (tally : Tally)
      → (charged_tally part time charge o tally).picks ≡ tally.picks + 0
  charge_picks None tally = omega arith
  charge_picks (Some s) tally = run_picks s.place (time - part.mark) (told_cost charge part time tally.pid s) tally

  abbrev pub charged_one : Tally → Tally
  charged_one tally = charged_tally part time charge (part.tasks tally.pid) tally

  pub charge_keeps : KeepsPid charged_one
  charge_keeps tally = charge_pid (part.tasks tally.pid) tally

-- each pid that stands at the processor has a tally
abbrev pub Covers : Part → List Tally → Type 0
Covers part tallies = (pid : ℕ) (s : Entity) → part.tasks pid ≡ Some s → has_tally tallies pid ≡ true

-- who has no tally stands nowhere here
pub uncovered : (part : Part) (tallies : List Tally) → Covers part tallies → (pid : ℕ) → has_tally tallies pid ≡ false
    → part.tasks pid ≡ None
uncovered part tallies covers pid none = go (part.tasks pid) refl
  where
    go : (o : Option Entity) → part.tasks pid ≡ o → part.tasks pid ≡ None
    go None e = e
    go (Some s) e = let k : true ≡ false = sym (covers pid s e) ∙ none in absurd cc

-- the tallies after the charge
module _ (part : Part) (time : ℕ) (charge : Option ChargeLine) (tallies : List Tally) (covers : Covers part tallies)
  where
    pub charged_ran : (pid : ℕ) → said (λ t. t.ran) (charged_tallies part time charge tallies) pid
        ≡ said (λ t. t.ran) tallies pid + time_of part time (part.tasks pid)
    charged_ran pid = said_map (λ t. t.ran) (charged_one part time charge) (charge_keeps part time charge) pid
        (time_of part time (part.tasks pid))
        (λ tally e. charge_ran part time charge (part.tasks tally.pid) tally
        ∙ ap (λ p. tally.ran + time_of part time (part.tasks p)) e)
        tallies (λ none. ap (time_of part time) (uncovered part tallies covers pid none))

    pub charged_charged : (pid : ℕ) → said (λ t. t.charged) (charged_tallies part time charge tallies) pid
        ≡ said (λ t. t.charged) tallies pid + charge_to part time charge pid (part.tasks pid)
    charged_charged pid = said_map (λ t. t.charged) (charged_one part time charge) (charge_keeps part time charge) pid
        (charge_to part time charge pid (part.tasks pid))
        (λ tally e. charge_charged part time charge (part.tasks tally.pid) tally
        ∙ ap (λ p. tally.charged + charge_to part time charge p (part.tasks p)) e)
        tallies (λ none. ap (charge_to part time charge pid) (uncovered part tallies covers pid none))

    pub charged_picks : (pid : ℕ) → said (λ t. t.picks) (charged_tallies part time charge tallies) pid
        ≡ said (λ t. t.picks) tallies pid + 0
    charged_picks pid = said_map (λ t. t.picks) (charged_one part time charge) (charge_keeps part time charge) pid 0
        (λ tally e. charge_picks part time charge (part.tasks tally.pid) tally) tallies (λ none. refl)

pub charged_has : (part : Part) (time : ℕ) (charge : Option ChargeLine) (tallies : List Tally) (pid : ℕ)
    → has_tally (charged_tallies part time charge tallies) pid ≡ has_tally tallies pid
charged_has part time charge tallies pid = has_map (charged_one part time charge) (charge_keeps part time charge)
    tallies pid

pub charged_once : (part : Part) (time : ℕ) (charge : Option ChargeLine) (tallies : List Tally) → Once tallies
    → Once (charged_tallies part time charge tallies)
charged_once part time charge tallies once = once_map (charged_one part time charge) (charge_keeps part time charge)
    tallies once
