-- The tallies of a processor before its first step: one for each of its tasks, of one that has done nothing.
use Rattle.std.proofs.Common.{◌≡◌, ℕ, ◌<◌, nat_eq, Bool, true, false, ◌||◌, cond, Some, option_map, ℤ, List, [], ◌∷◌}
use Rattle.std.proofs.Common.{map, find, pos, refl, sym, ap, ◌∙◌, subst, arith}
use Rattle.std.specs.List.{AllByRecursion}
use Rattle.std.proofs.lemmas.Bool.{ne_eqb}
use Rattle.cfs_model.specs.Claimed.{Claimed}
use Rattle.cfs_model.specs.Order.{PidsRise, IsStart}
use Rattle.replay_model.specs.PartWords.{start_part}
use Rattle.replay_model.specs.Cut.{tasks_at, cut}
use Rattle.replay_model.specs.Noted.{new_tally}
use Rattle.replay_model.specs.Page.{ReplayStateView, IsStartOf}
use Rattle.tally_laws.proofs.TalliesSaid.{said, has_tally, Once}
use Rattle.tally_laws.proofs.TalliesCharged.{Covers}
use Rattle.cfs_model.specs.declared.task.Task.{Task}
use Rattle.replay_model.specs.declared.page.Tally.{Tally}

-- a tally for each of some tasks
abbrev pub idle_tallies : List Task → List Tally
idle_tallies tasks = map (λ (t : Task). new_tally t.pid) tasks

nothing_said : (field : Tally → ℕ) → ((pid : ℕ) → field (new_tally pid) ≡ 0) → (tasks : List Task) (pid : ℕ)
    → said field (idle_tallies tasks) pid ≡ 0
nothing_said field none [] pid = refl
nothing_said field none (t ∷ tasks) pid = go (nat_eq t.pid pid) (nothing_said field none tasks pid)
  where
    go : (b : Bool) → said field (idle_tallies tasks) pid ≡ 0
        → cond b (field (new_tally t.pid)) (said field (idle_tallies tasks) pid) ≡ 0
    go true rest = none t.pid
    go false rest = rest

has_found : (tasks : List Task) (floor : ℤ) (start : ℕ) → Covers (start_part tasks floor start) (idle_tallies tasks)
has_found [] floor start pid s e = absurd cc
has_found (t ∷ tasks) floor start pid s e = go (nat_eq t.pid pid) e (has_found tasks floor start pid s)
  where
    go : (b : Bool)
        → option_map (λ (t : Task). record
        { place = t.place; nice = t.nice; policy = t.policy; runtime = t.v; drift = pos 0 })
        (cond b (Some t) (find (λ (u : Task). nat_eq u.pid pid) tasks)) ≡ Some s
        → ((start_part tasks floor start).tasks pid ≡ Some s → has_tally (idle_tallies tasks) pid ≡ true)
        → (b || has_tally (idle_tallies tasks) pid) ≡ true
    go true h rest = refl
    go false h rest = rest h

-- among tasks of greater pids there is none of a pid
none_above : (cpu n : ℕ) (tasks : List Task) → AllByRecursion (λ (u : Task). n < u.pid) tasks
    → has_tally (idle_tallies (tasks_at cpu tasks)) n ≡ false
none_above cpu n [] above = refl
none_above cpu n (t ∷ tasks) above = go (nat_eq t.cpu cpu) (none_above cpu n tasks above.1)
  where
    go : (b : Bool) → has_tally (idle_tallies (tasks_at cpu tasks)) n ≡ false
        → has_tally (idle_tallies (cond b (t ∷ tasks_at cpu tasks) (tasks_at cpu tasks))) n ≡ false
    go true rest = ap (λ b. b || has_tally (idle_tallies (tasks_at cpu tasks)) n)
        (ne_eqb t.pid n (λ e. let k : n < t.pid = above.0 in absurd (omega arith))) ∙ rest
    go false rest = rest

once_at : (cpu : ℕ) (tasks : List Task) → PidsRise tasks → Once (idle_tallies (tasks_at cpu tasks))
once_at cpu [] rise = tt
once_at cpu (t ∷ tasks) rise = go (nat_eq t.cpu cpu) (once_at cpu tasks rise.1)
  where
    go : (b : Bool) → Once (idle_tallies (tasks_at cpu tasks))
        → Once (idle_tallies (cond b (t ∷ tasks_at cpu tasks) (tasks_at cpu tasks)))
    go true rest = (none_above cpu t.pid tasks rise.0, rest)
    go false rest = rest

-- what the tallies of a processor's first state are
pub record TalliesAtStart (s : ReplayStateView) : Type 0 where
  pub ran : (pid : ℕ) → said (λ t. t.ran) s.page.tallies pid ≡ 0
  pub charged : (pid : ℕ) → said (λ t. t.charged) s.page.tallies pid ≡ 0
  pub picks : (pid : ℕ) → said (λ t. t.picks) s.page.tallies pid ≡ 0
  pub covers : Covers s.part s.page.tallies
  pub once : Once s.page.tallies

pub tallies_at_start : (start : ℕ) (floors : List ℤ) (tasks : List Task) (events : List Claimed) (cpu : ℕ)
    (first : ReplayStateView) → IsStart floors tasks → IsStartOf (cut start floors tasks events cpu) first
    → TalliesAtStart first
tallies_at_start start floors tasks events cpu first s h =
    let mine = tasks_at cpu tasks in
    let are : first.page.tallies ≡ idle_tallies mine = ap (λ page. page.tallies) h.page in
    record {
      ran = λ pid. ap (λ ts. said (λ t. t.ran) ts pid) are ∙ nothing_said (λ t. t.ran) (λ p. refl) mine pid;
      charged = λ pid. ap (λ ts. said (λ t. t.charged) ts pid) are
          ∙ nothing_said (λ t. t.charged) (λ p. refl) mine pid;
      picks = λ pid. ap (λ ts. said (λ t. t.picks) ts pid) are ∙ nothing_said (λ t. t.picks) (λ p. refl) mine pid;
      covers = λ pid x e. ap (λ ts. has_tally ts pid) are
          ∙ has_found mine (cut start floors tasks events cpu).floor start pid x
          (ap (λ p. p.tasks pid) (sym h.part) ∙ e);
      once = subst Once (sym are) (once_at cpu tasks s.pids_rise);
    }
