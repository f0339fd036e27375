-- Tallies that stand by pids: a stretch and a pick change one of them, and a pid gets one at the end.
use Rattle.std.proofs.Common.{◌≡◌, ◌≢◌, ℕ, zero, suc, ◌+◌, ◌<◌, ◌≤◌, Bool, true, false, ◌||◌, cond, eqb, List, [], ◌∷◌}
use Rattle.std.proofs.Common.{◌++◌, length, map, set, get_or, All, Option, None, Some, nat_eq, refl, sym, ap, ◌∙◌}
use Rattle.std.proofs.Common.{subst, arith, length-append}
use Rattle.std.specs.List.{list_any, IsDistinct}
use Rattle.std.proofs.lemmas.Bool.{eq-eqb, ne_eqb, cond-true, cond-false}
use Rattle.std.proofs.lemmas.List.{length-map, map-append}
use Rattle.std.proofs.lemmas.List.Elements.{All-head, All-tail}
use Rattle.std.proofs.lemmas.List.Quantifiers.{position-Some}
use Rattle.cfs_model.specs.declared.task.Task.{Task}
use Rattle.replay_model.specs.Noted.{new_tally, tallied, with_tally}
use Rattle.replay_model.specs.declared.page.Tally.{Tally}
use Rattle.replay_model.specs.declared.step.Deed.{Deed}
use Rattle.replay_model.specs.declared.step.Deed.TheVariants.{Switch, Wake, Born, Leave, Arrive}
use Rattle.runqueue.specs.TaskRows.{with_pid, with_pid_at}
use Rattle.pid_table.proofs.Indices.{pid_there, pid_nowhere}
use Rattle.pid_table.specs.Rows.{Rows, AreSound, index_in}
use Rattle.queue_replay.specs.Indices.{AreApart, AreOwn, pids_of}
use Rattle.queue_replay.specs.Rows.{pids_after}
use Rattle.queue_replay.specs.Stretches.{ran_tally, picked_tally, stretched}
use Rattle.queue_replay.specs.declared.stretch.Stretch.{Stretch}
use Rattle.queue_replay.proofs.IndexedBy.{changed_there, key_at, keys_kept, none_by, set_none}

ran_others : (pid time cost : ℕ) (t : Tally) → t.pid ≢ pid → ran_tally pid time cost t ≡ t
ran_others pid time cost t ne = cond-false (eqb t.pid pid) _ t (ne_eqb _ _ ne)

ran_keeps : (pid time cost : ℕ) (t : Tally) → (ran_tally pid time cost t).pid ≡ t.pid
ran_keeps pid time cost t = go (eqb t.pid pid)
  where
    go : (b : Bool) → (cond b (record t { ran = t.ran + time; charged = t.charged + cost }) t).pid ≡ t.pid
    go true = refl
    go false = refl

-- a stretch of its own task is added to a tally
pub ran_mine : (pid time cost : ℕ) (before x after : Tally) → x ≡ before → x.pid ≡ pid
    → after ≡ record before { ran = before.ran + time; charged = before.charged + cost }
    → after ≡ ran_tally pid time cost x
ran_mine pid time cost before x after same mine is =
    is ∙ sym (cond-true (eqb before.pid pid) _ before (eq-eqb _ _ (ap (λ (t : Tally). t.pid) (sym same) ∙ mine)))
    ∙ ap (ran_tally pid time cost) (sym same)

-- a switch to its own task is added to a tally
pub picked_mine : (pid : ℕ) (before x after : Tally) → x ≡ before → x.pid ≡ pid
    → after ≡ record before { picks = before.picks + 1 } → after ≡ picked_tally pid x
picked_mine pid before x after same mine is =
    is ∙ sym (cond-true (eqb before.pid pid) _ before (eq-eqb _ _ (ap (λ (t : Tally). t.pid) (sym same) ∙ mine)))
    ∙ ap (picked_tally pid) (sym same)

picked_others : (pid : ℕ) (t : Tally) → t.pid ≢ pid → picked_tally pid t ≡ t
picked_others pid t ne = cond-false (eqb t.pid pid) _ t (ne_eqb _ _ ne)

picked_keeps : (pid : ℕ) (t : Tally) → (picked_tally pid t).pid ≡ t.pid
picked_keeps pid t = go (eqb t.pid pid)
  where
    go : (b : Bool) → (cond b (record t { picks = t.picks + 1 }) t).pid ≡ t.pid
    go true = refl
    go false = refl

-- a tally after a change for one pid, where that pid's tally is
module _ (tallies : List Tally) (apart : AreApart tallies) where
  pub ran_there : (pid time cost i : ℕ) (d x : Tally) → i < length tallies → (get_or tallies i d).pid ≡ pid
      → x ≡ ran_tally pid time cost (get_or tallies i d)
      → set tallies i x ≡ map (ran_tally pid time cost) tallies
  ran_there pid time cost i d x h here is =
      ap (set tallies i) is ∙ sym (changed_there (λ (tally : Tally). tally.pid) (ran_tally pid time cost) pid
      (ran_others pid time cost) tallies apart i d h here)

  pub picked_there : (pid i : ℕ) (d x : Tally) → i < length tallies → (get_or tallies i d).pid ≡ pid
      → x ≡ picked_tally pid (get_or tallies i d) → set tallies i x ≡ map (picked_tally pid) tallies
  picked_there pid i d x h here is =
      ap (set tallies i) is ∙ sym (changed_there (λ (tally : Tally). tally.pid) (picked_tally pid) pid
      (picked_others pid) tallies apart i d h here)

-- whose tallies they are stays so
stretched_pids : (stretch : Option Stretch) (tallies : List Tally)
    → pids_of (stretched stretch tallies) ≡ pids_of tallies
stretched_pids None tallies = refl
stretched_pids (Some s) tallies =
    keys_kept (λ (tally : Tally). tally.pid) (ran_tally s.pid s.time s.cost) (ran_keeps s.pid s.time s.cost) tallies

picked_pids : (pid : ℕ) (tallies : List Tally) → pids_of (map (picked_tally pid) tallies) ≡ pids_of tallies
picked_pids pid tallies =
    keys_kept (λ (tally : Tally). tally.pid) (picked_tally pid) (picked_keeps pid) tallies

-- where a pid's tally is by the table, and that it has none where the table has no row
module _ (table : Rows Tally) (own : AreOwn table) where
  pub own_pids : map (λ (tally : Tally). tally.pid) table.rows ≡ table.pids
  unfolding AreOwn
  own_pids = own

  pub own_apart : AreSound table → AreApart table.rows
  own_apart sound = subst (IsDistinct nat_eq) (sym own_pids) sound.apart

  pub own_there : (pid index : ℕ) (d : Tally) → index_in table.pids pid ≡ Some index → index < length table.rows
      → (get_or table.rows index d).pid ≡ pid
  own_there pid index d is h =
      sym (key_at (λ (tally : Tally). tally.pid) table.rows index d h)
      ∙ ap (λ pids. get_or pids index d.pid) own_pids ∙ pid_there table.pids pid index d.pid is

  pub own_nowhere : (pid : ℕ) → index_in table.pids pid ≡ None → All (λ (tally : Tally). tally.pid ≢ pid) table.rows
  own_nowhere pid none =
      none_by (λ (tally : Tally). tally.pid) pid table.rows
      (subst (All (λ other. other ≢ pid)) (sym own_pids) (pid_nowhere table.pids pid none))

-- a table without rows, and one that has a tally more
pub own_none : (table : Rows Tally) → table.pids ≡ [] → table.rows ≡ [] → AreOwn table
unfolding AreOwn
own_none table pids rows = ap (map (λ (tally : Tally). tally.pid)) rows ∙ sym pids

pub own_more : (old new : Rows Tally) (pid : ℕ) (tally : Tally) → AreOwn old → tally.pid ≡ pid
    → new.pids ≡ old.pids ++ pid ∷ [] → new.rows ≡ old.rows ++ tally ∷ [] → AreOwn new
unfolding AreOwn
own_more old new pid tally own is pids rows =
    ap (map (λ (t : Tally). t.pid)) rows
    ∙ map-append (λ (t : Tally). t.pid) old.rows (tally ∷ [])
    ∙ ap (λ l. l ++ tally.pid ∷ []) own ∙ ap (λ p. old.pids ++ p ∷ []) is ∙ sym pids

pub own_same : (old new : Rows Tally) → AreOwn old → new.pids ≡ old.pids → new.rows ≡ old.rows → AreOwn new
unfolding AreOwn
own_same old new own pids rows = ap (map (λ (tally : Tally). tally.pid)) rows ∙ own ∙ sym pids

pub ran_nowhere : (tallies : List Tally) (pid time cost : ℕ) → All (λ t. t.pid ≢ pid) tallies
    → tallies ≡ map (ran_tally pid time cost) tallies
ran_nowhere tallies pid time cost none =
    sym (set_none (λ t. t.pid ≢ pid) (ran_tally pid time cost) tallies (ran_others pid time cost) none)

pub picked_nowhere : (tallies : List Tally) (pid : ℕ) → All (λ t. t.pid ≢ pid) tallies
    → tallies ≡ map (picked_tally pid) tallies
picked_nowhere tallies pid none = sym (set_none (λ t. t.pid ≢ pid) (picked_tally pid) tallies (picked_others pid) none)

-- a pid with no tally gets one at the end
any_none : (tallies : List Tally) (pid : ℕ) → All (λ t. t.pid ≢ pid) tallies
    → list_any (λ t. eqb t.pid pid) tallies ≡ false
any_none [] pid none = refl
any_none (x ∷ xs) pid none =
    ap (λ b. b || list_any (λ t. eqb t.pid pid) xs) (ne_eqb x.pid pid (All-head (λ t. t.pid ≢ pid) x xs none))
    ∙ any_none xs pid (All-tail (λ t. t.pid ≢ pid) x xs none)

any_at : (tallies : List Tally) (pid i : ℕ) (d : Tally) → i < length tallies → (get_or tallies i d).pid ≡ pid
    → list_any (λ t. eqb t.pid pid) tallies ≡ true
any_at [] pid i d h e = absurd (omega arith)
any_at (x ∷ xs) pid zero d h e = ap (λ b. b || list_any (λ t. eqb t.pid pid) xs) (eq-eqb x.pid pid e)
any_at (x ∷ xs) pid (suc i) d h e = ap (λ b. eqb x.pid pid || b) (any_at xs pid i d (omega arith) e)
    ∙ or_true (eqb x.pid pid)
  where
    or_true : (b : Bool) → (b || true) ≡ true
    or_true true = refl
    or_true false = refl

pub pushed_tally : (tallies : List Tally) (pid : ℕ) → All (λ t. t.pid ≢ pid) tallies → tallies
    ++ new_tally pid ∷ [] ≡ with_tally pid tallies
pushed_tally tallies pid none =
    sym (cond-false (list_any (λ t. eqb t.pid pid) tallies) tallies (tallies
    ++ new_tally pid ∷ []) (any_none tallies pid none))

pub kept_tally : (tallies : List Tally) (pid i : ℕ) (d : Tally) → i < length tallies → (get_or tallies i d).pid ≡ pid
    → tallies ≡ with_tally pid tallies
kept_tally tallies pid i d h e =
    sym (cond-true (list_any (λ t. eqb t.pid pid) tallies) tallies (tallies
    ++ new_tally pid ∷ []) (any_at tallies pid i d h e))

-- a pid that has a row by now has a tally already, or gets one behind the last
at_index : (tallies : List Tally) (pid i : ℕ) (d : Tally) → index_in (pids_of tallies) pid ≡ Some i
    → i < length (pids_of tallies) → tallies ≡ with_tally pid tallies
at_index tallies pid i d is h =
    let n : length (pids_of tallies) ≡ length tallies = length-map tallies (λ (tally : Tally). tally.pid) in
    let within : i < length tallies = subst (λ m. i < m) n h in
    kept_tally tallies pid i d within
    (sym (key_at (λ (tally : Tally). tally.pid) tallies i d within) ∙ pid_there (pids_of tallies) pid i d.pid is)

module _ (tallies : List Tally) (pid rows : ℕ) (all : rows ≡ length (with_pid pid (pids_of tallies))) where
  many : length (pids_of tallies) ≡ length tallies
  many = length-map tallies (λ (tally : Tally). tally.pid)

  rows_at : (o : Option ℕ) → index_in (pids_of tallies) pid ≡ o → rows ≡ length (with_pid_at o pid (pids_of tallies))
  rows_at o is = all ∙ ap (λ x. length (with_pid_at x pid (pids_of tallies))) is

  pub tally_added : length tallies < rows → tallies ++ new_tally pid ∷ [] ≡ with_tally pid tallies
  tally_added more = go (index_in (pids_of tallies) pid) refl
    where
      go : (o : Option ℕ) → index_in (pids_of tallies) pid ≡ o → tallies ++ new_tally pid ∷ [] ≡ with_tally pid tallies
      go None none = pushed_tally tallies pid
          (none_by (λ (tally : Tally). tally.pid) pid tallies (pid_nowhere (pids_of tallies) pid none))
      go (Some i) is = let e : rows ≡ length (pids_of tallies) = rows_at (Some i) is in
          absurd (omega (arith, e, many, more))

  pub tally_there : rows ≤ length tallies → tallies ≡ with_tally pid tallies
  tally_there no_more = go (index_in (pids_of tallies) pid) refl
    where
      go : (o : Option ℕ) → index_in (pids_of tallies) pid ≡ o → tallies ≡ with_tally pid tallies
      go None none =
          let e : rows ≡ length (pids_of tallies ++ pid ∷ []) = rows_at None none in
          let l : length (pids_of tallies ++ pid ∷ []) ≡ length (pids_of tallies) + 1 =
          length-append (pids_of tallies) (pid ∷ []) in
          absurd (omega (arith, e, l, many, no_more))
      go (Some i) is = at_index tallies pid i (new_tally 0) is
          (position-Some (nat_eq pid) (pids_of tallies) i 0 is).0

-- whose tallies they are after a deed
named_pids : (pid : ℕ) (tallies : List Tally) → pids_of (with_tally pid tallies) ≡ with_pid pid (pids_of tallies)
named_pids pid tallies = go (index_in (pids_of tallies) pid) refl
  where
    go : (o : Option ℕ) → index_in (pids_of tallies) pid ≡ o
        → pids_of (with_tally pid tallies) ≡ with_pid pid (pids_of tallies)
    go None none =
        ap pids_of (sym (pushed_tally tallies pid
        (none_by (λ (tally : Tally). tally.pid) pid tallies (pid_nowhere (pids_of tallies) pid none))))
        ∙ map-append (λ (tally : Tally). tally.pid) tallies (new_tally pid ∷ [])
        ∙ ap (λ x. with_pid_at x pid (pids_of tallies)) (sym none)
    go (Some i) is =
        ap pids_of (sym (at_index tallies pid i (new_tally 0) is
        (position-Some (nat_eq pid) (pids_of tallies) i 0 is).0))
        ∙ ap (λ x. with_pid_at x pid (pids_of tallies)) (sym is)

pub tallied_pids : (deed : Deed) (tallies : List Tally)
    → pids_of (tallied deed tallies) ≡ pids_after deed (pids_of tallies)
tallied_pids (Switch prev prev_nice way zero next_nice) tallies = refl
tallied_pids (Switch prev prev_nice way (suc n) next_nice) tallies = picked_pids (suc n) tallies
tallied_pids (Wake pid nice) tallies = refl
tallied_pids (Born pid nice policy) tallies = named_pids pid tallies
tallied_pids (Leave pid nice dest) tallies = refl
tallied_pids (Arrive pid nice orig policy) tallies = named_pids pid tallies

-- the pids that have a row after a deed that was made, by the tallies with the runner's last stretch
pub rows_after : (deed : Deed) (stretch : Option Stretch) (first lifted after : List ℕ) (old mid : List Tally)
    → after ≡ pids_after deed lifted → lifted ≡ first → pids_of old ≡ first → mid ≡ stretched stretch old
    → after ≡ pids_after deed (pids_of mid)
rows_after deed stretch first lifted after old mid made same by_rows is =
    made ∙ ap (pids_after deed) (same ∙ sym by_rows ∙ sym (stretched_pids stretch old) ∙ ap pids_of (sym is))

-- the tallies of those who have done nothing yet
pub new_pids : (pids : List ℕ) → pids_of (map new_tally pids) ≡ pids
new_pids [] = refl
new_pids (pid ∷ pids) = ap (λ l. pid ∷ l) (new_pids pids)

pub new_of_tasks : (tasks : List Task)
    → map new_tally (map (λ (task : Task). task.pid) tasks) ≡ map (λ (task : Task). new_tally task.pid) tasks
new_of_tasks [] = refl
new_of_tasks (task ∷ tasks) = ap (λ l. new_tally task.pid ∷ l) (new_of_tasks tasks)
