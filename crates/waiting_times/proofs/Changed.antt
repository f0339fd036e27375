-- Rows by pid: a change of the row of one pid is one at its index.
use Rattle.std.proofs.Common.{◌≡◌, ◌≢◌, ℕ, ◌+◌, ◌<◌, ◌*◌, ◌^◌, List, [], ◌∷◌, ◌++◌, Some, None, IfSome, All, length}
use Rattle.std.proofs.Common.{map, set, take, get_or, inl, inr, refl, sym, ap, ◌∙◌, subst, arith}
use Rattle.std.specs.Prelude.{slice_get}
use Rattle.std.proofs.lemmas.List.{get_or-map, get_or-set_other, get_or-set_same, length-map, length-set, same_lists}
use Rattle.std.proofs.lemmas.List.{take_more}
use Rattle.std.proofs.lemmas.List.Elements.{All-head, All-set, All-tail, All-weaker}
use Rattle.std.proofs.lemmas.Option.{get_or_from_slice_get}
use Rattle.cfs_model.proofs.Moves.{same_or_not}
use Rattle.cfs_model.specs.declared.act.Entry.{Entry}
use Rattle.cfs_model.specs.declared.task.Task.{Task}
use Rattle.pid_table.specs.Rows.{AreSound, Rows, index_in}
use Rattle.pid_table.proofs.Indices.{only_there, pid_nowhere, pid_there}
use Rattle.waiting_times.specs.Rows.{IsWithin, acted, along, at_start, changed, only, stand_by, standing_row}
use Rattle.waiting_times.specs.declared.moment.Moment.{Moment}
use Rattle.waiting_times.specs.declared.task_row.TaskRow.{TaskRow}
use Rattle.waiting_times.proofs.Turning.{only_other, only_same}

module _ (table : Rows TaskRow) (sound : AreSound table) (pid i : ℕ) (is : index_in table.pids pid ≡ Some i)
    (within : i < length table.rows) (f : TaskRow → TaskRow) (row now : TaskRow)
    (there : slice_get table.rows i ≡ Some row) (changes : now ≡ f row) where
  -- the row of a pid is changed
  pub row_changed : (row_of : ℕ → TaskRow) → table.rows ≡ map row_of table.pids
      → set table.rows i now ≡ map (changed pid f row_of) table.pids
  row_changed row_of rows =
      let n = length-set table.rows i now in
      let e = length-map table.pids (changed pid f row_of) in
      let one_each = sound.one_each in
      same_lists (set table.rows i now) (map (changed pid f row_of) table.pids) (omega arith)
      (λ k d h. at_index k d (subst (λ m. k < m) n h))
    where
      at_index : (k : ℕ) (d : TaskRow) → k < length table.rows
          → get_or (set table.rows i now) k d ≡ get_or (map (changed pid f row_of) table.pids) k d
      at_index k d h =
          let one_each = sound.one_each in
          let inside : k < length table.pids = omega arith in
          let here : i < length table.pids = omega arith in
          let old : get_or table.rows k d ≡ row_of (get_or table.pids k 0) =
          ap (λ l. get_or l k d) rows ∙ get_or-map row_of table.pids k 0 d inside in
          let new = get_or-map (changed pid f row_of) table.pids k 0 d inside in
          elim (same_or_not k i) [
            | inl same ↦
                let pid_is : get_or table.pids k 0 ≡ pid = ap (λ j. get_or table.pids j 0) same
                ∙ pid_there table.pids pid i 0 is in
                let row_is : get_or table.rows k d ≡ row = ap (λ j. get_or table.rows j d) same
                ∙ get_or_from_slice_get table.rows i row d there in
                ap (λ j. get_or (set table.rows i now) j d) same ∙ get_or-set_same table.rows i now d within
                ∙ changes ∙ ap f (sym row_is ∙ old)
                ∙ sym (only_same (get_or table.pids k 0) pid f (row_of (get_or table.pids k 0)) pid_is) ∙ sym new
            | inr ne ↦
                get_or-set_other table.rows i k now d ne ∙ old
                ∙ sym (only_other (get_or table.pids k 0) pid f (row_of (get_or table.pids k 0))
                (λ e. ne (only_there table.pids sound.apart k i 0 inside here
                (e ∙ sym (pid_there table.pids pid i 0 is)))))
                ∙ sym new
          ]

  -- what holds of each row and of the changed one holds of each
  pub all_changed : (P Q : TaskRow → Type 0) → ((x : TaskRow) → P x → Q x) → (P row → Q now) → All P table.rows
      → All Q (set table.rows i now)
  all_changed P Q weaker here all =
      All-set Q table.rows i now (here (subst P (get_or_from_slice_get table.rows i row row there) (all i row within)))
      (All-weaker P Q weaker table.rows all)

-- no row is, where the pid has none
pub row_unchanged : (pids : List ℕ) (pid : ℕ) → index_in pids pid ≡ None → (f : TaskRow → TaskRow)
    (row_of : ℕ → TaskRow) → map row_of pids ≡ map (changed pid f row_of) pids
row_unchanged pids pid none f row_of = go pids (pid_nowhere pids pid none)
  where
    go : (xs : List ℕ) → All (λ other. other ≢ pid) xs → map row_of xs ≡ map (changed pid f row_of) xs
    go [] a = refl
    go (x ∷ xs) a =
        ap (λ r. r ∷ map row_of xs)
        (sym (only_other x pid f (row_of x) (All-head (λ other. other ≢ pid) x xs a)))
        ∙ ap (λ l. changed pid f row_of x ∷ l) (go xs (All-tail (λ other. other ≢ pid) x xs a))

pub within_more : (n : ℕ) (row : TaskRow) → IsWithin n row → IsWithin (n + 1) row
within_more n row w = let a = w.times in let b = w.total in record { times = omega arith; total = omega arith }

-- one task more of the start
put_along : (start : Moment) (xs : List Task) (t : Task) (row : TaskRow) (pid : ℕ)
    → at_start start (xs ++ t ∷ []) row pid
    ≡ only pid t.pid (standing_row (stand_by start t.place)) (at_start start xs row pid)
put_along start [] t row pid = refl
put_along start (x ∷ xs) t row pid =
    put_along start xs t (only pid x.pid (standing_row (stand_by start x.place)) row) pid

map_same : {X : Type 0} (f g : ℕ → X) → ((pid : ℕ) → f pid ≡ g pid) → (pids : List ℕ) → map f pids ≡ map g pids
map_same f g e [] = refl
map_same f g e (x ∷ xs) = ap (λ y. y ∷ map f xs) (e x) ∙ ap (λ l. g x ∷ l) (map_same f g e xs)

pub one_more_put : (start : Moment) (tasks : List Task) (i : ℕ) (t : Task) (row : TaskRow) (pids : List ℕ)
    → i < length tasks → t ≡ get_or tasks i t
    → map (changed t.pid (standing_row (stand_by start t.place)) (at_start start (take i tasks) row)) pids
    ≡ map (at_start start (take (i + 1) tasks) row) pids
one_more_put start tasks i t row pids within is =
    map_same (changed t.pid (standing_row (stand_by start t.place)) (at_start start (take i tasks) row))
    (at_start start (take (i + 1) tasks) row)
    (λ pid. sym (put_along start (take i tasks) t row pid)
    ∙ ap (λ l. at_start start l row pid)
    (ap (λ y. take i tasks ++ y ∷ []) is ∙ sym (take_more tasks i t within))) pids

-- one event more
along_push : (pid : ℕ) (xs : List Entry) (event : Entry) (row : TaskRow)
    → along pid (xs ++ event ∷ []) row ≡ acted pid event (along pid xs row)
along_push pid [] event row = refl
along_push pid (x ∷ xs) event row = along_push pid xs event (acted pid x row)

pub one_more_passed : (events : List Entry) (i : ℕ) (event : Entry) (row_of : ℕ → TaskRow) (pids : List ℕ)
    → i < length events → event ≡ get_or events i event
    → map (λ pid. acted pid event (along pid (take i events) (row_of pid))) pids
    ≡ map (λ pid. along pid (take (i + 1) events) (row_of pid)) pids
one_more_passed events i event row_of pids within is =
    map_same (λ pid. acted pid event (along pid (take i events) (row_of pid)))
    (λ pid. along pid (take (i + 1) events) (row_of pid))
    (λ pid. sym (along_push pid (take i events) event (row_of pid))
    ∙ ap (λ l. along pid l (row_of pid))
    (ap (λ y. take i events ++ y ∷ []) is ∙ sym (take_more events i event within))) pids
