-- Tasks that are named one after the other: there is one tally for each, in the order in which they were named first.
use Rattle.std.proofs.Common.{◌≡◌, ◌≢◌, ℕ, ◌+◌, ◌<◌, Bool, true, false, not, ◌||◌, cond, eqb, List, [], ◌∷◌, ◌++◌}
use Rattle.std.proofs.Common.{length, map, take, get_or, inl, inr, refl, sym, ap, ◌∙◌, append_assoc}
use Rattle.std.specs.Prelude.{filter}
use Rattle.std.specs.List.{list_any}
use Rattle.std.proofs.lemmas.Bool.{eq-eqb, ne_eqb}
use Rattle.std.proofs.lemmas.List.{append-nil, flat_map_more, map-append, take_more}
use Rattle.std.proofs.lemmas.List.Elements.{filter-append}
use Rattle.std.proofs.lemmas.List.Sums.{fold-append}
use Rattle.cfs_model.proofs.Moves.{same_or_not}
use Rattle.cfs_model.specs.Claimed.{Claimed}
use Rattle.cfs_model.specs.declared.act.Entry.{Entry}
use Rattle.cfs_model.specs.declared.task.Task.{Task}
use Rattle.replay_model.specs.Noted.{new_tally, with_tally}
use Rattle.replay_model.specs.Summary.{born_by, born_in, each_once, tasks_of_run}
use Rattle.replay_model.specs.declared.page.Tally.{Tally}
use Rattle.ticket_book.specs.Naming.{births_in, with_named}

-- some tasks, and then others
pub both_named : (xs ys : List ℕ) (sums now after : List Tally) → now ≡ with_named xs sums → after ≡ with_named ys now
    → after ≡ with_named (xs ++ ys) sums
both_named xs ys sums now after first second =
    second ∙ ap (with_named ys) first ∙ sym (fold-append (λ named pid. with_tally pid named) sums xs ys)

-- one more, along a list
pub one_more_named : {X : Type 0} (pid_of : X → ℕ) (xs : List X) (i : ℕ) (x : X) (sums now after : List Tally)
    → i < length xs
    → x ≡ get_or xs i x → now ≡ with_named (map pid_of (take i xs)) sums → after ≡ with_tally (pid_of x) now
    → after ≡ with_named (map pid_of (take (i + 1) xs)) sums
one_more_named pid_of xs i x sums now after within is first second =
    both_named (map pid_of (take i xs)) (pid_of x ∷ []) sums now after first second
    ∙ ap (λ pids. with_named pids sums)
    (sym (map-append pid_of (take i xs) (x ∷ []))
    ∙ ap (map pid_of) (ap (λ y. take i xs ++ y ∷ []) is ∙ sym (take_more xs i x within)))

-- one event more
pub births_more : (events : List Entry) (i : ℕ) (event : Entry) → i < length events → event ≡ get_or events i event
    → births_in (take i events) ++ born_by event.act ≡ births_in (take (i + 1) events)
births_more events i event within is =
    flat_map_more (λ (e : Entry). born_by e.act) [] (take i events) event
    ∙ ap births_in (ap (λ e. take i events ++ e ∷ []) is ∙ sym (take_more events i event within))

-- the births among events with what is said on their lines
births_said : (said : List Claimed) → births_in (map (λ event. event.entry) said) ≡ born_in said
births_said [] = refl
births_said (event ∷ said) = ap (λ pids. born_by event.entry.act ++ pids) (births_said said)

-- whether a pid is among some
abbrev pub names_pid : List ℕ → ℕ → Bool
names_pid pids pid = list_any (λ other. eqb other pid) pids

abbrev pub but : ℕ → List ℕ → List ℕ
but pid pids = filter (λ other. not (eqb other pid)) pids

has_but : (pids : List ℕ) (taken pid : ℕ) → taken ≢ pid → names_pid (but taken pids) pid ≡ names_pid pids pid
has_but [] taken pid ne = refl
has_but (x ∷ xs) taken pid ne = elim (same_or_not x taken) [
  | inl same ↦ ap (λ b. names_pid (cond (not b) (x ∷ but taken xs) (but taken xs)) pid) (eq-eqb x taken same)
      ∙ has_but xs taken pid ne ∙ ap (λ b. b || names_pid xs pid) (sym (ne_eqb x pid (λ e. ne (sym same ∙ e))))
  | inr other ↦ ap (λ b. names_pid (cond (not b) (x ∷ but taken xs) (but taken xs)) pid) (ne_eqb x taken other)
      ∙ ap (λ b. eqb x pid || b) (has_but xs taken pid ne)
]

has_once : (pids : List ℕ) (pid : ℕ) → names_pid (each_once pids) pid ≡ names_pid pids pid
has_once [] pid = refl
has_once (x ∷ xs) pid = elim (same_or_not x pid) [
  | inl same ↦ ap (λ b. b || names_pid (but x (each_once xs)) pid) (eq-eqb x pid same)
      ∙ ap (λ b. b || names_pid xs pid) (sym (eq-eqb x pid same))
  | inr ne ↦ ap (λ b. eqb x pid || b) (has_but (each_once xs) x pid ne ∙ has_once xs pid)
]

-- a pid is left out where it is taken, and else stays
but_at : (b : Bool) (pids : List ℕ) (x pid : ℕ) → x ≡ pid → but x (cond b pids (pids ++ pid ∷ [])) ≡ but x pids
but_at true pids x pid same = refl
but_at false pids x pid same =
    filter-append (λ other. not (eqb other x)) pids (pid ∷ [])
    ∙ ap (λ b. but x pids ++ cond (not b) (pid ∷ []) []) (eq-eqb pid x (sym same)) ∙ append-nil (but x pids)

but_other : (b : Bool) (pids : List ℕ) (x pid : ℕ) → x ≢ pid
    → but x (cond b pids (pids ++ pid ∷ [])) ≡ cond b (but x pids) (but x pids ++ pid ∷ [])
but_other true pids x pid ne = refl
but_other false pids x pid ne =
    filter-append (λ other. not (eqb other x)) pids (pid ∷ [])
    ∙ ap (λ b. but x pids ++ cond (not b) (pid ∷ []) []) (ne_eqb pid x (λ e. ne (sym e)))

cons_or : (b : Bool) (x pid : ℕ) (pids : List ℕ)
    → x ∷ cond b pids (pids ++ pid ∷ []) ≡ cond b (x ∷ pids) (x ∷ pids ++ pid ∷ [])
cons_or true x pid pids = refl
cons_or false x pid pids = refl

-- one pid more at the end
each_once_push : (pids : List ℕ) (pid : ℕ)
    → each_once (pids ++ pid ∷ []) ≡ cond (names_pid pids pid) (each_once pids) (each_once pids ++ pid ∷ [])
each_once_push [] pid = refl
each_once_push (x ∷ xs) pid = elim (same_or_not x pid) [
  | inl same ↦ ap (λ pids. x ∷ but x pids) (each_once_push xs pid)
      ∙ ap (λ pids. x ∷ pids) (but_at (names_pid xs pid) (each_once xs) x pid same)
      ∙ ap (λ b. cond (b || names_pid xs pid) (each_once (x ∷ xs)) (each_once (x ∷ xs) ++ pid ∷ []))
      (sym (eq-eqb x pid same))
  | inr ne ↦ ap (λ pids. x ∷ but x pids) (each_once_push xs pid)
      ∙ ap (λ pids. x ∷ pids) (but_other (names_pid xs pid) (each_once xs) x pid ne)
      ∙ cons_or (names_pid xs pid) x pid (but x (each_once xs))
      ∙ ap (λ b. cond (b || names_pid xs pid) (each_once (x ∷ xs)) (each_once (x ∷ xs) ++ pid ∷ []))
      (sym (ne_eqb x pid ne))
]

names_tally : (pids : List ℕ) (pid : ℕ) → list_any (λ (tally : Tally). eqb tally.pid pid)
    (map new_tally pids) ≡ names_pid pids pid
names_tally [] pid = refl
names_tally (x ∷ xs) pid = ap (λ b. eqb x pid || b) (names_tally xs pid)

map_or : (b : Bool) (pids : List ℕ) (pid : ℕ)
    → cond b (map new_tally pids) (map new_tally pids ++ new_tally pid ∷ []) ≡ map new_tally
    (cond b pids (pids ++ pid ∷ []))
map_or true pids pid = refl
map_or false pids pid = sym (map-append new_tally pids (pid ∷ []))

tally_once : (pids : List ℕ) (pid : ℕ) → with_tally pid (map new_tally (each_once pids)) ≡ map new_tally
    (each_once (pids ++ pid ∷ []))
tally_once pids pid =
    ap (λ b. cond b (map new_tally (each_once pids)) (map new_tally (each_once pids) ++ new_tally pid ∷ []))
    (names_tally (each_once pids) pid ∙ has_once pids pid)
    ∙ map_or (names_pid pids pid) (each_once pids) pid ∙ ap (map new_tally) (sym (each_once_push pids pid))

-- naming tasks makes a tally for each of them, once
named_once : (xs ys : List ℕ) → with_named ys (map new_tally (each_once xs)) ≡ map new_tally (each_once (xs ++ ys))
named_once xs [] = ap (λ pids. map new_tally (each_once pids)) (sym (append-nil xs))
named_once xs (y ∷ ys) =
    ap (with_named ys) (tally_once xs y) ∙ named_once (xs ++ y ∷ []) ys
    ∙ ap (λ pids. map new_tally (each_once pids)) (append_assoc xs (y ∷ []) ys)

-- the tasks that the start names, and then those that are born
pub all_named : (tasks : List Task) (said : List Claimed) (events : List Entry) (rows : List Tally)
    → map (λ event. event.entry) said ≡ events
    → rows ≡ with_named (births_in events) (with_named (map (λ task. task.pid) tasks) [])
    → rows ≡ map new_tally (tasks_of_run tasks said)
all_named tasks said events rows are named =
    let pids : List ℕ = map (λ (task : Task). task.pid) tasks in
    both_named pids (births_in events) [] (with_named pids []) rows refl named
    ∙ named_once [] (pids ++ births_in events)
    ∙ ap (λ born. map new_tally (each_once (pids ++ born))) (ap births_in (sym are) ∙ births_said said)
