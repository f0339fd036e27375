-- The tasks of a processor, compared one by one with those of the record that stand there: while all were equal, the
-- first ones are those of the tasks walked. Where one differs, no later task mends it.
use Rattle.std.proofs.Common.{◌≡◌, ◌≢◌, ℕ, ◌+◌, ◌<◌, ◌≤◌, List, [], ◌∷◌, ◌++◌, length, take, drop, get_or, Bool, true}
use Rattle.std.proofs.Common.{false, cond, eqb, not, refl, sym, ap, ◌∙◌, arith}
use Rattle.std.proofs.lemmas.Bool.Decides.{Decides-at, Decides-not}
use Rattle.std.proofs.lemmas.List.{append-nil, get_or_append_left, get_or_push, length-append, length_push}
use Rattle.std.proofs.lemmas.List.{take-append-drop, take_more}
use Rattle.std.proofs.lemmas.List.Elements.{filter-append}
use Rattle.cfs_model.specs.declared.task.Task.{Task}
use Rattle.cfs_model.specs.contracts.task.TaskPartialEq.TheImpl as task_eq
use Rattle.replay_model.specs.Cut.{tasks_at}
use Rattle.processor_stream.proofs.Same.{task_decides}
use Rattle.ticket_book.proofs.Cursors.{keeps_up}

true_of_not : (b : Bool) → not b ≡ false → b ≡ true
true_of_not true e = refl
true_of_not false e = absurd cc

-- what `!=` of two tasks says
pub same_task : (a b : Task) (r : Bool) → r ≡ not ((task_eq.ghosts).eq a b) → r ≡ false → a ≡ b
same_task a b r is e = (task_decides a b).0 (true_of_not ((task_eq.ghosts).eq a b) (sym is ∙ e))

pub other_task : (a b : Task) (r : Bool) → r ≡ not ((task_eq.ghosts).eq a b) → r ≡ true → a ≢ b
other_task a b r is e = (Decides-at r (not ((task_eq.ghosts).eq a b)) is
    (Decides-not ((task_eq.ghosts).eq a b) (task_decides a b))).0 e

-- one more task, which stands there or doesn't
pub tasks_more : (cpu : ℕ) (tasks : List Task) (i : ℕ) (task : Task) (b : Bool) → i < length tasks
    → task ≡ get_or tasks i task
    → eqb task.cpu cpu ≡ b → tasks_at cpu (take (i + 1) tasks) ≡ tasks_at cpu (take i tasks) ++ cond b (task ∷ []) []
tasks_more cpu tasks i task b h is here =
    ap (tasks_at cpu) (take_more tasks i task h ∙ ap (λ t. take i tasks ++ t ∷ []) (sym is))
    ∙ filter-append (λ (t : Task). eqb t.cpu cpu) (take i tasks) (task ∷ [])
    ∙ ap (λ c. tasks_at cpu (take i tasks) ++ cond c (task ∷ []) []) here

-- one that differs, or that is one too many
pub tasks_differ : (cpu : ℕ) (tasks here : List Task) (i index : ℕ) (task : Task) → i < length tasks
    → task ≡ get_or tasks i task
    → eqb task.cpu cpu ≡ true → index ≡ length (tasks_at cpu (take i tasks))
    → (index < length here → get_or here index task ≡ task → ⊥) → here ≢ tasks_at cpu tasks
tasks_differ cpu tasks here i index task h is stands count differs same =
    let front = tasks_at cpu (take i tasks) in
    let rest = tasks_at cpu (drop (i + 1) tasks) in
    let all : here ≡ (front ++ task ∷ []) ++ rest =
    same ∙ ap (tasks_at cpu) (sym (take-append-drop (i + 1) tasks))
    ∙ filter-append (λ (t : Task). eqb t.cpu cpu) (take (i + 1) tasks) (drop (i + 1) tasks)
    ∙ ap (λ ts. ts ++ rest) (tasks_more cpu tasks i task true h is stands) in
    let pushed = length_push front task in
    let long = ap length all ∙ length-append (front ++ task ∷ []) rest in
    let within : index < length (front ++ task ∷ []) = omega (arith, pushed, count) in
    differs (omega (arith, pushed, count, long))
    (ap (λ ts. get_or ts index task) all ∙ get_or_append_left (front ++ task ∷ []) rest task index within
    ∙ get_or_push front task task index (sym count))

-- a walk of the tasks has come to so many of those there
pub record HasWalked (cpu : ℕ) (tasks here : List Task) (index : ℕ) : Type 0 where
  pub within : index ≤ length here
  pub count : index ≡ length (tasks_at cpu tasks)
  pub same : tasks_at cpu tasks ≡ take index here

-- one that stands there, and is the same
pub walked_here : (cpu : ℕ) (tasks here : List Task) (i index : ℕ) (task : Task) → i < length tasks
    → task ≡ get_or tasks i task
    → eqb task.cpu cpu ≡ true → HasWalked cpu (take i tasks) here index → index < length here
    → get_or here index task ≡ task
    → HasWalked cpu (take (i + 1) tasks) here (index + 1)
walked_here cpu tasks here i index task h is stands walked more equal =
    let front = tasks_at cpu (take i tasks) in
    let next = keeps_up here front index task walked.count walked.same more equal in
    let push = tasks_more cpu tasks i task true h is stands in
    record { within = omega (arith, more); count = next.0 ∙ ap length (sym push); same = push ∙ next.1 }

-- one that stands elsewhere
pub walked_past : (cpu : ℕ) (tasks here : List Task) (i index : ℕ) (task : Task) → i < length tasks
    → task ≡ get_or tasks i task
    → eqb task.cpu cpu ≡ false → HasWalked cpu (take i tasks) here index → HasWalked cpu (take (i + 1) tasks) here index
walked_past cpu tasks here i index task h is stands walked =
    let same = tasks_more cpu tasks i task false h is stands ∙ append-nil (tasks_at cpu (take i tasks)) in
    record { within = walked.within; count = walked.count ∙ ap length (sym same); same = same ∙ walked.same }
