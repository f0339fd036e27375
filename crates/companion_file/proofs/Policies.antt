-- Who starts as one of the idle policy. The tasks are kept with the policies so far: so one more idle line changes the
-- task that it names alone, and at the end the tasks and the lines agree.
use Rattle.std.proofs.Common.{◌≡◌, ◌≢◌, ℕ, ◌<◌, Bool, true, false, ◌&&◌, ◌||◌, eqb, List, [], ◌∷◌, ◌++◌, length, map}
use Rattle.std.proofs.Common.{get_or, set, refl, sym, ap, ◌∙◌, inl, inr, arith}
use Rattle.std.specs.Prelude.{All, AllPairs}
use Rattle.std.proofs.lemmas.Bool.{cases_Bool, cases_lt, cases_eq, eqb-true, eq-eqb, ne_eqb}
use Rattle.std.proofs.lemmas.List.{get_or-map, get_or-set_same, get_or-set_other, get_or_default, length-map}
use Rattle.std.proofs.lemmas.List.{length-set, same_lists}
use Rattle.std.proofs.lemmas.List.Elements.{All-map, All-weaker, All-head, All-tail}
use Rattle.std.proofs.lemmas.List.Folds.{list_any-append}
use Rattle.cfs_model.specs.Limits.{no_line}
use Rattle.cfs_model.specs.Claimed.{is_named_idle, named_policy, policy_by}
use Rattle.cfs_model.specs.Start.{policies_at_start}
use Rattle.cfs_model.specs.declared.idle_line.IdleLine.{IdleLine}
use Rattle.cfs_model.specs.declared.task.Task.{Task}
use Rattle.companion_file.specs.Earlier.{is_run, is_taken, is_task, with_policy_told}
use Rattle.companion_file.specs.Order.{IsTaskInLimits}
use Rattle.companion_file.specs.Draft.{IsTaskIndex}

-- ---- a policy changes nothing else of the tasks

pub policies_again : (idles others : List IdleLine) (tasks : List Task)
    → map (with_policy_told others) (map (with_policy_told idles) tasks) ≡ map (with_policy_told others) tasks
policies_again idles others [] = refl
policies_again idles others (t ∷ tasks) = ap (λ (ts : List Task). with_policy_told others t ∷ ts)
    (policies_again idles others tasks)

pub taken_kept : (idles : List IdleLine) (tasks : List Task) (cpu : ℕ)
    → is_taken (map (with_policy_told idles) tasks) cpu ≡ is_taken tasks cpu
taken_kept idles [] cpu = refl
taken_kept idles (t ∷ tasks) cpu = ap (λ (b : Bool). (is_run t.place && eqb t.cpu cpu) || b)
    (taken_kept idles tasks cpu)

pub task_kept : (idles : List IdleLine) (tasks : List Task) (pid : ℕ)
    → is_task (map (with_policy_told idles) tasks) pid ≡ is_task tasks pid
task_kept idles [] pid = refl
task_kept idles (t ∷ tasks) pid = ap (λ (b : Bool). eqb t.pid pid || b) (task_kept idles tasks pid)

pub limits_kept : (idles : List IdleLine) (cpus : ℕ) (tasks : List Task) → All (IsTaskInLimits cpus) tasks
    → All (IsTaskInLimits cpus) (map (with_policy_told idles) tasks)
limits_kept idles cpus tasks kept =
    All-map (IsTaskInLimits cpus) (with_policy_told idles) tasks
    (All-weaker (IsTaskInLimits cpus) (λ t. IsTaskInLimits cpus (with_policy_told idles t))
    (λ t h. record { pid = h.pid; nice = h.nice; cpu = h.cpu; v = h.v }) tasks kept)

pub pairs_kept : (R : Task → Task → Type 0) (idles : List IdleLine) (tasks : List Task)
    → ((t u : Task) → R t u → R (with_policy_told idles t) (with_policy_told idles u)) → AllPairs R tasks
    → AllPairs R (map (with_policy_told idles) tasks)
pairs_kept R idles tasks keeps pairs i j d lt within =
    let below : j < length tasks = rw (length-map tasks (with_policy_told idles)) at within in
    rw (
      get_or-map (with_policy_told idles) tasks i d d (omega arith),
      get_or-map (with_policy_told idles) tasks j d d below,
    )
    (keeps (get_or tasks i d) (get_or tasks j d) (pairs i j d lt below))

-- ---- one more idle line

named_push : (idles : List IdleLine) (k : IdleLine) (pid : ℕ)
    → is_named_idle (idles ++ k ∷ []) no_line pid ≡ (is_named_idle idles no_line pid
    || ((eqb k.line no_line && eqb k.pid pid) || false))
named_push idles k pid = list_any-append (λ (idle : IdleLine). eqb idle.line no_line && eqb idle.pid pid) idles (k ∷ [])

-- the task, of the idle policy or not
abbrev with_idle : Task → Bool → Task
with_idle t is_idle = record {
  pid = t.pid;
  nice = t.nice;
  policy = policy_by is_idle;
  cpu = t.cpu;
  place = t.place;
  v = t.v;
}

or_false : (a b : Bool) → b ≡ false → (a || (b || false)) ≡ a
or_false true b e = refl
or_false false b e = rw e refl

or_all : (a b : Bool) → b ≡ true → (a || (b || false)) ≡ true
or_all true b e = refl
or_all false b e = rw e refl

and_second : (a b : Bool) → b ≡ false → (a && b) ≡ false
and_second true b e = e
and_second false b e = refl

same_policy : (idles : List IdleLine) (k : IdleLine) (t : Task) → (eqb k.line no_line && eqb k.pid t.pid) ≡ false
    → with_policy_told (idles ++ k ∷ []) t ≡ with_policy_told idles t
same_policy idles k t other = ap (with_idle t) (named_push idles k t.pid
    ∙ or_false (is_named_idle idles no_line t.pid) (eqb k.line no_line && eqb k.pid t.pid) other)

pub birth_named : (idles : List IdleLine) (k : IdleLine) (tasks : List Task) → k.line ≢ no_line
    → map (with_policy_told (idles ++ k ∷ [])) tasks ≡ map (with_policy_told idles) tasks
birth_named idles k [] later = refl
birth_named idles k (t ∷ tasks) later =
    let none : (eqb k.line no_line && eqb k.pid t.pid) ≡ false = rw (ne_eqb k.line no_line later) refl in
    rw (same_policy idles k t none, birth_named idles k tasks later) refl

-- the task at an index as the list has it with its policy
at_index : (idles : List IdleLine) (tasks : List Task) (j : ℕ) (d : Task) → map (with_policy_told idles) tasks ≡ tasks
    → j < length tasks → with_policy_told idles (get_or tasks j d) ≡ get_or tasks j d
at_index idles tasks j d same within = sym (get_or-map (with_policy_told idles) tasks j d d within)
    ∙ ap (λ (ts : List Task). get_or ts j d) same

-- pids that rise stand at one index each
pid_elsewhere : (tasks : List Task) (i j : ℕ) (d : Task) → AllPairs (λ t u. t.pid < u.pid) tasks → i < length tasks
    → j < length tasks → i ≢ j → (get_or tasks i d).pid ≢ (get_or tasks j d).pid
pid_elsewhere tasks i j d rise i_within j_within other same =
    elim (cases_lt i j) [
      | inl before ↦ let less = rise i j d before j_within in omega (arith, less, same)
      | inr after ↦ elim (cases_eq i j) [
        | inl here ↦ other here
        | inr apart ↦ let less = rise j i d (omega arith) i_within in omega (arith, less, same)
      ]
    ]

module _ (idles : List IdleLine) (k : IdleLine) (tasks : List Task) (index : ℕ) (r : Task)
    (told : map (with_policy_told idles) tasks ≡ tasks) (rise : AllPairs (λ t u. t.pid < u.pid) tasks)
    (start : k.line ≡ no_line) (at : IsTaskIndex tasks k.pid index) (is : r ≡ get_or tasks index r) where
  here : (d : Task) → get_or (set tasks index (with_idle r true)) index d ≡ with_policy_told (idles ++ k ∷ [])
      (get_or tasks index d)
  here d =
      let whole : r ≡ get_or tasks index d = is ∙ get_or_default tasks index r d at.within in
      let pid : r.pid ≡ k.pid = ap (λ (t : Task). t.pid) is ∙ at.pid_is r in
      let both_true : (eqb k.line no_line && eqb k.pid r.pid) ≡ true = rw (start, eq-eqb k.pid r.pid (sym pid)) refl in
      let named : is_named_idle (idles ++ k ∷ []) no_line r.pid ≡ true = named_push idles k r.pid
      ∙ or_all (is_named_idle idles no_line r.pid) (eqb k.line no_line && eqb k.pid r.pid) both_true in
      get_or-set_same tasks index (with_idle r true) d at.within ∙ ap (with_idle r) (sym named)
      ∙ ap (with_policy_told (idles ++ k ∷ [])) whole

  elsewhere : (j : ℕ) (d : Task) → j < length tasks → j ≢ index
      → get_or (set tasks index (with_idle r true)) j d ≡ with_policy_told (idles ++ k ∷ []) (get_or tasks j d)
  elsewhere j d within other =
      let apart : k.pid ≢ (get_or tasks j d).pid = λ e. pid_elsewhere tasks j index d rise within at.within other (sym e
      ∙ sym (at.pid_is d)) in
      let none = and_second (eqb k.line no_line) (eqb k.pid (get_or tasks j d).pid)
      (ne_eqb k.pid (get_or tasks j d).pid apart) in
      get_or-set_other tasks index j (with_idle r true) d other ∙ sym (at_index idles tasks j d told within)
      ∙ sym (same_policy idles k (get_or tasks j d) none)

  pub start_named : set tasks index (with_idle r true) ≡ map (with_policy_told (idles ++ k ∷ [])) tasks
  start_named =
      let long = length-set tasks index (with_idle r true) in
      same_lists (set tasks index (with_idle r true)) (map (with_policy_told (idles ++ k ∷ [])) tasks) (long
      ∙ sym (length-map tasks (with_policy_told (idles ++ k ∷ []))))
      (λ j d lt.
      let within : j < length tasks = rw long at lt in
      let is_there : get_or (set tasks index (with_idle r true)) j d ≡ with_policy_told (idles ++ k ∷ [])
      (get_or tasks j d) =
      elim (cases_eq j index) [
        | inl same ↦ rw same (here d)
        | inr other ↦ elsewhere j d within other
      ] in
      is_there ∙ sym (get_or-map (with_policy_told (idles ++ k ∷ [])) tasks j d d within))

-- ---- at the end

starts_named : (idles : List IdleLine) (tasks : List Task) (pid : ℕ)
    → policies_at_start (map (with_policy_told idles) tasks) pid
    ≡ policy_by (is_task tasks pid && is_named_idle idles no_line pid)
starts_named idles [] pid = refl
starts_named idles (t ∷ tasks) pid =
    elim (cases_Bool (eqb t.pid pid)) [
      | inl this ↦ rw this (ap (named_policy idles no_line) (eqb-true t.pid pid this))
      | inr other ↦ rw other (starts_named idles tasks pid)
    ]

-- a pid that an idle line of the start names is that of a task
policy_of_named : (tasks : List Task) (idles : List IdleLine) (pid : ℕ)
    → All (λ idle. idle.line ≡ no_line → is_task tasks idle.pid ≡ true) idles → is_named_idle idles no_line pid ≡ true
    → is_task tasks pid ≡ true
policy_of_named tasks [] pid kept named = absurd cc
policy_of_named tasks (k ∷ idles) pid kept named =
    let first = All-head (λ (idle : IdleLine). idle.line ≡ no_line → is_task tasks idle.pid ≡ true) k idles kept in
    let later = All-tail (λ (idle : IdleLine). idle.line ≡ no_line → is_task tasks idle.pid ≡ true) k idles kept in
    elim (cases_Bool (eqb k.line no_line)) [
      | inl start ↦ elim (cases_Bool (eqb k.pid pid)) [
        | inl this ↦ ap (is_task tasks) (sym (eqb-true k.pid pid this)) ∙ first (eqb-true k.line no_line start)
        | inr other ↦ policy_of_named tasks idles pid later (rw (start, other) at named)
      ]
      | inr birth ↦ policy_of_named tasks idles pid later (rw birth at named)
    ]

and_known : (a b : Bool) → (b ≡ true → a ≡ true) → b ≡ (a && b)
and_known a true known = rw (known refl) refl
and_known true false known = refl
and_known false false known = refl

pub policies_agree : (idles : List IdleLine) (tasks : List Task) (pid : ℕ) → map (with_policy_told idles) tasks ≡ tasks
    → All (λ idle. idle.line ≡ no_line → is_task tasks idle.pid ≡ true) idles
    → named_policy idles no_line pid ≡ policies_at_start tasks pid
policies_agree idles tasks pid told kept =
    ap policy_by (and_known (is_task tasks pid) (is_named_idle idles no_line pid)
    (policy_of_named tasks idles pid kept))
    ∙ sym (starts_named idles tasks pid) ∙ ap (λ (ts : List Task). policies_at_start ts pid) told
