-- The real-time task that is found is the first that the text names, and one is found where the text is refused for it.
use Rattle.std.proofs.Common.{◌≡◌, ℕ, Bool, true, false, eqb, List, [], ◌∷◌, ◌++◌, Option, Some, None, pos, ◌<ℤ◌}
use Rattle.std.proofs.Common.{inl, inr, refl, sym, ◌∙◌, ap, subst, arith}
use Rattle.std.specs.Prelude.{◌||◌, if◌then◌else◌, nat_lt, IfSome, IsSome, option_map}
use Rattle.std.specs.List.{AllByRecursion, list_any}
use Rattle.std.proofs.lemmas.Int.{ints}
use Rattle.std.proofs.lemmas.Bool.{eqb-true, ltb-false, ltb-true}
use Rattle.cfs_model.specs.Limits.{greatest_pid, greatest_processor}
use Rattle.ftrace_line.specs.declared.kinds.Which.{Which}
use Rattle.text_parts.specs.Numerals.{value_of}
use Rattle.sched_event.specs.Texts.{EventText, switch, wakeup, wakeup_new, migration}
use Rattle.sched_event.specs.Ranges.{Leftmost, is_out_of_range, looked_at, prio_of, prios_of}
use Rattle.sched_event.specs.Event.{HasRealTimePrio}
use Rattle.sched_event.specs.Judging.{number_within, printed_nice}
use Rattle.sched_event.specs.Reading.{text_at}
use Rattle.sched_event.specs.RealTime.{IsRealTime, NamesRealTime, TaskText, tasks_named}
use Rattle.sched_event.specs.RealTimeReading.{TaskView, first_of, first_real_time, or_else, real_time_of, task_view}
use Rattle.sched_event.specs.declared.real_time.NamedTask.{NamedTask}
use Rattle.sched_event.proofs.Answering.{event_text_takes, event_text_again}
use Rattle.sched_event.proofs.Verdicts.{PrioCase, low, high, fair, prio_case}

-- what an answer says of one task
abbrev pub Finds : TaskText → Option TaskView → Type 0
Finds task None = IsRealTime task → ⊥
Finds task (Some view) = IsRealTime task × (view ≡ record { name = task.name; pid = value_of task.pid })

-- the answer is so
pub finds : (task : TaskText) → Finds task (real_time_of task)
unfolding number_within printed_nice
finds task = by_tests (nat_lt greatest_pid (value_of task.pid)) (eqb (value_of task.pid) 0) refl refl
    (prio_case (prio_of task.prio))
  where
    by_tests : (far idle : Bool) → nat_lt greatest_pid (value_of task.pid) ≡ far → eqb (value_of task.pid) 0 ≡ idle
        → PrioCase (prio_of task.prio) → Finds task (real_time_of task)
    by_tests true idle p q prio =
        rw p (λ is. absurd (omega (arith, ltb-true greatest_pid (value_of task.pid) p, is.within)))
    by_tests false true p q prio = rw (p, q) (λ is. absurd (is.busy (eqb-true (value_of task.pid) 0 q)))
    by_tests false false p q (low lt e) = rw (p, q, e) (
      record {
        within = ltb-false greatest_pid (value_of task.pid) p;
        busy = λ zero. absurd cc;
        low = lt;
      },
      refl,
    )
    by_tests false false p q (high lt e) = rw (p, q, e) (λ is. let below = is.low in absurd (omega (arith, ints)))
    by_tests false false p q (fair is_fair e) = rw (p, q, e) (λ is. let below = is.low in absurd (omega (arith, ints)))

-- ---- the first of several

-- the first real-time task of these is so
record IsFirst (tasks : List TaskText) (view : TaskView) : Type 0 where
  before : List TaskText
  task : TaskText
  after : List TaskText
  all : tasks ≡ before ++ task ∷ after
  first : AllByRecursion (λ other. IsRealTime other → ⊥) before
  real_time : IsRealTime task
  is : view ≡ record { name = task.name; pid = value_of task.pid }

first_is : (tasks : List TaskText) (view : TaskView) → first_real_time tasks ≡ Some view → IsFirst tasks view
first_is [] view e = absurd cc
first_is (task ∷ tasks) view e =
    by_answer (real_time_of task) refl (finds task) (λ next. first_is tasks view next)
  where
    by_answer : (answer : Option TaskView) → real_time_of task ≡ answer → Finds task (real_time_of task)
        → (first_real_time tasks ≡ Some view → IsFirst tasks view) → IsFirst (task ∷ tasks) view
    by_answer (Some found) p so behind_is =
        let is = subst (Finds task) p so in
        let same : Some found ≡ Some view = ap (λ a. or_else a (first_real_time tasks)) (sym p) ∙ e in
        record {
          before = [];
          task = task;
          after = tasks;
          all = refl;
          first = tt;
          real_time = is.0;
          is = cc;
        }
    by_answer None p so behind_is =
        let is_not = subst (Finds task) p so in
        let next : first_real_time tasks ≡ Some view = ap (λ a. or_else a (first_real_time tasks)) (sym p) ∙ e in
        let behind = behind_is next in
        record {
          before = task ∷ behind.before;
          task = behind.task;
          after = behind.after;
          all = ap (λ ts. task ∷ ts) behind.all;
          first = (is_not, behind.first);
          real_time = behind.real_time;
          is = behind.is;
        }

-- what is found in a text is its first real-time task
pub named_so : (which : Which) (rest : List ℕ) (result : Option NamedTask)
    → option_map task_view result ≡ first_of (text_at which rest)
    → IfSome result (λ task. NamesRealTime which rest task.name.now task.pid)
named_so which rest None e = tt
named_so which rest (Some task) e = by_text (text_at which rest) refl
  where
    by_text : (read : Option EventText) → text_at which rest ≡ read
        → NamesRealTime which rest task.name.now task.pid
    by_text None p =
        let none : Some (task_view task) ≡ None = e ∙ ap first_of p in
        absurd cc
    by_text (Some text) p =
        let found = first_is (tasks_named text) (task_view task) (sym (e ∙ ap first_of p)) in
        record {
          text = text;
          reads = event_text_takes which rest text p;
          before = found.before;
          task = found.task;
          after = found.after;
          tasks = found.all;
          first = found.first;
          real_time = found.real_time;
          named = ap (λ (v : TaskView). v.name) found.is;
          numbered = ap (λ (v : TaskView). v.pid) found.is;
        }

-- ---- one is found where the text is refused for it

or_left : (a b : Bool) → (a || b) ≡ false → a ≡ false
or_left true b e = absurd cc
or_left false b e = refl

or_right : (a b : Bool) → (a || b) ≡ false → b ≡ false
or_right true b e = absurd cc
or_right false b e = e

-- a real-time task is found
found_if : (task : TaskText) → IsRealTime task → IsSome (real_time_of task)
found_if task is = by_answer (real_time_of task) refl (finds task)
  where
    by_answer : (answer : Option TaskView) → real_time_of task ≡ answer → Finds task (real_time_of task)
        → IsSome (real_time_of task)
    by_answer (Some found) p so = rw p refl
    by_answer None p so = absurd (subst (Finds task) p so is)

found_now : (a b : Option TaskView) → IsSome a → IsSome (or_else a b)
found_now (Some x) b some = refl
found_now None b some = absurd cc

found_next : (a b : Option TaskView) → IsSome b → IsSome (or_else a b)
found_next (Some x) b some = refl
found_next None b some = some

-- a pid that isn't above the greatest, and isn't the idle task's
is_real_time : (task : TaskText) → nat_lt greatest_pid (value_of task.pid) ≡ false → eqb (value_of task.pid) 0 ≡ false
    → prio_of task.prio <ℤ pos 100 → IsRealTime task
is_real_time task near busy below = record {
  within = ltb-false greatest_pid (value_of task.pid) near;
  busy = λ zero. absurd cc;
  low = below;
}

-- of one task
alone_found : (task : TaskText) → nat_lt greatest_pid (value_of task.pid) ≡ false
    → Leftmost (λ prio. prio <ℤ pos 100) (looked_at task.pid task.prio) → IsSome (first_real_time (task ∷ []))
alone_found task near left = by_idle (eqb (value_of task.pid) 0) refl left
  where
    by_idle : (idle : Bool) → eqb (value_of task.pid) 0 ≡ idle
        → Leftmost (λ prio. prio <ℤ pos 100) (looked_at task.pid task.prio) → IsSome (first_real_time (task ∷ []))
    by_idle true p here =
        absurd (subst (λ b. Leftmost (λ prio. prio <ℤ pos 100) (if b then [] else prio_of task.prio ∷ [])) p here)
    by_idle false p here =
        elim (subst (λ b. Leftmost (λ prio. prio <ℤ pos 100) (if b then [] else prio_of task.prio ∷ [])) p here) [
          | inl below ↦ found_now (real_time_of task) None (found_if task (is_real_time task near p below))
          | inr on ↦ absurd on.1
        ]

-- of two
two_found : (one other : TaskText) → nat_lt greatest_pid (value_of one.pid) ≡ false
    → nat_lt greatest_pid (value_of other.pid) ≡ false
    → Leftmost (λ prio. prio <ℤ pos 100) (looked_at one.pid one.prio ++ looked_at other.pid other.prio)
    → IsSome (first_real_time (one ∷ other ∷ []))
two_found one other near far left = by_idle (eqb (value_of one.pid) 0) refl left
  where
    by_idle : (idle : Bool) → eqb (value_of one.pid) 0 ≡ idle
        → Leftmost (λ prio. prio <ℤ pos 100) (looked_at one.pid one.prio ++ looked_at other.pid other.prio)
        → IsSome (first_real_time (one ∷ other ∷ []))
    by_idle true p here =
        found_next (real_time_of one) (first_real_time (other ∷ [])) (alone_found other far
        (subst (λ b. Leftmost (λ prio. prio <ℤ pos 100) ((if b then [] else prio_of one.prio ∷ [])
        ++ looked_at other.pid other.prio)) p here))
    by_idle false p here =
        elim (subst (λ b. Leftmost (λ prio. prio <ℤ pos 100) ((if b then [] else prio_of one.prio ∷ [])
        ++ looked_at other.pid other.prio)) p here) [
          | inl below ↦ found_now (real_time_of one) (first_real_time (other ∷ []))
              (found_if one (is_real_time one near p below))
          | inr on ↦ found_next (real_time_of one) (first_real_time (other ∷ [])) (alone_found other far on.1)
        ]

-- of a text in which no number is out of range
text_found : (text : EventText) → is_out_of_range text ≡ false → Leftmost (λ prio. prio <ℤ pos 100) (prios_of text)
    → IsSome (first_real_time (tasks_named text))
text_found (switch t) out left =
    let pids = or_left (list_any (nat_lt greatest_pid) (value_of t.prev ∷ value_of t.next ∷ [])) false out in
    let near = or_left (nat_lt greatest_pid (value_of t.prev)) (nat_lt greatest_pid (value_of t.next) || false) pids in
    let far = or_left (nat_lt greatest_pid (value_of t.next)) false
    (or_right (nat_lt greatest_pid (value_of t.prev)) (nat_lt greatest_pid (value_of t.next) || false) pids) in
    two_found (record { name = t.prev_name; pid = t.prev; prio = t.prev_prio })
    (record { name = t.next_name; pid = t.next; prio = t.next_prio }) near far left
text_found (wakeup t) out left =
    alone_found (record { name = t.name; pid = t.pid; prio = t.prio })
    (or_left (nat_lt greatest_pid (value_of t.pid)) false (or_left (nat_lt greatest_pid (value_of t.pid) || false)
    (list_any (nat_lt greatest_processor) (value_of t.target ∷ [])) out)) left
text_found (wakeup_new t) out left =
    alone_found (record { name = t.name; pid = t.pid; prio = t.prio })
    (or_left (nat_lt greatest_pid (value_of t.pid)) false (or_left (nat_lt greatest_pid (value_of t.pid) || false)
    (list_any (nat_lt greatest_processor) (value_of t.target ∷ [])) out)) left
text_found (migration t) out left =
    alone_found (record { name = t.name; pid = t.pid; prio = t.prio })
    (or_left (nat_lt greatest_pid (value_of t.pid)) false (or_left (nat_lt greatest_pid (value_of t.pid) || false)
    (list_any (nat_lt greatest_processor) (value_of t.orig ∷ value_of t.dest ∷ [])) out)) left

some_of_view : (result : Option NamedTask) (found : Option TaskView) → option_map task_view result ≡ found
    → IsSome found → IsSome result
some_of_view None (Some view) e some = absurd cc
some_of_view None None e some = absurd cc
some_of_view (Some task) found e some = refl

-- one is found
pub refused_so : (which : Which) (rest : List ℕ) (result : Option NamedTask)
    → option_map task_view result ≡ first_of (text_at which rest) → HasRealTimePrio which rest → IsSome result
refused_so which rest result e has =
    some_of_view result (first_of (text_at which rest)) e
    (subst (λ read. IsSome (first_of read)) (sym (event_text_again which rest has.0 has.1))
    (text_found has.0 has.2 has.3))
