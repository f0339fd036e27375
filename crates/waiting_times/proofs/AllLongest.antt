-- The longest wait of all tasks, with that of one task more.
use Rattle.std.proofs.Common.{◌≡◌, ℕ, ◌+◌, ◌<◌, Option, Some, None, List, [], ◌∷◌, ◌++◌, length, take, get_or, refl}
use Rattle.std.proofs.Common.{sym, ap, ◌∙◌}
use Rattle.std.specs.List.{flat_map}
use Rattle.std.proofs.lemmas.List.{append-nil, flat_map_more, take_more}
use Rattle.waiting_times.specs.Longest.{later_wait, longest_of, own_wait, takes}
use Rattle.waiting_times.specs.Waits.{first_longest}
use Rattle.waiting_times.specs.declared.longest_wait.LongestWait.{LongestWait}
use Rattle.waiting_times.specs.declared.task_waits.TaskWaits.{TaskWaits}
use Rattle.waiting_times.specs.declared.wait.Wait.{Wait}
use Rattle.waiting_times.proofs.Longest.{longest_push}

abbrev own : TaskWaits → List LongestWait
own task = own_wait task.pid task.longest

own_pushed : (waits : List LongestWait) (pid : ℕ) (o : Option Wait)
    → later_wait (first_longest takes waits) pid o ≡ first_longest takes (waits ++ own_wait pid o)
own_pushed waits pid None = ap (first_longest takes) (sym (append-nil waits))
own_pushed waits pid (Some wait) = sym (longest_push takes waits (record { pid = pid; wait = wait }))

pub longest_more : (tasks : List TaskWaits) (i : ℕ) (d : TaskWaits) (longest now : Option LongestWait)
    → i < length tasks → longest ≡ longest_of (take i tasks)
    → now ≡ later_wait longest (get_or tasks i d).pid (get_or tasks i d).longest → now ≡ longest_of (take (i + 1) tasks)
longest_more tasks i d longest now within before step =
    let task = get_or tasks i d in
    step ∙ ap (λ o. later_wait o task.pid task.longest) before
    ∙ own_pushed (flat_map own (take i tasks)) task.pid task.longest
    ∙ ap (first_longest takes) (flat_map_more own [] (take i tasks) task)
    ∙ ap longest_of (sym (take_more tasks i d within))
