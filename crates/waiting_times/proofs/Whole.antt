-- The whole walk along a record's events, by what each part of it did to the rows.
use Rattle.std.proofs.Common.{◌≡◌, ℕ, ◌≤◌, All, List, [], ◌∷◌, map, refl, sym, ap, ◌∙◌, subst, arith}
use Rattle.std.proofs.lemmas.List.Elements.{All-map}
use Rattle.cfs_model.specs.declared.act.Entry.{Entry}
use Rattle.cfs_model.specs.declared.task.Task.{Task}
use Rattle.sched_record.specs.Record.{RecordView, record_last_time}
use Rattle.waiting_times.specs.Moments.{edge}
use Rattle.waiting_times.specs.Rows.{IsWithin, along, at_start, fresh, told_along, told_of}
use Rattle.waiting_times.specs.declared.moment.Moment.{Moment}
use Rattle.waiting_times.specs.declared.task_row.TaskRow.{TaskRow}

-- rows that are new have no waits
pub fresh_within : (pids : List ℕ) (rows : List TaskRow) → rows ≡ map (λ _. fresh) pids → All (IsWithin 0) rows
fresh_within pids rows is =
    subst (All (IsWithin 0)) (sym is)
    (All-map (IsWithin 0) (λ _. fresh) pids (λ k d h. record { times = omega arith; total = omega arith }))

-- what is told by a record's own start, tasks, events and end
pub told_is : (r : RecordView) (start end : Moment) (tasks : List Task) (events : List Entry)
    → start ≡ edge r.start → end ≡ edge (record_last_time r) → tasks ≡ r.tasks → events ≡ r.events
    → (pids : List ℕ)
    → map (λ pid. told_of end pid (along pid events (at_start start tasks fresh pid))) pids
    ≡ map (told_along r) pids
told_is r start end tasks events s e t v pids =
    λ j. map (λ pid. told_of (e j) pid (along pid (v j) (at_start (s j) (t j) fresh pid))) pids
