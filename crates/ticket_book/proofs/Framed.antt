-- A stream is a record's cut for a processor where its steps, its tasks and all else are.
use Rattle.std.proofs.Common.{◌≡◌, ◌↔◌, ℕ, Bool, ◌&&◌, Decides, IsTrue, List, sym, ap, ◌∙◌, subst}
use Rattle.std.specs.Prelude.{pos, slice_index_or}
use Rattle.std.proofs.lemmas.Bool.Decides.{Decides-and, Decides-at, Decides-eqb, Decides-int_eq, Decides-like}
use Rattle.cfs_model.specs.declared.task.Task.{Task}
use Rattle.replay_model.specs.Cut.{StreamView, last_line_after, last_time_of, tasks_at}
use Rattle.replay_model.specs.declared.step.Step.{Step}
use Rattle.sched_record.specs.RecordView.{policy_of}
use Rattle.sched_record.specs.Record.{RecordView, record_last_line, record_last_time}
use Rattle.sched_record.specs.Stream.{cut_of}
use Rattle.sched_record.proofs.StreamsKept.{same_last_line, same_last_time}
use Rattle.ticket_book.specs.Cursor.{IsCursor}
use Rattle.ticket_book.specs.Framed.{is_framed}
use Rattle.ticket_book.specs.SaidEvents.{events_of}
use Rattle.ticket_book.specs.declared.cursor.Cursor.{Cursor}

-- a stream's numbers are the record's for a processor
record IsFramed (r : RecordView) (cpu : ℕ) (s : StreamView) : Type 0 where
  cpu_is : s.cpu ≡ cpu
  floor : s.floor ≡ slice_index_or r.floors cpu (pos 0)
  start : s.start ≡ r.start
  last_time : s.last_time ≡ record_last_time r
  last_line : s.last_line ≡ record_last_line r

framed_decides : (r : RecordView) (cpu : ℕ) (s : StreamView) → Decides (is_framed r cpu s) (IsFramed r cpu s)
framed_decides r cpu s =
    Decides-like _ (λ h. record {
      cpu_is = h.0;
      floor = h.1.0;
      start = h.1.1.0;
      last_time = h.1.1.1.0;
      last_line =
          h.1.1.1.1;
    })
    (λ f. (f.cpu_is, (f.floor, (f.start, (f.last_time, f.last_line)))))
    (Decides-and _ _ (Decides-eqb s.cpu cpu)
    (Decides-and _ _ (Decides-int_eq s.floor (slice_index_or r.floors cpu (pos 0)))
    (Decides-and _ _ (Decides-eqb s.start r.start)
    (Decides-and _ _ (Decides-eqb s.last_time (record_last_time r)) (Decides-eqb s.last_line (record_last_line r))))))

-- a stream, part by part
cut_from : (r : RecordView) (cpu : ℕ) (s : StreamView) → s.steps ≡ (cut_of r cpu).steps → s.tasks ≡ (cut_of r cpu).tasks
    → IsFramed r cpu s → s ≡ cut_of r cpu
cut_from r cpu s steps tasks framed =
    parts steps tasks framed.cpu_is framed.floor framed.start
    (framed.last_time ∙ same_last_time r.start r.claims r.nices r.charges (policy_of r) r.events)
    (framed.last_line ∙ same_last_line r.claims r.nices r.charges (policy_of r) r.events)
  where
    parts : s.steps ≡ (cut_of r cpu).steps → s.tasks ≡ (cut_of r cpu).tasks → s.cpu ≡ cpu
        → s.floor ≡ slice_index_or r.floors cpu (pos 0) → s.start ≡ r.start
        → s.last_time ≡ last_time_of r.start (events_of r)
        → s.last_line ≡ last_line_after 0 (events_of r)
        → s ≡ cut_of r cpu
    parts a b c d e f g i = record {
      cpu = c i;
      tasks = b i;
      floor = d i;
      start = e i;
      steps = a i;
      last_time =
          f i;
      last_line = g i;
    }

framed_from : (r : RecordView) (cpu : ℕ) (s : StreamView) → s ≡ cut_of r cpu → IsFramed r cpu s
framed_from r cpu s same = record {
  cpu_is = ap (λ (t : StreamView). t.cpu) same;
  floor = ap (λ (t : StreamView). t.floor) same;
  start = ap (λ (t : StreamView). t.start) same;
  last_time = ap (λ (t : StreamView). t.last_time) same
      ∙ sym (same_last_time r.start r.claims r.nices r.charges (policy_of r) r.events);
  last_line = ap (λ (t : StreamView). t.last_line) same ∙ sym (same_last_line r.claims r.nices r.charges (policy_of
      r) r.events);
}

pub cut_decides : (r : RecordView) (cpu : ℕ) (s : StreamView) (steps : List Step) (tasks all_tasks : List Task)
    (cursor : Cursor)
    (same_steps same_tasks framed : Bool) → steps ≡ s.steps → tasks ≡ s.tasks → all_tasks ≡ r.tasks
    → IsCursor s.steps (cut_of r cpu).steps cursor
    → ((dealt : List Step) → IsCursor steps dealt cursor → IsTrue same_steps ↔ (steps ≡ dealt))
    → (IsTrue same_tasks ↔ (tasks ≡ tasks_at cpu all_tasks)) → framed ≡ is_framed r cpu s
    → Decides (same_steps && (same_tasks && framed)) (s ≡ cut_of r cpu)
cut_decides r cpu s steps tasks all_tasks cursor same_steps same_tasks framed are_steps are_tasks are_all followed
    by_cursor by_task is =
    let Followed : List Step → Type 0 = λ ss. IsCursor ss (cut_of r cpu).steps cursor in
    let for_steps = by_cursor (cut_of r cpu).steps (subst Followed (sym are_steps) followed) in
    let from_tasks = ap (tasks_at cpu) are_all in
    Decides-like _ (λ h. cut_from r cpu s h.0 h.1.0 h.1.1)
    (λ same. (ap (λ (t : StreamView). t.steps) same, (ap (λ (t : StreamView). t.tasks) same, framed_from r cpu s same)))
    (Decides-and _ _ ((λ e. sym are_steps ∙ for_steps.0 e), (λ e. for_steps.1 (are_steps ∙ e)))
    (Decides-and _ _ (
      (λ e. sym are_tasks ∙ by_task.0 e ∙ from_tasks),
      (λ e. by_task.1 (are_tasks ∙ e ∙ sym from_tasks)),
    )
    (Decides-at framed (is_framed r cpu s) is (framed_decides r cpu s))))
