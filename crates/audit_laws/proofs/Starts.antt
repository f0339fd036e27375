-- The record of two texts names a start in order: its companion's lines are all good.
use Rattle.std.proofs.Common.{ℕ, List, sym, ap, ◌∙◌, subst}
use Rattle.cfs_model.specs.Order.{IsStart}
use Rattle.companion_file.proofs.GoodLines.{order_of_good}
use Rattle.companion_file.specs.Earlier.{summed}
use Rattle.replay_model.proofs.StartFrom.{start_from}
use Rattle.sched_record.specs.Record.{RecordView}
use Rattle.text_parts.specs.Lines.{lines_of}
use Rattle.audit_input.specs.Texts.{IsRecordOf}

pub start_of_texts : (trace companion : List ℕ) (r : RecordView) → IsRecordOf trace companion r
    → IsStart r.floors r.tasks
start_of_texts trace companion r is =
    let read = is.are_read.companion_means in
    let order = order_of_good (lines_of companion) read.said read.good in
    let said = start_from (summed read.said).floors (summed read.said).tasks order.pids_rise order.one_runs_a_cpu
    (λ k d h. (order.tasks_kept k d h).v)
    order.floors_kept in
    let same = is.joined.1 in
    subst (λ tasks. IsStart r.floors tasks) (sym (ap (λ (s : RecordView). s.tasks) same ∙ read.tasks_is))
    (subst (λ floors. IsStart floors (summed read.said).tasks)
    (sym (ap (λ (s : RecordView). s.floors) same ∙ read.floors_is)) said)
