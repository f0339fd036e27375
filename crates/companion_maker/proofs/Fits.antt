-- What was read joins just where the events and it go together: joining answers what it means to.
use Rattle.std.proofs.Common.{◌≡◌, ◌↔◌, ℕ, IsTrue, is_ok, List, Result, Ok, Err, refl}
use Rattle.cfs_model.specs.declared.act.Entry.{Entry}
use Rattle.companion_file.specs.Companion.{CompanionView}
use Rattle.companion_file.specs.declared.companion.Companion.{Companion}
use Rattle.companion_file.specs.declared.fault.CompanionCause.{CompanionCause}
use Rattle.sched_record.specs.Join.{GoTogether, RecordAnswer, joined_record}
use Rattle.sched_record.specs.Record.{RecordView, join_answer_view}
use Rattle.sched_record.specs.declared.joining.JoinCause.{JoinCause}
use Rattle.sched_record.specs.declared.joining.JoinFault.{JoinFault}
use Rattle.sched_record.specs.declared.record.Record.{Record}
use Rattle.sched_record.specs.declared.trace.Trace.{Trace}

pub joins_where_fits : (events : List Entry) (view : CompanionView)
    (answer : Result Record (Trace × Companion × JoinFault))
    → RecordAnswer events view (join_answer_view answer)
    → ((other : Result RecordView (ℕ × JoinCause)) → RecordAnswer events view other → join_answer_view answer ≡ other)
    → IsTrue (is_ok answer) ↔ GoTogether events view
joins_where_fits events view (Ok r) is only = ((λ yes. is.0), (λ fits. refl))
joins_where_fits events view (Err back) is only = (
  (λ yes. absurd cc),
  (λ fits. let e = only (Ok (joined_record events view)) (fits, refl) in absurd cc),
)

-- a text means one companion
pub same_view : (view other : CompanionView)
    → ◌≡◌ {A = Result CompanionView (ℕ × CompanionCause)} (Ok view) (Ok other) → view ≡ other
same_view view other e = cc

-- and then it isn't refused
pub never_both : (view : CompanionView) (fault : ℕ × CompanionCause)
    → ◌≡◌ {A = Result CompanionView (ℕ × CompanionCause)} (Ok view) (Err fault) → ⊥
never_both view fault e = cc
