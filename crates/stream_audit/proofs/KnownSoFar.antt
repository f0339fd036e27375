-- What is known of the events so far, with a window's.
use Rattle.std.proofs.Common.{◌≡◌, if◌then◌else◌, true, false, Option, Some, None, List, ◌++◌, sym, ap, subst}
use Rattle.cfs_model.specs.Claimed.{Claimed}
use Rattle.cfs_model.specs.Knobs.{KnobsView}
use Rattle.cfs_model.specs.Laws.{GreatestTellBadAtAll}
use Rattle.cfs_model.specs.Least.{greatest_settings}
use Rattle.cfs_model.specs.Start.{start_machine}
use Rattle.least_audit.specs.Audit.{HasSeenRecord, IsLeastAuditOf, IsLeastToldOf, LeastComesNext}
use Rattle.least_audit.specs.declared.audit.LeastAudit.{LeastAudit}
use Rattle.least_places.specs.Finding.{IsFinding}
use Rattle.least_places.specs.LeastAnswer.{IsLeastAnswer}
use Rattle.least_places.specs.declared.figures.LeastFigures.{LeastFigures}
use Rattle.least_places.specs.declared.figures.LeastFigures.TheVariants as figures
use Rattle.least_places.specs.declared.found.Finding.TheVariants as findings
use Rattle.replay_laws.specs.FirstFaults.{FaultIsFirstBad}
use Rattle.replay_model.specs.Cause.{IsFirstFault}
use Rattle.replay_model.specs.declared.first_fault.FirstFault.{FirstFault}
use Rattle.sched_record.specs.Record.{RecordView}
use Rattle.ticket_book.specs.SaidEvents.{events_of}
use Rattle.ticket_book.specs.Told.{cause_view}
use Rattle.ticket_book.specs.Verdict.{IsFaulty, IsVerdict}
use Rattle.ticket_book.specs.declared.verdict.Verdict.{Verdict}
use Rattle.window_audit.specs.Audit.{ComesNext, IsToldOf, IsWhole}
use Rattle.window_audit.specs.Whole.{beginning_of}
use Rattle.window_audit.specs.declared.audit.WindowAudit.{WindowAudit}
use Rattle.window_laws.specs.Windows.{FaultStays}
use Rattle.stream_audit.specs.Aim.{AimView, Begun, audited_at, begun_of}
use Rattle.stream_audit.specs.Progress.{IsEnd, IsKnownOf, IsNext, IsToldWith}
use Rattle.stream_audit.specs.declared.progress.Progress.{Progress}
use Rattle.stream_audit.specs.declared.progress.Progress.TheVariants.{Running, Pursuing, Told}

-- an audit that goes on has the window next
pub comes : (begun : Begun) (so_far window : List Claimed) (progress : Progress) (audit : WindowAudit)
    → progress ≡ Running audit → IsNext begun so_far window progress → ComesNext begun.of so_far window audit
comes begun so_far window progress audit is next = record {
  audit_is = (subst (IsKnownOf begun so_far) is next.known).1;
  is_record = next.is_record;
  some = next.some;
  few = next.few;
  fit = next.fit;
}

pub least_comes : (begun : Begun) (so_far window : List Claimed) (progress : Progress) (audit : LeastAudit)
    → progress ≡ Pursuing audit → IsNext begun so_far window progress → LeastComesNext begun.of so_far window audit
least_comes begun so_far window progress audit is next = record {
  audit_is = (subst (IsKnownOf begun so_far) is next.known).1;
  is_record = next.is_record;
  some = next.some;
  few = next.few;
  fit = next.fit;
}

-- what an audit tells of the window
pub told_with : (begun : Begun) (so_far window : List Claimed) (progress : Progress) (audit after : WindowAudit)
    → progress ≡ Running audit → IsNext begun so_far window progress → (told : Option FirstFault)
    → IsToldOf begun.of so_far window told after → IsToldWith begun (so_far ++ window) told (Running after)
told_with begun so_far window progress audit after is next None h =
    ((subst (IsKnownOf begun so_far) is next.known).0, h)
told_with begun so_far window progress audit after is next (Some fault) h = h

pub least_told_with : (begun : Begun) (so_far window : List Claimed) (progress : Progress) (audit after : LeastAudit)
    → progress ≡ Pursuing audit → IsNext begun so_far window progress → (told : Option FirstFault)
    → IsLeastToldOf begun.of so_far window told after → IsToldWith begun (so_far ++ window) told (Pursuing after)
least_told_with begun so_far window progress audit after is next None h =
    ((subst (IsKnownOf begun so_far) is next.known).0, h)
least_told_with begun so_far window progress audit after is next (Some fault) h = h

-- a fault that was told stays
pub stays_told : FaultStays → (begun : Begun) (so_far window : List Claimed) (progress : Progress)
    (fault : FirstFault) → progress ≡ Told fault → IsNext begun so_far window progress
    → IsKnownOf begun (so_far ++ window) (Told fault)
stays_told stays begun so_far window progress fault is next =
    let of = begun.of in
    stays of.knobs of.start (start_machine of.start of.floors of.tasks) so_far window fault.line (cause_view fault)
    (subst (IsKnownOf begun so_far) is next.known)

-- the settings of an audit
pub greatest_then : (aim : AimView) → aim.least ≡ true → audited_at aim ≡ greatest_settings
greatest_then aim least = ap (λ b. if b then greatest_settings else aim.knobs) least

pub own_then : (aim : AimView) → aim.least ≡ false → audited_at aim ≡ aim.knobs
own_then aim not_least = ap (λ b. if b then greatest_settings else aim.knobs) not_least

-- what is found where a verdict is asked for, and where the least settings are
pub verdict_found : (aim : AimView) (r : RecordView) (verdict : Verdict) → aim.least ≡ false
    → IsVerdict (audited_at aim) r verdict → IsFinding aim.least aim.knobs r (findings.Verdict verdict)
verdict_found aim r verdict not_least is =
    subst (λ b. IsFinding b aim.knobs r (findings.Verdict verdict)) (sym not_least)
    (subst (λ (k : KnobsView). IsVerdict k r verdict) (own_then aim not_least) is)

pub least_found : (aim : AimView) (r : RecordView) (figures : LeastFigures) → aim.least ≡ true
    → IsLeastAnswer r figures → IsFinding aim.least aim.knobs r (findings.Least figures)
least_found aim r figures least is =
    subst (λ b. IsFinding b aim.knobs r (findings.Least figures)) (sym least) is

-- an audit that went on to the end has seen the whole record
pub whole : (aim : AimView) (r : RecordView) (progress : Progress) (audit : WindowAudit)
    → progress ≡ Running audit → IsEnd aim r progress → IsWhole (beginning_of (audited_at aim) r) (events_of r) audit
whole aim r progress audit is end = record {
  audit_is = (subst (IsKnownOf (begun_of aim r) (events_of r)) is end.known).1;
  is_record = end.is_record;
  last = end.last;
  times = end.times;
  last_fits = end.last_fits;
  few_events = end.few_events;
  drift = end.drift;
}

-- of it no least settings are asked for
pub verdict_asked : (aim : AimView) (r : RecordView) (progress : Progress) (audit : WindowAudit)
    → progress ≡ Running audit → IsEnd aim r progress → aim.least ≡ false
verdict_asked aim r progress audit is end = (subst (IsKnownOf (begun_of aim r) (events_of r)) is end.known).0

-- and so has one that found the least settings
pub least_whole : (aim : AimView) (r : RecordView) (progress : Progress) (audit : LeastAudit)
    → progress ≡ Pursuing audit → IsEnd aim r progress → (aim.least ≡ true) × HasSeenRecord r audit
least_whole aim r progress audit is end =
    let known = subst (IsKnownOf (begun_of aim r) (events_of r)) is end.known in (
      known.0,
      record {
        is_record = end.is_record;
        all = subst (λ (k : KnobsView). IsLeastAuditOf (beginning_of k r) (events_of r) audit)
            (greatest_then aim known.0) known.1;
      },
    )

-- a fault that was told is the record's
pub told_of : FaultIsFirstBad → (aim : AimView) (r : RecordView) (progress : Progress) (fault : FirstFault)
    → progress ≡ Told fault → IsEnd aim r progress → IsFaulty (audited_at aim) r fault
told_of first_bad aim r progress fault is end =
    let knobs = audited_at aim in
    let told : IsFirstFault knobs r.start (start_machine r.start r.floors r.tasks) (events_of r) fault.line
    (cause_view fault) = subst (IsKnownOf (begun_of aim r) (events_of r)) is end.known in
    record {
      line = first_bad knobs r.start r.floors r.tasks (events_of r) fault.line (cause_view fault) told;
      cause = told;
    }

-- at the greatest settings the record is a run at none from there on
pub told_least : FaultIsFirstBad → GreatestTellBadAtAll → (aim : AimView) (r : RecordView) (progress : Progress)
    (fault : FirstFault) → progress ≡ Told fault → IsEnd aim r progress → aim.least ≡ true
    → IsLeastAnswer r (figures.Fault fault)
told_least first_bad at_all aim r progress fault is end least =
    let faulty = subst (λ (k : KnobsView). IsFaulty k r fault) (greatest_then aim least)
    (told_of first_bad aim r progress fault is end) in
    (at_all r.start (start_machine r.start r.floors r.tasks) (events_of r) fault.line faulty.line, faulty)
