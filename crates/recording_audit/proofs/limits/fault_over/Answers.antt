use Rattle.sched_record.specs.Record.{record_view}
use Rattle.recording_audit.proofs.Within.{over_within}
use Rattle.recording_audit.proofs.limits.fault_over.Goals as goal

-- the limits are at least the least settings
pub returns-then-are_within : goal.returns-then-are_within
returns-then-are_within g c =
    over_within c.least_settings.ensures.exact (record_view c.args.joined.now) c.args.least c.args.limits c.requires
    (c.are_within.ensures.0 c.if-are_within.true)
