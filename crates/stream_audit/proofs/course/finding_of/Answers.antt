use Rattle.std.proofs.Common.{◌≤◌, subst}
use Rattle.cfs_model.specs.Knobs.{KnobsView}
use Rattle.cfs_model.specs.Limits.{greatest_setting}
use Rattle.stream_audit.proofs.Joined.{end_of}
use Rattle.stream_audit.proofs.course.finding_of.Goals as goal

pub finish-requires : goal.finish-requires
finish-requires c = (
  c.requires.0,
  rw c.into_progress.ensures (end_of c.args.aim c.requires.0 c.args.judge c.requires.1
      (subst (λ (k : KnobsView). k.drift ≤ greatest_setting) c.knobs.ensures
      (subst (λ n. n ≤ greatest_setting) c.drift-drift.ensures.same c.drift-drift.ensures.in_range))),
)

pub returns : goal.returns
returns c = λ r all.
    c.finish.ensures r
    (rw c.into_progress.ensures (end_of c.args.aim r c.args.judge all
    (subst (λ (k : KnobsView). k.drift ≤ greatest_setting) c.knobs.ensures
    (subst (λ n. n ≤ greatest_setting) c.drift-drift.ensures.same c.drift-drift.ensures.in_range))))
