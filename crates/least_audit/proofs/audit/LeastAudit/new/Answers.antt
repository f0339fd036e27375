use Rattle.std.proofs.Common.{[], refl, subst}
use Rattle.cfs_model.specs.Knobs.{KnobsView}
use Rattle.cfs_model.specs.Least.{greatest_settings}
use Rattle.companion_file.specs.Seen.{companion_view}
use Rattle.window_audit.specs.Audit.{Beginning, IsAuditOf}
use Rattle.least_audit.proofs.Begun.{figures_begun, pursuers_begun}
use Rattle.least_audit.proofs.audit.LeastAudit.new.Goals as goal

pub returns : goal.returns
returns c =
    let at = companion_view c.args.companion.now in
    let of : Beginning = record {
      knobs = greatest_settings;
      start = at.start;
      floors = at.floors;
      tasks = at.tasks;
      cpus = at.cpus;
    } in
    let audit = c.in_ok-new.field-0 in
    let pursuers = c.in_ok-pursuers_of.field-0.items in
    let e = c.in_ok-pursuers_of.ensures in
    record {
      greatest = refl;
      audited = subst (λ (k : KnobsView). IsAuditOf (record of { knobs = k }) [] audit) c.greatest.ensures
          c.in_ok-new.ensures;
      pursued = pursuers_begun of pursuers e.count e.own e.start e.needs;
      figures = figures_begun of pursuers e.count e.own e.start e.needs c.none.result c.none.ensures.least
          c.none.ensures.places;
    }
