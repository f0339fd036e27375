use Rattle.std.proofs.Common.{is_some, true≢false, sym, ap, subst, ◌∙◌}
use Rattle.cfs_model.specs.Knobs.{KnobsView}
use Rattle.least_places.specs.LeastAnswer.{IsLeastAnswer}
use Rattle.least_places.specs.declared.figures.LeastFigures.TheVariants.{Found}
use Rattle.least_audit.proofs.Answered.{answer, in_range}
use Rattle.least_audit.proofs.audit.LeastAudit.finish.Goals as goal

pub unreachable-requires : goal.unreachable-requires
unreachable-requires c =
    let some = c.of.ensures.in_range.1 (in_range c.requires.0 c.args.self c.requires.1 c.window_ends.ensures.run) in
    true≢false (sym some ∙ ap (λ o. is_some o) c.in-None.is)

pub returns : goal.returns
returns c = λ r seen.
    let range = in_range r c.args.self seen c.window_ends.ensures.run in
    subst (λ (k : KnobsView). IsLeastAnswer r (Found k c.args.self.figures.places)) (sym c.in-Some.ensures.same)
    (answer r c.args.self seen c.least_settings.ensures.more c.least_settings.ensures.lesser c.prefixes.ensures
    c.first_faults.ensures.first_bad range)
