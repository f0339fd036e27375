use Rattle.std.proofs.Common.{◌++◌, ◌∙◌}
use Rattle.sched_record.specs.Window.{window_view}
use Rattle.least_audit.specs.SoFar.{IsPlacedSoFar}
use Rattle.least_audit.specs.declared.figures.Figures.{Figures}
use Rattle.least_audit.proofs.Figured.{each_place, figured, needs_then}
use Rattle.least_audit.proofs.figures.Figures.behind.Goals as goal

pub returns : goal.returns
returns c = λ of so_far before some w f.
    let after = c.args.pursuers.now in
    let window = window_view c.args.window.now in
    let is = c.needs_at-least.ensures
    ∙ needs_then of so_far window before after w c.last_time.result (c.last_time.ensures of.start so_far some) in
    let figures : Figures = record {
      least = c.needs_at-least.result;
      places = record {
        granularity = c.place.result;
        credit = c.place-2.result;
        debit = c.place-3.result;
        slack = c.place-4.result;
        drift = c.place-5.result;
      };
    } in
    figured of so_far window before after w figures is
    (each_place (IsPlacedSoFar of (so_far ++ window) figures.least) figures.places
    (c.place.ensures of so_far before some w f is) (c.place-2.ensures of so_far before some w f is)
    (c.place-3.ensures of so_far before some w f is) (c.place-4.ensures of so_far before some w f is)
    (c.place-5.ensures of so_far before some w f is))
