use Rattle.std.proofs.Common.{◌<◌, ◌∙◌, ap, subst, arith}
use Rattle.cfs_model.specs.Knobs.{value_at}
use Rattle.least_audit.specs.Candidates.{line_of, rises_to}
use Rattle.least_audit.specs.FirstOf.{IsFirstOf}
use Rattle.least_audit.proofs.Figured.{risen}
use Rattle.least_audit.proofs.RisePlaces.{none_needed}
use Rattle.least_audit.proofs.figures.rise_place.Goals as goal

pub returns-in-Some : goal.returns-in-Some
returns-in-Some c = λ of so_far window before least w is top low not_slack.
    let after = c.args.pursuers.now in
    let which = c.args.setting in
    let value = c.args.value in
    let first = c.in-Some.field-0 in
    let found = subst (λ o. IsFirstOf line_of (rises_to which value after) of.cpus o) c.in-Some.is
    (subst (λ n. IsFirstOf line_of (rises_to which value after) n c.first_rise.result) (w.count ∙ w.pursuers.count)
    c.first_rise.ensures) in
    let some : 0 < value = (let l = low found.index found.within in omega (arith, l)) in
    risen of so_far window before after w c.places.ensures.run c.places.ensures.start which value
    (top ∙ ap (λ k. value_at k which) is) low some not_slack first found least is c.needing.result c.over_at.result
    c.needing.ensures c.over_at.ensures

pub returns-in-None : goal.returns-in-None
returns-in-None c = λ of so_far window before least w is top low not_slack.
    let after = c.args.pursuers.now in
    let which = c.args.setting in
    let value = c.args.value in
    let none = subst (λ o. IsFirstOf line_of (rises_to which value after) of.cpus o) c.in-None.is
    (subst (λ n. IsFirstOf line_of (rises_to which value after) n c.first_rise.result) (w.count ∙ w.pursuers.count)
    c.first_rise.ensures) in
    ap (λ k. value_at k which) is
    ∙ none_needed of so_far window before after w which value (top ∙ ap (λ k. value_at k which) is) low not_slack none
