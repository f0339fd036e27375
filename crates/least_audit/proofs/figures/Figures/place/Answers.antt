use Rattle.std.proofs.Common.{◌∙◌, ◌++◌, sym, ap, subst, arith}
use Rattle.cfs_model.specs.Knobs.{KnobsView, value_at}
use Rattle.cfs_model.specs.declared.setting.Setting.{Setting}
use Rattle.sched_record.specs.Window.{window_view}
use Rattle.least_audit.specs.Pursuers.{needs_behind}
use Rattle.least_audit.specs.SoFar.{IsPlacedSoFar}
use Rattle.least_audit.proofs.Figured.{had_below, place_kept}
use Rattle.least_audit.proofs.figures.Figures.place.Goals as goal

pub returns-then-value-get : goal.returns-then-value-get
returns-then-value-get c = λ of so_far before some w f is.
    let after = c.args.pursuers.now in
    let window = window_view c.args.window.now in
    let which = c.args.setting in
    let old = c.args.self.now in
    let v = c.get-value.ensures in
    let o = c.get.ensures in
    let t = c.if-value-get.true in
    let e = ap (λ (k : KnobsView). value_at k which) is in
    subst (λ (k : KnobsView). IsPlacedSoFar of (so_far ++ window) k which c.get-then-value-get.result) (sym is)
    (subst (IsPlacedSoFar of (so_far ++ window) (needs_behind of (so_far ++ window) after) which)
    (sym c.get-then-value-get.ensures)
    (place_kept of so_far window before after w which old.least f.least (omega (arith, v, o, t, e)) _
    (f.places which)))

pub returns-in-Slack : goal.returns-in-Slack
returns-in-Slack c = λ of so_far before some w f is.
    let window = window_view c.args.window.now in
    let v = c.get-value.ensures ∙ ap (value_at c.args.least) c.in-Slack.is in
    let o = c.get.ensures ∙ ap (value_at c.args.self.now.least) c.in-Slack.is in
    let t = c.if-value-get.false in
    let n = ap (λ (k : KnobsView). k.slack) f.needs in
    subst (λ (s : Setting). IsPlacedSoFar of (so_far ++ window) c.args.least s c.idling_place.result)
    (sym c.in-Slack.is)
    (c.idling_place.ensures of so_far before c.args.least some w is (omega (arith, v, o, t))
    (omega (arith, v, o, t, n)))

pub returns-in_default : goal.returns-in_default
returns-in_default c = λ of so_far before some w f is.
    let window = window_view c.args.window.now in
    let which = c.args.setting in
    let old = c.args.self.now.least in
    let v = c.get-value.ensures in
    let o = c.get.ensures in
    let t = c.if-value-get.false in
    c.rise_place.ensures of so_far window before c.args.least w is v
    (λ cpu k. (let b = had_below of so_far window before c.args.pursuers.now w old f.needs cpu k which in
    omega (arith, b, o, t))) c.in_default.not-Slack
