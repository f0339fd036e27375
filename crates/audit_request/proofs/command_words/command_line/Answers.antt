-- The command is simple in clap's sense, so that its parse gives the values that `matches_of` says.
use Rattle.std.proofs.Common.{List, ◌≡◌, ◌∙◌, ap, map, refl, subst, true}
use Rattle.clap.specs.Words.{App, Row, is_simple, matches_of}
use Rattle.audit_request.specs.CommandLine.{IsRequestOf, audit_app}
use Rattle.audit_request.proofs.command_words.command_line.Goals as goal

audit_is_simple : is_simple audit_app ≡ true
audit_is_simple = refl

pub returns-in-Some : goal.returns-in-Some
returns-in-Some g c =
    let words = map g.S.AsStr.text c.args.words.now in
    let matched = c.in_ok-matches.ensures.ok.2 (ap is_simple c.in_ok-command.ensures ∙ audit_is_simple) in
    subst (λ (rows : List Row). IsRequestOf rows c.in-Some.request)
    (matched.0 ∙ ap (λ (a : App). matches_of a words) c.in_ok-command.ensures) c.in-Some.ensures
