-- The word that is read is the one that the parse gives the option.
use Rattle.std.proofs.Common.{◌∙◌, List, ℕ, Option, Some, ap, codes}
use Rattle.std.specs.Option.{option_map_or}
use Rattle.clap.specs.Words.{found_of}
use Rattle.clap.proofs.WalkLemmas.{first_value-rows}
use Rattle.audit_request.specs.CommandLine.{color_of}
use Rattle.audit_request.specs.declared.color.Color.{Color}
use Rattle.audit_request.specs.declared.color.Color.TheVariants.{Auto}
use Rattle.audit_request.proofs.command_words.color_for.Goals as goal

color_or : Option (List ℕ) → Option Color
color_or word = option_map_or color_of word (Some Auto)

pub returns-in-Some : goal.returns-in-Some
unfolding color_or
returns-in-Some c =
    c.of_word.ensures
    ∙ ap color_or (c.in-Some.ensures ∙ first_value-rows (found_of c.args.matches.now) (codes "color"))

pub returns-in-None : goal.returns-in-None
unfolding color_or
returns-in-None c =
    ap color_or (c.in-None.ensures ∙ first_value-rows (found_of c.args.matches.now) (codes "color"))
