use Rattle.std.proofs.Common.{◌≡◌, ◌∙◌, ℕ, Bool, true, false, List, Option, None, Some, is_some, not, option_map, Bor}
use Rattle.std.proofs.Common.{sym}
use Rattle.std.specs.Bool.{OnTrue}
use Rattle.clap.specs.Words.{found_of}
use Rattle.clap.proofs.WalkLemmas.{first_value-rows}
use Rattle.audit_request.proofs.command_words.is_absent.Goals as goal

absent : (got : Option (Bor (List ℕ))) (first : Option (List ℕ)) (is : Bool) → option_map (λ s. s.now) got ≡ first
    → is_some got ≡ not is → OnTrue is (first ≡ None)
absent None first true same told = sym same
absent None first false same told = tt
absent (Some text) first true same told = absurd cc
absent (Some text) first false same told = tt

pub returns : goal.returns
returns c = absent c.get_str.result _ c.is_none.result (c.get_str.ensures
    ∙ first_value-rows (found_of c.args.matches.now) c.args.id.now) c.is_none.ensures
