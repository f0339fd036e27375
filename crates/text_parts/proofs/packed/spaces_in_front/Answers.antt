use Rattle.std.proofs.Common.{not, get_or}
use Rattle.std.proofs.lemmas.Bool.{not-false, not-true}
use Rattle.text_parts.specs.Pieces.{is_space}
use Rattle.text_parts.proofs.FrontRuns.{front_run}
use Rattle.text_parts.proofs.packed.spaces_in_front.Goals as goal

pub returns : goal.returns
returns c =
    let text = c.args.text.now in
    front_run is_space (λ byte. not (is_space byte)) text c.requires
    (λ k. not-false (is_space (get_or text k 0))) (λ k. not-true (is_space (get_or text k 0))) c.no_spaces.result
    c.first_set.result c.no_spaces.ensures c.first_set.ensures
