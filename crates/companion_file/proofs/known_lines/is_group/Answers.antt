use Rattle.std.proofs.Common.{refl}
use Rattle.companion_file.proofs.KnownLines.{no_group_word, group_alone, group_named}
use Rattle.companion_file.proofs.known_lines.is_group.Goals as goal

pub returns-in-None : goal.returns-in-None
returns-in-None c = (λ wrong. absurd cc, λ group. absurd (no_group_word c.args.line.now c.in-None.ensures group))

pub returns-in-Some-empty : goal.returns-in-Some-empty
returns-in-Some-empty c = (
  λ _. group_alone c.args.line.now c.in-Some-empty.field-0.now c.in-Some-empty.ensures
      c.in-Some-empty.len_below,
  λ _. refl,
)

pub returns-in-Some-len1-up : goal.returns-in-Some-len1-up
returns-in-Some-len1-up c = group_named c.args.line.now c.in-Some-len1-up.field-0.now c.in-Some-len1-up.ensures
    c.in-Some-len1-up.len_at_least
