use Rattle.std.proofs.Common.{◌∙◌, not, sym, ap, rules}
use Rattle.std.proofs.lemmas.Bool.{not-true}
use Rattle.ftrace_line.proofs.Shapes.{no_notice, shaped, shapeless}
use Rattle.ftrace_line.proofs.settled.is_shapeless.Goals as goal

pub returns-in-Some : goal.returns-in-Some
returns-in-Some c = ((λ yes. absurd cc), (λ s. absurd (shaped c.args.line.now _ c.in-Some.ensures s)))

pub returns-then-line-gt16 : goal.returns-then-line-gt16
returns-then-line-gt16 c = (
  (λ yes. shapeless c.args.line.now c.in-None.ensures (search rules) (sym c.begins_with.ensures ∙ not-true _ yes)),
  (λ s. ap not (c.begins_with.ensures ∙ no_notice c.args.line.now s)),
)
