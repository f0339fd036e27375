use Rattle.std.proofs.Common.{◌∙◌, sym, arith}
use Rattle.std.proofs.lemmas.Bool.{eqb-false, false≢true, not-true}
use Rattle.ftrace_line.specs.Front.{IsSettled}
use Rattle.ftrace_line.proofs.Shapes.{comment_settled, on_true, shapeless_settled}
use Rattle.ftrace_line.proofs.settled.is_settled.Goals as goal

pub returns-then-is_comment-clause-settled : goal.returns-then-is_comment-clause-settled
returns-then-is_comment-clause-settled c = on_true {P = IsSettled c.args.line.now} _ (λ some.
    let long = eqb-false _ 0 (sym c.is_empty.ensures ∙ not-true _ some) in
    comment_settled c.args.line.now (omega (arith, long)) (sym c.is_comment.ensures ∙ c.if-is_comment.true))

pub returns-else-is_comment-clause-settled : goal.returns-else-is_comment-clause-settled
returns-else-is_comment-clause-settled c = on_true {P = IsSettled c.args.line.now} _ (λ yes.
    shapeless_settled c.args.line.now
    (λ is. false≢true (sym c.if-is_comment.false ∙ c.is_comment.ensures ∙ is)) (c.is_shapeless.ensures.0 yes))
