use Rattle.std.proofs.Common.{refl, sym, ap, ◌∙◌, inl, inr}
use Rattle.companion_file.specs.declared.fault.CompanionCause.TheVariants.{BadLine}
use Rattle.companion_file.specs.Earlier.{Said}
use Rattle.companion_file.specs.Statement.{stated}
use Rattle.companion_file.proofs.Taking.{few_cpus, no_shape, first_taken, later_refused, later_taken}
use Rattle.companion_file.proofs.draft.Draft.take.Goals as goal

pub returns-in_default : goal.returns-in_default
returns-in_default c =
    first_taken c.args.self.now c.args.line.now c.take_first.result c.take_first.new.self
    (λ comment. let test = c.is_comment.ensures in absurd cc)
    (sym (ap (λ (s : Said). s.version) c.self.view_is) ∙ c.in_default.is) c.take_first.ensures

pub returns-in_default-statement_of : goal.returns-in_default-statement_of
returns-in_default-statement_of c = (
  λ comment. let test = c.is_comment.ensures in absurd cc,
  later_refused c.in-Some.version c.args.self.now c.args.line.now BadLine
      (sym (ap (λ (s : Said). s.version) c.self.view_is) ∙ c.in-Some.is)
      (inr (inl (
        λ group. let test = c.is_group.ensures.1 group in
            absurd cc,
        no_shape c.in-Some.version c.args.line.now c.in_default-statement_of.ensures,
        refl,
      ))),
  refl,
)

pub returns : goal.returns
returns c =
    later_taken c.in-Some.version c.args.self.now c.args.line.now (stated c.in-Some-statement_of.statement) c.say.result
    c.say.new.self
    (λ comment. let test = c.is_comment.ensures in absurd cc)
    (sym (ap (λ (s : Said). s.version) c.self.view_is) ∙ c.in-Some.is)
    (λ group. let test = c.is_group.ensures.1 group in absurd cc)
    (rw (← c.self.view_is) (few_cpus c.self.inside.cpus c.self.invariant.few))
    c.in-Some-statement_of.ensures c.say.ensures
