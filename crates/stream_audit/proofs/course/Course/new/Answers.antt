use Rattle.std.proofs.Common.{refl}
use Rattle.stream_audit.proofs.Going.{not_begun}
use Rattle.stream_audit.proofs.course.Course.new.Goals as goal

pub returns-clause-course : goal.returns-clause-course
returns-clause-course c = λ gave. not_begun c.args.aim gave gave _ (c.new.ensures.at gave) refl refl
