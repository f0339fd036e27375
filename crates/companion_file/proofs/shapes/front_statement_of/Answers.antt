use Rattle.std.proofs.Common.{refl}
use Rattle.companion_file.specs.ShapeReading.{front_shape_at}
use Rattle.companion_file.proofs.shapes.front_statement_of.Goals as goal

pub returns-in-Some-after_front-2 : goal.returns-in-Some-after_front-2
unfolding front_shape_at
returns-in-Some-after_front-2 c = rw (
  c.in_default.ensures,
  c.in_default-after_front.ensures,
  c.in-Some-after_front-2.ensures,
) c.version_shape.ensures

pub returns-in_default-after_front-2 : goal.returns-in_default-after_front-2
unfolding front_shape_at
returns-in_default-after_front-2 c = rw (
  c.in_default.ensures,
  c.in_default-after_front.ensures,
  c.in_default-after_front-2.ensures,
) refl
