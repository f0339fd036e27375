use Rattle.std.proofs.Common.{◌≡◌, Some, take, sym, subst, arith}
use Rattle.text_parts.specs.Unbroken.{IsUnbroken}
use Rattle.ftrace_line.specs.Clock.{seconds_in}
use Rattle.ftrace_line.proofs.Remembered.{fronts_same}
use Rattle.ftrace_line.proofs.clock.Clock.of.Goals as goal

pub invariant_of-result : goal.invariant_of-result
invariant_of-result c =
    let width = c.args.width in
    let loop = c.loop-index.invariant in
    let all : c.loop-index.index ≡ width = omega (arith, c.loop-index.auto, c.loop-index-test.false) in
    let front : take width c.loop-index.bytes ≡ take width c.args.text.now =
    fronts_same c.loop-index.bytes c.args.text.now width (omega (arith, c.requires.few, loop.long))
    (omega (arith, c.requires.few, c.requires.long)) (λ k lt. loop.same k (omega (arith, lt, all))) in
    record {
      few = c.requires.few;
      masked = λ index lt. loop.masked index (omega (arith, lt, all));
      unbroken = subst IsUnbroken (sym front) c.requires.unbroken;
      read = subst (λ front. seconds_in front ≡ Some c.args.seconds) (sym front) c.requires.read;
    }
