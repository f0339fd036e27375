use Rattle.std.proofs.Common.{◌≡◌, ◌++◌, subst, ◌∙◌, append_assoc, arith}
use Rattle.std.proofs.KnownBytes.{Consumes-trans}
use Rattle.std.specs.Io.KnownBytes.{Consumes}
use Rattle.input_blocks.proofs.PassedOn.{whole_input}
use Rattle.input_blocks.proofs.block_source.BlockSource.drain.Goals as goal

pub loop-count-init : goal.loop-count-init
loop-count-init g c =
    let first = c.in_ok-count.ensures in
    record {
      counted = first.counted;
      ended = first.ended;
      at_end = first.end;
      heard = first.heard;
      never_fewer = first.never_fewer;
      came = λ gave done consumed. (
        first.read.0,
        Consumes-trans gave _ _ done first.read.0 consumed first.read.1,
      );
    }

pub loop-count-preserved : goal.loop-count-preserved
loop-count-preserved g c =
    let before = c.loop-count.invariant in
    let read = c.in_ok-count-2.ensures in
    record {
      counted = read.counted;
      ended = read.ended;
      at_end = read.end;
      heard = read.heard ∙ before.heard;
      never_fewer = (let one = read.one_read in let earlier = before.never_fewer in omega (arith, one, earlier));
      came = λ gave done consumed.
          let so_far = before.came gave done consumed in (
            so_far.0 ++ read.read.0,
            subst (Consumes gave _) (append_assoc done so_far.0 read.read.0)
                (Consumes-trans gave _ _ (done ++ so_far.0) read.read.0 so_far.1 read.read.1),
          );
    }

pub returns-clause-all : goal.returns-clause-all
returns-clause-all g c = λ gave done consumed.
    let last = c.loop-count.invariant in
    let none : c.loop-count.count ≡ 0 = (let t = c.loop-count-test.false in omega (arith, t)) in
    let so_far = last.came gave done consumed in (
      so_far.0,
      whole_input gave _ (done ++ so_far.0) so_far.1 (last.at_end none),
    )
