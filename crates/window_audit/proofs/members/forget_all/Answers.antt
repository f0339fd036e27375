use Rattle.std.proofs.Common.{◌<◌, length, sym, ap, ◌∙◌, arith}
use Rattle.window_audit.specs.Member.{replay_of}
use Rattle.window_audit.specs.States.{forgotten}
use Rattle.window_audit.proofs.Lists.{forget_done, forget_rest}
use Rattle.window_audit.proofs.members.forget_all.Goals as goal

pub loop-member-preserved : goal.loop-member-preserved
loop-member-preserved c =
    let l = c.loop-member in
    let n = l.auto.members in
    let t = c.loop-member-test.true in
    let within : l.member-index < length l.members = omega (arith, n, t) in
    record {
      done = forget_done c.args.members.now l.members l.member-index c.member-item.result c.forget.new.self within
          c.member-item.is l.invariant.done l.invariant.rest
          (c.forget.ensures ∙ ap (λ m. forgotten (replay_of m)) (sym c.member-item.is));
      rest = forget_rest c.args.members.now l.members l.member-index c.member-item.result c.forget.new.self within
          c.member-item.is l.invariant.done l.invariant.rest
          (c.forget.ensures ∙ ap (λ m. forgotten (replay_of m)) (sym c.member-item.is));
    }
