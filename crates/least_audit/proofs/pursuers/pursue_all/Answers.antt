use Rattle.std.proofs.Common.{◌<◌, length, sym, subst, arith}
use Rattle.sched_record.specs.Window.{window_view}
use Rattle.least_audit.specs.Pursuers.{PursuedOn}
use Rattle.least_audit.specs.declared.pursuer.Pursuer.{Pursuer}
use Rattle.least_audit.proofs.Lists.{done_more, rest_more}
use Rattle.least_audit.proofs.pursuers.pursue_all.Goals as goal

pub loop-pursuer-preserved : goal.loop-pursuer-preserved
loop-pursuer-preserved c =
    let l = c.loop-pursuer in
    let window = window_view c.args.window.now in
    let n = l.auto.pursuers in
    let t = c.loop-pursuer-test.true in
    let within : l.pursuer-index < length l.pursuers = omega (arith, n, t) in
    let item = c.pursuer-item.result in
    let new = c.go_through.new.self in
    let related : PursuedOn window item new =
    subst (λ (x : Pursuer). PursuedOn window x new) (sym c.pursuer-item.is) c.in_ok-go_through.ensures in
    record {
      done = done_more (PursuedOn window) c.args.pursuers.now l.pursuers l.pursuer-index item new within
          c.pursuer-item.is l.invariant.done l.invariant.rest related;
      rest = rest_more (PursuedOn window) c.args.pursuers.now l.pursuers l.pursuer-index item new within
          c.pursuer-item.is l.invariant.done l.invariant.rest related;
    }
