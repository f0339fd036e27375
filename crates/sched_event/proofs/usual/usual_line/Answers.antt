use Rattle.std.proofs.Common.{Option, refl, subst}
use Rattle.ftrace_line.specs.declared.kinds.Which.{Which}
use Rattle.ftrace_line.specs.Usual.{HasFront}
use Rattle.sched_event.proofs.UsualFields.{other_stands, event_stands}
use Rattle.sched_event.proofs.usual.usual_line.Goals as goal

pub returns-in-None : goal.returns-in-None
returns-in-None c =
    let front = c.in_ok-front.front in
    other_stands c.args.text.now front.cpu front.time front.rest.now c.next_line.result.1.now
    (subst (λ (w : Option Which). HasFront c.args.text.now front.cpu front.time w front.rest.now) c.in-None.is
    c.in_ok-front.ensures) c.next_line.ensures.rest

pub returns-in-Some-usual_act : goal.returns-in-Some-usual_act
returns-in-Some-usual_act c =
    let front = c.in_ok-front.front in
    event_stands c.args.text.now front.cpu front.time c.in-Some.which front.rest.now
    (record { time = front.time; act = c.in-Some-usual_act.act }) c.in-Some-usual_act.rest.now
    (subst (λ (w : Option Which). HasFront c.args.text.now front.cpu front.time w front.rest.now) c.in-Some.is
    c.in_ok-front.ensures) c.in-Some-usual_act.ensures refl
