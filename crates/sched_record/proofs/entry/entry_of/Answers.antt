use Rattle.std.proofs.Common.{refl, subst, inr}
use Rattle.std.specs.Prelude.{Option, MatchOption, Ok}
use Rattle.ftrace_line.specs.Line.{LineAnswer, other}
use Rattle.sched_event.specs.Usual.{SaysAct}
use Rattle.sched_event.specs.declared.usual.UsualEvent.{UsualEvent}
use Rattle.sched_record.proofs.entry.entry_of.Goals as goal

pub returns-in-None : goal.returns-in-None
returns-in-None c line says = (
  c.requires,
  inr (subst (λ (o : Option UsualEvent). MatchOption o (LineAnswer line (Ok other)) (SaysAct line)) c.in-None.is says),
)

pub returns-in-Some : goal.returns-in-Some
returns-in-Some c line says =
    let s = subst (λ (o : Option UsualEvent). MatchOption o (LineAnswer line (Ok other)) (SaysAct line))
    c.in-Some.is says in (
      c.requires,
      record {
        cpu = s.cpu;
        which = s.which;
        rest = s.fields;
        event = s.event;
        head = s.head;
        text = s.answer;
        act = s.act_is;
        indexed = refl;
      },
    )
