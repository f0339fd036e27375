-- Each kind's reader gives the answer for its text, so what the contract says follows once for all four.
use Rattle.std.proofs.Common.{◌≡◌, ℕ, List, Result, Ok, Err, refl, subst, sym}
use Rattle.std.specs.Prelude.{◌↔◌, IsErrOf}
use Rattle.ftrace_line.specs.declared.kinds.Which.{Which}
use Rattle.ftrace_line.specs.declared.kinds.Which.TheVariants as kinds
use Rattle.sched_event.specs.declared.event.Event.{Event}
use Rattle.sched_event.specs.declared.event.Event.TheVariants as events
use Rattle.sched_event.specs.declared.fault.EventFault.{EventFault}
use Rattle.sched_event.specs.declared.fault.EventFault.TheVariants.{BadFields, NumberRange, RealTime, PrioRange}
use Rattle.sched_event.specs.declared.fault.EventFault.TheVariants.{IdleNamed}
use Rattle.sched_event.specs.Seen.{event_view, event_answer_view}
use Rattle.sched_event.specs.Event.{EventAnswer, HasNoReading, HasNumberOutOfRange, HasRealTimePrio, HasPrioAboveRange}
use Rattle.sched_event.specs.Event.{NamesIdle}
use Rattle.sched_event.specs.Judging.{Judges, answer_at, judged}
use Rattle.sched_event.specs.Reading.{text_at}
use Rattle.sched_event.proofs.Answering.{seen_answers, refused}
use Rattle.sched_event.proofs.read.read_event.Goals as goal

-- what the contract says of an answer
record Told (cpu : ℕ) (which : Which) (rest : List ℕ) (answer : Result Event EventFault) : Type 0 where
  answers : EventAnswer cpu which rest (event_answer_view answer)
  bad_fields : IsErrOf answer BadFields ↔ HasNoReading which rest
  number_range : IsErrOf answer NumberRange ↔ HasNumberOutOfRange which rest
  real_time : IsErrOf answer RealTime ↔ HasRealTimePrio which rest
  prio_range : IsErrOf answer PrioRange ↔ HasPrioAboveRange which rest
  idle_named : IsErrOf answer IdleNamed ↔ NamesIdle which rest

told : (cpu : ℕ) (which kind : Which) (rest : List ℕ) (answer : Result Event EventFault) → which ≡ kind
    → Judges event_view answer (answer_at cpu kind rest) → Told cpu which rest answer
told cpu which kind rest answer is judges =
    let so : Judges event_view answer (answer_at cpu which rest) =
    subst (λ (w : Which). Judges event_view answer (answer_at cpu w rest)) (sym is) judges in
    record {
      answers = seen_answers cpu which rest answer so;
      bad_fields = refused cpu which rest answer BadFields so;
      number_range = refused cpu which rest answer NumberRange so;
      real_time = refused cpu which rest answer RealTime so;
      prio_range = refused cpu which rest answer PrioRange so;
      idle_named = refused cpu which rest answer IdleNamed so;
    }

pub returns-in_default : goal.returns-in_default
unfolding answer_at text_at
returns-in_default c =
    let line = c.args.line in
    let t = told line.cpu line.which kinds.Switch line.rest.now (Err BadFields) c.in-Switch.is
    (rw c.in_default.ensures refl) in
    record {
      answer = t.answers;
      bad_fields = t.bad_fields;
      number_range = t.number_range;
      real_time = t.real_time;
      prio_range = t.prio_range;
      idle_named = t.idle_named;
    }

pub returns-in-Ok : goal.returns-in-Ok
unfolding answer_at text_at judged
returns-in-Ok c =
    let line = c.args.line in
    let t = told line.cpu line.which kinds.Switch line.rest.now (Ok (events.Switch c.in-Ok.switch)) c.in-Switch.is
    (rw (c.in-Some.ensures, c.in-Ok.ensures) refl) in
    record {
      answer = t.answers;
      bad_fields = t.bad_fields;
      number_range = t.number_range;
      real_time = t.real_time;
      prio_range = t.prio_range;
      idle_named = t.idle_named;
    }

pub returns-in-Err : goal.returns-in-Err
unfolding answer_at text_at judged
returns-in-Err c =
    let line = c.args.line in
    let t = told line.cpu line.which kinds.Switch line.rest.now (Err c.in-Err.fault) c.in-Switch.is
    (rw (c.in-Some.ensures, c.in-Err.ensures) refl) in
    record {
      answer = t.answers;
      bad_fields = t.bad_fields;
      number_range = t.number_range;
      real_time = t.real_time;
      prio_range = t.prio_range;
      idle_named = t.idle_named;
    }

pub returns-in_default-wakeup_fields : goal.returns-in_default-wakeup_fields
unfolding answer_at text_at
returns-in_default-wakeup_fields c =
    let line = c.args.line in
    let t = told line.cpu line.which kinds.Wakeup line.rest.now (Err BadFields) c.in-Wakeup.is
    (rw c.in_default-wakeup_fields.ensures refl) in
    record {
      answer = t.answers;
      bad_fields = t.bad_fields;
      number_range = t.number_range;
      real_time = t.real_time;
      prio_range = t.prio_range;
      idle_named = t.idle_named;
    }

pub returns-in-Ok-wakeup_of : goal.returns-in-Ok-wakeup_of
unfolding answer_at text_at judged
returns-in-Ok-wakeup_of c =
    let line = c.args.line in
    let t = told line.cpu line.which kinds.Wakeup line.rest.now (Ok (events.Wakeup c.in-Ok-wakeup_of.wakeup))
    c.in-Wakeup.is (rw (c.in-Some-wakeup_fields.ensures, c.in-Ok-wakeup_of.ensures) refl) in
    record {
      answer = t.answers;
      bad_fields = t.bad_fields;
      number_range = t.number_range;
      real_time = t.real_time;
      prio_range = t.prio_range;
      idle_named = t.idle_named;
    }

pub returns-in-Err-wakeup_of : goal.returns-in-Err-wakeup_of
unfolding answer_at text_at judged
returns-in-Err-wakeup_of c =
    let line = c.args.line in
    let t = told line.cpu line.which kinds.Wakeup line.rest.now (Err c.in-Err-wakeup_of.fault) c.in-Wakeup.is
    (rw (c.in-Some-wakeup_fields.ensures, c.in-Err-wakeup_of.ensures) refl) in
    record {
      answer = t.answers;
      bad_fields = t.bad_fields;
      number_range = t.number_range;
      real_time = t.real_time;
      prio_range = t.prio_range;
      idle_named = t.idle_named;
    }

pub returns-in_default-wakeup_fields-2 : goal.returns-in_default-wakeup_fields-2
unfolding answer_at text_at
returns-in_default-wakeup_fields-2 c =
    let line = c.args.line in
    let t = told line.cpu line.which kinds.WakeupNew line.rest.now (Err BadFields) c.in-WakeupNew.is
    (rw c.in_default-wakeup_fields-2.ensures refl) in
    record {
      answer = t.answers;
      bad_fields = t.bad_fields;
      number_range = t.number_range;
      real_time = t.real_time;
      prio_range = t.prio_range;
      idle_named = t.idle_named;
    }

pub returns-in-Ok-wakeup_of-2 : goal.returns-in-Ok-wakeup_of-2
unfolding answer_at text_at judged
returns-in-Ok-wakeup_of-2 c =
    let line = c.args.line in
    let t = told line.cpu line.which kinds.WakeupNew line.rest.now (Ok (events.WakeupNew c.in-Ok-wakeup_of-2.wakeup))
    c.in-WakeupNew.is (rw (c.in-Some-wakeup_fields-2.ensures, c.in-Ok-wakeup_of-2.ensures) refl) in
    record {
      answer = t.answers;
      bad_fields = t.bad_fields;
      number_range = t.number_range;
      real_time = t.real_time;
      prio_range = t.prio_range;
      idle_named = t.idle_named;
    }

pub returns-in-Err-wakeup_of-2 : goal.returns-in-Err-wakeup_of-2
unfolding answer_at text_at judged
returns-in-Err-wakeup_of-2 c =
    let line = c.args.line in
    let t = told line.cpu line.which kinds.WakeupNew line.rest.now (Err c.in-Err-wakeup_of-2.fault) c.in-WakeupNew.is
    (rw (c.in-Some-wakeup_fields-2.ensures, c.in-Err-wakeup_of-2.ensures) refl) in
    record {
      answer = t.answers;
      bad_fields = t.bad_fields;
      number_range = t.number_range;
      real_time = t.real_time;
      prio_range = t.prio_range;
      idle_named = t.idle_named;
    }

pub returns-in_default-migration_fields : goal.returns-in_default-migration_fields
unfolding answer_at text_at
returns-in_default-migration_fields c =
    let line = c.args.line in
    let t = told line.cpu line.which kinds.MigrateTask line.rest.now (Err BadFields) c.in-MigrateTask.is
    (rw c.in_default-migration_fields.ensures refl) in
    record {
      answer = t.answers;
      bad_fields = t.bad_fields;
      number_range = t.number_range;
      real_time = t.real_time;
      prio_range = t.prio_range;
      idle_named = t.idle_named;
    }

pub returns-in-Ok-migration_of : goal.returns-in-Ok-migration_of
unfolding answer_at text_at judged
returns-in-Ok-migration_of c =
    let line = c.args.line in
    let t = told line.cpu line.which kinds.MigrateTask line.rest.now
    (Ok (events.Migration c.in-Ok-migration_of.migration)) c.in-MigrateTask.is
    (rw (c.in-Some-migration_fields.ensures, c.in-Ok-migration_of.ensures) refl) in
    record {
      answer = t.answers;
      bad_fields = t.bad_fields;
      number_range = t.number_range;
      real_time = t.real_time;
      prio_range = t.prio_range;
      idle_named = t.idle_named;
    }

pub returns-in-Err-migration_of : goal.returns-in-Err-migration_of
unfolding answer_at text_at judged
returns-in-Err-migration_of c =
    let line = c.args.line in
    let t = told line.cpu line.which kinds.MigrateTask line.rest.now (Err c.in-Err-migration_of.fault)
    c.in-MigrateTask.is (rw (c.in-Some-migration_fields.ensures, c.in-Err-migration_of.ensures) refl) in
    record {
      answer = t.answers;
      bad_fields = t.bad_fields;
      number_range = t.number_range;
      real_time = t.real_time;
      prio_range = t.prio_range;
      idle_named = t.idle_named;
    }
