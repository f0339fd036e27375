-- The answer for a text: what the reader gives is the relation's answer, and the relation has no other.
use Rattle.std.proofs.Common.{◌≡◌, ℕ, List, Option, Some, None, Result, Ok, Err, refl, sym, ap, subst, ◌∙◌}
use Rattle.std.specs.Prelude.{option_map, ◌↔◌}
use Rattle.ftrace_line.specs.declared.kinds.Which.{Which}
use Rattle.ftrace_line.specs.declared.kinds.Which.TheVariants as kinds
use Rattle.sched_event.specs.declared.event.Event.{Event}
use Rattle.sched_event.specs.declared.fault.EventFault.{EventFault}
use Rattle.sched_event.specs.declared.fault.EventFault.TheVariants.{BadFields, NumberRange, RealTime, PrioRange}
use Rattle.sched_event.specs.declared.fault.EventFault.TheVariants.{IdleNamed}
use Rattle.sched_event.specs.Texts.{EventText, switch, wakeup, wakeup_new, migration, Reads}
use Rattle.sched_event.specs.Ranges.{is_out_of_range, prios_of, names_idle}
use Rattle.sched_event.specs.Event.{EventView, event_of, EventAnswer}
use Rattle.sched_event.specs.Seen.{event_view, event_answer_view}
use Rattle.sched_event.specs.Reading.{switch_at, wakeup_at, migration_at, text_at}
use Rattle.sched_event.specs.Judging.{Judges, judged, judged_if_read, answer_at}
use Rattle.sched_event.proofs.Switches.{switch_takes, switch_again}
use Rattle.sched_event.proofs.Wakeups.{wakeup_takes, wakeup_again}
use Rattle.sched_event.proofs.Migrations.{migration_takes, migration_again}
use Rattle.sched_event.proofs.Verdicts.{Meets, decided_meets, decided_only}
use Rattle.sched_event.proofs.Judgements.{decided_of, judged_is_decided, idle_unlooked}

-- ---- the parts

-- what was read under a constructor
map_some : {A B : Type 0} (f : A → B) (o : Option A) (y : B) → option_map f o ≡ Some y
    → (x : A) × (o ≡ Some x) × (f x ≡ y)
map_some f (Some x) y e = (x, refl, cc)
map_some f None y e = absurd cc

pub event_text_takes : (which : Which) (rest : List ℕ) (text : EventText) → text_at which rest ≡ Some text
    → Reads which rest text
unfolding text_at
event_text_takes kinds.Switch rest text e = let read = map_some switch (switch_at rest) text e in
    subst (Reads kinds.Switch rest) read.2 (switch_takes rest read.0 read.1)
event_text_takes kinds.Wakeup rest text e = let read = map_some wakeup (wakeup_at rest) text e in
    subst (Reads kinds.Wakeup rest) read.2 (wakeup_takes rest read.0 read.1)
event_text_takes kinds.WakeupNew rest text e = let read = map_some wakeup_new (wakeup_at rest) text e in
    subst (Reads kinds.WakeupNew rest) read.2 (wakeup_takes rest read.0 read.1)
event_text_takes kinds.MigrateTask rest text e = let read = map_some migration (migration_at rest) text e in
    subst (Reads kinds.MigrateTask rest) read.2 (migration_takes rest read.0 read.1)

pub event_text_again : (which : Which) (rest : List ℕ) (text : EventText) → Reads which rest text
    → text_at which rest ≡ Some text
unfolding text_at
event_text_again kinds.Switch rest (switch text) reads = ap (option_map switch) (switch_again rest text reads)
event_text_again kinds.Wakeup rest (wakeup text) reads = ap (option_map wakeup) (wakeup_again rest text reads)
event_text_again kinds.WakeupNew rest (wakeup_new text) reads =
    ap (option_map wakeup_new) (wakeup_again rest text reads)
event_text_again kinds.MigrateTask rest (migration text) reads =
    ap (option_map migration) (migration_again rest text reads)
event_text_again _ rest _ reads = absurd reads

-- a text has one reading at most
pub one_text : (which : Which) (rest : List ℕ) (s t : EventText) → Reads which rest s → Reads which rest t → s ≡ t
one_text which rest s t p q = let a = event_text_again which rest s p in let b = event_text_again which rest t q in cc

-- ---- the answer

-- an answer for parts, as an answer for the text
abbrev MeetsOf : ℕ → EventText → Result EventView EventFault → Type 0
MeetsOf cpu text answer = Meets (is_out_of_range text) (prios_of text) (names_idle text) (event_of cpu text) answer

packed : (cpu : ℕ) (which : Which) (rest : List ℕ) (text : EventText) → Reads which rest text
    → (answer : Result EventView EventFault) → MeetsOf cpu text answer → EventAnswer cpu which rest answer
packed cpu which rest text reads (Ok event) meets = (text, reads, meets.0, meets.1.0, meets.1.1, meets.1.2)
packed cpu which rest text reads (Err BadFields) meets = absurd meets.1
packed cpu which rest text reads (Err NumberRange) meets = (text, reads, meets)
packed cpu which rest text reads (Err RealTime) meets = (text, reads, meets.0, meets.1)
packed cpu which rest text reads (Err PrioRange) meets = (text, reads, meets.0, meets.1)
packed cpu which rest text reads (Err IdleNamed) meets = (text, reads, meets.0, meets.1.1)

judged_meets : (cpu : ℕ) (text : EventText) → MeetsOf cpu text (judged cpu text)
judged_meets cpu text =
    subst (MeetsOf cpu text) (sym (judged_is_decided cpu text))
    (decided_meets (is_out_of_range text) (prios_of text) (names_idle text) (event_of cpu text))

pub answers : (cpu : ℕ) (which : Which) (rest : List ℕ) → EventAnswer cpu which rest (answer_at cpu which rest)
unfolding answer_at
answers cpu which rest = by_read (text_at which rest) refl
  where
    by_read : (read : Option EventText) → text_at which rest ≡ read
        → EventAnswer cpu which rest (judged_if_read cpu read)
    by_read None e = λ text reads. let again = event_text_again which rest text reads in cc
    by_read (Some text) e = packed cpu which rest text (event_text_takes which rest text e) (judged cpu text)
        (judged_meets cpu text)

at_parts : (cpu : ℕ) (which : Which) (rest : List ℕ) (text : EventText) (answer : Result EventView EventFault)
    → Reads which rest text → MeetsOf cpu text answer → answer ≡ answer_at cpu which rest
unfolding answer_at
at_parts cpu which rest text answer reads meets =
    let tested : answer ≡ decided_of cpu text = decided_only (is_out_of_range text) (prios_of text) (names_idle text)
    (event_of cpu text) answer meets in
    tested ∙ sym (judged_is_decided cpu text) ∙ ap (judged_if_read cpu) (sym (event_text_again which rest text reads))

at_none : (cpu : ℕ) (which : Which) (rest : List ℕ) → ((text : EventText) → Reads which rest text → ⊥)
    → Err BadFields ≡ answer_at cpu which rest
unfolding answer_at
at_none cpu which rest none = by_read (text_at which rest) refl
  where
    by_read : (read : Option EventText) → text_at which rest ≡ read → Err BadFields ≡ judged_if_read cpu read
    by_read None e = refl
    by_read (Some text) e = absurd (none text (event_text_takes which rest text e))

pub only_answer : (cpu : ℕ) (which : Which) (rest : List ℕ) (answer : Result EventView EventFault)
    → EventAnswer cpu which rest answer → answer ≡ answer_at cpu which rest
only_answer cpu which rest (Ok event) a = at_parts cpu which rest a.0 (Ok event) a.1 (a.2, (a.3, a.4, a.5))
only_answer cpu which rest (Err BadFields) a = at_none cpu which rest a
only_answer cpu which rest (Err NumberRange) a = at_parts cpu which rest a.0 (Err NumberRange) a.1 a.2
only_answer cpu which rest (Err RealTime) a = at_parts cpu which rest a.0 (Err RealTime) a.1 (a.2, a.3)
only_answer cpu which rest (Err PrioRange) a = at_parts cpu which rest a.0 (Err PrioRange) a.1 (a.2, a.3)
only_answer cpu which rest (Err IdleNamed) a = at_parts cpu which rest a.0 (Err IdleNamed) a.1
    (a.2, (idle_unlooked a.0 a.3, a.3))

pub same_answer : (cpu : ℕ) (which : Which) (rest : List ℕ) (a b : Result EventView EventFault)
    → EventAnswer cpu which rest a → EventAnswer cpu which rest b → a ≡ b
same_answer cpu which rest a b p q = only_answer cpu which rest a p ∙ sym (only_answer cpu which rest b q)

-- ---- what is seen of the reader's answer

seen_is_judged : (answer : Result Event EventFault) (judgement : Result EventView EventFault)
    → Judges event_view answer judgement → event_answer_view answer ≡ judgement
seen_is_judged (Ok event) judgement e = sym e
seen_is_judged (Err fault) judgement e = sym e

seen_fault : (answer : Result Event EventFault) (fault : EventFault) → event_answer_view answer ≡ Err fault
    → answer ≡ Err fault
seen_fault (Ok event) fault e = absurd cc
seen_fault (Err other) fault e = cc

-- the reader's answer is so
pub seen_answers : (cpu : ℕ) (which : Which) (rest : List ℕ) (answer : Result Event EventFault)
    → Judges event_view answer (answer_at cpu which rest) → EventAnswer cpu which rest (event_answer_view answer)
seen_answers cpu which rest answer judges =
    subst (EventAnswer cpu which rest) (sym (seen_is_judged answer (answer_at cpu which rest) judges))
    (answers cpu which rest)

-- the reader refuses a text exactly where the relation does
pub refused : (cpu : ℕ) (which : Which) (rest : List ℕ) (answer : Result Event EventFault) (fault : EventFault)
    → Judges event_view answer (answer_at cpu which rest)
    → (answer ≡ Err fault) ↔ EventAnswer cpu which rest (Err fault)
refused cpu which rest answer fault judges = (
  λ e. subst (EventAnswer cpu which rest) (ap event_answer_view e) (seen_answers cpu which rest answer judges),
  λ a. seen_fault answer fault (seen_is_judged answer (answer_at cpu which rest) judges
      ∙ sym (only_answer cpu which rest (Err fault) a)),
)
