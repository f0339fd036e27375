-- A line of a number says one thing, since it reads in one way, and the text behind a head reads in one way.
use Rattle.std.proofs.Common.{◌≡◌, ℕ, ◌<◌, ◌≤◌, List, Option, Some, None, Result, Ok, Err, ◌⊎◌, inl, inr, refl, sym, ap}
use Rattle.std.proofs.Common.{◌∙◌, subst, arith}
use Rattle.cfs_model.specs.Limits.{greatest_line}
use Rattle.cfs_model.specs.declared.act.Act.{Act}
use Rattle.cfs_model.specs.declared.act.Entry.{Entry}
use Rattle.ftrace_line.specs.declared.kinds.Which.{Which}
use Rattle.ftrace_line.specs.declared.fault.LineFault.{LineFault}
use Rattle.ftrace_line.specs.Line.{LineAnswer, LineView, comment, lost, other, sched}
use Rattle.sched_event.specs.declared.fault.EventFault.{EventFault}
use Rattle.sched_event.specs.Event.{EventAnswer, EventView, act_of}
use Rattle.sched_record.specs.declared.cause.TraceCause.{TraceCause}
use Rattle.sched_record.specs.declared.cause.TraceCause.TheVariants.{TooManyLines, Line, LostEvents, Event, TimeBack}
use Rattle.sched_record.specs.Said.{LineSays}

-- a line reads in one way, and so does an event's text
pub record ReadOnce : Type 0 where
  pub lines : (line : List ℕ) (a b : Result LineView LineFault) → LineAnswer line a → LineAnswer line b → a ≡ b
  pub events : (cpu : ℕ) (which : Which) (rest : List ℕ) (a b : Result EventView EventFault)
      → EventAnswer cpu which rest a
      → EventAnswer cpu which rest b → a ≡ b

-- what an event's text makes of its line
of_event : ℕ → ℕ → Result EventView EventFault → Result (Option Entry) TraceCause
of_event number time (Ok event) = Ok (Some (record { line = number; time = time; act = act_of event }))
of_event number time (Err fault) = Err (Event fault)

-- what a line's reading says
abbrev Follows : ℕ → Result LineView LineFault → Result (Option Entry) TraceCause → Type 0
Follows number (Ok comment) say = say ≡ Ok None
Follows number (Ok lost) say = say ≡ Err LostEvents
Follows number (Ok other) say = say ≡ Ok None
Follows number (Ok (sched cpu time which rest)) say = (event : Result EventView EventFault)
    × EventAnswer cpu which rest event × (say ≡ of_event number time event)
Follows number (Err fault) say = say ≡ Err (Line fault)

record Path (number : ℕ) (line : List ℕ) (say : Result (Option Entry) TraceCause) : Type 0 where
  reading : Result LineView LineFault
  answer : LineAnswer line reading
  follows : Follows number reading say

entry_is : (entry : Entry) (number : ℕ) (act : Act) → entry.line ≡ number → entry.act ≡ act
    → entry ≡ record { line = number; time = entry.time; act = act }
entry_is entry number act line_is act_is =
    ap (λ n. record entry { line = n }) line_is ∙ ap (λ a. record entry { line = number; act = a }) act_is

path : (number : ℕ) (line : List ℕ) (say : Result (Option Entry) TraceCause) → LineSays number line say
    → ((greatest_line < number) × (say ≡ Err TooManyLines)) ⊎ ((number ≤ greatest_line) × Path number line say)
unfolding of_event
path number line (Ok (Some entry)) says =
    let s = says.1 in
    inr (
      says.0,
      record {
        reading = Ok (sched s.cpu entry.time s.which s.rest);
        answer = s.head;
        follows = (Ok s.event, s.text, ap (λ e. Ok (Some e)) (entry_is entry number (act_of s.event) s.indexed s.act));
      },
    )
path number line (Ok None) (within, inl says) = inr
    (within, record { reading = Ok comment; answer = says; follows = refl })
path number line (Ok None) (within, inr says) = inr
    (within, record { reading = Ok other; answer = says; follows = refl })
path number line (Err TooManyLines) says = inl (says, refl)
path number line (Err (Line fault)) says = inr (says.0, record { reading = Err fault; answer = says.1; follows = refl })
path number line (Err LostEvents) says = inr (says.0, record { reading = Ok lost; answer = says.1; follows = refl })
path number line (Err (Event fault)) says =
    let s = says.1 in
    inr (
      says.0,
      record {
        reading = Ok (sched s.cpu s.time s.which s.rest);
        answer = s.head;
        follows = (Err fault, s.text, refl);
      },
    )
path number line (Err TimeBack) says = absurd says

one_follows : ReadOnce → (number : ℕ) (reading : Result LineView LineFault) (a b : Result (Option Entry) TraceCause)
    → Follows number reading a → Follows number reading b → a ≡ b
one_follows once number (Ok comment) a b p q = p ∙ sym q
one_follows once number (Ok lost) a b p q = p ∙ sym q
one_follows once number (Ok other) a b p q = p ∙ sym q
one_follows once number (Ok (sched cpu time which rest)) a b p q =
    p.2 ∙ ap (of_event number time) (once.events cpu which rest p.0 q.0 p.1 q.1) ∙ sym q.2
one_follows once number (Err fault) a b p q = p ∙ sym q

pub one_saying : ReadOnce → (number : ℕ) (line : List ℕ) (a b : Result (Option Entry) TraceCause)
    → LineSays number line a
    → LineSays number line b → a ≡ b
one_saying once number line a b says says' =
    elim (path number line a says) [
      | inl above ↦ elim (path number line b says') [
        | inl above' ↦ above.1 ∙ sym above'.1
        | inr within' ↦ (let gt = above.0 in let le = within'.0 in absurd (omega (arith, gt, le)))
      ]
      | inr within ↦ elim (path number line b says') [
        | inl above' ↦ (let gt = above'.0 in let le = within.0 in absurd (omega (arith, gt, le)))
        | inr within' ↦ (
            let p = within.1 in
            let q = within'.1 in
            let same = once.lines line p.reading q.reading p.answer q.answer in
            one_follows once number q.reading a b (subst (λ r. Follows number r a) same p.follows) q.follows)
      ]
    ]
