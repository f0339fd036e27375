-- Joining gives one answer: a first element that isn't so is one, and where all are so there is none.
use Rattle.std.proofs.Common.{◌≡◌, ℕ, ◌≤◌, List, ◌∷◌, Result, Ok, Err, IsTrue, ◌↔◌, inl, inr, refl, sym, ap, ◌∙◌, subst}
use Rattle.std.proofs.Common.{arith}
use Rattle.std.specs.Prelude.{All, Any}
use Rattle.cfs_model.specs.declared.act.Entry.{Entry}
use Rattle.cfs_model.specs.declared.claim.Claim.{Claim}
use Rattle.cfs_model.specs.declared.nice_line.NiceLine.{NiceLine}
use Rattle.cfs_model.specs.declared.charge_line.ChargeLine.{ChargeLine}
use Rattle.cfs_model.specs.Touch.{touched}
use Rattle.companion_file.specs.Companion.{CompanionView}
use Rattle.sched_record.specs.declared.joining.JoinCause.{JoinCause}
use Rattle.sched_record.specs.declared.joining.JoinCause.TheVariants.{CpuOutside, StartLate, ClaimNoEvent}
use Rattle.sched_record.specs.RecordView.{RecordView}
use Rattle.sched_record.specs.Join.{IsInside, NamesBirth, is_event_line, IsFirstOutside, IsBeforeStart, BeginsInTime}
use Rattle.sched_record.specs.Join.{IsFirstStray, IsStray, Refuses, GoTogether, RecordAnswer}
use Rattle.sched_record.proofs.Splits.{one_first_split, all_at_cut}

-- an event outside isn't inside
not_inside : (cpus : ℕ) (event : Entry) → Any (λ cpu. cpus ≤ cpu) (touched event.act) → IsInside cpus event → ⊥
not_inside cpus event (k, cpu, h, at, out) inside = let below = inside k cpu h in absurd (omega (arith, at, out, below))

-- events are inside, or one of them is outside: not both
pub none_outside : (cpus : ℕ) (events : List Entry) (line : ℕ) → All (IsInside cpus) events
    → IsFirstOutside cpus events line → ⊥
none_outside cpus events line all x = not_inside cpus x.event x.outside
    (all_at_cut (IsInside cpus) events x.before x.event x.after x.parts all)

one_outside : (cpus : ℕ) (events : List Entry) (m n : ℕ) → IsFirstOutside cpus events m → IsFirstOutside cpus events n
    → m ≡ n
one_outside cpus events m n x y =
    let same = one_first_split (IsInside cpus) events x.before y.before x.event y.event x.after y.after x.parts y.parts
    x.inside y.inside
    (not_inside cpus x.event x.outside) (not_inside cpus y.event y.outside) in
    x.indexed ∙ ap (λ (e : Entry). e.line) same ∙ sym y.indexed

none_early : (start : ℕ) (events : List Entry) (line : ℕ) → BeginsInTime start events → IsBeforeStart start events line
    → ⊥
none_early start events line in_time x =
    let late : start ≤ x.event.time = subst (λ es. BeginsInTime start es) x.parts in_time in
    let early = x.early in
    absurd (omega (arith, late, early))

one_early : (start : ℕ) (events : List Entry) (m n : ℕ) → IsBeforeStart start events m → IsBeforeStart start events n
    → m ≡ n
one_early start events m n x y =
    let both : x.event ∷ x.after ≡ y.event ∷ y.after = sym x.parts ∙ y.parts in
    let same : x.event ≡ y.event = cc in
    x.indexed ∙ ap (λ (e : Entry). e.line) same ∙ sym y.indexed

-- a line on which an item stands is an event's, where those of all are
said_line : {X : Type 0} (f : X → ℕ) (events : List Entry) (items : List X) (line : ℕ)
    → All (λ item. IsTrue (is_event_line events (f item))) items
    → Any (λ item. f item ≡ line) items → IsTrue (is_event_line events line)
said_line {X} f events items line all (k, item, h, at, on) =
    subst (λ n. IsTrue (is_event_line events n)) on
    (subst (λ (x : X). IsTrue (is_event_line events (f x))) at (all k item h))

none_stray : (events : List Entry) (companion : CompanionView) (line : ℕ) → GoTogether events companion
    → IsStray events companion line → ⊥
none_stray events companion line good (inl claim) =
    claim.1 (said_line (λ (c : Claim). c.line) events companion.claims line good.claimed claim.0)
none_stray events companion line good (inr (inl change)) =
    change.1 (said_line (λ (n : NiceLine). n.line) events companion.nices line good.reniced change.0)
none_stray events companion line good (inr (inr (inl (k, idle, h, at, (on, stray))))) =
    stray (subst (NamesBirth events) at (good.born k idle h))
none_stray events companion line good (inr (inr (inr charge))) =
    charge.1 (said_line (λ (c : ChargeLine). c.line) events companion.charges line good.charged charge.0)

one_stray : (events : List Entry) (companion : CompanionView) (m n : ℕ) → IsFirstStray events companion m
    → IsFirstStray events companion n → m ≡ n
one_stray events companion m n x y =
    let le = x.1 n y.0 in
    let ge = y.1 m x.0 in
    omega (arith, le, ge)

not_mixed : (events : List Entry) (companion : CompanionView) (line : ℕ) (cause : JoinCause)
    → GoTogether events companion
    → Refuses events companion line cause → ⊥
not_mixed events companion line CpuOutside good bad = none_outside companion.cpus events line good.inside bad
not_mixed events companion line StartLate good bad = none_early companion.start events line good.in_time bad.1
not_mixed events companion line ClaimNoEvent good bad = none_stray events companion line good bad.2.0

one_refusal : (events : List Entry) (companion : CompanionView) (m n : ℕ) (c d : JoinCause)
    → Refuses events companion m c
    → Refuses events companion n d → (m ≡ n) × (c ≡ d)
one_refusal events companion m n CpuOutside CpuOutside p q = (one_outside companion.cpus events m n p q, refl)
one_refusal events companion m n CpuOutside StartLate p q = absurd (none_outside companion.cpus events m q.0 p)
one_refusal events companion m n CpuOutside ClaimNoEvent p q = absurd (none_outside companion.cpus events m q.0 p)
one_refusal events companion m n StartLate CpuOutside p q = absurd (none_outside companion.cpus events n p.0 q)
one_refusal events companion m n StartLate StartLate p q = (one_early companion.start events m n p.1 q.1, refl)
one_refusal events companion m n StartLate ClaimNoEvent p q = absurd (none_early companion.start events m q.1 p.1)
one_refusal events companion m n ClaimNoEvent CpuOutside p q = absurd (none_outside companion.cpus events n p.0 q)
one_refusal events companion m n ClaimNoEvent StartLate p q = absurd (none_early companion.start events n p.1 q.1)
one_refusal events companion m n ClaimNoEvent ClaimNoEvent p q = (one_stray events companion m n p.2 q.2, refl)

pub one_record : (events : List Entry) (companion : CompanionView) (a b : Result RecordView (ℕ × JoinCause))
    → RecordAnswer events companion a → RecordAnswer events companion b → a ≡ b
one_record events companion (Ok r) (Ok s) p q = ap (λ x. Ok x) (p.1 ∙ sym q.1)
one_record events companion (Ok r) (Err fault) p q = absurd (not_mixed events companion fault.0 fault.1 p.0 q)
one_record events companion (Err fault) (Ok r) p q = absurd (not_mixed events companion fault.0 fault.1 q.0 p)
one_record events companion (Err (m, c)) (Err (n, d)) p q =
    let same = one_refusal events companion m n c d p q in
    ap (λ k. Err (k, c)) same.0 ∙ ap (λ e. Err (n, e)) same.1

-- each refusal is answered exactly where it is due
pub due : (events : List Entry) (companion : CompanionView) (told : Result RecordView (ℕ × JoinCause))
    → RecordAnswer events companion told
    → (cause : JoinCause) (line : ℕ) → (told ≡ Err (line, cause)) ↔ Refuses events companion line cause
due events companion told answered cause line = (
  λ same. subst (λ answer. RecordAnswer events companion answer) same answered,
  λ refuses. one_record events companion told (Err (line, cause)) answered refuses,
)
