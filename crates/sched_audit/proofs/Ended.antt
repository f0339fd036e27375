-- How a run ends whose inputs were heard: by the ending of its write.
use Rattle.std.proofs.Common.{◌≡◌, ◌≢◌, Bool, ◌⊎◌, inl, inr, Result, Ok, Err, IfOk, IfErr, IsErrOf, OnOk, ap}
use Rattle.audit_input.specs.declared.fault.Fault.{Fault}
use Rattle.audit_input.specs.declared.fault.Fault.TheVariants.{ReadTrace, ReadCompanion, Write, Memory}
use Rattle.audit_report.specs.declared.outcome.Outcome.{Outcome}
use Rattle.audit_report.specs.declared.status.Status.{Status}
use Rattle.sched_audit.specs.Run.{Input, Reads}

-- a status is answered with the outcome whose report was written
pub answered_as : {J : Type 0} (I W : Outcome J → Bool → Type 0) (S : Outcome J → Status → Type 0)
    (r : Result Status Fault) (o : Outcome J) (b : Bool) → I o b → OnOk r (W o b) → IfOk r (S o)
    → IfOk r (λ s. (p : Outcome J) × (c : Bool) × I p c × W p c × S p s)
answered_as I W S (Ok s) o b i w p = (o, b, i, w, p)
answered_as I W S (Err f) o b i w p = tt

abbrev heard_of : {A : Type 0} → A → Result A Fault
heard_of read = Ok read

-- the inputs are read as they were heard, whatever comes behind that ends with, unless it reads
pub reads_on : {A B : Type 0} (trace companion : Input) (read : A) (r : Result B Fault)
    → Reads trace companion (heard_of read) → IfErr r (λ f. (f ≡ Write) ⊎ (f ≡ Memory)) → Reads trace companion r
reads_on trace companion read (Ok s) k h = record {
  ended = k.ended;
  left = k.left;
  heard = k.heard;
  read_trace = λ e. absurd cc;
  read_companion = λ e. absurd cc;
  memory = λ e. absurd cc;
  bounded = k.bounded;
  order = λ e. absurd cc;
}
reads_on trace companion read (Err Write) k h = record {
  ended = tt;
  left = tt;
  heard = tt;
  read_trace = λ e. absurd cc;
  read_companion = λ e. absurd cc;
  memory = λ e. absurd cc;
  bounded = k.bounded;
  order = λ e. absurd cc;
}
reads_on trace companion read (Err Memory) k h = record {
  ended = tt;
  left = tt;
  heard = tt;
  read_trace = λ e. absurd cc;
  read_companion = λ e. absurd cc;
  memory = λ e. k.heard;
  bounded = k.bounded;
  order = λ e. absurd cc;
}
reads_on trace companion read (Err ReadTrace) k h = absurd (elim h [ inl e ↦ cc | inr e ↦ cc ])
reads_on trace companion read (Err ReadCompanion) k h = absurd (elim h [ inl e ↦ cc | inr e ↦ cc ])

-- what holds at want of memory holds at every fault but that of a write
pub unwritten_as : {X : Type 0} (r : Result Status Fault) → IfErr r (λ f. (f ≡ Write) ⊎ (f ≡ Memory))
    → (IsErrOf r Memory → X) → IfErr r (λ f. f ≢ Write → X)
unwritten_as (Ok s) h k = tt
unwritten_as (Err f) h k = λ ne. elim h [ inl e ↦ absurd (ne e) | inr e ↦ k (ap Err e) ]
