-- How two inputs are read that are read at once: by what ended the reading.
use Rattle.std.proofs.Common.{◌≡◌, ◌≢◌, ◌⊎◌, ◌≤◌, ℕ, Bool, true, false, Result, Ok, Err, inl, inr}
use Rattle.std.proofs.Common.{IfErr, IsErrAnd, ap, sym, subst, ◌∙◌}
use Rattle.std.specs.Io.KnownBytes.{IsAtEnd}
use Rattle.audit_input.specs.Known.{IsCutShort, most_reads}
use Rattle.audit_input.specs.declared.fault.Fault.{Fault}
use Rattle.audit_input.specs.declared.fault.Fault.TheVariants.{Memory, ReadCompanion, ReadTrace, Write}
use Rattle.stream_audit.specs.Companion.{IsFedBy}
use Rattle.stream_audit.specs.Hearing.{Input, ReadsBoth}
use Rattle.stream_audit.specs.declared.companion_input.CompanionInput.{CompanionInput}
use Rattle.stream_audit.specs.declared.hearing.Hearing.{Hearing}

-- each was read by at most the most reads
abbrev pub AreBounded : Input → Input → Type 0
AreBounded trace companion = (trace.calls ≤ most_reads) × (companion.calls ≤ most_reads)

abbrev told : Fault → Result Hearing Fault
told fault = Err fault

abbrev heard_as : Hearing → Result Hearing Fault
heard_as hearing = Ok hearing

same_fault : (fault other : Fault) → told fault ≡ told other → fault ≡ other
same_fault fault other same = cc

-- both were read to their ends
pub both_read : (trace companion : Input) (hearing : Hearing) → (trace.has_ended ≡ true) × (companion.has_ended ≡ true)
    → IsAtEnd trace.left × IsAtEnd companion.left → (trace.has_failed ≡ false) × (companion.has_failed ≡ false)
    → AreBounded trace companion → ReadsBoth trace companion (heard_as hearing)
both_read trace companion hearing ended left heard bounded = record {
  ended = ended;
  left = left;
  heard = heard;
  read_trace = λ e. absurd cc;
  read_companion = λ e. absurd cc;
  memory = λ e. absurd cc;
  bounded = bounded;
  order = λ e. absurd cc;
}

-- a fault ended it
fault_told : (trace companion : Input) (fault : Fault)
    → (fault ≡ ReadTrace → IsCutShort trace.has_failed trace.calls)
    → (fault ≡ ReadCompanion → IsCutShort companion.has_failed companion.calls
    × (trace.has_ended ≡ true) × (trace.has_failed ≡ false))
    → (fault ≡ Memory → (trace.has_failed ≡ false) × (companion.has_failed ≡ false))
    → AreBounded trace companion → ReadsBoth trace companion (told fault)
fault_told trace companion fault of_trace of_companion of_memory bounded = record {
  ended = tt;
  left = tt;
  heard = tt;
  read_trace = λ e. of_trace (same_fault fault ReadTrace e);
  read_companion = λ e. (of_companion (same_fault fault ReadCompanion e)).0;
  memory = λ e. of_memory (same_fault fault Memory e);
  bounded = bounded;
  order = λ e.
      let of = of_companion (same_fault fault ReadCompanion e) in (of.1, of.2);
}

-- one of the trace's, while the companion had none
pub trace_cut : (trace companion : Input) (fault : Fault)
    → ((fault ≡ Memory) × (trace.has_failed ≡ false))
    ⊎ ((fault ≡ ReadTrace) × IsCutShort trace.has_failed trace.calls)
    → companion.has_failed ≡ false → AreBounded trace companion → ReadsBoth trace companion (told fault)
trace_cut trace companion fault (inl wanted) heard bounded =
    fault_told trace companion fault (λ e. let m = wanted.0 in absurd cc) (λ e. let m = wanted.0 in absurd cc)
    (λ e. (wanted.1, heard)) bounded
trace_cut trace companion fault (inr failed) heard bounded =
    fault_told trace companion fault (λ e. failed.1) (λ e. let m = failed.0 in absurd cc)
    (λ e. let m = failed.0 in absurd cc) bounded

-- one of the companion's, behind the trace's end
pub companion_cut : (trace companion : Input) (fault : Fault)
    → ((fault ≡ Memory) × (companion.has_failed ≡ false))
    ⊎ ((fault ≡ ReadCompanion) × IsCutShort companion.has_failed companion.calls)
    → trace.has_ended ≡ true → trace.has_failed ≡ false → AreBounded trace companion
    → ReadsBoth trace companion (told fault)
companion_cut trace companion fault (inl wanted) ended heard bounded =
    fault_told trace companion fault (λ e. let m = wanted.0 in absurd cc) (λ e. let m = wanted.0 in absurd cc)
    (λ e. (heard, wanted.1)) bounded
companion_cut trace companion fault (inr failed) ended heard bounded =
    fault_told trace companion fault (λ e. let m = failed.0 in absurd cc) (λ e. (failed.1, ended, heard))
    (λ e. let m = failed.0 in absurd cc) bounded

-- one of the companion's, told where the rest of the trace has none
module _ (trace companion : Input) (fault answer : Fault)
    (was : ((fault ≡ Memory) × (companion.has_failed ≡ false))
    ⊎ ((fault ≡ ReadCompanion) × IsCutShort companion.has_failed companion.calls))
    (of_memory : answer ≡ Memory → (fault ≡ Memory) × (trace.has_failed ≡ false))
    (of_trace : answer ≡ ReadTrace → IsCutShort trace.has_failed trace.calls)
    (of_companion : answer ≡ ReadCompanion
    → (fault ≡ ReadCompanion) × (trace.has_ended ≡ true) × (trace.has_failed ≡ false)) where
  heard_there : fault ≡ Memory → companion.has_failed ≡ false
  heard_there m = elim was [ inl wanted ↦ wanted.1 | inr failed ↦ let r = failed.0 in absurd cc ]

  cut_there : fault ≡ ReadCompanion → IsCutShort companion.has_failed companion.calls
  cut_there r = elim was [ inl wanted ↦ let m = wanted.0 in absurd cc | inr failed ↦ failed.1 ]

  pub behind_trace : AreBounded trace companion → ReadsBoth trace companion (told answer)
  behind_trace bounded =
      fault_told trace companion answer of_trace
      (λ e. let of = of_companion e in (cut_there of.0, of.1, of.2))
      (λ e. let of = of_memory e in (of.1, heard_there of.0)) bounded

-- ---- what calls say of it

-- where no read had failed, want of memory means that none has
pub none_failed : (fault read : Fault) (old new : Bool) (P : Type 0) → old ≡ false
    → ((fault ≡ Memory) × (new ≡ old)) ⊎ ((fault ≡ read) × P)
    → ((fault ≡ Memory) × (new ≡ false)) ⊎ ((fault ≡ read) × P)
none_failed fault read old new P heard (inl wanted) = inl (wanted.0, wanted.1 ∙ heard)
none_failed fault read old new P heard (inr failed) = inr failed

-- an answer that is this fault
fault_is : (answer : Result Hearing Fault) (fault : Fault) → IsErrAnd answer (λ e. e ≡ fault) → answer ≡ told fault
fault_is (Ok hearing) fault is = absurd is
fault_is (Err e) fault is = ap Err is

pub told_by : (trace companion : Input) (answer : Result Hearing Fault) (fault : Fault)
    → IsErrAnd answer (λ e. e ≡ fault) → ReadsBoth trace companion (told fault) → ReadsBoth trace companion answer
told_by trace companion answer fault is reads =
    subst (λ (r : Result Hearing Fault). ReadsBoth trace companion r) (sym (fault_is answer fault is)) reads

pub unwritten_by : (answer : Result Hearing Fault) (fault : Fault) → IsErrAnd answer (λ e. e ≡ fault) → fault ≢ Write
    → IfErr answer (λ f. f ≢ Write)
unwritten_by (Ok hearing) fault is unlike = absurd is
unwritten_by (Err e) fault is unlike = λ same. unlike (sym is ∙ same)

-- one of two faults
pub one_of : (fault read : Fault) (P Q : Type 0) → ((fault ≡ Memory) × P) ⊎ ((fault ≡ read) × Q)
    → (fault ≡ Memory) ⊎ (fault ≡ read)
one_of fault read P Q (inl wanted) = inl wanted.0
one_of fault read P Q (inr failed) = inr failed.0

-- a companion's reads are few
pub few_reads : (calls : ℕ) (has_ended has_failed : Bool) (input : CompanionInput)
    → IsFedBy calls has_ended has_failed input → calls ≤ most_reads
few_reads calls has_ended has_failed input fed =
    subst (λ (n : ℕ). n ≤ most_reads) (sym fed.counted) input.blocks.source.bounded

-- what isn't a fault of writing
pub no_write : (fault : Fault) → (fault ≡ Memory) ⊎ ((fault ≡ ReadTrace) ⊎ (fault ≡ ReadCompanion)) → fault ≢ Write
no_write fault (inl m) = λ e. cc
no_write fault (inr (inl r)) = λ e. cc
no_write fault (inr (inr r)) = λ e. cc

pub read_or_memory : (fault read : Fault) (P Q : Type 0) → read ≢ Write → ((fault ≡ Memory) × P) ⊎ ((fault ≡ read) × Q)
    → fault ≢ Write
read_or_memory fault read P Q unlike (inl wanted) = λ e. let m = wanted.0 in cc
read_or_memory fault read P Q unlike (inr failed) = λ e. let m = failed.0 in unlike cc
