-- An answer, from what reading and joining the texts gave.
use Rattle.std.proofs.Common.{◌≡◌, ap, ℕ, List, Result, Ok, Err}
use Rattle.std.specs.Result.{IsErrAnd}
use Rattle.sched_record.specs.Record.{RecordView}
use Rattle.audit_input.specs.declared.refused.Refused.{Refused}
use Rattle.audit_input.specs.declared.refused.Refused.TheVariants as refusals
use Rattle.sched_audit.specs.Answer.{IsAnswer}
use Rattle.audit_input.specs.Refusals.{IsTexts}

-- an answer that is this error
pub error_is : {A : Type 0} (answer : Result A Refused) (refused : Refused) → IsErrAnd answer (λ e. e ≡ refused)
    → answer ≡ Err refused
error_is (Ok judged) refused is = absurd is
error_is (Err e) refused is = ap Err is

-- the answer where the texts were refused
pub refused_answer : {J : Type 0} (is_of : RecordView → J → Type 0) (trace companion : List ℕ) (refused : Refused)
    → IsTexts trace companion (Err refused) → IsAnswer is_of trace companion (Err refused)
refused_answer is_of trace companion (refusals.Text source line cause) texts = texts
refused_answer is_of trace companion refusals.Memory texts = tt
