-- What becomes of a line that was read: a comment, the first line, or a line with a shape whose numbers were read
-- as `Clip` says.
use Rattle.std.proofs.Common.{◌≡◌, ℕ, ◌≤◌, List, Option, Some, None, Result, Ok, Err, refl, sym, ap, subst, ◌∙◌, inl}
use Rattle.std.proofs.Common.{inr, arith}
use Rattle.std.specs.Prelude.{unwrap_or, MatchOption}
use Rattle.std.specs.Option.{ForSome}
use Rattle.cfs_model.specs.Limits.{most_processors}
use Rattle.companion_file.specs.declared.fault.CompanionCause.{CompanionCause}
use Rattle.companion_file.specs.declared.fault.Refusal.{Refusal}
use Rattle.companion_file.specs.declared.fault.Refusal.TheVariants as refusals
use Rattle.companion_file.specs.Shape.{Shape, version_line}
use Rattle.text_parts.specs.Lines.{IsComment}
use Rattle.companion_file.specs.Spelling.{IsControlGroup, IsSpelled}
use Rattle.companion_file.specs.ShapeReading.{shape_at}
use Rattle.companion_file.specs.Earlier.{Said}
use Rattle.companion_file.specs.Tests.{fault_of, tested, IsJudgedFirst, IsJudgedLater, IsJudged}
use Rattle.companion_file.specs.Draft.{with_line, AddsTested, TakesFirst, Takes}
use Rattle.companion_file.proofs.Clip.{fault_clip, same_without_fault}
use Rattle.companion_file.proofs.ReadShapes.{shape_again, shape_taken}

-- so few processors that no number far out of its limits is one of them
pub few_cpus : (cpus : Option ℕ) → ForSome cpus (λ n. n ≤ most_processors) → unwrap_or cpus 0 ≤ most_processors
few_cpus None few = omega arith
few_cpus (Some n) few = few n refl

pub no_shape : (version : ℕ) (line : List ℕ) → shape_at version line ≡ None → (x : Shape) → ¬ IsSpelled version line x
no_shape version line e x spelled = let again = shape_again version line x spelled in absurd cc

-- the judgement that the version so far asks for
judged_at : (said : Said) (line : List ℕ) (r : Result Shape CompanionCause) (version : Option ℕ)
    → said.version ≡ version → MatchOption version (IsJudgedFirst line r) (λ v. IsJudgedLater v said line r)
    → IsJudged said line r
judged_at said line r version e judged = subst (λ (o : Option ℕ). MatchOption o (IsJudgedFirst line r)
    (λ v. IsJudgedLater v said line r)) (sym e) judged

pub later_refused : (version : ℕ) (old : Said) (line : List ℕ) (cause : CompanionCause) → old.version ≡ Some version
    → IsJudgedLater version old line (Err cause) → IsJudged old line (Err cause)
later_refused version old line cause begun judged = judged_at old line (Err cause) (Some version) begun judged

pub first_taken : (old : Said) (line : List ℕ) (r : Result Unit Refusal) (new : Said) → ¬ IsComment line
    → old.version ≡ None → TakesFirst old line r new → Takes old line r new
first_taken old line (Ok u) new content begun taken =
    inr (
      content,
      (
        version_line taken.0,
        judged_at old line (Ok (version_line taken.0)) None begun
            (inl (taken.0, taken.1, refl)),
        taken.2,
      ),
    )
first_taken old line (Err (refusals.Bad cause)) new content begun taken = (
  content,
  judged_at old line (Err cause) None begun (inr (taken.0, ap (λ (c : CompanionCause). Err c) taken.1)),
  taken.2,
)
first_taken old line (Err refusals.Memory) new content begun taken = taken

pub later_taken : (version : ℕ) (old : Said) (line : List ℕ) (y : Shape) (r : Result Unit Refusal) (new : Said)
    → ¬ IsComment line → old.version ≡ Some version → ¬ IsControlGroup line → unwrap_or old.cpus 0 ≤ most_processors
    → shape_at version line ≡ Some y → AddsTested old y r new → Takes old line r new
later_taken version old line y (Ok u) new content begun plain few e follows =
    let found = shape_taken version line y e in
    let none : fault_of old found.0 ≡ None = sym (fault_clip old found.0 few) ∙ ap (fault_of old) (sym found.2)
    ∙ follows.0 in
    let same : y ≡ found.0 = found.2 ∙ same_without_fault old found.0 few none in
    let passed : Ok found.0 ≡ tested old found.0 = rw none refl in
    inr (
      content,
      (
        found.0,
        judged_at old line (Ok found.0) (Some version) begun
            (inr (inr (plain, (found.0, found.1, passed)))),
        follows.1 ∙ ap (with_line old) same,
      ),
    )
later_taken version old line y (Err (refusals.Bad cause)) new content begun plain few e follows =
    let found = shape_taken version line y e in
    let fault : fault_of old found.0 ≡ Some cause = sym (fault_clip old found.0 few) ∙ ap (fault_of old) (sym found.2)
    ∙ follows.0 in
    let failed : Err cause ≡ tested old found.0 = rw fault refl in (
      content,
      judged_at old line (Err cause) (Some version) begun (inr (inr (plain, (found.0, found.1, failed)))),
      follows.1,
    )
later_taken version old line y (Err refusals.Memory) new content begun plain few e follows = follows
