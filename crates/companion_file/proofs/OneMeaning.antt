-- A text means one companion or is refused at one line for one cause: by cases on the two answers.
use Rattle.std.proofs.Common.{◌≡◌, ℕ, ◌+◌, true, ℤ, List, [], Result, Ok, Err, refl, sym, ap, subst, ◌∙◌, inl, inr}
use Rattle.std.proofs.lemmas.Option.{same_Some}
use Rattle.cfs_model.specs.declared.task.Task.{Task}
use Rattle.cfs_model.specs.declared.claim.Claim.{Claim}
use Rattle.cfs_model.specs.declared.nice_line.NiceLine.{NiceLine}
use Rattle.cfs_model.specs.declared.charge_line.ChargeLine.{ChargeLine}
use Rattle.cfs_model.specs.declared.idle_line.IdleLine.{IdleLine}
use Rattle.text_parts.specs.Lines.{lines_of}
use Rattle.std.proofs.lemmas.Option.{same_Some}
use Rattle.companion_file.specs.declared.fault.CompanionCause.{CompanionCause}
use Rattle.companion_file.specs.declared.fault.CompanionFault.{CompanionFault}
use Rattle.companion_file.specs.declared.fault.CompanionFault.TheVariants as faults
use Rattle.companion_file.specs.declared.companion.Companion.{Companion}
use Rattle.companion_file.specs.Shape.{Shape}
use Rattle.companion_file.specs.Earlier.{summed, has_all_floors}
use Rattle.companion_file.specs.Companion.{CompanionView, AreGood, IsFirstBadCompanionLine, IsShort, IsRead}
use Rattle.companion_file.specs.Companion.{CompanionAnswer}
use Rattle.companion_file.specs.Seen.{IsAnswered, IsReturned, companion_view}
use Rattle.companion_file.proofs.GoodLines.{nothing_order}
use Rattle.companion_file.proofs.OneAnswer.{good_once, IsBadBehind, never_good, bad_once}

same_reading : (c d s t : ℕ) (f g : List ℤ) (k l : List Task) (m n : List Claim) (o p : List NiceLine)
    (u v : List IdleLine) (w x : List ChargeLine) → c ≡ d → s ≡ t → f ≡ g → k ≡ l → m ≡ n → o ≡ p → u ≡ v → w ≡ x
    → ◌≡◌ {A = CompanionView}
    (record { cpus = c; start = s; floors = f; tasks = k; claims = m; nices = o; idles = u; charges = w })
    (record { cpus = d; start = t; floors = g; tasks = l; claims = n; nices = p; idles = v; charges = x })
same_reading c d s t f g k l m n o p u v w x e1 e2 e3 e4 e5 e6 e7 e8 = rw (e1, e2, e3, e4, e5, e6, e7, e8) refl

read_once : (lines : List (List ℕ)) (r s : CompanionView) → IsRead lines r → IsRead lines s → r ≡ s
read_once lines r s p q =
    let same : p.said ≡ q.said = good_once [] lines p.said q.said nothing_order p.good q.good in
    let cpus : r.cpus ≡ s.cpus = same_Some r.cpus s.cpus (sym p.cpus_is ∙ ap (λ (x : List Shape). (summed x).cpus) same
    ∙ q.cpus_is) in
    let start : r.start ≡ s.start = same_Some r.start s.start (sym p.start_is
    ∙ ap (λ (x : List Shape). (summed x).start) same ∙ q.start_is) in
    same_reading r.cpus s.cpus r.start s.start r.floors s.floors r.tasks s.tasks r.claims s.claims r.nices s.nices
    r.idles s.idles r.charges s.charges cpus start
    (p.floors_is ∙ ap (λ (x : List Shape). (summed x).floors) same ∙ sym q.floors_is)
    (p.tasks_is ∙ ap (λ (x : List Shape). (summed x).tasks) same ∙ sym q.tasks_is)
    (p.claims_is ∙ ap (λ (x : List Shape). (summed x).claims) same ∙ sym q.claims_is)
    (p.nices_is ∙ ap (λ (x : List Shape). (summed x).nices) same ∙ sym q.nices_is)
    (p.idles_is ∙ ap (λ (x : List Shape). (summed x).idles) same ∙ sym q.idles_is)
    (p.charges_is ∙ ap (λ (x : List Shape). (summed x).charges) same ∙ sym q.charges_is)

bad_after : (lines : List (List ℕ)) (number : ℕ) (cause : CompanionCause)
    (b : IsFirstBadCompanionLine lines number cause) → IsBadBehind [] b.before b.line cause
bad_after lines number cause b = record { said = b.said; good = b.good; content = b.content; bad = b.bad }

good_or_bad : (lines : List (List ℕ)) (number : ℕ) (cause : CompanionCause) (said : List Shape)
    → IsFirstBadCompanionLine lines number cause → AreGood [] lines said → ⊥
good_or_bad lines number cause said b good =
    never_good [] b.before b.line b.after said cause nothing_order (bad_after lines number cause b)
    (subst (λ (ls : List (List ℕ)). AreGood [] ls said) b.parts good)

read_or_short : (lines : List (List ℕ)) (number : ℕ) (cause : CompanionCause) (r : CompanionView)
    → IsShort lines number cause → IsRead lines r → ⊥
read_or_short lines number cause r p q =
    let same : p.said ≡ q.said = good_once [] lines p.said q.said nothing_order p.good q.good in
    let both_true : has_all_floors (summed p.said) ≡ true = rw same q.whole in
    let missing = p.missing in
    cc

same_fault : (m n : ℕ) (c d : CompanionCause) → m ≡ n → c ≡ d
    → ◌≡◌ {A = Result CompanionView (ℕ × CompanionCause)} (Err (m, c)) (Err (n, d))
same_fault m n c d e f = rw (e, f) refl

first_bad_once : (lines : List (List ℕ)) (f g : ℕ × CompanionCause) → IsFirstBadCompanionLine lines f.0 f.1
    → IsFirstBadCompanionLine lines g.0 g.1 → ◌≡◌ {A = Result CompanionView (ℕ × CompanionCause)} (Err f) (Err g)
first_bad_once lines f g p q =
    let once = bad_once [] p.before q.before p.line q.line p.after q.after f.1 g.1 nothing_order (sym p.parts ∙ q.parts)
    (bad_after lines f.0 f.1 p) (bad_after lines g.0 g.1 q) in
    same_fault f.0 g.0 f.1 g.1 (p.place ∙ ap (λ (n : ℕ). n + 1) once.0 ∙ sym q.place) once.1

pub one_of : (text : List ℕ) (a b : Result CompanionView (ℕ × CompanionCause)) → CompanionAnswer text a
    → CompanionAnswer text b → a ≡ b
one_of text (Ok r) (Ok s) p q = ap (λ (x : CompanionView). Ok x) (read_once (lines_of text) r s p q)
one_of text (Ok r) (Err g) p (inl q) = absurd (good_or_bad (lines_of text) g.0 g.1 p.said q p.good)
one_of text (Ok r) (Err g) p (inr q) = absurd (read_or_short (lines_of text) g.0 g.1 r q p)
one_of text (Err f) (Ok s) (inl p) q = absurd (good_or_bad (lines_of text) f.0 f.1 q.said p q.good)
one_of text (Err f) (Ok s) (inr p) q = absurd (read_or_short (lines_of text) f.0 f.1 s p q)
one_of text (Err f) (Err g) (inl p) (inl q) = first_bad_once (lines_of text) f g p q
one_of text (Err f) (Err g) (inl p) (inr q) = absurd (good_or_bad (lines_of text) f.0 f.1 q.said p q.good)
one_of text (Err f) (Err g) (inr p) (inl q) = absurd (good_or_bad (lines_of text) g.0 g.1 p.said q p.good)
one_of text (Err f) (Err g) (inr p) (inr q) = same_fault f.0 g.0 f.1 g.1 (p.place ∙ sym q.place) (p.name ∙ sym q.name)

-- what the text means was returned, unless a growth was refused
pub only_this : (text : List ℕ) (result : Result Companion CompanionFault) → IsAnswered text result
    → (answer : Result CompanionView (ℕ × CompanionCause)) → CompanionAnswer text answer → IsReturned result answer
only_this text (Ok c) answered answer q = one_of text answer (Ok (companion_view c)) q answered
only_this text (Err (faults.Text line cause)) answered answer q = one_of text answer (Err (line, cause)) q answered
only_this text (Err faults.Memory) answered answer q = tt
