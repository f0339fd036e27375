-- Lines that are all good, one after another: their order is kept, and one more good line makes one more of them.
use Rattle.std.proofs.Common.{◌≡◌, ℕ, true, false, ◌^◌, ◌<◌, List, [], ◌∷◌, ◌++◌, length, Option, Some, None}
use Rattle.std.proofs.Common.{Ok, Err, refl, sym, ap, subst, inl, inr, arith}
use Rattle.std.specs.Prelude.{MatchOption}
use Rattle.std.specs.Option.{option_map_or}
use Rattle.std.proofs.lemmas.List.Elements.{All-nil}
use Rattle.cfs_model.specs.Charge.{IsInRange}
use Rattle.cfs_model.specs.declared.idle_line.IdleLine.{IdleLine}
use Rattle.text_parts.specs.Numerals.{value_of}
use Rattle.text_parts.specs.Time.{IsFraction}
use Rattle.text_parts.proofs.Times.{value_below}
use Rattle.cfs_model.specs.Limits.{no_line, nanoseconds_per_second}
use Rattle.companion_file.specs.declared.fault.CompanionCause.{CompanionCause}
use Rattle.companion_file.specs.Shape.{Shape, version_line, cpus_line, start_line, floor_line, task_line, claim_line}
use Rattle.companion_file.specs.Shape.{nice_line, idle_line, charge_line}
use Rattle.text_parts.specs.Lines.{IsComment}
use Rattle.companion_file.specs.Spelling.{IsSpelled}
use Rattle.companion_file.specs.Order.{IsTaskInLimits, IsClaimInLimits, IsNiceLineInLimits, IsIdleLineInLimits}
use Rattle.companion_file.specs.Order.{IsChargeLineInLimits}
use Rattle.companion_file.specs.Earlier.{Said, summed}
use Rattle.companion_file.specs.Tests.{fault_of, tested, IsJudgedFirst, IsJudgedLater, IsJudged}
use Rattle.companion_file.specs.Draft.{KeepsOrder, with_line}
use Rattle.companion_file.specs.Companion.{AreGood}
use Rattle.companion_file.proofs.Summing.{summed-push}
use Rattle.companion_file.proofs.KeptOrder.{all_passed}
use Rattle.companion_file.proofs.GrowingOrder.{FitsSecond, order_with}

fraction_below : (digits : List ℕ) (n : ℕ) → value_of digits < 10 ^ length digits → IsFraction digits n
    → n < nanoseconds_per_second
fraction_below digits n below (inl p) = let low : value_of digits < 10 ^ 6 = rw p.0 at below in omega (arith, p.1)
fraction_below digits n below (inr p) = let low : value_of digits < 10 ^ 9 = rw p.0 at below in omega (arith, p.1)

second_fits : (version : ℕ) (line : List ℕ) (x : Shape) → IsSpelled version line x → FitsSecond x
second_fits version line (version_line n) p = tt
second_fits version line (cpus_line n) p = tt
second_fits version line (start_line seconds nanoseconds) p =
    fraction_below p.1.fraction_digits nanoseconds (value_below p.1.fraction_digits p.1.fraction_numeral.all)
    p.1.fraction_value
second_fits version line (floor_line cpu floor) p = tt
second_fits version line (task_line t) p = tt
second_fits version line (claim_line k) p = tt
second_fits version line (nice_line k) p = tt
second_fits version line (idle_line k) p = tt
second_fits version line (charge_line k) p = tt

pub nothing_order : KeepsOrder (summed [])
nothing_order =
    record {
      cpus_kept = λ n e. absurd cc;
      start_kept = λ n e. absurd cc;
      floors_after_start = λ e. refl;
      floors_kept = All-nil IsInRange;
      tasks_kept = All-nil (IsTaskInLimits 0);
      pids_rise = λ i j d lt within. absurd (omega arith);
      one_runs_a_cpu = λ i j d lt within. absurd (omega arith);
      claims_kept = All-nil IsClaimInLimits;
      lines_rise = λ i j d lt within. absurd (omega arith);
      nices_kept = All-nil IsNiceLineInLimits;
      nice_lines_rise = λ i j d lt within. absurd (omega arith);
      idles_kept = All-nil IsIdleLineInLimits;
      idles_rise = λ i j d lt within. absurd (omega arith);
      charges_kept = All-nil IsChargeLineInLimits;
      charge_lines_rise = λ i j d lt within. absurd (omega arith);
      policies_kept = refl;
      named_kept = All-nil (λ (idle : IdleLine). idle.line ≡ no_line → false ≡ true);
    }

order_first_line : (said : Said) (version : ℕ) → KeepsOrder said → KeepsOrder (record said { version = Some version })
order_first_line said version order =
    record {
      cpus_kept = order.cpus_kept;
      start_kept = order.start_kept;
      floors_after_start = order.floors_after_start;
      floors_kept = order.floors_kept;
      tasks_kept = order.tasks_kept;
      pids_rise = order.pids_rise;
      one_runs_a_cpu = order.one_runs_a_cpu;
      claims_kept = order.claims_kept;
      lines_rise = order.lines_rise;
      nices_kept = order.nices_kept;
      nice_lines_rise = order.nice_lines_rise;
      idles_kept = order.idles_kept;
      idles_rise = order.idles_rise;
      charges_kept = order.charges_kept;
      charge_lines_rise = order.charge_lines_rise;
      policies_kept = order.policies_kept;
      named_kept = order.named_kept;
    }

-- the outcome of the tests is what the line says only where none failed
tested_from : (fault : Option CompanionCause) (x y : Shape) → Ok y ≡ option_map_or (λ cause. Err cause) fault (Ok x)
    → (fault ≡ None) × (y ≡ x)
tested_from None x y e = (refl, cc)
tested_from (Some cause) x y e = absurd cc

pub tested_ok : (said : Said) (x y : Shape) → Ok y ≡ tested said x → (fault_of said x ≡ None) × (y ≡ x)
tested_ok said x y e = tested_from (fault_of said x) x y e

order_later : (version : ℕ) (said : Said) (line : List ℕ) (y : Shape) → KeepsOrder said
    → IsJudgedLater version said line (Ok y) → KeepsOrder (with_line said y)
order_later version said line y order (inl p) = let wrong = p.1 in absurd cc
order_later version said line y order (inr (inl p)) = let wrong = p.2 in absurd cc
order_later version said line y order (inr (inr p)) =
    let t = tested_ok said p.1.0 y p.1.2 in
    subst (λ (x : Shape). KeepsOrder (with_line said x)) (sym t.1)
    (order_with said p.1.0 (second_fits version line p.1.0 p.1.1) order (all_passed said p.1.0 t.0))

order_first : (said : Said) (line : List ℕ) (y : Shape) → KeepsOrder said → IsJudgedFirst line (Ok y)
    → KeepsOrder (with_line said y)
order_first said line y order (inl p) =
    let same : y ≡ version_line p.0 = let e = p.2 in cc in
    subst (λ (x : Shape). KeepsOrder (with_line said x)) (sym same) (order_first_line said p.0 order)
order_first said line y order (inr p) = let wrong = p.1 in absurd cc

order_judged_at : (version : Option ℕ) (said : Said) (line : List ℕ) (y : Shape) → KeepsOrder said
    → MatchOption version (IsJudgedFirst line (Ok y)) (λ v. IsJudgedLater v said line (Ok y))
    → KeepsOrder (with_line said y)
order_judged_at (Some version) said line y order judged = order_later version said line y order judged
order_judged_at None said line y order judged = order_first said line y order judged

-- a good line keeps the order of what was said before it
pub order_judged_on : (said : Said) (line : List ℕ) (y : Shape) → KeepsOrder said → IsJudged said line (Ok y)
    → KeepsOrder (with_line said y)
order_judged_on said line y order judged = order_judged_at said.version said line y order judged

-- a good line keeps the order of the lines before it
pub order_judged : (earlier : List Shape) (line : List ℕ) (y : Shape) → KeepsOrder (summed earlier)
    → IsJudged (summed earlier) line (Ok y) → KeepsOrder (summed (earlier ++ y ∷ []))
order_judged earlier line y order judged = rw (summed-push earlier y)
    (order_judged_on (summed earlier) line y order judged)

pub order_good : (earlier : List Shape) (lines : List (List ℕ)) (said : List Shape) → KeepsOrder (summed earlier)
    → AreGood earlier lines said → KeepsOrder (summed said)
order_good earlier [] said order good = rw good order
order_good earlier (line ∷ lines) said order (inl p) = order_good earlier lines said order p.1
order_good earlier (line ∷ lines) said order (inr p) =
    order_good (earlier ++ p.1.0 ∷ []) lines said (order_judged earlier line p.1.0 order p.1.1) p.1.2

-- the order of lines that are all good
pub order_of_good : (lines : List (List ℕ)) (said : List Shape) → AreGood [] lines said → KeepsOrder (summed said)
order_of_good lines said good = order_good [] lines said nothing_order good

-- ---- one more line

pub comment_after : (earlier : List Shape) (lines : List (List ℕ)) (said : List Shape) (line : List ℕ)
    → AreGood earlier lines said → IsComment line → AreGood earlier (lines ++ line ∷ []) said
comment_after earlier [] said line good comment = inl (comment, good)
comment_after earlier (first ∷ lines) said line (inl p) comment =
    inl (p.0, comment_after earlier lines said line p.1 comment)
comment_after earlier (first ∷ lines) said line (inr p) comment =
    inr (p.0, (p.1.0, p.1.1, comment_after (earlier ++ p.1.0 ∷ []) lines said line p.1.2 comment))

pub good_line_after : (earlier : List Shape) (lines : List (List ℕ)) (said : List Shape) (line : List ℕ) (x : Shape)
    → AreGood earlier lines said → ¬ IsComment line → IsJudged (summed said) line (Ok x)
    → AreGood earlier (lines ++ line ∷ []) (said ++ x ∷ [])
good_line_after earlier [] said line x good content judged =
    let moved : IsJudged (summed earlier) line (Ok x) =
    subst (λ (s : List Shape). IsJudged (summed s) line (Ok x)) good judged in
    inr (content, (x, moved, ap (λ (s : List Shape). s ++ x ∷ []) good))
good_line_after earlier (first ∷ lines) said line x (inl p) content judged =
    inl (p.0, good_line_after earlier lines said line x p.1 content judged)
good_line_after earlier (first ∷ lines) said line x (inr p) content judged =
    inr (p.0, (p.1.0, p.1.1, good_line_after (earlier ++ p.1.0 ∷ []) lines said line x p.1.2 content judged))
