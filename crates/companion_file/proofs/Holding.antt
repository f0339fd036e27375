-- What is held answers as all that was said does: the tests of a line ask for the last claim, change and charge, and
-- whether there is one, and the last of each is always held.
use Rattle.std.proofs.Common.{◌≡◌, ℕ, ◌+◌, ◌-◌, ◌<◌, ◌≤◌, suc, Bool, true, false, cond, eqb, leb, min}
use Rattle.std.proofs.Common.{List, [], ◌∷◌, ◌++◌, length, drop, get_or, Option, Some, None, Result, Ok, Err, refl}
use Rattle.std.proofs.Common.{sym, ap, subst, ◌∙◌, append_assoc, inl, inr, arith}
use Rattle.std.specs.Prelude.{All, AllPairs, MatchOption, ◌⊎◌}
use Rattle.std.specs.Option.{option_map_or}
use Rattle.std.specs.List.{last_or, prefix_len}
use Rattle.std.proofs.lemmas.Bool.{ne_eqb}
use Rattle.std.proofs.lemmas.Bool.Decides.{nat_tests}
use Rattle.std.proofs.lemmas.List.Elements.{All-nil, All-cons, All-append}
use Rattle.cfs_model.specs.declared.claim.Claim.{Claim}
use Rattle.cfs_model.specs.declared.nice_line.NiceLine.{NiceLine}
use Rattle.cfs_model.specs.declared.charge_line.ChargeLine.{ChargeLine}
use Rattle.companion_file.specs.declared.fault.CompanionCause.{CompanionCause}
use Rattle.companion_file.specs.Shape.{Shape, version_line, cpus_line, start_line, floor_line, task_line, claim_line}
use Rattle.companion_file.specs.Shape.{nice_line, idle_line, charge_line}
use Rattle.companion_file.specs.Earlier.{Said, has_all_floors}
use Rattle.companion_file.specs.Tests.{fault_of, IsJudgedFirst, IsJudgedLater, IsJudged}
use Rattle.companion_file.specs.Draft.{with_line}
use Rattle.companion_file.specs.Reader.{IsHeldOf, HoldsOf, OnlyFirstPassed, has_begun, reaches_past}
use Rattle.companion_file.proofs.Piecewise.{last_of_second, no_push}

-- ---- a list, and what is held of it

last_behind : {A : Type 0} (gone held : List A) → (gone ≡ []) ⊎ ¬ (held ≡ []) → last_or None (gone ++ held)
    ≡ last_or None held
last_behind gone held (inl none) = ap (λ g. last_or None (g ++ held)) none
last_behind gone [] (inr some) = absurd (some refl)
last_behind gone (x ∷ xs) (inr some) = last_of_second None gone x xs

not_empty : {A : Type 0} (x : A) (xs : List A) → eqb (length (x ∷ xs)) 0 ≡ false
not_empty x xs = ne_eqb (length (x ∷ xs)) 0 (λ e. absurd (omega (arith, e)))

some_behind : {A : Type 0} (gone : List A) (x : A) (xs : List A) → eqb (length (gone ++ x ∷ xs)) 0 ≡ false
some_behind [] x xs = not_empty x xs
some_behind (y ∷ ys) x xs = not_empty y (ys ++ x ∷ xs)

none_behind : {A : Type 0} (gone held : List A) → (gone ≡ []) ⊎ ¬ (held ≡ []) → eqb (length (gone ++ held)) 0
    ≡ eqb (length held) 0
none_behind gone held (inl none) = ap (λ g. eqb (length (g ++ held)) 0) none
none_behind gone [] (inr some) = absurd (some refl)
none_behind gone (x ∷ xs) (inr some) = some_behind gone x xs ∙ sym (not_empty x xs)

-- two lists have the same last element, and the one has elements where the other does
pub record EndAlike {A : Type 0} (xs ys : List A) : Type 0 where
  pub last : last_or None xs ≡ last_or None ys
  pub none : eqb (length xs) 0 ≡ eqb (length ys) 0

end_alike : {A : Type 0} (line_of : A → ℕ) (edge : ℕ) (all held : List A) → IsHeldOf line_of edge all held
    → EndAlike all held
end_alike line_of edge all held h = record {
  last = ap (λ xs. last_or None xs) h.parts ∙ last_behind h.gone held h.last;
  none = ap (λ xs. eqb (length xs) 0) h.parts ∙ none_behind h.gone held h.last;
}

pub held_whole : {A : Type 0} (line_of : A → ℕ) (edge : ℕ) (xs : List A) → IsHeldOf line_of edge xs xs
held_whole line_of edge xs = record {
  gone = [];
  parts = refl;
  passed = All-nil (λ x. line_of x ≤ edge);
  last = inl refl;
}

-- one more element is held
held_push : {A : Type 0} (line_of : A → ℕ) (edge : ℕ) (all held : List A) (x : A) → IsHeldOf line_of edge all held
    → IsHeldOf line_of edge (all ++ x ∷ []) (held ++ x ∷ [])
held_push line_of edge all held x h = record {
  gone = h.gone;
  parts = ap (λ xs. xs ++ x ∷ []) h.parts ∙ append_assoc h.gone held (x ∷ []);
  passed = h.passed;
  last = inr (no_push held x);
}

passed_up : {A : Type 0} (line_of : A → ℕ) (edge line : ℕ) (xs : List A) → edge ≤ line
    → All (λ x. line_of x ≤ edge) xs → All (λ x. line_of x ≤ line) xs
passed_up line_of edge line xs up passed = λ k d h. let low = passed k d h in omega (arith, low)

still_last : {A : Type 0} (first second middle held : List A) → middle ≡ second ++ held
    → (first ≡ []) ⊎ ¬ (middle ≡ []) → (second ≡ []) ⊎ ¬ (held ≡ []) → (first ++ second ≡ []) ⊎ ¬ (held ≡ [])
still_last first second middle held parts one (inr some) = inr some
still_last first second middle held parts (inl none) (inl nothing) = inl (rw (none, nothing) refl)
still_last first second middle held parts (inr some) (inl nothing) =
    inr (λ empty. some (parts ∙ rw (nothing, empty) refl))

held_then : {A : Type 0} (line_of : A → ℕ) (edge line : ℕ) (all middle held : List A) → edge ≤ line
    → IsHeldOf line_of edge all middle → IsHeldOf line_of line middle held → IsHeldOf line_of line all held
held_then line_of edge line all middle held up h j = record {
  gone = h.gone ++ j.gone;
  parts = h.parts ∙ ap (λ xs. h.gone ++ xs) j.parts ∙ sym (append_assoc h.gone j.gone held);
  passed = All-append (λ x. line_of x ≤ line) h.gone j.gone (passed_up line_of edge line h.gone up h.passed) j.passed;
  last = still_last h.gone j.gone middle held j.parts h.last j.last;
}

-- ---- all that was said, and what is held of it

pub holds_whole : (edge : ℕ) (said : Said) → HoldsOf edge said said
holds_whole edge said = record {
  start = refl;
  claims = held_whole (λ (claim : Claim). claim.line) edge said.claims;
  nices = held_whole (λ (change : NiceLine). change.line) edge said.nices;
  charges = held_whole (λ (charge : ChargeLine). charge.line) edge said.charges;
}

pub holds_then : (edge line : ℕ) (said middle held : Said) → edge ≤ line → HoldsOf edge said middle
    → HoldsOf line middle held → HoldsOf line said held
holds_then edge line said middle held up h j = record {
  start = h.start ∙ j.start;
  claims = held_then (λ (claim : Claim). claim.line) edge line said.claims middle.claims held.claims up h.claims
      j.claims;
  nices = held_then (λ (change : NiceLine). change.line) edge line said.nices middle.nices held.nices up h.nices
      j.nices;
  charges = held_then (λ (charge : ChargeLine). charge.line) edge line said.charges middle.charges held.charges up
      h.charges j.charges;
}

pub holds_line : (edge : ℕ) (said held : Said) (x : Shape) → HoldsOf edge said held
    → HoldsOf edge (with_line said x) (with_line held x)
holds_line edge said held (version_line n) h =
    record {
      start = ap (λ s. with_line s (version_line n)) h.start;
      claims = h.claims;
      nices = h.nices;
      charges = h.charges;
    }
holds_line edge said held (cpus_line n) h =
    record {
      start = ap (λ s. with_line s (cpus_line n)) h.start;
      claims = h.claims;
      nices = h.nices;
      charges = h.charges;
    }
holds_line edge said held (start_line seconds nanoseconds) h =
    record {
      start = ap (λ s. with_line s (start_line seconds nanoseconds)) h.start;
      claims = h.claims;
      nices = h.nices;
      charges = h.charges;
    }
holds_line edge said held (floor_line cpu floor) h =
    record {
      start = ap (λ s. with_line s (floor_line cpu floor)) h.start;
      claims = h.claims;
      nices = h.nices;
      charges = h.charges;
    }
holds_line edge said held (task_line task) h =
    record {
      start = ap (λ s. with_line s (task_line task)) h.start;
      claims = h.claims;
      nices = h.nices;
      charges = h.charges;
    }
holds_line edge said held (idle_line idle) h =
    record {
      start = ap (λ s. with_line s (idle_line idle)) h.start;
      claims = h.claims;
      nices = h.nices;
      charges = h.charges;
    }
holds_line edge said held (claim_line claim) h =
    record {
      start = h.start;
      claims = held_push (λ (k : Claim). k.line) edge said.claims held.claims claim h.claims;
      nices = h.nices;
      charges = h.charges;
    }
holds_line edge said held (nice_line change) h =
    record {
      start = h.start;
      claims = h.claims;
      nices = held_push (λ (k : NiceLine). k.line) edge said.nices held.nices change h.nices;
      charges = h.charges;
    }
holds_line edge said held (charge_line charge) h =
    record {
      start = h.start;
      claims = h.claims;
      nices = h.nices;
      charges = held_push (λ (k : ChargeLine). k.line) edge said.charges held.charges charge h.charges;
    }

-- the same of the start was said, and the lists of lines of the trace end alike
pub record AreAlike (a b : Said) : Type 0 where
  pub version : a.version ≡ b.version
  pub cpus : a.cpus ≡ b.cpus
  pub start : a.start ≡ b.start
  pub floors : a.floors ≡ b.floors
  pub tasks : a.tasks ≡ b.tasks
  pub idles : a.idles ≡ b.idles
  pub claims : EndAlike a.claims b.claims
  pub nices : EndAlike a.nices b.nices
  pub charges : EndAlike a.charges b.charges

pub alike : (edge : ℕ) (said held : Said) → HoldsOf edge said held → AreAlike said held
alike edge said held h = record {
  version = ap (λ s. s.version) h.start;
  cpus = ap (λ s. s.cpus) h.start;
  start = ap (λ s. s.start) h.start;
  floors = ap (λ s. s.floors) h.start;
  tasks = ap (λ s. s.tasks) h.start;
  idles = ap (λ s. s.idles) h.start;
  claims = end_alike (λ (k : Claim). k.line) edge said.claims held.claims h.claims;
  nices = end_alike (λ (k : NiceLine). k.line) edge said.nices held.nices h.nices;
  charges = end_alike (λ (k : ChargeLine). k.line) edge said.charges held.charges h.charges;
}

pub floors_alike : (a b : Said) → AreAlike a b → has_all_floors a ≡ has_all_floors b
floors_alike a b e = rw (e.cpus, e.floors) refl

pub begun_alike : (a b : Said) → AreAlike a b → has_begun a ≡ has_begun b
begun_alike a b e = rw (e.claims.none, e.nices.none, e.charges.none) refl

pub reached_alike : (a b : Said) (line : ℕ) → AreAlike a b → reaches_past a line ≡ reaches_past b line
reached_alike a b line e = rw (e.claims.last, e.nices.last, e.charges.last) refl

pub fault_alike : (a b : Said) (x : Shape) → AreAlike a b → fault_of a x ≡ fault_of b x
fault_alike a b (version_line n) e = refl
fault_alike a b (cpus_line n) e = rw e.cpus refl
fault_alike a b (start_line seconds nanoseconds) e = rw (e.cpus, e.start) refl
fault_alike a b (floor_line cpu floor) e = rw (e.cpus, e.start, e.floors) refl
fault_alike a b (task_line task) e =
    rw (e.cpus, e.floors, e.tasks, e.idles, e.claims.none, e.nices.none, e.charges.none) refl
fault_alike a b (idle_line idle) e =
    rw (e.cpus, e.floors, e.tasks, e.idles, e.claims.none, e.nices.none, e.charges.none) refl
fault_alike a b (claim_line claim) e = rw (e.cpus, e.floors, e.claims.last, e.nices.last, e.charges.last) refl
fault_alike a b (nice_line change) e = rw (e.cpus, e.floors, e.claims.last, e.nices.last, e.charges.last) refl
fault_alike a b (charge_line charge) e = rw (e.cpus, e.floors, e.claims.last, e.nices.last, e.charges.last) refl

later_alike : (version : ℕ) (a b : Said) (line : List ℕ) (r : Result Shape CompanionCause) → AreAlike a b
    → IsJudgedLater version b line r → IsJudgedLater version a line r
later_alike version a b line r e (inl p) = inl p
later_alike version a b line r e (inr (inl p)) = inr (inl p)
later_alike version a b line r e (inr (inr p)) =
    inr (inr (
      p.0,
      (
        p.1.0,
        p.1.1,
        p.1.2
            ∙ ap (λ (f : Option CompanionCause). option_map_or (λ cause. Err cause) f (Ok p.1.0))
            (sym (fault_alike a b p.1.0 e)),
      ),
    ))

judged_alike_at : (version : Option ℕ) (a b : Said) (line : List ℕ) (r : Result Shape CompanionCause) → AreAlike a b
    → MatchOption version (IsJudgedFirst line r) (λ v. IsJudgedLater v b line r)
    → MatchOption version (IsJudgedFirst line r) (λ v. IsJudgedLater v a line r)
judged_alike_at None a b line r e judged = judged
judged_alike_at (Some version) a b line r e judged = later_alike version a b line r e judged

-- a line comes to the same
pub judged_alike : (a b : Said) (line : List ℕ) (r : Result Shape CompanionCause) → AreAlike a b → IsJudged b line r
    → IsJudged a line r
judged_alike a b line r e judged =
    subst (λ (o : Option ℕ). MatchOption o (IsJudgedFirst line r) (λ v. IsJudgedLater v a line r)) (sym e.version)
    (judged_alike_at b.version a b line r e judged)

-- ---- what is let go

-- so many elements are let go where so many stand on lines up to this one: not the last
abbrev pub let_go : {A : Type 0} → List A → ℕ → List A
let_go xs passed = drop (min passed (length xs - 1)) xs

not_nil : {A : Type 0} (gone held : List A) (x : A) (xs : List A) → x ∷ xs ≡ gone ++ held
    → (gone ≡ []) ⊎ ¬ (held ≡ []) → ¬ (held ≡ [])
not_nil gone held x xs parts (inr some) = some
not_nil gone held x xs parts (inl none) = λ empty. let wrong : x ∷ xs ≡ [] = parts ∙ rw (none, empty) refl in absurd cc

held_behind : {A : Type 0} (line_of : A → ℕ) (line : ℕ) (x y : A) (xs held : List A) → line_of x ≤ line
    → IsHeldOf line_of line (y ∷ xs) held → IsHeldOf line_of line (x ∷ y ∷ xs) held
held_behind line_of line x y xs held passed h = record {
  gone = x ∷ h.gone;
  parts = ap (λ ys. x ∷ ys) h.parts;
  passed = All-cons (λ z. line_of z ≤ line) x h.gone passed h.passed;
  last = inr (not_nil h.gone held y xs h.parts h.last);
}

-- what is left of elements by rising line
pub record IsLeftOf {A : Type 0} (line_of : A → ℕ) (line : ℕ) (xs held : List A) : Type 0 where
  pub is_held : IsHeldOf line_of line xs held
  pub first : OnlyFirstPassed line_of line held

tail_rises : {A : Type 0} (line_of : A → ℕ) (x : A) (xs : List A) → AllPairs (λ a b. line_of a < line_of b) (x ∷ xs)
    → AllPairs (λ a b. line_of a < line_of b) xs
tail_rises line_of x xs rises = λ i j d before within.
    rises (suc i) (suc j) d (omega (arith, before)) (omega (arith, within))

all_above : {A : Type 0} (line_of : A → ℕ) (line : ℕ) (x : A) (xs : List A)
    → AllPairs (λ a b. line_of a < line_of b) (x ∷ xs) → line < line_of x → All (λ y. line < line_of y) xs
all_above line_of line x xs rises above = λ k d h.
    let rise : line_of x < line_of (get_or xs k d) = rises 0 (suc k) d (omega arith) (omega (arith, h)) in
    omega (arith, rise, above)

left_first : {A : Type 0} (line_of : A → ℕ) (line : ℕ) (x : A) (xs : List A)
    → AllPairs (λ a b. line_of a < line_of b) (x ∷ xs) → line < line_of x → IsLeftOf line_of line (x ∷ xs) (x ∷ xs)
left_first line_of line x xs rises above =
    record { is_held = held_whole line_of line (x ∷ xs); first = all_above line_of line x xs rises above }

left_behind : {A : Type 0} (line_of : A → ℕ) (line : ℕ) (x y : A) (xs held : List A) → line_of x ≤ line
    → IsLeftOf line_of line (y ∷ xs) held → IsLeftOf line_of line (x ∷ y ∷ xs) held
left_behind line_of line x y xs held passed left =
    record { is_held = held_behind line_of line x y xs held passed left.is_held; first = left.first }

-- what is let go of no more than the second element on
fewer_go : {A : Type 0} (x y : A) (xs : List A) (n : ℕ) → let_go (x ∷ y ∷ xs) (1 + n) ≡ let_go (y ∷ xs) n
fewer_go x y xs n =
    let less : min (1 + n) (length (x ∷ y ∷ xs) - 1) ≡ suc (min n (length (y ∷ xs) - 1)) =
    omega arith in
    rw less refl

none_go : {A : Type 0} (xs : List A) (n : ℕ) → min n (length xs - 1) ≡ 0 → let_go xs n ≡ xs
none_go xs n none = rw none refl

left_by : {A : Type 0} (line_of : A → ℕ) (line : ℕ) (x y : A) (xs : List A) (test : Bool)
    → leb (line_of x) line ≡ test → AllPairs (λ a b. line_of a < line_of b) (x ∷ y ∷ xs)
    → IsLeftOf line_of line (y ∷ xs) (let_go (y ∷ xs) (prefix_len (λ z. leb (line_of z) line) (y ∷ xs)))
    → IsLeftOf line_of line (x ∷ y ∷ xs) (let_go (x ∷ y ∷ xs) (cond test
    (1 + prefix_len (λ z. leb (line_of z) line) (y ∷ xs)) 0))
left_by line_of line x y xs false test rises behind =
    rw (none_go (x ∷ y ∷ xs) 0 (omega arith)) (left_first line_of line x (y ∷ xs) rises (grind (arith, nat_tests)))
left_by line_of line x y xs true test rises behind =
    rw (fewer_go x y xs (prefix_len (λ z. leb (line_of z) line) (y ∷ xs)))
    (left_behind line_of line x y xs
    (let_go (y ∷ xs) (prefix_len (λ z. leb (line_of z) line) (y ∷ xs))) (grind (arith, nat_tests)) behind)

pub left : {A : Type 0} (line_of : A → ℕ) (line : ℕ) (xs : List A) → AllPairs (λ a b. line_of a < line_of b) xs
    → IsLeftOf line_of line xs (let_go xs (prefix_len (λ x. leb (line_of x) line) xs))
left line_of line [] rises = record { is_held = held_whole line_of line []; first = tt }
left line_of line (x ∷ []) rises =
    rw (none_go (x ∷ []) (prefix_len (λ z. leb (line_of z) line) (x ∷ [])) (omega arith))
    (record { is_held = held_whole line_of line (x ∷ []); first = All-nil (λ y. line < line_of y) })
left line_of line (x ∷ y ∷ xs) rises =
    left_by line_of line x y xs (leb (line_of x) line) refl rises
    (left line_of line (y ∷ xs) (tail_rises line_of x (y ∷ xs) rises))

-- the same, from what a reader of the list told
pub left_so : {A : Type 0} (line_of : A → ℕ) (line : ℕ) (xs slice held : List A) (passed : ℕ)
    → AllPairs (λ a b. line_of a < line_of b) xs → slice ≡ xs
    → passed ≡ prefix_len (λ x. leb (line_of x) line) slice → held ≡ let_go xs passed
    → IsLeftOf line_of line xs held
left_so line_of line xs slice held passed rises same counted is = rw (is, counted, same) (left line_of line xs rises)
