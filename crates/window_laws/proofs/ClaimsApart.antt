-- The events of two parts, each with what the companion says on its line: what is said on a line of one part isn't
-- among what is said in the other, and the policies before an event of the second are those through the first, and on.
use Rattle.std.proofs.Common.{◌≡◌, ℕ, ◌<◌, ◌≤◌, nat_eq, nat_lt, cond, Option, Some, None, List, []}
use Rattle.std.proofs.Common.{◌∷◌, ◌++◌, map, find, refl, ap, ◌∙◌, arith}
use Rattle.std.proofs.lemmas.Bool.{ne_eqb, lt-ltb, le-ltb}
use Rattle.std.proofs.lemmas.List.{map-append}
use Rattle.std.specs.List.{AllByRecursion}
use Rattle.cfs_model.specs.Claimed.{Claimed, claim_at, nice_at, charge_at, policies_after, policies_before, policy_told}
use Rattle.cfs_model.specs.Claimed.{policy_in, with_claim}
use Rattle.window_laws.specs.ClaimedParts.{policies_through, PartView, claimed_part, both_parts, HasLines}
use Rattle.window_laws.specs.ClaimedParts.{ClaimedInParts}
use Rattle.cfs_model.specs.declared.act.Act.{Act}
use Rattle.cfs_model.specs.declared.act.Act.TheVariants.{Switch, Wake, Born, Shift}
use Rattle.cfs_model.specs.declared.act.Entry.{Entry}
use Rattle.cfs_model.specs.declared.charge_line.ChargeLine.{ChargeLine}
use Rattle.cfs_model.specs.declared.claim.Claim.{Claim}
use Rattle.cfs_model.specs.declared.idle_line.IdleLine.{IdleLine}
use Rattle.cfs_model.specs.declared.nice_line.NiceLine.{NiceLine}
use Rattle.cfs_model.specs.declared.policy.Policy.{Policy}

-- what is found on a line among things with lines
abbrev on_line : {A : Type 0} → (A → ℕ) → ℕ → List A → Option A
on_line line_of line xs = find (λ x. nat_eq (line_of x) line) xs

none_found : {A : Type 0} (line_of : A → ℕ) (line edge : ℕ) (ys : List A)
    → AllByRecursion (λ (y : A). edge < line_of y) ys → line ≤ edge → on_line line_of line ys ≡ None
none_found line_of line edge [] h k = refl
none_found line_of line edge (y ∷ ys) h k =
    ap (λ b. cond b (Some y) (on_line line_of line ys))
    (ne_eqb (line_of y) line (λ e. (let a : edge < line_of y = h.0 in absurd (omega arith))))
    ∙ none_found line_of line edge ys h.1 k

-- on a line up to the edge it is of the first list, and on one past it of the second
found_first : {A : Type 0} (line_of : A → ℕ) (line edge : ℕ) (xs ys : List A)
    → AllByRecursion (λ (y : A). edge < line_of y) ys → line ≤ edge
    → on_line line_of line (xs ++ ys) ≡ on_line line_of line xs
found_first line_of line edge [] ys h k = none_found line_of line edge ys h k
found_first line_of line edge (x ∷ xs) ys h k =
    ap (λ rest. cond (nat_eq (line_of x) line) (Some x) rest) (found_first line_of line edge xs ys h k)

found_second : {A : Type 0} (line_of : A → ℕ) (line edge : ℕ) (xs ys : List A)
    → AllByRecursion (λ (x : A). line_of x ≤ edge) xs → edge < line
    → on_line line_of line (xs ++ ys) ≡ on_line line_of line ys
found_second line_of line edge [] ys h k = refl
found_second line_of line edge (x ∷ xs) ys h k =
    ap (λ b. cond b (Some x) (on_line line_of line (xs ++ ys)))
    (ne_eqb (line_of x) line (λ e. (let a : line_of x ≤ edge = h.0 in absurd (omega arith))))
    ∙ found_second line_of line edge xs ys h.1 k

-- the policies before a line up to the edge, and before one past it
before_first : (idles : List IdleLine) (policies : ℕ → Policy) (entries more : List Entry) (line edge : ℕ)
    → AllByRecursion (λ (entry : Entry). edge < entry.line) more → line ≤ edge
    → policies_before idles policies (entries ++ more) line ≡ policies_before idles policies entries line
before_first idles policies [] [] line edge h k = refl
before_first idles policies [] (entry ∷ more) line edge h k =
    ap (λ b. cond b (policies_before idles (policies_after idles policies entry.line entry.act) more line) policies)
    (le-ltb entry.line line (let a : edge < entry.line = h.0 in omega arith))
before_first idles policies (entry ∷ entries) more line edge h k =
    ap (λ later. cond (nat_lt entry.line line) later policies)
    (before_first idles (policies_after idles policies entry.line entry.act) entries more line edge h k)

before_second : (idles : List IdleLine) (policies : ℕ → Policy) (entries more : List Entry) (line edge : ℕ)
    → AllByRecursion (λ (entry : Entry). entry.line ≤ edge) entries → edge < line
    → policies_before idles policies (entries ++ more) line
    ≡ policies_before idles (policies_through idles policies entries) more line
before_second idles policies [] more line edge h k = refl
before_second idles policies (entry ∷ entries) more line edge h k =
    ap (λ b. cond b
    (policies_before idles (policies_after idles policies entry.line entry.act) (entries ++ more) line) policies)
    (lt-ltb entry.line line (let a : entry.line ≤ edge = h.0 in omega arith))
    ∙ before_second idles (policies_after idles policies entry.line entry.act) entries more line edge h.1 k

-- so are the policies told
same_told : (idles : List IdleLine) (one other : ℕ → ℕ → Policy) (line : ℕ) (act : Act) → one line ≡ other line
    → policy_told idles one line act ≡ policy_told idles other line act
same_told idles one other line (Switch cpu prev pn way next nn) e = refl
same_told idles one other line (Wake cpu pid nice) e = refl
same_told idles one other line (Born cpu pid nice) e = refl
same_told idles one other line (Shift orig dest pid nice) e = ap (λ f. f pid) e

-- an event with these
abbrev with_said : Entry → Option Claim → Option NiceLine → Option ChargeLine → Policy → Claimed
with_said entry claim nice charge policy =
    record { entry = entry; claim = claim; nice = nice; charge = charge; policy = policy }

same_said : (entry : Entry) (c d : Option Claim) (n m : Option NiceLine) (h k : Option ChargeLine) (p q : Policy)
    → c ≡ d → n ≡ m → h ≡ k → p ≡ q → with_said entry c n h p ≡ with_said entry d m k q
same_said entry c d n m h k p q a b e f =
    ap (λ z. with_said entry z n h p) a ∙ ap (λ z. with_said entry d z h p) b ∙ ap (λ z. with_said entry d m z p) e
    ∙ ap (λ z. with_said entry d m k z) f

same_map : (f g : Entry → Claimed) (Is : Entry → Type 0) → ((entry : Entry) → Is entry → f entry ≡ g entry)
    → (entries : List Entry) → AllByRecursion Is entries → map f entries ≡ map g entries
same_map f g Is e [] h = refl
same_map f g Is e (entry ∷ entries) h =
    ap (λ x. x ∷ map f entries) (e entry h.0) ∙ ap (λ xs. g entry ∷ xs) (same_map f g Is e entries h.1)

module _ (idles : List IdleLine) (policies : ℕ → Policy) (first second : PartView) (edge : ℕ)
    (low : HasLines first (λ line. line ≤ edge)) (high : HasLines second (λ line. edge < line)) where
  abbrev both : PartView
  both = both_parts first second

  abbrev through : ℕ → Policy
  through = policies_through idles policies first.entries

  abbrev of_both : Entry → Claimed
  of_both entry = with_claim both.claims both.nices both.charges (policy_in idles policies both.entries) entry

  abbrev of_first : Entry → Claimed
  of_first entry = with_claim first.claims first.nices first.charges (policy_in idles policies first.entries) entry

  abbrev of_second : Entry → Claimed
  of_second entry =
      with_claim second.claims second.nices second.charges (policy_in idles through second.entries) entry

  in_first : (entry : Entry) → entry.line ≤ edge → of_both entry ≡ of_first entry
  in_first entry k =
      same_said entry (claim_at both.claims entry.line) (claim_at first.claims entry.line)
      (nice_at both.nices entry.line) (nice_at first.nices entry.line)
      (charge_at both.charges entry.line) (charge_at first.charges entry.line)
      (policy_in idles policies both.entries entry) (policy_in idles policies first.entries entry)
      (found_first (λ (c : Claim). c.line) entry.line edge first.claims second.claims high.claims k)
      (found_first (λ (c : NiceLine). c.line) entry.line edge first.nices second.nices high.nices k)
      (found_first (λ (c : ChargeLine). c.line) entry.line edge first.charges second.charges high.charges k)
      (same_told idles (policies_before idles policies both.entries)
      (policies_before idles policies first.entries) entry.line entry.act
      (before_first idles policies first.entries second.entries entry.line edge high.entries k))

  in_second : (entry : Entry) → edge < entry.line → of_both entry ≡ of_second entry
  in_second entry k =
      same_said entry (claim_at both.claims entry.line) (claim_at second.claims entry.line)
      (nice_at both.nices entry.line) (nice_at second.nices entry.line)
      (charge_at both.charges entry.line) (charge_at second.charges entry.line)
      (policy_in idles policies both.entries entry) (policy_in idles through second.entries entry)
      (found_second (λ (c : Claim). c.line) entry.line edge first.claims second.claims low.claims k)
      (found_second (λ (c : NiceLine). c.line) entry.line edge first.nices second.nices low.nices k)
      (found_second (λ (c : ChargeLine). c.line) entry.line edge first.charges second.charges low.charges k)
      (same_told idles (policies_before idles policies both.entries)
      (policies_before idles through second.entries) entry.line entry.act
      (before_second idles policies first.entries second.entries entry.line edge low.entries k))

  pub in_both : claimed_part idles policies both
      ≡ claimed_part idles policies first ++ claimed_part idles through second
  in_both =
      map-append of_both first.entries second.entries
      ∙ ap (λ xs. xs ++ map of_both second.entries)
      (same_map of_both of_first (λ entry. entry.line ≤ edge) in_first first.entries low.entries)
      ∙ ap (λ xs. map of_first first.entries ++ xs)
      (same_map of_both of_second (λ entry. edge < entry.line) in_second second.entries high.entries)

pub claimed_in_parts : ClaimedInParts
claimed_in_parts idles policies first second edge low high = in_both idles policies first second edge low high
