-- What stands on lines above one and up to another, cut out of a list by rising line: where it comes from, and that
-- what isn't in it stands elsewhere.
use Rattle.std.proofs.Common.{◌≡◌, ℕ, ◌+◌, ◌-◌, ◌<◌, ◌≤◌, List, [], ◌∷◌, ◌++◌, length, get_or, take, drop, eqb, find}
use Rattle.std.proofs.Common.{None}
use Rattle.std.proofs.Common.{Option, Some, inl, inr, refl, sym, ap, ◌∙◌, subst, arith, append_assoc}
use Rattle.std.specs.Prelude.{All}
use Rattle.std.specs.List.{AllPairs, Contains, slice_range}
use Rattle.std.specs.Option.{option_or}
use Rattle.std.proofs.lemmas.Bool.{cases_lt}
use Rattle.std.proofs.lemmas.List.{get_or-append-add, get_or-drop, get_or-take, length-append, length-drop}
use Rattle.std.proofs.lemmas.List.{length-take-le, take-append-drop, get_or_append_left}
use Rattle.std.proofs.lemmas.List.Elements.{All-append, All-contains, All-weaker, Contains-append_cases}
use Rattle.std.proofs.lemmas.List.Elements.{Contains-append_left, Contains-append_right}
use Rattle.std.proofs.lemmas.List.Folds.{drop_split, find-append}
use Rattle.sched_record.proofs.Dealt.{item_missing}
use Rattle.window_joining.specs.Between.{IsCut, IsThrough}
use Rattle.window_joining.specs.Joining.{GoesOn, IsRestOf}

-- as many as stand up to one line are no more than those up to one that isn't above it
pub no_fewer : {X : Type 0} (line_of : X → ℕ) (items : List X) (low high from to : ℕ)
    → IsThrough X line_of items low from → IsThrough X line_of items high to → low ≤ high → from ≤ to
no_fewer line_of [] low high from to a b le = (let w = a.within in omega (arith, w))
no_fewer line_of (x ∷ items) low high from to a b le =
    elim (cases_lt to from) [
      | inr ge ↦ ge
      | inl lt ↦ (
          let w = a.within in
          let p = a.passed to x lt in
          let q = b.beyond to x (omega arith) (omega (arith, w, lt)) in
          absurd (omega (arith, p, q, le)))
    ]

-- what is cut out of no items
pub cut_of_none : {X : Type 0} (line_of : X → ℕ) (items : List X) (low high : ℕ) → length items ≡ 0
    → IsCut X line_of low high items items
cut_of_none line_of [] low high none = record {
  before = [];
  after = [];
  parts = refl;
  passed = λ k d lt. absurd (omega (arith, lt));
  above = λ k d lt. absurd (omega (arith, lt));
  within = λ k d lt. absurd (omega (arith, lt));
  beyond = λ k d lt. absurd (omega (arith, lt));
}
cut_of_none line_of (x ∷ items) low high none = absurd (omega (arith, none))

-- what stands between the one and the other
pub cut_between : {X : Type 0} (line_of : X → ℕ) (items : List X) (low high from to : ℕ)
    → IsThrough X line_of items low from → IsThrough X line_of items high to → low ≤ high
    → IsCut X line_of low high items (slice_range items from to)
cut_between line_of items low high from to a b le =
    let order = no_fewer line_of items low high from to a b le in
    let in_a = a.within in
    let in_b = b.within in
    let front_size = length-take-le from items in_a in
    let rest_size = length-drop from items in
    let cut_size = length-take-le (to - from) (drop from items) (omega (arith, rest_size, in_b, order)) in
    let back_size = length-drop to items in
    record {
      before = take from items;
      after = drop to items;
      parts = sym (take-append-drop from items) ∙ ap (λ r. take from items ++ r) (drop_split items from to order);
      passed = λ k d lt.
          let there : k < from = omega (arith, lt, front_size) in
          subst (λ x. line_of x ≤ low) (sym (get_or-take from items k d there)) (a.passed k d there);
      above = λ k d lt.
          let there : k < to - from = omega (arith, lt, cut_size) in
          subst (λ x. low < line_of x)
          (sym (get_or-take (to - from) (drop from items) k d there ∙ get_or-drop from items k d))
          (a.beyond (from + k) d (omega arith) (omega (arith, there, in_b)));
      within = λ k d lt.
          let there : k < to - from = omega (arith, lt, cut_size) in
          subst (λ x. line_of x ≤ high)
          (sym (get_or-take (to - from) (drop from items) k d there ∙ get_or-drop from items k d))
          (b.passed (from + k) d (omega (arith, there)));
      beyond = λ k d lt.
          subst (λ x. high < line_of x) (sym (get_or-drop to items k d))
          (b.beyond (to + k) d (omega arith) (omega (arith, lt, back_size)));
    }

-- an order from each element to every later one is kept in a part
pub pairs_mid : {X : Type 0} (R : X → X → Type 0) (before cut after : List X) → AllPairs R (before ++ (cut ++ after))
    → AllPairs R cut
pairs_mid R before cut after pairs i j d lt h =
    let n = length before in
    let size = length-append before (cut ++ after) in
    let size' = length-append cut after in
    let at : (k : ℕ) → k < length cut → get_or (before ++ (cut ++ after)) (n + k) d ≡ get_or cut k d =
    λ k w. get_or-append-add before (cut ++ after) k d ∙ get_or_append_left cut after d k w in
    subst (λ x. R x (get_or cut j d)) (at i (omega (arith, lt, h)))
    (subst (λ y. R (get_or (before ++ (cut ++ after)) (n + i) d) y) (at j h)
    (pairs (n + i) (n + j) d (omega (arith, lt)) (omega (arith, h, size, size'))))

pub cut_pairs : {X : Type 0} (R : X → X → Type 0) (line_of : X → ℕ) (low high : ℕ) (items cut : List X)
    → IsCut X line_of low high items cut → AllPairs R items → AllPairs R cut
cut_pairs R line_of low high items cut c pairs =
    pairs_mid R c.before cut c.after (subst (λ xs. AllPairs R xs) c.parts pairs)

-- of what is held, cut out of all
pub cut_of_rest : {X : Type 0} (line_of : X → ℕ) (low high : ℕ) (all rest cut : List X)
    → IsRestOf X line_of low all rest → IsCut X line_of low high rest cut → IsCut X line_of low high all cut
cut_of_rest line_of low high all rest cut r c = record {
  before = r.gone ++ c.before;
  after = c.after;
  parts = r.parts ∙ ap (λ xs. r.gone ++ xs) c.parts ∙ sym (append_assoc r.gone c.before (cut ++ c.after));
  passed = All-append (λ x. line_of x ≤ low) r.gone c.before r.passed c.passed;
  above = c.above;
  within = c.within;
  beyond = c.beyond;
}

-- what is in the cut is in the list
pub in_list : {X : Type 0} (line_of : X → ℕ) (low high : ℕ) (items cut : List X) (x : X)
    → IsCut X line_of low high items cut → Contains cut x → Contains items x
in_list line_of low high items cut x c has =
    subst (λ xs. Contains xs x) (sym c.parts)
    (Contains-append_right c.before (cut ++ c.after) x (Contains-append_left cut c.after x has))

-- and what is in the list on such a line is in the cut
pub in_cut : {X : Type 0} (line_of : X → ℕ) (low high : ℕ) (items cut : List X) (x : X)
    → IsCut X line_of low high items cut → Contains items x → low < line_of x → line_of x ≤ high → Contains cut x
in_cut line_of low high items cut x c has above within =
    elim (Contains-append_cases c.before (cut ++ c.after) x (subst (λ xs. Contains xs x) c.parts has)) [
      | inl first ↦ (
          let le = All-contains (λ y. line_of y ≤ low) c.before x c.passed first in absurd (omega (arith, le, above)))
      | inr rest ↦ elim (Contains-append_cases cut c.after x rest) [
        | inl here ↦ here
        | inr last ↦ (
            let lt = All-contains (λ y. high < line_of y) c.after x c.beyond last in
            absurd (omega (arith, lt, within)))
      ]
    ]

-- and what is in a list on a line below what is gone is held
pub in_rest : {X : Type 0} (line_of : X → ℕ) (edge : ℕ) (all rest : List X) (x : X)
    → IsRestOf X line_of edge all rest → Contains all x → edge < line_of x → Contains rest x
in_rest line_of edge all rest x r has below =
    elim (Contains-append_cases r.gone rest x (subst (λ xs. Contains xs x) r.parts has)) [
      | inl first ↦ (
          let le = All-contains (λ y. line_of y ≤ edge) r.gone x r.passed first in absurd (omega (arith, le, below)))
      | inr here ↦ here
    ]

pub in_all : {X : Type 0} (line_of : X → ℕ) (edge : ℕ) (all rest : List X) (x : X)
    → IsRestOf X line_of edge all rest → Contains rest x → Contains all x
in_all line_of edge all rest x r has =
    subst (λ xs. Contains xs x) (sym r.parts) (Contains-append_right r.gone rest x has)

-- what is found on a line
abbrev pub found_on : {X : Type 0} → (X → ℕ) → ℕ → List X → Option X
found_on line_of line xs = find (λ x. eqb (line_of x) line) xs

-- nothing is where all stand on other lines
none_above : {X : Type 0} (line_of : X → ℕ) (xs : List X) (low line : ℕ) → All (λ x. line_of x ≤ low) xs → low < line
    → found_on line_of line xs ≡ None
none_above line_of xs low line all lt =
    item_missing line_of xs line (λ k d h e. (let le = all k d h in absurd (omega (arith, le, e, lt))))

none_below : {X : Type 0} (line_of : X → ℕ) (xs : List X) (line : ℕ) → All (λ x. line < line_of x) xs
    → found_on line_of line xs ≡ None
none_below line_of xs line all =
    item_missing line_of xs line (λ k d h e. (let lt = all k d h in absurd (omega (arith, lt, e))))

or_none : {X : Type 0} (o : Option X) → option_or o None ≡ o
or_none None = refl
or_none (Some x) = refl

-- so what is found on the last line of a cut is found in the list
pub found_in_cut : {X : Type 0} (line_of : X → ℕ) (low line : ℕ) (items cut : List X)
    → IsCut X line_of low line items cut → low < line → found_on line_of line items ≡ found_on line_of line cut
found_in_cut line_of low line items cut c lt =
    ap (found_on line_of line) c.parts
    ∙ find-append (λ x. eqb (line_of x) line) c.before (cut ++ c.after)
    ∙ ap (λ o. option_or o (found_on line_of line (cut ++ c.after))) (none_above line_of c.before low line c.passed lt)
    ∙ find-append (λ x. eqb (line_of x) line) cut c.after
    ∙ ap (λ o. option_or (found_on line_of line cut) o) (none_below line_of c.after line c.beyond)
    ∙ or_none (found_on line_of line cut)

-- what is found on a line up to the edge, where a list goes on below it
pub found_before : {X : Type 0} (line_of : X → ℕ) (edge line : ℕ) (items later : List X)
    → GoesOn X line_of edge items later → line ≤ edge → found_on line_of line later ≡ found_on line_of line items
found_before line_of edge line items later more le =
    ap (found_on line_of line) more.parts
    ∙ find-append (λ x. eqb (line_of x) line) items more.more
    ∙ ap (λ o. option_or (found_on line_of line items) o)
    (none_below line_of more.more line (All-weaker (λ x. edge < line_of x) (λ x. line < line_of x) (λ x lt. omega arith)
    more.more more.behind))
    ∙ or_none (found_on line_of line items)
