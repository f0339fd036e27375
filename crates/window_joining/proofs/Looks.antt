-- What one look at the next claim tells: that nothing is new up to a line, or that claim alone.
use Rattle.std.proofs.Common.{◌≡◌, ℕ, ◌+◌, ◌<◌, ◌≤◌, List, [], ◌∷◌, ◌++◌, length, get_or, take, drop}
use Rattle.std.proofs.Common.{zero, suc, inl, inr, sym, ap, ◌∙◌, subst, arith, Bool, true, false, eqb, true≢false}
use Rattle.std.proofs.Common.{Option}
use Rattle.std.specs.Prelude.{All, pos}
use Rattle.std.specs.List.{AllPairs}
use Rattle.std.specs.Option.{option_to_list}
use Rattle.std.proofs.lemmas.Bool.{cases_lt, eqb-false, eqb-true}
use Rattle.std.proofs.lemmas.List.{at_drop_more, get_or-drop, get_or-take, get_or_default, length-drop, length-take-le}
use Rattle.std.proofs.lemmas.List.{take-append-drop}
use Rattle.cfs_model.specs.declared.charge_line.ChargeLine.{ChargeLine}
use Rattle.cfs_model.specs.declared.claim.Claim.{Claim}
use Rattle.cfs_model.specs.declared.claim.ClaimSort.TheVariants.{At}
use Rattle.cfs_model.specs.declared.idle_line.IdleLine.{IdleLine}
use Rattle.cfs_model.specs.declared.nice_line.NiceLine.{NiceLine}
use Rattle.window_joining.proofs.Firsts.{rise_weak, through_here}
use Rattle.window_joining.specs.Between.{IsCut, IsThrough}
use Rattle.window_joining.specs.Look.{MayLook, news_of, told}
use Rattle.window_joining.specs.News.{IsNews, ListsView}
use Rattle.window_joining.specs.declared.joining.Joining.{Joining}

-- where as many items stand up to the one line as up to the other, none is between
pub nothing_cut : {X : Type 0} (f : X → ℕ) (items : List X) (index low line : ℕ) → IsThrough X f items low index
    → IsThrough X f items line index → IsCut X f low line items []
nothing_cut f items index low line a b =
    let front_size = length-take-le index items a.within in
    let back_size = length-drop index items in
    record {
      before = take index items;
      after = drop index items;
      parts = sym (take-append-drop index items);
      passed = λ k d lt.
          let there : k < index = omega (arith, lt, front_size) in
          subst (λ x. f x ≤ low) (sym (get_or-take index items k d there)) (a.passed k d there);
      above = λ k d lt. absurd (omega (arith, lt));
      within = λ k d lt. absurd (omega (arith, lt));
      beyond = λ k d lt.
          let in_a = a.within in
          subst (λ x. line < f x) (sym (get_or-drop index items k d))
          (b.beyond (index + k) d (omega arith) (omega (arith, lt, back_size, in_a)));
    }

-- where one more stands up to the other line, and on it, that is what is between
pub one_cut : {X : Type 0} (f : X → ℕ) (items : List X) (index low line : ℕ) (x : X) → IsThrough X f items low index
    → IsThrough X f items line (index + 1) → x ≡ get_or items index x → f x ≡ line → low < line
    → IsCut X f low line items (x ∷ [])
one_cut {X} f items index low line x a b is on order =
    let front_size = length-take-le index items a.within in
    let back_size = length-drop (index + 1) items in
    let in_b = b.within in
    record {
      before = take index items;
      after = drop (index + 1) items;
      parts = sym (take-append-drop index items)
          ∙ at_drop_more (λ r. take index items ++ r) items index x (omega (arith, in_b))
          ∙ ap (λ y. take index items ++ y ∷ drop (index + 1) items) (sym is);
      passed = λ k d lt.
          let there : k < index = omega (arith, lt, front_size) in
          subst (λ y. f y ≤ low) (sym (get_or-take index items k d there)) (a.passed k d there);
      above = one (λ y. low < f y) (omega (arith, on, order));
      within = one (λ y. f y ≤ line) (omega (arith, on));
      beyond = λ k d lt.
          subst (λ y. line < f y) (sym (get_or-drop (index + 1) items k d))
          (b.beyond (index + 1 + k) d (omega arith) (omega (arith, lt, back_size, in_b)));
    }
  where
    one : (P : X → Type 0) → P x → All P (x ∷ [])
    one P holds zero d lt = holds
    one P holds (suc k) d lt = absurd (omega (arith, lt))

-- the claim that stands for none
abbrev pub no_claim : Claim
no_claim = record { line = 0; pid = 0; v = pos 0; sort = At }

-- so nothing is new where the next stands below the line
pub nothing_new : {X : Type 0} (f : X → ℕ) (items : List X) (index low line : ℕ) → AllPairs (λ a b. f a < f b) items
    → low < line → index ≤ length items → ((k : ℕ) (d : X) → k < index → f (get_or items k d) ≤ low)
    → ((d : X) → index < length items → line < f (get_or items index d)) → IsCut X f low line items []
nothing_new f items index low line rise order within passed next =
    let weak = rise_weak f items rise in
    nothing_cut f items index low line
    (through_here f items low index weak within passed (λ d h. (let n = next d h in omega (arith, n, order))))
    (through_here f items line index weak within (λ k d lt. (let p = passed k d lt in omega (arith, p, order))) next)

-- and the next alone is, where it stands on the line
pub one_new : {X : Type 0} (f : X → ℕ) (items : List X) (index low line : ℕ) (x : X) → AllPairs (λ a b. f a < f b) items
    → low < line → index < length items → ((k : ℕ) (d : X) → k < index → f (get_or items k d) ≤ low)
    → x ≡ get_or items index x → f x ≡ line → IsCut X f low line items (x ∷ [])
one_new {X} f items index low line x rise order h passed is on =
    let weak = rise_weak f items rise in
    let here : (d : X) → f (get_or items index d) ≡ line =
    λ d. ap f (get_or_default items index d x h ∙ sym is) ∙ on in
    one_cut f items index low line x
    (through_here f items low index weak (omega (arith, h)) passed
    (λ d w. (let at = here d in omega (arith, at, order))))
    (through_here f items line (index + 1) weak (omega (arith, h))
    (λ k d lt. elim (cases_lt k index) [
      | inl before ↦ (let p = passed k d before in omega (arith, p, order))
      | inr last ↦ (
          let same : index ≡ k = omega (arith, last, lt) in
          let there = ap (λ i. f (get_or items i d)) same in
          let at = here d in
          omega (arith, there, at))
    ])
    (λ d w. (
    let up = rise index (index + 1) d (omega arith) w in
    let at = here d in
    omega (arith, up, at)))) is on order

-- what the look at the next claim tells, where that stands on the line or beyond it
pub seen_at : (claims : List Claim) (next low line : ℕ) (claim : Claim) (is_said : Bool)
    → AllPairs (λ a b. a.line < b.line) claims → low < line → next < length claims
    → ((k : ℕ) (d : Claim) → k < next → (get_or claims k d).line ≤ low) → claim ≡ get_or claims next claim
    → line ≤ claim.line → eqb claim.line line ≡ is_said → (is_said ≡ true → (next < length claims)
    × (claim.line ≡ line)) × IsCut Claim (λ claim. claim.line) low line claims (option_to_list (told is_said claim))
seen_at claims next low line claim true rise order h passed is beyond e =
    let on = eqb-true claim.line line e in
    ((λ _. (h, on)), one_new (λ (x : Claim). x.line) claims next low line claim rise order h passed is on)
seen_at claims next low line claim false rise order h passed is beyond e =
    let apart = eqb-false claim.line line e in (
      (λ said. absurd (true≢false (sym said))),
      nothing_new (λ (x : Claim). x.line) claims next low line rise order (omega (arith, h)) passed
          (λ d h. (
          let same = ap (λ (x : Claim). x.line) (get_or_default claims next d claim h ∙ sym is) in
          omega (arith, same, beyond, apart))),
    )

-- where no more than claims are said, what a look tells is all that is new
nothing_in : {X : Type 0} (f : X → ℕ) (low high : ℕ) (items : List X) → items ≡ [] → IsCut X f low high items []
nothing_in f low high items none = record {
  before = [];
  after = [];
  parts = none;
  passed = λ k d h. absurd (omega (arith, h));
  above = λ k d h. absurd (omega (arith, h));
  within = λ k d h. absurd (omega (arith, h));
  beyond = λ k d h. absurd (omega (arith, h));
}

pub news_by_look : (lists : ListsView) (joining : Joining) (next low high : ℕ) (claim : Option Claim)
    → MayLook lists joining next → IsCut Claim (λ claim. claim.line) low high lists.claims (option_to_list claim)
    → IsNews low high lists (news_of claim)
news_by_look lists joining next low high claim looks cut = record {
  claims = cut;
  nices = nothing_in (λ (change : NiceLine). change.line) low high lists.nices looks.nices;
  charges = nothing_in (λ (charge : ChargeLine). charge.line) low high lists.charges looks.charges;
  idles = nothing_in (λ (idle : IdleLine). idle.line) low high lists.idles looks.idles;
}
