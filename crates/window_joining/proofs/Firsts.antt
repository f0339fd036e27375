-- The first and the last of what stands on lines that rise.
use Rattle.std.proofs.Common.{◌≡◌, ℕ, ◌-◌, ◌<◌, ◌≤◌, List, length, get_or, find, eqb, Some, None, inl, inr}
use Rattle.std.proofs.Common.{refl}
use Rattle.std.proofs.Common.{sym, ap, ◌∙◌, arith}
use Rattle.std.specs.Prelude.{All, Any}
use Rattle.std.specs.List.{AllPairs}
use Rattle.std.proofs.lemmas.Bool.{cases_lt, cases_order}
use Rattle.std.proofs.lemmas.List.{get_or_default}
use Rattle.sched_record.proofs.Dealt.{item_found, item_missing}
use Rattle.sched_record.specs.Join.{IsLeastOf}
use Rattle.window_joining.specs.Between.{IsThrough}

-- all before one that stands on a line up to another do too
pub passed_hint : {X : Type 0} (f : X → ℕ) (items : List X) (hint line : ℕ) (e : X) → AllPairs (λ a b. f a ≤ f b) items
    → hint ≤ length items → f (get_or items (hint - 1) e) ≤ line
    → (k : ℕ) (d : X) → k < hint → f (get_or items k d) ≤ line
passed_hint {X} f items hint line e rise within here k d lt =
    let same = ap f (get_or_default items (hint - 1) e d (omega arith)) in
    elim (cases_order k (hint - 1)) [
      | inl last ↦ (let at = ap (λ i. f (get_or items i d)) last in omega (arith, here, same, at))
      | inr apart ↦ elim apart [
        | inl before ↦ (let at = rise k (hint - 1) d before (omega arith) in omega (arith, here, same, at))
        | inr behind ↦ absurd (omega arith)
      ]
    ]

-- where one stands below a line, all behind it do
pub through_here : {X : Type 0} (f : X → ℕ) (items : List X) (line index : ℕ) → AllPairs (λ a b. f a ≤ f b) items
    → index ≤ length items → ((k : ℕ) (d : X) → k < index → f (get_or items k d) ≤ line)
    → ((d : X) → index < length items → line < f (get_or items index d)) → IsThrough X f items line index
through_here {X} f items line index rise within passed here = record {
  within = within;
  passed = passed;
  beyond = λ k d le lt. elim (cases_lt index k) [
    | inl behind ↦ (
        let at = here d (omega arith) in let up = rise index k d behind lt in omega (arith, at, up))
    | inr same ↦ (
        let is : index ≡ k = omega arith in
        let at = here d (omega arith) in
        let there = ap (λ i. f (get_or items i d)) is in
        omega (arith, at, there))
  ];
}

-- the first of some items stands on the least line of them
pub first_least : {X : Type 0} (f : X → ℕ) (items : List X) (x : X) → AllPairs (λ a b. f a ≤ f b) items
    → 0 < length items → x ≡ get_or items 0 x → IsLeastOf (λ n. Any (λ y. f y ≡ n) items) (Some (f x))
first_least {X} f items x rise some is = (
  (0, x, some, sym is, refl),
  λ m stands. least m stands.0 stands.1 stands.2 stands.3 stands.4,
)
  where
    least : (m k : ℕ) (y : X) → k < length items → get_or items k y ≡ y → f y ≡ m → f x ≤ m
    least m k y lt at on = elim (cases_lt 0 k) [
      | inl behind ↦ (
          let up = rise 0 k y behind lt in
          let first = ap f (is ∙ get_or_default items 0 x y some) in
          let there = ap f at in
          omega (arith, up, first, there, on))
      | inr same ↦ (
          let z : k ≡ 0 = omega arith in
          let there = ap f (sym at ∙ ap (λ i. get_or items i y) z ∙ get_or_default items 0 y x some ∙ sym is) in
          omega (arith, there, on))
    ]

-- the first below a line stands on the least such line
pub behind_least : {X : Type 0} (f : X → ℕ) (items : List X) (edge index : ℕ) (x : X)
    → AllPairs (λ a b. f a ≤ f b) items
    → IsThrough X f items edge index → index < length items → x ≡ get_or items index x
    → IsLeastOf (λ n. (edge < n) × Any (λ y. f y ≡ n) items) (Some (f x))
behind_least {X} f items edge index x rise through some is = (
  (
    (let gt = through.beyond index x (omega arith) some in let e = ap f is in omega (arith, gt, e)),
    (index, x, some, sym is, refl),
  ),
  λ m stands. least m stands.0 stands.1.0 stands.1.1 stands.1.2 stands.1.3 stands.1.4,
)
  where
    least : (m : ℕ) → edge < m → (k : ℕ) (y : X) → k < length items → get_or items k y ≡ y → f y ≡ m → f x ≤ m
    least m gt k y lt at on = elim (cases_order index k) [
      | inl same ↦ (
          let there = ap f (sym at ∙ ap (λ i. get_or items i y) (sym same) ∙ get_or_default items index y x some
          ∙ sym is) in
          omega (arith, there, on))
      | inr (inl behind) ↦ (
          let up = rise index k y behind lt in
          let first = ap f (is ∙ get_or_default items index x y some) in
          let there = ap f at in
          omega (arith, up, first, there, on))
      | inr (inr before) ↦ (
          let le = through.passed k y before in let there = ap f at in absurd (omega (arith, le, there, on, gt)))
    ]

-- and there is none where all stand up to it
pub none_behind : {X : Type 0} (f : X → ℕ) (items : List X) (edge index : ℕ) → IsThrough X f items edge index
    → length items ≤ index → IsLeastOf (λ n. (edge < n) × Any (λ y. f y ≡ n) items) None
none_behind {X} f items edge index through all = λ n stands. none n stands.0 stands.1.0 stands.1.1 stands.1.2 stands.1.3
    stands.1.4
  where
    none : (n : ℕ) → edge < n → (k : ℕ) (y : X) → k < length items → get_or items k y ≡ y → f y ≡ n → ⊥
    none n gt k y lt at on =
        let le = through.passed k y (omega arith) in let there = ap f at in absurd (omega (arith, le, there, on, gt))

-- what is found on a line that none is below: the last, if it stands there
pub last_found : {X : Type 0} (f : X → ℕ) (items : List X) (line count : ℕ) (x : X) → AllPairs (λ a b. f a < f b) items
    → count ≡ length items → 0 < count → x ≡ get_or items (count - 1) x → f x ≡ line
    → find (λ y. eqb (f y) line) items ≡ Some x
last_found {X} f items line count x rise size some is on =
    item_found f items line (count - 1) x
    (λ k e lt.
    let up = rise k (count - 1) e lt (omega arith) in
    let last = ap f (is ∙ get_or_default items (count - 1) x e (omega arith)) in
    omega (arith, up, last, on)) (omega arith) (sym (ap f is) ∙ on)
    ∙ ap Some (sym is)

pub last_missing : {X : Type 0} (f : X → ℕ) (items : List X) (line count : ℕ) (x : X)
    → AllPairs (λ a b. f a < f b) items → All (λ y. f y ≤ line) items → count ≡ length items
    → x ≡ get_or items (count - 1) x → (f x ≡ line → ⊥) → find (λ y. eqb (f y) line) items ≡ None
last_missing {X} f items line count x rise within size is off =
    item_missing f items line (λ k e lt on. elim (cases_lt k (count - 1)) [
      | inl before ↦ (
          let up = rise k (count - 1) e before (omega arith) in
          let le = within (count - 1) e (omega arith) in
          absurd (omega (arith, up, le, on)))
      | inr last ↦ (
          let same : count - 1 ≡ k = omega arith in
          let there = ap f (is ∙ get_or_default items (count - 1) x e (omega arith)
          ∙ ap (λ i. get_or items i e) same) in
          off (there ∙ on))
    ])

pub none_found : {X : Type 0} (f : X → ℕ) (items : List X) (line count : ℕ) → count ≡ length items → count ≤ 0
    → find (λ y. eqb (f y) line) items ≡ None
none_found f items line count size none = item_missing f items line (λ k e lt on. absurd (omega arith))

-- what rises strictly rises
pub rise_weak : {X : Type 0} (f : X → ℕ) (items : List X) → AllPairs (λ a b. f a < f b) items
    → AllPairs (λ a b. f a ≤ f b) items
rise_weak f items rise = λ i j d lt h. (let up = rise i j d lt h in omega (arith, up))
