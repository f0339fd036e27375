-- The least lines of stray claims, changes of nice values, idle lines and charges: the least of them is the least of
-- all.
use Rattle.std.proofs.Common.{◌≡◌, ℕ, ◌+◌, ◌<◌, ◌≤◌, ◌&&◌, List, [], ◌∷◌, length, get_or, min, Option, Some, None}
use Rattle.std.proofs.Common.{IsTrue, Bool, true, false, true≢false, eqb, inl, inr, ◌⊎◌, refl, sym, ap, ◌∙◌, subst}
use Rattle.std.proofs.Common.{arith}
use Rattle.std.specs.Prelude.{All, Any, IfNone, IfSome}
use Rattle.std.specs.List.{AllPairs}
use Rattle.std.specs.Option.{option_map_or}
use Rattle.std.proofs.lemmas.Bool.{cases_lt, cases_order, eqb-true, eq-eqb, and_parts}
use Rattle.std.proofs.lemmas.List.{get_or_default}
use Rattle.std.proofs.lemmas.Option.{slice_get-get_or, slice_get_past}
use Rattle.cfs_model.specs.declared.act.Entry.{Entry}
use Rattle.cfs_model.specs.declared.idle_line.IdleLine.{IdleLine}
use Rattle.companion_file.specs.Companion.{CompanionView}
use Rattle.companion_file.specs.Order.{IdleRises}
use Rattle.sched_record.specs.Join.{HasStrayIdle, IsLeastOf, IsStray, NamesBirth, is_birth_of, is_event_line}
use Rattle.sched_record.specs.Beside.{is_birth_there}
use Rattle.sched_record.specs.Lesser.{lesser_of}
use Rattle.sched_record.proofs.Births.{birth_at, birth_found}
use Rattle.sched_record.proofs.Walk.{HasPassed}

-- the least of two that are the least of their own
pub least_of_both : (P Q : ℕ → Type 0) (a b : Option ℕ) → IsLeastOf P a → IsLeastOf Q b
    → IsLeastOf (λ n. P n ⊎ Q n) (lesser_of a b)
least_of_both P Q None None p q = λ n said. elim said [
  | inl x ↦ p n x
  | inr y ↦ q n y
]
least_of_both P Q None (Some b) p q = (
  inr q.0,
  λ n said. elim said [
    | inl x ↦ absurd (p n x)
    | inr y ↦ q.1 n y
  ],
)
least_of_both P Q (Some a) None p q = (
  inl p.0,
  λ n said. elim said [
    | inl x ↦ p.1 n x
    | inr y ↦ absurd (q n y)
  ],
)
least_of_both P Q (Some a) (Some b) p q = (
  (elim (cases_lt a b) [
    | inl lt ↦ (let is : a ≡ min a b = omega arith in inl (subst P is p.0))
    | inr ge ↦ (let is : b ≡ min a b = omega arith in inr (subst Q is q.0))
  ]),
  λ n said. elim said [
    | inl x ↦ (let le = p.1 n x in omega (arith, le))
    | inr y ↦ (let le = q.1 n y in omega (arith, le))
  ],
)

-- the first of some items that stands on no event's line is the least such line
pub least_stray : (X : Type 0) (f : X → ℕ) (events : List Entry) (items : List X) (found : Option ℕ)
    → IfNone found (All (λ item. IsTrue (is_event_line events (f item))) items)
    → IfSome found (λ l. Any (λ item. f item ≡ l) items) → IfSome found (λ l. ¬ IsTrue (is_event_line events l))
    → IfSome found (λ l. All (λ item. f item < l → IsTrue (is_event_line events (f item))) items)
    → IsLeastOf (λ line. Any (λ item. f item ≡ line) items × (¬ IsTrue (is_event_line events line))) found
least_stray X f events items None none said stray earlier = λ line other. other.1 (on_line none other.0)
  where
    on_line : {line : ℕ} → All (λ item. IsTrue (is_event_line events (f item))) items
        → Any (λ item. f item ≡ line) items → IsTrue (is_event_line events line)
    on_line all (k, item, h, at, on) = subst (λ n. IsTrue (is_event_line events n)) (ap f at ∙ on) (all k item h)
least_stray X f events items (Some l) none said stray earlier =
    ((said, stray), λ line other. least line other.0 other.1)
  where
    least : (line : ℕ) → Any (λ item. f item ≡ line) items → (¬ IsTrue (is_event_line events line)) → l ≤ line
    least line (k, item, h, at, on) apart =
        elim (cases_lt line l) [
          | inr ge ↦ ge
          | inl lt ↦ (
              let same : f (get_or items k item) ≡ line = ap f at ∙ on in
              absurd (apart (subst (λ n. IsTrue (is_event_line events n)) same
              (earlier k item h (omega (arith, same, lt))))))
        ]

-- where there is a least one it is one, and where there is none it isn't
pub least_found : (P : ℕ → Type 0) (found : Option ℕ) → IsLeastOf P found → IfSome found (λ n. IsLeastOf P (Some n))
least_found P None least = tt
least_found P (Some n) least = least

pub none_found : (P : ℕ → Type 0) (Q : Type 0) (found : Option ℕ) → IsLeastOf P found → (((n : ℕ) → ¬ P n) → Q)
    → IfNone found Q
none_found P Q None least then_so = then_so least
none_found P Q (Some n) least then_so = tt

on_not : (b : Bool) → ((b ≡ true → ⊥) → ⊥) → b ≡ true
on_not true h = refl
on_not false h = absurd (h (λ e. true≢false (sym e)))

same_at : {X : Type 0} (items : List X) (k : ℕ) (d : X) → k < length items
    → get_or items k (get_or items k d) ≡ get_or items k d
same_at items k d h = get_or_default items k (get_or items k d) d h

-- where no line is stray, claims, changes of nice values and charges stand on events' lines
pub claims_on_events : (events : List Entry) (companion : CompanionView)
    → ((line : ℕ) → ¬ IsStray events companion line)
    → All (λ claim. IsTrue (is_event_line events claim.line)) companion.claims
claims_on_events events companion none k d h =
    on_not _ (λ stray. none _ (inl ((k, get_or companion.claims k d, h, same_at companion.claims k d h, refl), stray)))

pub nices_on_events : (events : List Entry) (companion : CompanionView) → ((line : ℕ) → ¬ IsStray events companion line)
    → All (λ change. IsTrue (is_event_line events change.line)) companion.nices
nices_on_events events companion none k d h =
    on_not _ (λ stray. none _ (inr (inl (
      (k, get_or companion.nices k d, h, same_at companion.nices k d h, refl),
      stray,
    ))))

pub charges_on_events : (events : List Entry) (companion : CompanionView)
    → ((line : ℕ) → ¬ IsStray events companion line)
    → All (λ charge. IsTrue (is_event_line events charge.line)) companion.charges
charges_on_events events companion none k d h =
    on_not _ (λ stray. none _ (inr (inr (inr (
      (k, get_or companion.charges k d, h, same_at companion.charges k d h, refl),
      stray,
    )))))

-- and idle lines of births on one of their pid
pub idles_on_births : (events : List Entry) (companion : CompanionView) → ((line : ℕ) → ¬ IsStray events companion line)
    → All (NamesBirth events) companion.idles
idles_on_births events companion none k d h some =
    on_not _ (λ stray. none _ (inr (inr (inl (
      k,
      get_or companion.idles k d,
      h,
      same_at companion.idles k d h,
      (refl, λ names. stray (names some)),
    )))))

-- what stands at the index tells whether a birth of the pid stands on the line
there_at : (events : List Entry) (to_index : ℕ) (idle : IdleLine) (d : Entry) → to_index < length events
    → is_birth_there events to_index idle ≡ (eqb (get_or events to_index d).line idle.line
    && is_birth_of idle.pid (get_or events to_index d).act)
there_at events to_index idle d h =
    ap (λ found. option_map_or (λ (event : Entry). eqb event.line idle.line && is_birth_of idle.pid event.act) found
    false) (slice_get-get_or events to_index d h)

pub birth_there : (events : List Entry) (to_index : ℕ) (idle : IdleLine) → is_birth_there events to_index idle ≡ true
    → NamesBirth events idle
birth_there [] to_index idle there some = absurd cc
birth_there (event ∷ events) to_index idle there some =
    elim (cases_lt to_index (length (event ∷ events))) [
      | inr ge ↦ (
          let out = ap (λ found. option_map_or (λ (e : Entry). eqb e.line idle.line && is_birth_of idle.pid e.act) found
          false) (slice_get_past (event ∷ events) to_index ge) in
          absurd (true≢false (sym there ∙ out)))
      | inl h ↦ (
          let at = get_or (event ∷ events) to_index event in
          let parts = and_parts (eqb at.line idle.line) (is_birth_of idle.pid at.act)
          (sym (there_at (event ∷ events) to_index idle event h) ∙ there) in
          birth_at (event ∷ events) idle.line idle.pid to_index event h (eqb-true _ _ parts.0) parts.1)
    ]

pub no_birth_there : (events : List Entry) (to_index : ℕ) (idle : IdleLine) → AllPairs (λ a b. a.line < b.line) events
    → ((k : ℕ) (d : Entry) → k < to_index → (get_or events k d).line < idle.line)
    → ((d : Entry) → to_index < length events → idle.line ≤ (get_or events to_index d).line)
    → 0 < idle.line → is_birth_there events to_index idle ≡ false → NamesBirth events idle → ⊥
no_birth_there [] to_index idle rise above reached some other names = absurd (true≢false (sym (names some)))
no_birth_there (event ∷ events) to_index idle rise above reached some other names =
    let all = event ∷ events in
    let found = birth_found all idle.line idle.pid (names some) in
    let k = found.0 in
    let h = found.1.within in
    let line_is = found.1.line_is event in
    elim (cases_order k to_index) [
      | inl same ↦ (
          let within : to_index < length all = omega (arith, same, h) in
          let at = ap (λ n. get_or all n event) same in
          let is : is_birth_there all to_index idle ≡ true =
          there_at all to_index idle event within ∙ ap (λ (e : Entry). eqb e.line idle.line
          && is_birth_of idle.pid e.act)
          (sym at)
          ∙ ap (λ b. b && is_birth_of idle.pid (get_or all k event).act) (eq-eqb _ _ line_is) ∙ found.1.birth event in
          absurd (true≢false (sym is ∙ other)))
      | inr (inl before) ↦ (let low = above k event before in absurd (omega (arith, low, line_is)))
      | inr (inr behind) ↦ (
          let up = rise to_index k event behind h in
          let low = reached event (omega (arith, behind, h)) in
          absurd (omega (arith, up, low, line_is)))
    ]

-- the first of the idle lines with no birth stands on the least line of them
pub least_stray_idle : (events : List Entry) (idles : List IdleLine) (i : ℕ) (idle : IdleLine)
    → AllPairs IdleRises idles → i < length idles
    → idle ≡ get_or idles i idle → (NamesBirth events idle → ⊥)
    → ((k : ℕ) (d : IdleLine) → k < i → NamesBirth events (get_or idles k d))
    → IsLeastOf (HasStrayIdle events idles) (Some idle.line)
least_stray_idle events idles i idle rise h is stray before = (
  (i, idle, h, sym is, (refl, stray)),
  λ line other. least other.0 other.1 line other.2 other.3 other.4.0 other.4.1,
)
  where
    least : (k : ℕ) (item : IdleLine) (line : ℕ) → k < length idles → get_or idles k item ≡ item → item.line ≡ line
        → (NamesBirth events item → ⊥) → idle.line ≤ line
    least k item line has at on apart =
        elim (cases_order k i) [
          | inl same ↦ (
              let at_i = ap (λ (x : IdleLine). x.line) (sym at ∙ ap (λ n. get_or idles n item) same
              ∙ get_or_default idles i item idle h ∙ sym is) in
              omega (arith, at_i, on))
          | inr (inl first) ↦ absurd (apart (subst (NamesBirth events) at (before k item first)))
          | inr (inr behind) ↦ (
              let up = (rise i k item behind has).lines in
              let a = ap (λ (x : IdleLine). x.line) (get_or_default idles i item idle h ∙ sym is) in
              let b = ap (λ (x : IdleLine). x.line) at in
              omega (arith, up, a, b, on))
        ]

pub no_stray_idle : (events : List Entry) (idles : List IdleLine) → All (NamesBirth events) idles
    → IsLeastOf (HasStrayIdle events idles) None
no_stray_idle events idles all line (k, item, h, at, (on, stray)) = stray (subst (NamesBirth events) at (all k item h))

-- what is passed lies above what comes later, where lines may be the same
pub passed_idles : (events : List Entry) (idles : List IdleLine) (from to_index index : ℕ) (idle : IdleLine)
    → AllPairs IdleRises idles → idle ≡ get_or idles index idle
    → index < length idles → HasPassed (λ (event : Entry). event.line) (λ (x : IdleLine). x.line) events idles from
    index
    → ((k : ℕ) (d : Entry) → from ≤ k → k < to_index → (get_or events k d).line < idle.line)
    → HasPassed (λ (event : Entry). event.line) (λ (x : IdleLine). x.line) events idles to_index (index + 1)
passed_idles events idles from to_index index idle rise is has passed below k j d e h later h' =
    elim (cases_lt k from) [
      | inl lt ↦ passed k j d e lt (omega arith) h'
      | inr ge ↦ (
          let here = below k d ge h in
          let more = (rise index j e (omega arith) h').lines in
          let same = ap (λ (x : IdleLine). x.line) (get_or_default idles index e idle has ∙ sym is) in
          omega (arith, here, more, same))
    ]
