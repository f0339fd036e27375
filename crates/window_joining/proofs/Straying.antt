-- What stands on no event's line, with one more event: up to the edge it is as before, and from there up to the event's
-- line it is what is new and isn't on that line.
use Rattle.std.proofs.Common.{◌≡◌, ℕ, ◌<◌, ◌≤◌, ◌≢◌, List, [], ◌∷◌, ◌++◌, get_or, eqb, Bool, true, false}
use Rattle.std.proofs.Common.{◌&&◌}
use Rattle.std.proofs.Common.{◌||◌, Option, Some, None, inl, inr, refl, sym, ap, ◌∙◌, subst, arith, IsTrue}
use Rattle.std.proofs.Common.{cond}
use Rattle.std.specs.Prelude.{All, Any, MatchOption}
use Rattle.std.specs.List.{Contains, list_any}
use Rattle.std.proofs.lemmas.Bool.{cases_lt, eq-eqb, ne_eqb, true≢false, false_from_ne_true, or_right, lt-ltb, le-ltb}
use Rattle.std.proofs.lemmas.List.Elements.{All-contains}
use Rattle.std.proofs.lemmas.List.Folds.{list_any-append, list_any_none}
use Rattle.cfs_model.specs.declared.act.Entry.{Entry}
use Rattle.cfs_model.specs.declared.charge_line.ChargeLine.{ChargeLine}
use Rattle.cfs_model.specs.declared.claim.Claim.{Claim}
use Rattle.cfs_model.specs.declared.idle_line.IdleLine.{IdleLine}
use Rattle.cfs_model.specs.declared.nice_line.NiceLine.{NiceLine}
use Rattle.companion_file.specs.Companion.{CompanionView}
use Rattle.sched_record.specs.Join.{IsLeastOf, IsStray, is_birth_line, is_birth_of, is_event_line}
use Rattle.window_joining.proofs.Cuts.{in_cut, in_list}
use Rattle.window_joining.specs.Between.{IsCut}
use Rattle.window_joining.specs.Lesser.{above_limit}
use Rattle.window_joining.specs.News.{IsStrayBeside, ListsView, is_named_by}

-- a test of some events and one more
any_more : (p : Entry → Bool) (events : List Entry) (event : Entry)
    → list_any p (events ++ event ∷ []) ≡ (list_any p events || p event)
any_more p events event =
    list_any-append p events (event ∷ []) ∙ ap (λ b. list_any p events || b) (or_false (p event))
  where
    or_false : (b : Bool) → (b || false) ≡ b
    or_false true = refl
    or_false false = refl

or_not : (a b : Bool) → b ≡ false → (a || b) ≡ a
or_not true b e = refl
or_not false b e = e

not_or : (a b : Bool) → a ≡ false → (a || b) ≡ b
not_or true b e = absurd (true≢false e)
not_or false b e = refl

-- a line on which an event stands, and one on which a birth does
abbrev on : ℕ → Entry → Bool
on n event = eqb event.line n

abbrev born_on : ℕ → ℕ → Entry → Bool
born_on n pid event = eqb event.line n && is_birth_of pid event.act

-- the lines up to the edge are as before
line_kept : (events : List Entry) (event : Entry) (n : ℕ) → n < event.line
    → is_event_line events n ≡ is_event_line (events ++ event ∷ []) n
line_kept events event n lt =
    sym (any_more (on n) events event
    ∙ or_not (is_event_line events n) (on n event) (ne_eqb event.line n (λ e. absurd (omega (arith, e, lt)))))

birth_kept : (events : List Entry) (event : Entry) (n pid : ℕ) → n < event.line
    → is_birth_line events n pid ≡ is_birth_line (events ++ event ∷ []) n pid
birth_kept events event n pid lt =
    sym (any_more (born_on n pid) events event
    ∙ or_not (is_birth_line events n pid) (born_on n pid event)
    (ap (λ b. b && is_birth_of pid event.act) (ne_eqb event.line n (λ e. absurd (omega (arith, e, lt))))))

-- no event stands below the edge
pub no_line_behind : (events : List Entry) (edge n : ℕ) → All (λ x. x.line ≤ edge) events → edge < n
    → is_event_line events n ≡ false
no_line_behind events edge n low lt =
    list_any_none (on n) events
    (λ k d h. ne_eqb _ _ (λ e. (let le = low k d h in absurd (omega (arith, le, e, lt)))))

pub no_birth_behind : (events : List Entry) (edge n pid : ℕ) → All (λ x. x.line ≤ edge) events → edge < n
    → is_birth_line events n pid ≡ false
no_birth_behind events edge n pid low lt =
    list_any_none (born_on n pid) events
    (λ k d h. ap (λ b. b && is_birth_of pid (get_or events k d).act)
    (ne_eqb _ _ (λ e. (let le = low k d h in absurd (omega (arith, le, e, lt))))))

-- what is stray is so by what stands on its line
pub stray_by : (one other : List Entry) (c : CompanionView) (n : ℕ)
    → is_event_line one n ≡ is_event_line other n
    → ((pid : ℕ) → is_birth_line one n pid ≡ is_birth_line other n pid)
    → IsStray one c n → IsStray other c n
stray_by one other c n line births (inl claim) = inl (claim.0, λ is. claim.1 (line ∙ is))
stray_by one other c n line births (inr (inl change)) = inr (inl (change.0, λ is. change.1 (line ∙ is)))
stray_by one other c n line births (inr (inr (inl (k, idle, h, at, (here, stray))))) =
    inr (inr (inl (
      k,
      idle,
      h,
      at,
      (
        here,
        λ names. stray (λ some. ap (λ m. is_birth_line one m idle.pid) here ∙ births idle.pid
            ∙ ap (λ m. is_birth_line other m idle.pid) (sym here) ∙ names some),
      ),
    )))
stray_by one other c n line births (inr (inr (inr charge))) =
    inr (inr (inr (charge.0, λ is. charge.1 (line ∙ is))))

-- what stands on a line, as one of a list
abbrev pub StandsOn : {X : Type 0} → (X → ℕ) → List X → ℕ → Type 0
StandsOn line_of xs n = Any (λ x. line_of x ≡ n) xs

-- the same in another list
pub stands_in : {X : Type 0} (line_of : X → ℕ) (xs ys : List X) (n : ℕ)
    → ((x : X) → line_of x ≡ n → Contains xs x → Contains ys x)
    → StandsOn line_of xs n → StandsOn line_of ys n
stands_in line_of xs ys n moves (k, x, h, at, is) =
    let there = moves x is (k, h, at) in (there.0, x, there.1, there.2, is)

pub not_on : (b : Bool) → b ≡ false → ¬ IsTrue b
not_on true e is = true≢false e
not_on false e is = true≢false (sym is)

module _ (events : List Entry) (event : Entry) (edge : ℕ) (low : All (λ x. x.line ≤ edge) events)
    (high : edge < event.line) where
  abbrev all : List Entry
  all = events ++ event ∷ []

  -- between the edge and the event's line no event stands
  apart : (n : ℕ) → edge < n → n < event.line → is_event_line all n ≡ false
  apart n gt lt = sym (line_kept events event n lt) ∙ no_line_behind events edge n low gt

  here : is_event_line all event.line ≡ true
  here = any_more (on event.line) events event
      ∙ or_right (is_event_line events event.line) (on event.line event) (eq-eqb event.line event.line refl)

  -- behind the edge only the event bears
  born_here : (idle : IdleLine) → edge < idle.line → is_birth_line all idle.line idle.pid ≡ is_named_by event idle
  born_here idle gt =
      any_more (born_on idle.line idle.pid) events event
      ∙ not_or (is_birth_line events idle.line idle.pid) (born_on idle.line idle.pid event)
      (no_birth_behind events edge idle.line idle.pid low gt)

  -- one list of what stands on lines: what is new and above the event, and what is stray there
  to_stray : {X : Type 0} (line_of : X → ℕ) (items news : List X) (n : ℕ)
      → IsCut X line_of edge event.line items news → n < event.line → StandsOn line_of news n
      → (edge < n) × (n ≤ event.line) × StandsOn line_of items n × (¬ IsTrue (is_event_line all n))
  to_stray line_of items news n c lt (k, x, h, at, is) =
      let above = All-contains (λ y. edge < line_of y) news x c.above (k, h, at) in
      let gt : edge < n = omega (arith, above, is) in (
        gt,
        omega arith,
        stands_in line_of news items n (λ y _. in_list line_of edge event.line items news y c) (k, x, h, at, is),
        not_on (is_event_line all n) (apart n gt lt),
      )

  from_stray : {X : Type 0} (line_of : X → ℕ) (items news : List X) (n : ℕ)
      → IsCut X line_of edge event.line items news → edge < n → n ≤ event.line → StandsOn line_of items n
      → (¬ IsTrue (is_event_line all n)) → (n < event.line) × StandsOn line_of news n
  from_stray line_of items news n c gt le stands off =
      let ne : n ≢ event.line = λ e. off (subst (λ m. IsTrue (is_event_line all m)) (sym e) here) in (
        omega (arith, le, ne),
        stands_in line_of items news n
            (λ y is has. in_cut line_of edge event.line items news y c has (omega (arith, is, gt))
            (omega (arith, is, le))) stands,
      )

  module _ (c : CompanionView) (news : ListsView)
      (claims : IsCut Claim (λ x. x.line) edge event.line c.claims news.claims)
      (nices : IsCut NiceLine (λ x. x.line) edge event.line c.nices news.nices)
      (charges : IsCut ChargeLine (λ x. x.line) edge event.line c.charges news.charges)
      (idles : IsCut IdleLine (λ x. x.line) edge event.line c.idles news.idles) where
    -- what is new and isn't beside the event is stray
    beside_to : (n : ℕ) → IsStrayBeside news event n → (edge < n) × (n ≤ event.line) × IsStray all c n
    beside_to n (inl (lt, stands)) =
        let s = to_stray (λ (x : Claim). x.line) c.claims news.claims n claims lt stands in
        (s.0, s.1, inl (s.2, s.3))
    beside_to n (inr (inl (lt, stands))) =
        let s = to_stray (λ (x : NiceLine). x.line) c.nices news.nices n nices lt stands in
        (s.0, s.1, inr (inl (s.2, s.3)))
    beside_to n (inr (inr (inl (k, idle, h, at, (is, other))))) =
        let has : Contains news.idles idle = (k, h, at) in
        let above = All-contains (λ (x : IdleLine). edge < x.line) news.idles idle idles.above has in
        let within = All-contains (λ (x : IdleLine). x.line ≤ event.line) news.idles idle idles.within has in
        let there = in_list (λ (x : IdleLine). x.line) edge event.line c.idles news.idles idle idles has in (
          omega (arith, above, is),
          omega (arith, within, is),
          inr (inr (inl (
            there.0,
            idle,
            there.1,
            there.2,
            (
              is,
              λ names. true≢false (sym (names (omega (arith, above))) ∙ born_here idle above ∙ other),
            ),
          ))),
        )
    beside_to n (inr (inr (inr (lt, stands)))) =
        let s = to_stray (λ (x : ChargeLine). x.line) c.charges news.charges n charges lt stands in
        (s.0, s.1, inr (inr (inr (s.2, s.3))))

    -- and what is stray between the edge and the event's line is new and isn't beside the event
    beside_from : (n : ℕ) → edge < n → n ≤ event.line → IsStray all c n → IsStrayBeside news event n
    beside_from n gt le (inl (stands, off)) =
        inl (from_stray (λ (x : Claim). x.line) c.claims news.claims n claims gt le stands off)
    beside_from n gt le (inr (inl (stands, off))) =
        inr (inl (from_stray (λ (x : NiceLine). x.line) c.nices news.nices n nices gt le stands off))
    beside_from n gt le (inr (inr (inl (k, idle, h, at, (is, stray))))) =
        let above : edge < idle.line = omega (arith, is, gt) in
        let there = in_cut (λ (x : IdleLine). x.line) edge event.line c.idles news.idles idle idles (k, h, at) above
        (omega (arith, is, le)) in
        inr (inr (inl (
          there.0,
          idle,
          there.1,
          there.2,
          (
            is,
            false_from_ne_true (is_named_by event idle) (λ named. stray (λ some. born_here idle above ∙ named)),
          ),
        )))
    beside_from n gt le (inr (inr (inr (stands, off)))) =
        inr (inr (inr (from_stray (λ (x : ChargeLine). x.line) c.charges news.charges n charges gt le stands off)))

    -- what is stray up to the edge was so before
    kept_to : (n : ℕ) → n ≤ edge → IsStray events c n → IsStray all c n
    kept_to n le = stray_by events all c n (line_kept events event n (omega arith))
        (λ pid. birth_kept events event n pid (omega arith))

    kept_from : (n : ℕ) → n ≤ edge → IsStray all c n → IsStray events c n
    kept_from n le = stray_by all events c n (sym (line_kept events event n (omega arith)))
        (λ pid. sym (birth_kept events event n pid (omega arith)))

    -- the least stray line so far, with one more event: the one before, or else the least of what is new
    pub least_more : (old new : Option ℕ) → IsLeastOf (λ n. (n ≤ edge) × IsStray events c n) old
        → MatchOption old (IsLeastOf (IsStrayBeside news event) new) (λ line. new ≡ Some line)
        → IsLeastOf (λ n. (n ≤ event.line) × IsStray all c n) new
    least_more (Some line) new was is =
        subst (IsLeastOf (λ n. (n ≤ event.line) × IsStray all c n)) (sym is) (
          (omega (arith, was.0.0), kept_to line was.0.0 was.0.1),
          λ m stray. elim (cases_lt edge m) [
            | inl gt ↦ (let at = was.0.0 in omega (arith, at, gt))
            | inr le ↦ was.1 m (le, kept_from m le stray.1)
          ],
        )
    least_more None None was is = λ n stray. elim (cases_lt edge n) [
      | inl gt ↦ is n (beside_from n gt stray.0 stray.1)
      | inr le ↦ was n (le, kept_from n le stray.1)
    ]
    least_more None (Some line) was is =
        let s = beside_to line is.0 in (
          (s.1, s.2),
          λ m stray. elim (cases_lt edge m) [
            | inl gt ↦ is.1 m (beside_from m gt stray.0 stray.1)
            | inr le ↦ absurd (was m (le, kept_from m le stray.1))
          ],
        )

-- the line, where it is above a limit, is the least of those above
pub least_above : (P : ℕ → Type 0) (limit : ℕ) (found : Option ℕ) → IsLeastOf P found
    → IsLeastOf (λ n. (n < limit) × P n) (above_limit limit found)
least_above P limit None least = λ n has. least n has.1
least_above P limit (Some line) least = elim (cases_lt line limit) [
  | inl lt ↦ subst (IsLeastOf (λ n. (n < limit) × P n))
      (ap (λ b. cond b (Some line) None) (sym (lt-ltb line limit lt))) ((lt, least.0), λ m has. least.1 m has.1)
  | inr ge ↦ subst (IsLeastOf (λ n. (n < limit) × P n))
      (ap (λ b. cond b (Some line) None) (sym (le-ltb line limit ge)))
      (λ n has. (let le = least.1 n has.1 in let lt = has.0 in absurd (omega (arith, le, lt, ge))))
]
