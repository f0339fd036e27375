-- What a list of tallies says of a pid, where it has at most one tally of each; and how a change of each tally, and one
-- tally more, change that.
use Rattle.std.proofs.Common.{◌≡◌, ℕ, ◌+◌, nat_eq, Bool, true, false, ◌||◌, cond, List, [], ◌∷◌, ◌++◌, map, sum_by}
use Rattle.std.proofs.Common.{refl, sym, ap, ◌∙◌, true≢false, arith}
use Rattle.std.specs.List.{list_any}
use Rattle.std.proofs.lemmas.Bool.{ne_eqb, eqb-true, eqb-false}
use Rattle.std.proofs.lemmas.List.Sums.{sum_by-cons}
use Rattle.replay_model.specs.Noted.{new_tally, with_tally}
use Rattle.replay_model.specs.declared.page.Tally.{Tally}

-- what the first tally of a pid says of it, 0 where there is none
abbrev pub said : (Tally → ℕ) → List Tally → ℕ → ℕ
said field [] pid = 0
said field (tally ∷ tallies) pid = cond (nat_eq tally.pid pid) (field tally) (said field tallies pid)

-- there is a tally of the pid
abbrev pub has_tally : List Tally → ℕ → Bool
has_tally tallies pid = list_any (λ (tally : Tally). nat_eq tally.pid pid) tallies

-- a list has at most one tally of each pid
abbrev pub Once : List Tally → Type 0
Once [] = Unit {0}
Once (tally ∷ tallies) = (has_tally tallies tally.pid ≡ false) × Once tallies

-- a change of each tally keeps its pid
abbrev pub KeepsPid : (Tally → Tally) → Type 0
KeepsPid f = (tally : Tally) → (f tally).pid ≡ tally.pid

pub has_map : (f : Tally → Tally) → KeepsPid f → (tallies : List Tally) (pid : ℕ)
    → has_tally (map f tallies) pid ≡ has_tally tallies pid
has_map f keeps [] pid = refl
has_map f keeps (tally ∷ tallies) pid =
    ap (λ p. nat_eq p pid || has_tally (map f tallies) pid) (keeps tally)
    ∙ ap (λ b. nat_eq tally.pid pid || b) (has_map f keeps tallies pid)

-- each tally of the pid grows by as much, so what is said of it does; where it has none, by nothing
pub said_map : (field : Tally → ℕ) (f : Tally → Tally) → KeepsPid f → (pid more : ℕ)
    → ((tally : Tally) → tally.pid ≡ pid → field (f tally) ≡ field tally + more)
    → (tallies : List Tally) → (has_tally tallies pid ≡ false → more ≡ 0)
    → said field (map f tallies) pid ≡ said field tallies pid + more
said_map field f keeps pid more grows [] none = let e : more ≡ 0 = none refl in omega arith
said_map field f keeps pid more grows (tally ∷ tallies) none =
    ap (λ p. cond (nat_eq p pid) (field (f tally)) (said field (map f tallies) pid)) (keeps tally)
    ∙ go (nat_eq tally.pid pid) refl (said_map field f keeps pid more grows tallies)
  where
    go : (b : Bool) → nat_eq tally.pid pid ≡ b
        → ((has_tally tallies pid ≡ false → more ≡ 0) → said field (map f tallies) pid ≡ said field tallies pid + more)
        → cond (nat_eq tally.pid pid) (field (f tally)) (said field (map f tallies) pid)
        ≡ cond (nat_eq tally.pid pid) (field tally) (said field tallies pid) + more
    go true e rest = rw e (grows tally (eqb-true tally.pid pid e))
    go false e rest = rw e (rest (λ h. none (ap (λ b. b || has_tally tallies pid) e ∙ h)))

pub once_map : (f : Tally → Tally) → KeepsPid f → (tallies : List Tally) → Once tallies → Once (map f tallies)
once_map f keeps [] once = tt
once_map f keeps (tally ∷ tallies) once = (
  ap (has_tally (map f tallies)) (keeps tally) ∙ has_map f keeps tallies tally.pid ∙ once.0,
  once_map f keeps tallies once.1,
)

-- one more tally
has_push : (tallies : List Tally) (more : Tally) (pid : ℕ)
    → has_tally (tallies ++ more ∷ []) pid ≡ (has_tally tallies pid || nat_eq more.pid pid)
has_push [] more pid = go (nat_eq more.pid pid)
  where
    go : (b : Bool) → (b || false) ≡ b
    go true = refl
    go false = refl
has_push (tally ∷ tallies) more pid =
    ap (λ b. nat_eq tally.pid pid || b) (has_push tallies more pid)
    ∙ go (nat_eq tally.pid pid) (has_tally tallies pid) (nat_eq more.pid pid)
  where
    go : (a b c : Bool) → (a || (b || c)) ≡ ((a || b) || c)
    go true b c = refl
    go false b c = refl

said_push : (field : Tally → ℕ) (tallies : List Tally) (more : Tally) → field more ≡ 0 → (pid : ℕ)
    → said field (tallies ++ more ∷ []) pid ≡ said field tallies pid
said_push field [] more none pid = go (nat_eq more.pid pid)
  where
    go : (b : Bool) → cond b (field more) 0 ≡ 0
    go true = none
    go false = refl
said_push field (tally ∷ tallies) more none pid =
    ap (cond (nat_eq tally.pid pid) (field tally)) (said_push field tallies more none pid)

once_push : (tallies : List Tally) (more : Tally) → has_tally tallies more.pid ≡ false → Once tallies
    → Once (tallies ++ more ∷ [])
once_push [] more none once = (refl, tt)
once_push (tally ∷ tallies) more none once = go (nat_eq tally.pid more.pid) refl none (once_push tallies more)
  where
    go : (b : Bool) → nat_eq tally.pid more.pid ≡ b → (b || has_tally tallies more.pid) ≡ false
        → (has_tally tallies more.pid ≡ false → Once tallies → Once (tallies ++ more ∷ []))
        → Once (tally ∷ (tallies ++ more ∷ []))
    go true e h rest = absurd (true≢false h)
    go false e h rest = (
      has_push tallies more tally.pid ∙ ap (λ b. b || nat_eq more.pid tally.pid) once.0
          ∙ ne_eqb more.pid tally.pid (λ same. eqb-false tally.pid more.pid e (sym same)),
      rest h once.1,
    )

-- the tallies with one for a pid
module _ (pid : ℕ) (tallies : List Tally) where
  pub has_with_same : has_tally (with_tally pid tallies) pid ≡ true
  has_with_same = go (has_tally tallies pid) refl
    where
      go : (b : Bool) → has_tally tallies pid ≡ b
          → has_tally (cond b tallies (tallies ++ new_tally pid ∷ [])) pid ≡ true
      go true e = e
      go false e = has_push tallies (new_tally pid) pid ∙ ap (λ b. b || nat_eq pid pid) e ∙ same
        where
          same : nat_eq pid pid ≡ true
          same = elim (nat_eq pid pid) as (λ b. nat_eq pid pid ≡ b → nat_eq pid pid ≡ true) [
            | true ↦ λ f. f
            | false ↦ λ f. absurd (eqb-false pid pid f refl)
          ] refl

  pub has_with : (other : ℕ) → has_tally tallies other ≡ true → has_tally (with_tally pid tallies) other ≡ true
  has_with other h = go (has_tally tallies pid)
    where
      go : (b : Bool) → has_tally (cond b tallies (tallies ++ new_tally pid ∷ [])) other ≡ true
      go true = h
      go false = has_push tallies (new_tally pid) other ∙ ap (λ b. b || nat_eq pid other) h

  pub said_with : (field : Tally → ℕ) → field (new_tally pid) ≡ 0 → (other : ℕ)
      → said field (with_tally pid tallies) other ≡ said field tallies other
  said_with field none other = go (has_tally tallies pid)
    where
      go : (b : Bool) → said field (cond b tallies (tallies ++ new_tally pid ∷ [])) other ≡ said field tallies other
      go true = refl
      go false = said_push field tallies (new_tally pid) none other

  pub once_with : Once tallies → Once (with_tally pid tallies)
  once_with once = go (has_tally tallies pid) refl
    where
      go : (b : Bool) → has_tally tallies pid ≡ b → Once (cond b tallies (tallies ++ new_tally pid ∷ []))
      go true e = once
      go false e = once_push tallies (new_tally pid) e once

pub said_none : (field : Tally → ℕ) (tallies : List Tally) (pid : ℕ) → has_tally tallies pid ≡ false
    → said field tallies pid ≡ 0
said_none field [] pid none = refl
said_none field (tally ∷ tallies) pid none = go (nat_eq tally.pid pid) none (said_none field tallies pid)
  where
    go : (b : Bool) → (b || has_tally tallies pid) ≡ false
        → (has_tally tallies pid ≡ false → said field tallies pid ≡ 0)
        → cond b (field tally) (said field tallies pid) ≡ 0
    go true h rest = absurd (true≢false h)
    go false h rest = rest h

-- what all tallies say of a pid is what its own says
pub all_said : (field : Tally → ℕ) (tallies : List Tally) (pid : ℕ) → Once tallies
    → sum_by (λ (tally : Tally). cond (nat_eq tally.pid pid) (field tally) 0) tallies ≡ said field tallies pid
all_said field [] pid once = refl
all_said field (tally ∷ tallies) pid once =
    sum_by-cons (λ (t : Tally). cond (nat_eq t.pid pid) (field t) 0) tally tallies
    ∙ ap (λ n. cond (nat_eq tally.pid pid) (field tally) 0 + n) (all_said field tallies pid once.1)
    ∙ go (nat_eq tally.pid pid) refl
  where
    go : (b : Bool) → nat_eq tally.pid pid ≡ b
        → cond b (field tally) 0 + said field tallies pid ≡ cond b (field tally) (said field tallies pid)
    go true e =
        let none : said field tallies pid ≡ 0 =
        said_none field tallies pid (ap (has_tally tallies) (sym (eqb-true tally.pid pid e)) ∙ once.0) in
        omega arith
    go false e = omega arith
