-- Whether a pid is in a list: in one of two, in a list with each once, and by index.
use Rattle.std.proofs.Common.{◌≡◌, ◌≢◌, ℕ, zero, suc, nat_eq, not, Bool, true, false, ◌||◌, ◌⊎◌, inl, inr, List, []}
use Rattle.std.proofs.Common.{◌∷◌, ◌++◌, Contains, filter, refl, sym, ap, ◌∙◌, true≢false, arith}
use Rattle.std.specs.List.{list_any}
use Rattle.std.proofs.lemmas.Bool.{eq-eqb, ne_eqb, eqb-true, or_left, or_right}
use Rattle.replay_model.specs.Summary.{each_once}
use Rattle.cfs_model.proofs.Moves.{same_or_not}
use Rattle.cfs_model.proofs.StartOrder.{or_cases}

-- a pid is in a list
abbrev pub is_among : List ℕ → ℕ → Bool
is_among pids pid = list_any (λ (other : ℕ). nat_eq other pid) pids

pub among_append : (xs ys : List ℕ) (pid : ℕ) → is_among (xs ++ ys) pid ≡ (is_among xs pid || is_among ys pid)
among_append [] ys pid = refl
among_append (x ∷ xs) ys pid =
    ap (λ b. nat_eq x pid || b) (among_append xs ys pid) ∙ go (nat_eq x pid) (is_among xs pid) (is_among ys pid)
  where
    go : (a b c : Bool) → (a || (b || c)) ≡ ((a || b) || c)
    go true b c = refl
    go false b c = refl

-- without one pid
abbrev without : ℕ → List ℕ → List ℕ
without gone pids = filter (λ (other : ℕ). not (nat_eq other gone)) pids

among_others : (gone : ℕ) (xs : List ℕ) (pid : ℕ) → gone ≢ pid → is_among xs pid ≡ true
    → is_among (without gone xs) pid ≡ true
among_others gone [] pid ne h = h
among_others gone (x ∷ xs) pid ne h = go (nat_eq x gone) refl (among_others gone xs pid ne)
  where
    go : (b : Bool) → nat_eq x gone ≡ b
        → (is_among xs pid ≡ true → is_among (without gone xs) pid ≡ true)
        → is_among (without gone (x ∷ xs)) pid ≡ true
    go true e rest = rw e (rest (sym (ap (λ b. b || is_among xs pid)
        (ne_eqb x pid (λ same. ne (sym (eqb-true x gone e) ∙ same)))) ∙ h))
    go false e rest = rw e (elim (or_cases (nat_eq x pid) (is_among xs pid) h) [
      | inl here ↦ or_left (nat_eq x pid) (is_among (without gone xs) pid) here
      | inr later ↦ or_right (nat_eq x pid) (is_among (without gone xs) pid)
          (rest later)
    ])

-- each once, and all of them
pub among_once : (xs : List ℕ) (pid : ℕ) → is_among xs pid ≡ true → is_among (each_once xs) pid ≡ true
among_once [] pid h = h
among_once (x ∷ xs) pid h = go (same_or_not x pid) (among_once xs pid)
  where
    go : (x ≡ pid) ⊎ (x ≢ pid) → (is_among xs pid ≡ true → is_among (each_once xs) pid ≡ true)
        → is_among (each_once (x ∷ xs)) pid ≡ true
    go (inl e) rest = or_left (nat_eq x pid) (is_among (without x (each_once xs)) pid) (eq-eqb x pid e)
    go (inr ne) rest = or_right (nat_eq x pid) (is_among (without x (each_once xs)) pid)
        (among_others x (each_once xs) pid ne
        (rest (sym (ap (λ b. b || is_among xs pid) (ne_eqb x pid ne)) ∙ h)))

-- by index
pub among_at : (xs : List ℕ) (pid : ℕ) → is_among xs pid ≡ true → Contains xs pid
among_at [] pid h = absurd (true≢false (sym h))
among_at (x ∷ xs) pid h = go (same_or_not x pid) (among_at xs pid)
  where
    go : (x ≡ pid) ⊎ (x ≢ pid) → (is_among xs pid ≡ true → Contains xs pid) → Contains (x ∷ xs) pid
    go (inl e) rest = (zero, omega arith, e)
    go (inr ne) rest =
        let t = rest (sym (ap (λ b. b || is_among xs pid) (ne_eqb x pid ne)) ∙ h) in
        (suc t.0, (let k = t.1 in omega arith), t.2)
