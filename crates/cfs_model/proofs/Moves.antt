-- What maps, sets and machines hold after a change. One lemma on a set with one pair changed serves both joining and
-- leaving a place; all moves, births included, share one record of what they do to who stands where.
use Rattle.std.proofs.Common.{◌≡◌, ◌≢◌, ℕ, nat_eq, Bool, true, false, cond, ◌⊎◌, inl, inr, refl, sym, ap, ◌∙◌, subst}
use Rattle.std.proofs.Common.{true≢false}
use Rattle.std.proofs.lemmas.Bool.{eq-eqb, ne_eqb, eqb-true, eqb-false}
use Rattle.cfs_model.specs.Machine.{Pairs, Machine, pairs_of, Stands, put, put_pair, with_pairs, with_task}
use Rattle.cfs_model.specs.Machine.{without_task, with_move}
use Rattle.cfs_model.specs.declared.task.Place.{Place}
use Rattle.cfs_model.specs.declared.task.Place.TheVariants.{Run, Wait, Rest}

-- a map has the new value at the key
pub put-same : {A : Type 0} (f : ℕ → A) (key : ℕ) (x : A) → put f key x key ≡ x
unfolding put
put-same f key x = ap (λ b. cond b x (f key)) (eq-eqb key key refl)

-- and the old ones elsewhere
pub put-other : {A : Type 0} (f : ℕ → A) (key : ℕ) (x : A) (other : ℕ) → other ≢ key → put f key x other ≡ f other
unfolding put
put-other f key x other h = ap (λ b. cond b x (f other)) (ne_eqb other key h)

-- two numbers are one or not
pub same_or_not : (a b : ℕ) → (a ≡ b) ⊎ (a ≢ b)
same_or_not a b = go (nat_eq a b) refl
  where
    go : (x : Bool) → nat_eq a b ≡ x → (a ≡ b) ⊎ (a ≢ b)
    go true e = inl (eqb-true a b e)
    go false e = inr (λ h. eqb-false a b e h)

-- a set with one pair changed: at the pair, and elsewhere
pub pair_cases : (s : Pairs) (c p : ℕ) (b : Bool) (d q : ℕ)
    → ((d ≡ c) × (q ≡ p) × (put_pair s c p b d q ≡ b)) ⊎ ((((d ≡ c) × (q ≡ p)) → ⊥) × (put_pair s c p b d q ≡ s d q))
unfolding put_pair
pair_cases s c p b d q = go (same_or_not d c) (same_or_not q p)
  where
    go : ((d ≡ c) ⊎ (d ≢ c)) → ((q ≡ p) ⊎ (q ≢ p))
        → ((d ≡ c) × (q ≡ p) × (put s c (put (s c) p b) d q ≡ b)) ⊎ ((((d ≡ c) × (q ≡ p)) → ⊥)
        × (put s c (put (s c) p b) d q ≡ s d q))
    go (inl e) (inl f) = inl (
      e,
      f,
      ap (λ x. put s c (put (s c) p b) x q) e
          ∙ ap (λ g. g q) (put-same s c (put (s c) p b)) ∙ ap (put (s c) p b) f ∙ put-same (s c) p b,
    )
    go (inl e) (inr f) = inr (
      (λ h. f h.1),
      ap (λ x. put s c (put (s c) p b) x q) e
          ∙ ap (λ g. g q) (put-same s c (put (s c) p b)) ∙ put-other (s c) p b q f ∙ ap (λ x. s x q) (sym e),
    )
    go (inr e) f = inr ((λ h. e h.0), ap (λ g. g q) (put-other s c (put (s c) p b) d e))

-- the sets of a machine with one set changed
pairs_with : (m : Machine) (place : Place) (s : Pairs) (r : Place)
    → ((r ≡ place) × (pairs_of (with_pairs m place s) r ≡ s))
    ⊎ ((r ≢ place) × (pairs_of (with_pairs m place s) r ≡ pairs_of m r))
pairs_with m Run s Run = inl (refl, refl)
pairs_with m Wait s Wait = inl (refl, refl)
pairs_with m Rest s Rest = inl (refl, refl)
pairs_with m Run s Wait = inr ((λ e. cc), refl)
pairs_with m Run s Rest = inr ((λ e. cc), refl)
pairs_with m Wait s Run = inr ((λ e. cc), refl)
pairs_with m Wait s Rest = inr ((λ e. cc), refl)
pairs_with m Rest s Run = inr ((λ e. cc), refl)
pairs_with m Rest s Wait = inr ((λ e. cc), refl)

-- who stands where with one pair of one set changed
changed_at : (m : Machine) (place : Place) (cpu pid : ℕ) (b : Bool) (r : Place) (d q : ℕ)
    → ((r ≡ place) × (d ≡ cpu) × (q ≡ pid)
    × (pairs_of (with_pairs m place (put_pair (pairs_of m place) cpu pid b)) r d q ≡ b))
    ⊎ ((((r ≡ place) × (d ≡ cpu) × (q ≡ pid)) → ⊥)
    × (pairs_of (with_pairs m place (put_pair (pairs_of m place) cpu pid b)) r d q ≡ pairs_of m r d q))
changed_at m place cpu pid b r d q = go (pairs_with m place (put_pair (pairs_of m place) cpu pid b) r)
    (pair_cases (pairs_of m place) cpu pid b d q)
  where
    go : ((r ≡ place) × (pairs_of (with_pairs m place (put_pair (pairs_of m place) cpu pid b)) r ≡ put_pair
        (pairs_of m place) cpu pid b))
        ⊎ ((r ≢ place) × (pairs_of (with_pairs m place (put_pair (pairs_of m place) cpu pid b)) r ≡ pairs_of m r))
        → ((d ≡ cpu) × (q ≡ pid) × (put_pair (pairs_of m place) cpu pid b d q ≡ b)) ⊎ ((((d ≡ cpu) × (q ≡ pid)) → ⊥)
        × (put_pair (pairs_of m place) cpu pid b d q ≡ pairs_of m place d q))
        → ((r ≡ place) × (d ≡ cpu) × (q ≡ pid)
        × (pairs_of (with_pairs m place (put_pair (pairs_of m place) cpu pid b)) r d q ≡ b))
        ⊎ ((((r ≡ place) × (d ≡ cpu) × (q ≡ pid)) → ⊥)
        × (pairs_of (with_pairs m place (put_pair (pairs_of m place) cpu pid b)) r d q ≡ pairs_of m r d q))
    go (inl e) (inl f) = inl (e.0, f.0, f.1, ap (λ s. s d q) e.1 ∙ f.2)
    go (inl e) (inr f) = inr ((λ h. f.0 (h.1, h.2)), ap (λ s. s d q) e.1 ∙ f.1 ∙ ap (λ x. pairs_of m x d q) (sym e.0))
    go (inr e) f = inr ((λ h. e.0 h.0), ap (λ s. s d q) e.1)

-- what a move to a place does to who stands where: the pid stands there alone, and the others where they stood
pub record IsPutAt (m after : Machine) (pid : ℕ) (to : Place) (dest : ℕ) : Type 0 where
  pub itself : Stands after to dest pid
  pub cases : (r : Place) (d q : ℕ) → Stands after r d q
      → ((q ≡ pid) × (r ≡ to) × (d ≡ dest)) ⊎ ((q ≢ pid) × Stands m r d q)
  pub kept : (r : Place) (d q : ℕ) → q ≢ pid → Stands m r d q → Stands after r d q

-- the same of an end: the pid stands nowhere
pub record IsGone (m after : Machine) (pid : ℕ) : Type 0 where
  pub cases : (r : Place) (d q : ℕ) → Stands after r d q → (q ≢ pid) × Stands m r d q
  pub kept : (r : Place) (d q : ℕ) → q ≢ pid → Stands m r d q → Stands after r d q

-- a pid that stands nowhere joins a place
pub join_placed : (m : Machine) (pid : ℕ) (place : Place) (cpu : ℕ) → ((r : Place) (d : ℕ) → ¬ Stands m r d pid)
    → IsPutAt m (with_task m place cpu pid) pid place cpu
join_placed m pid place cpu nowhere = record {
  itself = elim (changed_at m place cpu pid true place cpu pid)
      [ inl f ↦ f.3 | inr f ↦ absurd (f.0 (refl, refl, refl)) ];
  cases = λ r d q h. elim (changed_at m place cpu pid true r d q) [
    | inl f ↦ inl (f.2, f.0, f.1)
    | inr f ↦ let s : Stands m r d q = sym f.1 ∙ h in inr ((λ e. nowhere r d (subst (λ x. Stands m r d x) e s)), s)
  ];
  kept = λ r d q ne h. elim (changed_at m place cpu pid true r d q) [ inl f ↦ absurd (ne f.2) | inr f ↦ f.1 ∙ h ];
}

-- a pid that stands in one place alone leaves it
pub leave_gone : (m : Machine) (pid : ℕ) (place : Place) (cpu : ℕ) → ((r : Place) (d : ℕ) → Stands m r d pid
    → (r ≡ place) × (d ≡ cpu)) → IsGone m (without_task m place cpu pid) pid
leave_gone m pid place cpu alone = record {
  cases = λ r d q h. elim (changed_at m place cpu pid false r d q) [
    | inl f ↦ absurd (true≢false (sym h ∙ f.3))
    | inr f ↦
        let s : Stands m r d q = sym f.1 ∙ h in
        ((λ e. let at = alone r d (subst (λ x. Stands m r d x) e s) in f.0 (at.0, at.1, e)), s)
  ];
  kept = λ r d q ne h. elim (changed_at m place cpu pid false r d q) [ inl f ↦ absurd (ne f.2) | inr f ↦ f.1 ∙ h ];
}

-- a pid that stands in one place alone moves to a place
pub move_placed : (m : Machine) (pid : ℕ) (from : Place) (orig : ℕ) (to : Place) (dest : ℕ)
    → ((r : Place) (d : ℕ) → Stands m r d pid → (r ≡ from) × (d ≡ orig))
    → IsPutAt m (with_move m pid from orig to dest) pid to dest
move_placed m pid from orig to dest alone =
    let gone = leave_gone m pid from orig alone in
    let placed = join_placed (without_task m from orig pid) pid to dest (λ r d h. (gone.cases r d pid h).0 refl) in
    record {
      itself = placed.itself;
      cases = λ r d q h. elim (placed.cases r d q h) [ inl f ↦ inl f | inr f ↦ inr (gone.cases r d q f.1) ];
      kept = λ r d q ne h. placed.kept r d q ne (gone.kept r d q ne h);
    }
