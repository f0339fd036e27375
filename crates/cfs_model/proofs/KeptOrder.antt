-- What keeps the order of a machine: the sets and the keys of the maps. A lift changes neither; a task that is placed
-- anew, or is gone, changes them at its own pid alone.
use Rattle.std.proofs.Common.{◌≡◌, ◌≢◌, ℕ, Bool, true, false, cond, Option, Some, None, IsSome, is_some, ℤ, pos, ◌+ℤ◌}
use Rattle.std.proofs.Common.{◌⊎◌, ◌↔◌, inl, inr, List, [], ◌∷◌, refl, sym, ap, ◌∙◌, subst, true≢false, option_map}
use Rattle.std.proofs.Common.{option_and_then}
use Rattle.cfs_model.specs.Machine.{Machine, pairs_of, Stands, NobodyStands, with_floor}
use Rattle.cfs_model.specs.Told.{ChargesAs}
use Rattle.cfs_model.specs.Lifted.{cost_at, charged, charged_runtime, IsLiftedAt, IsLifted}
use Rattle.cfs_model.specs.Order.{StandsSomewhere}
use Rattle.cfs_model.proofs.Moves.{same_or_not, IsPutAt, IsGone}
use Rattle.cfs_model.proofs.ToldCharge.{told_is, told_keys, charged_pairs}
use Rattle.cfs_model.specs.declared.charge_line.ChargeLine.{ChargeLine}
use Rattle.cfs_model.specs.declared.task.Place.{Place}
use Rattle.cfs_model.specs.declared.task.Place.TheVariants.{Run, Wait, Rest}

-- the order but for the range of the values
pub record IsApart (m : Machine) : Type 0 where
  pub one_place : (pid : ℕ) (place other : Place) (cpu at : ℕ) → Stands m place cpu pid → Stands m other at pid
      → (place ≡ other) × (cpu ≡ at)
  pub one_runs : (cpu pid other : ℕ) → Stands m Run cpu pid → Stands m Run cpu other → pid ≡ other
  pub runtimes : (pid : ℕ) → IsSome (m.runtime pid) ↔ StandsSomewhere m pid
  pub nices : (pid : ℕ) → IsSome (m.nice pid) ↔ StandsSomewhere m pid

-- machines with the same three sets
pub same_sets : (m after : Machine) → after.running ≡ m.running → after.waiting ≡ m.waiting → after.resting ≡ m.resting
    → (r : Place) → pairs_of after r ≡ pairs_of m r
same_sets m after e f g Run = e
same_sets m after e f g Wait = f
same_sets m after e f g Rest = g

-- who stands in one stands in the other
pub stands_same : (m after : Machine) → ((r : Place) → pairs_of after r ≡ pairs_of m r) → (r : Place) (d q : ℕ)
    → Stands after r d q → Stands m r d q
stands_same m after e r d q h = ap (λ s. s d q) (sym (e r)) ∙ h

-- the same sets, and maps over the same pids
pub apart_values : (m after : Machine) → ((r : Place) → pairs_of after r ≡ pairs_of m r)
    → ((pid : ℕ) → is_some (after.runtime pid) ≡ is_some (m.runtime pid))
    → ((pid : ℕ) → is_some (after.nice pid) ≡ is_some (m.nice pid))
    → IsApart m → IsApart after
apart_values m after e f g a =
    let down = stands_same m after e in
    let up = stands_same after m (λ r. sym (e r)) in
    record {
      one_place = λ pid r s c d h k. a.one_place pid r s c d (down r c pid h) (down s d pid k);
      one_runs = λ c p q h k. a.one_runs c p q (down Run c p h) (down Run c q k);
      runtimes = λ pid. (
        (λ h. let w = (a.runtimes pid).0 (sym (f pid) ∙ h) in (w.0, w.1, up w.0 w.1 pid w.2)),
        (λ w. f pid ∙ (a.runtimes pid).1 (w.0, w.1, down w.0 w.1 pid w.2)),
      );
      nices = λ pid. (
        (λ h. let w = (a.nices pid).0 (sym (g pid) ∙ h) in (w.0, w.1, up w.0 w.1 pid w.2)),
        (λ w. g pid ∙ (a.nices pid).1 (w.0, w.1, down w.0 w.1 pid w.2)),
      );
    }

-- a charge gives a value where there were a value and a nice value
some_charged : (m : Machine) (cpu time pid : ℕ) (n o : Option ℤ) → is_some n ≡ is_some o
    → is_some (option_and_then (λ nice. option_map (λ v. v +ℤ pos (cost_at m cpu time nice (m.policy pid))) o)
    n) ≡ is_some o
some_charged m cpu time pid None o e = e
some_charged m cpu time pid (Some nice) None e = refl
some_charged m cpu time pid (Some nice) (Some v) e = refl

some_if : (b : Bool) (x y : Option ℤ) → is_some x ≡ is_some y → is_some (cond b x y) ≡ is_some y
some_if true x y e = e
some_if false x y e = refl

-- both maps are over the same pids
same_keys : (m : Machine) → IsApart m → (pid : ℕ) → is_some (m.nice pid) ≡ is_some (m.runtime pid)
same_keys m a pid = go (is_some (m.nice pid)) (is_some (m.runtime pid)) (λ h. (a.runtimes pid).1 ((a.nices pid).0 h))
    (λ h. (a.nices pid).1 ((a.runtimes pid).0 h))
  where
    go : (b c : Bool) → (b ≡ true → c ≡ true) → (c ≡ true → b ≡ true) → b ≡ c
    go true c f g = sym (f refl)
    go false true f g = g refl
    go false false f g = refl

-- a charge keeps the order, exact or as told
pub told_apart : (bound time : ℕ) (charge : Option ChargeLine) (cpu : ℕ) (m told : Machine)
    → ChargesAs bound charge cpu m (charged m cpu time) told → IsApart m → IsApart told
told_apart bound time charge cpu m told c a =
    apart_values m told (charged_pairs bound time charge cpu m told c)
    (λ pid. told_keys bound charge cpu m (charged m cpu time) told c pid
    ∙ some_if (m.running cpu pid) (charged_runtime m cpu time pid) (m.runtime pid) (some_charged m cpu time pid
    (m.nice pid) (m.runtime pid) (same_keys m a pid)))
    (λ pid. ap (λ (x : Machine). is_some (x.nice pid)) (told_is bound charge cpu m (charged m cpu time) told c)) a

lifted_at_apart : (bound time : ℕ) (charge : Option ChargeLine) (cpu : ℕ) (m after : Machine)
    → IsLiftedAt bound time charge cpu m after → IsApart m → IsApart after
lifted_at_apart bound time charge cpu m after l a =
    let raised = with_floor l.told cpu l.floor in
    subst IsApart (sym l.result)
    (apart_values l.told raised (same_sets l.told raised refl refl refl) (λ pid. refl) (λ pid. refl)
    (told_apart bound time charge cpu m l.told l.charges a))

-- a lift keeps the order
pub lifted_apart : (bound time : ℕ) (charge : Option ChargeLine) (cpus : List ℕ) (m after : Machine)
    → IsLifted bound time charge cpus m after → IsApart m → IsApart after
lifted_apart bound time charge [] m after l a = subst IsApart (sym l) a
lifted_apart bound time charge (cpu ∷ cpus) m after l a =
    lifted_apart bound time None cpus l.0 after l.2 (lifted_at_apart bound time charge cpu m l.0 l.1 a)

-- a map with a value at the pid that is placed, and as it was elsewhere
placed_keys : (m after : Machine) (pid : ℕ) (to : Place) (dest : ℕ) → IsPutAt m after pid to dest → (f g : ℕ → Option ℤ)
    → IsSome (g pid) → ((q : ℕ) → q ≢ pid → g q ≡ f q) → ((q : ℕ) → IsSome (f q) ↔ StandsSomewhere m q) → (q : ℕ)
    → IsSome (g q) ↔ StandsSomewhere after q
placed_keys m after pid to dest p f g here others keys q = go (same_or_not q pid)
  where
    go : (q ≡ pid) ⊎ (q ≢ pid) → IsSome (g q) ↔ StandsSomewhere after q
    go (inl e) = (
      (λ h. (to, dest, subst (λ x. Stands after to dest x) (sym e) p.itself)),
      (λ w. subst (λ x. IsSome (g x)) (sym e) here),
    )
    go (inr ne) = (
      (λ h. let w = (keys q).0 (subst (λ x. IsSome x) (others q ne) h) in (w.0, w.1, p.kept w.0 w.1 q ne w.2)),
      (λ w. elim (p.cases w.0 w.1 q w.2) [
        | inl x ↦ absurd (ne x.0)
        | inr x ↦ subst (λ o. IsSome o) (sym (others q ne))
            ((keys q).1 (w.0, w.1, x.1))
      ]),
    )

-- a task that is placed anew keeps the order, where nobody else runs if it is to run
pub placed_apart : (m after : Machine) (pid : ℕ) (to : Place) (dest : ℕ) → IsPutAt m after pid to dest → IsApart m
    → (to ≡ Run → NobodyStands m Run dest)
    → IsSome (after.runtime pid) → ((q : ℕ) → q ≢ pid → after.runtime q ≡ m.runtime q)
    → IsSome (after.nice pid) → ((q : ℕ) → q ≢ pid → after.nice q ≡ m.nice q) → IsApart after
placed_apart m after pid to dest p a nobody here others nice_here nice_others = record {
  one_place = λ q r s c d h k. elim (p.cases r c q h) [
    | inl x ↦ elim (p.cases s d q k) [ inl y ↦ (x.1 ∙ sym y.1, x.2 ∙ sym y.2) | inr y ↦ absurd (y.0 x.0) ]
    | inr x ↦ elim (p.cases s d q k) [ inl y ↦ absurd (x.0 y.0) | inr y ↦ a.one_place q r s c d x.1 y.1 ]
  ];
  one_runs = λ c q w h k. elim (p.cases Run c q h) [
    | inl x ↦ elim (p.cases Run c w k) [
      | inl y ↦ x.0 ∙ sym y.0
      | inr y ↦ absurd
          (nobody (sym x.1) w (subst (λ z. Stands m Run z w) x.2 y.1))
    ]
    | inr x ↦ elim (p.cases Run c w k) [
      | inl y ↦ absurd
          (nobody (sym y.1) q (subst (λ z. Stands m Run z q) y.2 x.1))
      | inr y ↦ a.one_runs c q w x.1 y.1
    ]
  ];
  runtimes = placed_keys m after pid to dest p m.runtime after.runtime here others a.runtimes;
  nices = placed_keys m after pid to dest p m.nice after.nice nice_here nice_others a.nices;
}

-- a map without a value at the pid that is gone, and as it was elsewhere
gone_keys : (m after : Machine) (pid : ℕ) → IsGone m after pid → (f g : ℕ → Option ℤ)
    → g pid ≡ None → ((q : ℕ) → q ≢ pid → g q ≡ f q) → ((q : ℕ) → IsSome (f q) ↔ StandsSomewhere m q) → (q : ℕ)
    → IsSome (g q) ↔ StandsSomewhere after q
gone_keys m after pid p f g here others keys q = go (same_or_not q pid)
  where
    go : (q ≡ pid) ⊎ (q ≢ pid) → IsSome (g q) ↔ StandsSomewhere after q
    go (inl e) = (
      (λ h. absurd (true≢false (sym (subst (λ x. IsSome x) (ap g e ∙ here) h)))),
      (λ w. absurd ((p.cases w.0 w.1 q w.2).0 e)),
    )
    go (inr ne) = (
      (λ h. let w = (keys q).0 (subst (λ x. IsSome x) (others q ne) h) in (w.0, w.1, p.kept w.0 w.1 q ne w.2)),
      (λ w. subst (λ o. IsSome o) (sym (others q ne)) ((keys q).1 (w.0, w.1, (p.cases w.0 w.1 q w.2).1))),
    )

-- a task that is gone keeps the order
pub gone_apart : (m after : Machine) (pid : ℕ) → IsGone m after pid → IsApart m
    → after.runtime pid ≡ None → ((q : ℕ) → q ≢ pid → after.runtime q ≡ m.runtime q)
    → after.nice pid ≡ None → ((q : ℕ) → q ≢ pid → after.nice q ≡ m.nice q) → IsApart after
gone_apart m after pid p a here others nice_here nice_others = record {
  one_place = λ q r s c d h k. a.one_place q r s c d (p.cases r c q h).1 (p.cases s d q k).1;
  one_runs = λ c q w h k. a.one_runs c q w (p.cases Run c q h).1 (p.cases Run c w k).1;
  runtimes = gone_keys m after pid p m.runtime after.runtime here others a.runtimes;
  nices = gone_keys m after pid p m.nice after.nice nice_here nice_others a.nices;
}
