-- What a task that is placed anew, or is gone, does to each processor's part.
use Rattle.std.proofs.Common.{◌≡◌, ◌≢◌, ℕ, Bool, true, false, Option, Some, None, option_map, ℤ, ◌⊎◌, inl, inr, refl}
use Rattle.std.proofs.Common.{sym, ap, ◌∙◌}
use Rattle.cfs_model.specs.Machine.{Machine, Stands, put}
use Rattle.replay_model.specs.Part.{Entity, place_by, entity_by, entity_at, part_of}
use Rattle.replay_model.specs.Deeds.{with_entity, goes}
use Rattle.cfs_model.proofs.KeptOrder.{IsApart}
use Rattle.cfs_model.proofs.Moves.{put-same, put-other, same_or_not, IsPutAt, IsGone}
use Rattle.replay_model.proofs.PartFacts.{same_part, stander_at, values_of, no_stander}
use Rattle.cfs_model.specs.declared.task.Place.{Place}
use Rattle.cfs_model.specs.declared.task.Place.TheVariants.{Run, Wait, Rest}
use Rattle.cfs_model.specs.declared.policy.Policy.{Policy}

same_truth : (b c : Bool) → (b ≡ true → c ≡ true) → (c ≡ true → b ≡ true) → b ≡ c
same_truth true c f g = sym (f refl)
same_truth false true f g = g refl
same_truth false false f g = refl

-- a pid that stands in the same places with the same values is the same task
same_stander : (m after : Machine) (d q : ℕ) → ((r : Place) → Stands m r d q → Stands after r d q)
    → ((r : Place) → Stands after r d q → Stands m r d q)
    → after.policy q ≡ m.policy q → after.drift q ≡ m.drift q → after.nice q ≡ m.nice q → after.runtime q ≡ m.runtime q
    → entity_at after d q ≡ entity_at m d q
same_stander m after d q up down i j e f =
    let r : after.running d q ≡ m.running d q = same_truth _ _ (down Run) (up Run) in
    let w : after.waiting d q ≡ m.waiting d q = same_truth _ _ (down Wait) (up Wait) in
    let s : after.resting d q ≡ m.resting d q = same_truth _ _ (down Rest) (up Rest) in
    let at = place_by (m.running d q) (m.waiting d q) (m.resting d q) in
    ap (λ x. entity_by x (after.drift q) (place_by (after.running d q) (after.waiting d q) (after.resting d q))
    (after.nice q) (after.runtime q)) i
    ∙ ap (λ x. entity_by (m.policy q) x (place_by (after.running d q) (after.waiting d q) (after.resting d q))
    (after.nice q) (after.runtime q)) j
    ∙ ap (λ x. entity_by (m.policy q) (m.drift q) (place_by x (after.waiting d q) (after.resting d q)) (after.nice q)
    (after.runtime q)) r
    ∙ ap (λ x. entity_by (m.policy q) (m.drift q) (place_by (m.running d q) x (after.resting d q)) (after.nice q)
    (after.runtime q)) w
    ∙ ap (λ x. entity_by (m.policy q) (m.drift q) (place_by (m.running d q) (m.waiting d q) x) (after.nice q)
    (after.runtime q)) s
    ∙ ap (λ x. entity_by (m.policy q) (m.drift q) at x (after.runtime q)) e
    ∙ ap (λ x. entity_by (m.policy q) (m.drift q) at (m.nice q) x) f

-- tasks that agree with a map with one pid changed, at that pid and elsewhere
pub put_tasks : (f g : ℕ → Option Entity) (pid : ℕ) (o : Option Entity) → g pid ≡ o → ((q : ℕ) → q ≢ pid → g q ≡ f q)
    → (q : ℕ) → g q ≡ put f pid o q
put_tasks f g pid o here others q = go (same_or_not q pid)
  where
    go : (q ≡ pid) ⊎ (q ≢ pid) → g q ≡ put f pid o q
    go (inl e) = ap g e ∙ here ∙ sym (put-same f pid o) ∙ ap (put f pid o) (sym e)
    go (inr ne) = others q ne ∙ sym (put-other f pid o q ne)

-- what else a change leaves as it was
pub record KeepsRest (m after : Machine) (pid : ℕ) : Type 0 where
  pub runtimes : (q : ℕ) → q ≢ pid → after.runtime q ≡ m.runtime q
  pub nices : (q : ℕ) → q ≢ pid → after.nice q ≡ m.nice q
  pub policies : (q : ℕ) → q ≢ pid → after.policy q ≡ m.policy q
  pub drifts : (q : ℕ) → q ≢ pid → after.drift q ≡ m.drift q
  pub floors : after.floor ≡ m.floor
  pub marks : after.mark ≡ m.mark

-- the part to which a task comes
pub placed_part : (m after : Machine) (pid : ℕ) (to : Place) (dest : ℕ) (nice : ℤ) (policy : Policy) (v drift : ℤ)
    → IsPutAt m after pid to dest → KeepsRest m after pid
    → after.nice pid ≡ Some nice → after.policy pid ≡ policy → after.runtime pid ≡ Some v → after.drift pid ≡ drift
    → part_of after dest
    ≡ with_entity (part_of m dest) pid
    (Some (record { place = to; nice = nice; policy = policy; runtime = v; drift = drift }))
placed_part m after pid to dest nice policy v drift p k e i f j =
    let s : Option Entity = Some (record { place = to; nice = nice; policy = policy; runtime = v; drift = drift }) in
    same_part (part_of after dest) (with_entity (part_of m dest) pid s)
    (put_tasks (entity_at m dest) (entity_at after dest) pid s
    (stander_at after to dest pid nice v p.itself
    (λ r h. elim (p.cases r dest pid h) [ inl x ↦ x.1 | inr x ↦ absurd (x.0 refl) ]) e f
    ∙ ap (λ x. Some (record { place = to; nice = nice; policy = x; runtime = v; drift = after.drift pid })) i
    ∙ ap (λ x. Some (record { place = to; nice = nice; policy = policy; runtime = v; drift = x })) j)
    (λ q ne. same_stander m after dest q (λ r h. p.kept r dest q ne h)
    (λ r h. elim (p.cases r dest q h) [ inl x ↦ absurd (ne x.0) | inr x ↦ x.1 ])
    (k.policies q ne) (k.drifts q ne) (k.nices q ne) (k.runtimes q ne)))
    (ap (λ f. f dest) k.floors) (ap (λ f. f dest) k.marks)

-- any other part: the task isn't there
pub placed_away : (m after : Machine) (pid : ℕ) (to : Place) (dest : ℕ) → IsPutAt m after pid to dest
    → KeepsRest m after pid
    → (d : ℕ) → d ≢ dest → part_of after d ≡ with_entity (part_of m d) pid None
placed_away m after pid to dest p k d ne =
    same_part (part_of after d) (with_entity (part_of m d) pid None)
    (put_tasks (entity_at m d) (entity_at after d) pid None
    (no_stander after d pid (λ r h. elim (p.cases r d pid h) [ inl x ↦ ne x.2 | inr x ↦ x.0 refl ]))
    (λ q other. same_stander m after d q (λ r h. p.kept r d q other h)
    (λ r h. elim (p.cases r d q h) [ inl x ↦ absurd (other x.0) | inr x ↦ x.1 ])
    (k.policies q other) (k.drifts q other) (k.nices q other) (k.runtimes q other)))
    (ap (λ f. f d) k.floors) (ap (λ f. f d) k.marks)

-- every part after an end: the task isn't there
pub gone_part : (m after : Machine) (pid : ℕ) → IsGone m after pid → KeepsRest m after pid → (d : ℕ)
    → part_of after d ≡ with_entity (part_of m d) pid None
gone_part m after pid p k d =
    same_part (part_of after d) (with_entity (part_of m d) pid None)
    (put_tasks (entity_at m d) (entity_at after d) pid None
    (no_stander after d pid (λ r h. (p.cases r d pid h).0 refl))
    (λ q other. same_stander m after d q (λ r h. p.kept r d q other h) (λ r h. (p.cases r d q h).1)
    (k.policies q other) (k.drifts q other) (k.nices q other) (k.runtimes q other)))
    (ap (λ f. f d) k.floors) (ap (λ f. f d) k.marks)

-- to take out who isn't there changes nothing
pub none_there : (m : Machine) (d pid : ℕ) → ((r : Place) → ¬ Stands m r d pid)
    → with_entity (part_of m d) pid None ≡ part_of m d
none_there m d pid h =
    sym (same_part (part_of m d) (with_entity (part_of m d) pid None)
    (put_tasks (entity_at m d) (entity_at m d) pid None (no_stander m d pid h) (λ q ne. refl)) refl refl)

-- who stands at one processor stands at no other
pub elsewhere : (m : Machine) → IsApart m → (place : Place) (cpu pid : ℕ) → Stands m place cpu pid → (d : ℕ) → d ≢ cpu
    → (r : Place) → ¬ Stands m r d pid
elsewhere m a place cpu pid h d ne r k = ne (a.one_place pid r place d cpu k h).1

-- a task that goes to another place at its processor
pub goes_here : (m after : Machine) → IsApart m → (place : Place) (cpu pid : ℕ) (to : Place) → Stands m place cpu pid
    → IsPutAt m after pid to cpu
    → after.runtime ≡ m.runtime → after.nice ≡ m.nice → after.policy ≡ m.policy → after.drift ≡ m.drift
    → after.floor ≡ m.floor → after.mark ≡ m.mark
    → (part_of after cpu ≡ goes (part_of m cpu) pid to) × ((d : ℕ) → d ≢ cpu → part_of after d ≡ part_of m d)
goes_here m after a place cpu pid to h p e f i j g k =
    let keeps : KeepsRest m after pid = record {
      runtimes = λ q _. ap (λ f. f q) e;
      nices = λ q _. ap (λ g. g q) f;
      policies = λ q _. ap (λ h. h q) i;
      drifts = λ q _. ap (λ h. h q) j;
      floors = g;
      marks = k;
    } in
    let s = values_of m a place cpu pid h in (
      placed_part m after pid to cpu s.0.nice s.0.policy s.0.runtime s.0.drift p keeps (ap (λ g. g pid) f ∙ s.3.nice)
          (ap (λ h. h pid) i ∙ s.3.policy) (ap (λ g. g pid) e ∙ s.3.runtime) (ap (λ h. h pid) j ∙ s.3.drift)
          ∙ ap (with_entity (part_of m cpu) pid)
          (sym (ap (option_map (λ (t : Entity). record t { place = to })) s.2)),
      (λ d ne. placed_away m after pid to cpu p keeps d ne ∙ none_there m d pid (elsewhere m a place cpu pid h d ne)),
    )
