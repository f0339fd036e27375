-- A change of a nice value in the machine is one in the part at the processor where the task stands, and other parts
-- stay.
use Rattle.std.proofs.Common.{◌≡◌, ◌≢◌, ℕ, Option, Some, None, is_some, option_map, ℤ, ◌⊎◌, inl, inr, [], ◌∷◌}
use Rattle.std.proofs.Common.{refl, sym, ap, ◌∙◌, subst}
use Rattle.cfs_model.specs.Machine.{Machine, Stands, with_nice}
use Rattle.cfs_model.specs.Touch.{touched}
use Rattle.cfs_model.specs.Reniced.{home_of, IsReniced}
use Rattle.replay_model.specs.Part.{Part, Entity, place_by, entity_by, entity_at, part_of, place_in}
use Rattle.replay_model.specs.Deeds.{reniced}
use Rattle.replay_model.specs.QueueTests.{IsStrangeNice}
use Rattle.replay_model.specs.StepAt.{deed_at, nice_for, charge_for}
use Rattle.cfs_model.proofs.KeptOrder.{IsApart}
use Rattle.cfs_model.proofs.Moves.{put-same, put-other, same_or_not}
use Rattle.cfs_model.proofs.Renice.{reniced_is}
use Rattle.replay_model.proofs.PartFacts.{same_part, stands_as, values_of, no_place}
use Rattle.cfs_model.specs.declared.act.Act.{Act}
use Rattle.cfs_model.specs.declared.act.Act.TheVariants.{Switch, Wake, Born, Shift}
use Rattle.cfs_model.specs.declared.charge_line.ChargeLine.{ChargeLine}
use Rattle.cfs_model.specs.declared.nice_line.NiceLine.{NiceLine}
use Rattle.cfs_model.specs.declared.task.Place.{Place}
use Rattle.cfs_model.specs.declared.task.Place.TheVariants.{Run, Wait, Rest}
use Rattle.cfs_model.specs.declared.policy.Policy.{Policy}

-- a task with another nice value
abbrev pub with_new : ℤ → Entity → Entity
with_new nice s = record s { nice = nice }

-- what a change of a nice value leaves of a task, it leaves of each
kept : {A : Type 0} (f : Option Entity → A)
    → ((nice : ℤ) (o : Option Entity) → f (option_map (with_new nice) o) ≡ f o) → (change : Option NiceLine)
    → (part : Part) (pid : ℕ) → f ((reniced change part).tasks pid) ≡ f (part.tasks pid)
kept f h None part pid = refl
kept f h (Some change) part pid = go (same_or_not pid change.pid)
  where
    go : (pid ≡ change.pid) ⊎ (pid ≢ change.pid) → f ((reniced (Some change) part).tasks pid) ≡ f (part.tasks pid)
    go (inl e) = ap (λ q. f ((reniced (Some change) part).tasks q)) e
        ∙ ap f (put-same part.tasks change.pid (option_map (with_new change.nice) (part.tasks change.pid)))
        ∙ h change.nice (part.tasks change.pid) ∙ ap (λ q. f (part.tasks q)) (sym e)
    go (inr ne) = ap f (put-other part.tasks change.pid (option_map (with_new change.nice) (part.tasks change.pid)) pid
        ne)

-- who stands where stays
pub reniced_in : (change : Option NiceLine) (part : Part) (pid : ℕ)
    → place_in (reniced change part) pid ≡ place_in part pid
reniced_in change part pid = kept (option_map (λ (s : Entity). s.place)) go change part pid
  where
    go : (nice : ℤ) (o : Option Entity)
        → option_map (λ (s : Entity). s.place) (option_map (with_new nice) o) ≡ option_map (λ (s : Entity). s.place) o
    go nice None = refl
    go nice (Some s) = refl

pub reniced_drift : (change : Option NiceLine) (part : Part) (pid : ℕ)
    → option_map (λ (s : Entity). s.drift) ((reniced change part).tasks pid)
    ≡ option_map (λ (s : Entity). s.drift) (part.tasks pid)
reniced_drift change part pid = kept (option_map (λ (s : Entity). s.drift)) go change part pid
  where
    go : (nice : ℤ) (o : Option Entity)
        → option_map (λ (s : Entity). s.drift) (option_map (with_new nice) o) ≡ option_map (λ (s : Entity). s.drift) o
    go nice None = refl
    go nice (Some s) = refl

pub reniced_some : (change : Option NiceLine) (part : Part) (pid : ℕ)
    → is_some ((reniced change part).tasks pid) ≡ is_some (part.tasks pid)
reniced_some change part pid = kept is_some go change part pid
  where
    go : (nice : ℤ) (o : Option Entity) → is_some (option_map (with_new nice) o) ≡ is_some o
    go nice None = refl
    go nice (Some s) = refl

nice_by : (policy : Policy) (drift : ℤ) (place : Option Place) (old nice : ℤ) (v : Option ℤ)
    → entity_by policy drift place (Some nice) v ≡ option_map (with_new nice) (entity_by policy drift place (Some
    old) v)
nice_by policy drift None old nice v = refl
nice_by policy drift (Some place) old nice None = refl
nice_by policy drift (Some place) old nice (Some v) = refl

-- where a pid stands
abbrev place_at : Machine → ℕ → ℕ → Option Place
place_at m cpu pid = place_by (m.running cpu pid) (m.waiting cpu pid) (m.resting cpu pid)

module _ (m : Machine) (a : IsApart m) (cpu pid : ℕ) (nice : ℤ) (place : Place) (h : Stands m place cpu pid) where
  nice_here : entity_at (with_nice m pid nice) cpu pid ≡ option_map (with_new nice) (entity_at m cpu pid)
  nice_here =
      let s = values_of m a place cpu pid h in
      ap (λ n. entity_by (m.policy pid) (m.drift pid) (place_at m cpu pid) n (m.runtime pid))
      (put-same m.nice pid (Some nice))
      ∙ nice_by (m.policy pid) (m.drift pid) (place_at m cpu pid) s.0.nice nice (m.runtime pid)
      ∙ ap (λ n. option_map (with_new nice)
      (entity_by (m.policy pid) (m.drift pid) (place_at m cpu pid) n (m.runtime pid))) (sym s.3.nice)

  nice_other : (d q : ℕ) → q ≢ pid → entity_at (with_nice m pid nice) d q ≡ entity_at m d q
  nice_other d q ne = ap (λ n. entity_by (m.policy q) (m.drift q) (place_at m d q) n (m.runtime q))
      (put-other m.nice pid (Some nice) q ne)

  -- the pid stands at no other processor
  nice_elsewhere : (d : ℕ) → d ≢ cpu → entity_at (with_nice m pid nice) d pid ≡ entity_at m d pid
  nice_elsewhere d ne =
      let none = no_place m d pid (λ other k. ne (a.one_place pid other place d cpu k h).1) in
      ap (λ p. entity_by (m.policy pid) (m.drift pid) p ((with_nice m pid nice).nice pid) (m.runtime pid)) none
      ∙ ap (λ p. entity_by (m.policy pid) (m.drift pid) p (m.nice pid) (m.runtime pid)) (sym none)

-- a change in the machine is one in the part where the task stands, which it does there; no other part changes
pub reniced_here : (m : Machine) → IsApart m → (cpu : ℕ) (change : Option NiceLine) (found : Machine)
    → IsReniced cpu change m found
    → (part_of found cpu ≡ reniced change (part_of m cpu))
    × ((d : ℕ) → d ≢ cpu → part_of found d ≡ part_of m d)
    × ((pid : ℕ) → ¬ IsStrangeNice (part_of found cpu) change pid)
reniced_here m a cpu None found r = (
  ap (λ (x : Machine). part_of x cpu) r,
  (λ d ne. ap (λ (x : Machine). part_of x d) r),
  (λ pid h. h),
)
reniced_here m a cpu (Some change) found r = (
  ap (λ (x : Machine). part_of x cpu) r.1
      ∙ same_part (part_of (with_nice m change.pid change.nice) cpu) (reniced (Some change) (part_of m cpu))
      (λ q. here q (same_or_not q change.pid)) refl refl,
  (λ d ne. ap (λ (x : Machine). part_of x d) r.1
      ∙ same_part (part_of (with_nice m change.pid change.nice) d) (part_of m d)
      (λ q. there d ne q (same_or_not q change.pid)) refl refl),
  (λ pid h. stands (ap (λ (x : Machine). entity_at x cpu change.pid) (sym r.1) ∙ h.0)),
)
  where
    here : (q : ℕ) → (q ≡ change.pid) ⊎ (q ≢ change.pid)
        → entity_at (with_nice m change.pid change.nice) cpu q ≡ (reniced (Some change) (part_of m cpu)).tasks q
    here q (inl e) = ap (entity_at (with_nice m change.pid change.nice) cpu) e
        ∙ nice_here m a cpu change.pid change.nice r.0.0 r.0.1
        ∙ sym (put-same (entity_at m cpu) change.pid (option_map (with_new change.nice) (entity_at m cpu change.pid)))
        ∙ ap (λ p. (reniced (Some change) (part_of m cpu)).tasks p) (sym e)
    here q (inr ne) = nice_other m a cpu change.pid change.nice r.0.0 r.0.1 cpu q ne
        ∙ sym (put-other (entity_at m cpu) change.pid (option_map (with_new change.nice) (entity_at m cpu change.pid)) q
        ne)

    there : (d : ℕ) → d ≢ cpu → (q : ℕ) → (q ≡ change.pid) ⊎ (q ≢ change.pid)
        → entity_at (with_nice m change.pid change.nice) d q ≡ entity_at m d q
    there d ne q (inl e) = ap (entity_at (with_nice m change.pid change.nice) d) e
        ∙ nice_elsewhere m a cpu change.pid change.nice r.0.0 r.0.1 d ne
        ∙ ap (entity_at m d) (sym e)
    there d ne q (inr other) = nice_other m a cpu change.pid change.nice r.0.0 r.0.1 d q other

    stands : entity_at (with_nice m change.pid change.nice) cpu change.pid ≡ None → ⊥
    stands h =
        let s = values_of m a r.0.0 cpu change.pid r.0.1 in
        let e : Some (with_new change.nice s.0) ≡ None =
        sym (nice_here m a cpu change.pid change.nice r.0.0 r.0.1 ∙ ap (option_map (with_new change.nice)) s.2) ∙ h in
        cc

-- a change in the part of a task that stands there is one of the machine
pub renice_exists : (m : Machine) → IsApart m → (cpu : ℕ) (change : Option NiceLine) (part : Part)
    → part ≡ reniced change (part_of m cpu) → ((pid : ℕ) → ¬ IsStrangeNice part change pid)
    → (found : Machine) × IsReniced cpu change m found × (part_of found cpu ≡ part)
    × ((d : ℕ) → d ≢ cpu → part_of found d ≡ part_of m d)
renice_exists m a cpu None part e h = (m, refl, sym e, (λ d ne. refl))
renice_exists m a cpu (Some change) part e h =
    let found = with_nice m change.pid change.nice in
    let r : IsReniced cpu (Some change) m found = (stands (entity_at m cpu change.pid) refl, refl) in
    let n = reniced_here m a cpu (Some change) found r in
    (found, r, n.0 ∙ sym e, n.1)
  where
    stands : (o : Option Entity) → entity_at m cpu change.pid ≡ o → (place : Place) × Stands m place cpu change.pid
    stands None k = absurd (h change.pid (
      ap (λ (p : Part). p.tasks change.pid) e
          ∙ put-same (entity_at m cpu) change.pid (option_map (with_new change.nice) (entity_at m cpu change.pid))
          ∙ ap (option_map (with_new change.nice)) k,
      refl,
    ))
    stands (Some s) k = (s.place, (stands_as m cpu change.pid s k).stands)

-- a change of a nice value leaves everybody where they stand
pub reniced_stands : (cpu : ℕ) (change : Option NiceLine) (m found : Machine) → IsReniced cpu change m found
    → (place : Place) (d pid : ℕ) → Stands m place d pid → Stands found place d pid
reniced_stands cpu change m found r place d pid h =
    subst (λ x. Stands x place d pid) (sym (reniced_is cpu change m found r)) (go place h)
  where
    go : (place : Place) → Stands m place d pid → Stands (record m { nice = found.nice }) place d pid
    go Run h = h
    go Wait h = h
    go Rest h = h

pub reniced_stood : (cpu : ℕ) (change : Option NiceLine) (m found : Machine) → IsReniced cpu change m found
    → (place : Place) (d pid : ℕ) → Stands found place d pid → Stands m place d pid
reniced_stood cpu change m found r place d pid h =
    go place (subst (λ x. Stands x place d pid) (reniced_is cpu change m found r) h)
  where
    go : (place : Place) → Stands (record m { nice = found.nice }) place d pid → Stands m place d pid
    go Run h = h
    go Wait h = h
    go Rest h = h

-- an event that touches one processor changes the nice value of a task there, and the processor's step has the change
-- and the told charge
pub home_is : (act : Act) (cpu : ℕ) → touched act ≡ cpu ∷ [] → home_of act ≡ cpu
home_is (Switch here prev pn way next nn) cpu t = cc
home_is (Wake here pid nice) cpu t = cc
home_is (Born here pid nice) cpu t = cc
home_is (Shift orig dest pid nice) cpu t = absurd cc

pub nice_is : (act : Act) (policy : Policy) (cpu : ℕ) (change : Option NiceLine) → touched act ≡ cpu ∷ []
    → nice_for (deed_at cpu policy act) change ≡ change
nice_is (Switch here prev pn way next nn) policy cpu change t = refl
nice_is (Wake here pid nice) policy cpu change t = refl
nice_is (Born here pid nice) policy cpu change t = refl
nice_is (Shift orig dest pid nice) policy cpu change t = absurd cc

pub charge_is : (act : Act) (policy : Policy) (cpu : ℕ) (charge : Option ChargeLine) → touched act ≡ cpu ∷ []
    → charge_for (deed_at cpu policy act) charge ≡ charge
charge_is (Switch here prev pn way next nn) policy cpu charge t = refl
charge_is (Wake here pid nice) policy cpu charge t = refl
charge_is (Born here pid nice) policy cpu charge t = refl
charge_is (Shift orig dest pid nice) policy cpu charge t = absurd cc
