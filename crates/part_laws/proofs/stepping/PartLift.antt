-- The charge, exact or as told, and the lift of a machine at a processor are those of the processor's part, and other
-- parts stay.
use Rattle.std.proofs.Common.{◌≡◌, ◌≢◌, ℕ, ◌<◌, ◌≤◌, Bool, true, false, cond, Option, Some, None, option_map}
use Rattle.std.proofs.Common.{option_and_then, ℤ, pos, ◌+ℤ◌, ◌≤ℤ◌, ◌<ℤ◌, ◌⊎◌, inl, inr, refl, sym, ap, ◌∙◌, subst}
use Rattle.std.proofs.Common.{arith}
use Rattle.std.proofs.lemmas.Bool.{cases_lt}
use Rattle.std.proofs.lemmas.Int.{ints, by_lt_z}
use Rattle.cfs_model.specs.Charge.{greatest}
use Rattle.cfs_model.specs.Machine.{Machine, Stands, IsQueued, put, with_floor, with_runtime, with_drift}
use Rattle.cfs_model.specs.Told.{drift_after, IsWithin, IsTold, ChargesAs}
use Rattle.cfs_model.specs.Lifted.{cost_at, charged, charged_runtime, CanCharge, IsRaised, IsLiftedAt}
use Rattle.replay_model.specs.Part.{Part, Entity, place_by, entity_by, entity_at, part_of, cost_in, runtime_after}
use Rattle.replay_model.specs.Part.{charged_in, charged_part, told_in, told_part, IsQueuedHere, IsRaisedHere}
use Rattle.replay_model.specs.Part.{IsLiftedPart}
use Rattle.replay_model.specs.QueueTests.{IsOutOfRange, IsWrongCharge}
use Rattle.cfs_model.proofs.KeptOrder.{IsApart, told_apart}
use Rattle.cfs_model.proofs.Moves.{put-same, put-other, same_or_not}
use Rattle.replay_model.proofs.Clear.{is_told}
use Rattle.replay_model.proofs.Options.{same_some}
use Rattle.replay_model.proofs.PartFacts.{same_part, StandsAs, stands_as, is_stander, values_of, no_place}
use Rattle.cfs_model.specs.declared.charge_line.ChargeLine.{ChargeLine}
use Rattle.cfs_model.specs.declared.task.Place.{Place}
use Rattle.cfs_model.specs.declared.task.Place.TheVariants.{Run, Wait, Rest}
use Rattle.cfs_model.specs.declared.policy.Policy.{Policy}

-- a task after the charge, by its marks and its values
charged_place : (r w s : Bool) (policy : Policy) (drift : ℤ) (n v : Option ℤ) (cost : ℤ → Policy → ℕ)
    → entity_by policy drift (place_by r w s) n
    (cond r (option_and_then (λ nice. option_map (λ u. u +ℤ pos (cost nice policy)) v) n) v)
    ≡ option_map (λ (t : Entity). record t { runtime = runtime_after t.place (cost t.nice t.policy) t.runtime })
    (entity_by policy drift (place_by r w s) n v)
charged_place true w s policy drift None v cost = refl
charged_place true w s policy drift (Some n) None cost = refl
charged_place true w s policy drift (Some n) (Some v) cost = refl
charged_place false true s policy drift None v cost = refl
charged_place false true s policy drift (Some n) None cost = refl
charged_place false true s policy drift (Some n) (Some v) cost = refl
charged_place false false true policy drift None v cost = refl
charged_place false false true policy drift (Some n) None cost = refl
charged_place false false true policy drift (Some n) (Some v) cost = refl
charged_place false false false policy drift n v cost = refl

pub charged_here : (m : Machine) (cpu time pid : ℕ)
    → entity_at (charged m cpu time) cpu pid ≡ option_map (charged_in (part_of m cpu) time) (entity_at m cpu pid)
charged_here m cpu time pid = charged_place (m.running cpu pid) (m.waiting cpu pid) (m.resting cpu pid)
    (m.policy pid) (m.drift pid) (m.nice pid) (m.runtime pid) (cost_at m cpu time)

-- a task elsewhere isn't charged
kept_by : (b : Bool) (policy : Policy) (drift : ℤ) (place : Option Place) (n x v : Option ℤ) → (b ≡ true → place ≡ None)
    → entity_by policy drift place n (cond b x v) ≡ entity_by policy drift place n v
kept_by true policy drift place n x v h = ap (λ p. entity_by policy drift p n x) (h refl)
    ∙ ap (λ p. entity_by policy drift p n v) (sym (h refl))
kept_by false policy drift place n x v h = refl

charged_away : (m : Machine) → IsApart m → (cpu time d : ℕ) → d ≢ cpu → (pid : ℕ)
    → entity_at (charged m cpu time) d pid ≡ entity_at m d pid
charged_away m a cpu time d ne pid =
    kept_by (m.running cpu pid) (m.policy pid) (m.drift pid)
    (place_by (m.running d pid) (m.waiting d pid) (m.resting d pid))
    (m.nice pid) (charged_runtime m cpu time pid) (m.runtime pid)
    (λ h. no_place m d pid (λ place k. ne (a.one_place pid place Run d cpu k h).1))

-- every task that stands at the processor has values
abbrev HaveValues : Machine → ℕ → Type 0
HaveValues m cpu = (place : Place) (pid : ℕ) → Stands m place cpu pid
    → (s : Entity) × (s.place ≡ place) × (entity_at m cpu pid ≡ Some s) × StandsAs m cpu pid s

queued_of : (m : Machine) (cpu pid : ℕ) (place : Place) → place ≢ Rest → Stands m place cpu pid → IsQueued m cpu pid
queued_of m cpu pid Run ne h = inl h
queued_of m cpu pid Wait ne h = inr h
queued_of m cpu pid Rest ne h = absurd (ne refl)

queued_here : (m : Machine) (cpu : ℕ) → HaveValues m cpu → (pid : ℕ) → IsQueued m cpu pid
    → (s : Entity) × IsQueuedHere s × (entity_at m cpu pid ≡ Some s) × StandsAs m cpu pid s
queued_here m cpu g pid (inl h) = let s = g Run pid h in (s.0, (λ e. let k : Run ≡ Rest = sym s.1 ∙ e in cc), s.2, s.3)
queued_here m cpu g pid (inr h) = let s = g Wait pid h in
    (s.0, (λ e. let k : Wait ≡ Rest = sym s.1 ∙ e in cc), s.2, s.3)

some_same : (u v : ℤ) → Some u ≡ Some v → u ≡ v
some_same u v e = cc

-- the floor is raised in the machine just where it is in the part
raised_here : (m : Machine) (cpu : ℕ) (f : ℤ) → HaveValues m cpu → IsRaised m cpu f → IsRaisedHere (part_of m cpu) f
raised_here m cpu f g (inl h) = inl (
  (λ pid s e q. let t = stands_as m cpu pid s e in h.0 pid (queued_of m cpu pid s.place q t.stands)),
  h.1,
)
raised_here m cpu f g (inr h) =
    let l = h.1 in
    let s = queued_here m cpu g l.pid l.queued in
    inr (
      h.0,
      record {
        pid = l.pid;
        task = s.0;
        stands = s.2;
        queued = s.1;
        runtime = some_same s.0.runtime h.0 (sym s.3.runtime ∙ l.runtime);
        least = λ other t e q. let k = stands_as m cpu other t e in l.least other t.runtime
            (queued_of m cpu other t.place q k.stands) k.runtime;
      },
      h.2,
    )

raised_in : (m : Machine) (cpu : ℕ) (f : ℤ) → HaveValues m cpu → IsRaisedHere (part_of m cpu) f → IsRaised m cpu f
raised_in m cpu f g (inl h) = inl ((λ pid q. let s = queued_here m cpu g pid q in h.0 pid s.0 s.2 s.1), h.1)
raised_in m cpu f g (inr h) =
    let l = h.1 in
    let k = stands_as m cpu l.pid l.task l.stands in
    inr (
      h.0,
      record {
        pid = l.pid;
        queued = queued_of m cpu l.pid l.task.place l.queued k.stands;
        runtime = k.runtime ∙ ap Some l.runtime;
        least = λ other w q e.
            let s = queued_here m cpu g other q in
            subst (λ x. h.0 ≤ℤ x) (some_same s.0.runtime w (sym s.3.runtime ∙ e)) (l.least other s.0 s.2 s.1);
      },
      h.2,
    )

-- who runs can be charged just where no pid is out of range
can_charge : (m : Machine) → IsApart m → (cpu time : ℕ) → ((pid : ℕ) → ¬ IsOutOfRange (part_of m cpu) time pid)
    → CanCharge m cpu time
can_charge m a cpu time h pid nice v r e f =
    let s : Entity = record { place = Run; nice = nice; policy = m.policy pid; runtime = v; drift = m.drift pid } in
    let here = is_stander m a Run cpu pid nice v r e f in
    let cost : ℕ = cost_at m cpu time nice (m.policy pid) in (
      elim (cases_lt greatest cost)
          [ inl k ↦ absurd (h pid (record { task = s; stands = here; runs = refl; above = inl k })) | inr k ↦ k ],
      by_lt_z (pos greatest) (v +ℤ pos cost)
          (λ k. absurd (h pid (record { task = s; stands = here; runs = refl; above = inr k }))) (λ k. k),
    )

not_out : (m : Machine) (cpu time : ℕ) → CanCharge m cpu time → (pid : ℕ) → ¬ IsOutOfRange (part_of m cpu) time pid
not_out m cpu time can pid o =
    let k = stands_as m cpu pid o.task o.stands in
    let c = subst (λ x. (cost_at m cpu time o.task.nice x ≤ greatest)
    × ((o.task.runtime +ℤ pos (cost_at m cpu time o.task.nice x)) ≤ℤ pos greatest)) k.policy
    (can pid o.task.nice o.task.runtime (subst (λ x. Stands m x cpu pid) o.runs k.stands) k.nice k.runtime) in
    elim o.above [
      | inl h ↦ above_not
          (cost_in (part_of m cpu) time o.task) greatest c.0 h
      | inr h ↦ above_not_z _ _ c.1 h
    ]
  where
    above_not : (x y : ℕ) → x ≤ y → y < x → ⊥
    above_not x y h k = omega arith

    above_not_z : (x y : ℤ) → x ≤ℤ y → y <ℤ x → ⊥
    above_not_z x y h k = omega (arith, ints)

-- a task that is told to have a virtual runtime
told_by : (policy : Policy) (place : Option Place) (nice : Option ℤ) (drift told exact : ℤ)
    → entity_by policy (drift_after drift told exact) place nice (Some told)
    ≡ option_map (told_in told) (entity_by policy drift place nice (Some exact))
told_by policy None nice drift told exact = refl
told_by policy (Some place) None drift told exact = refl
told_by policy (Some place) (Some nice) drift told exact = refl

-- where a pid stands
abbrev place_at : Machine → ℕ → ℕ → Option Place
place_at m cpu pid = place_by (m.running cpu pid) (m.waiting cpu pid) (m.resting cpu pid)

module _ (m : Machine) (a : IsApart m) (bound time : ℕ) (charge : ChargeLine) (cpu : ℕ)
    (t : IsTold bound charge cpu m (charged m cpu time)) where
  abbrev exactly : Machine
  exactly = charged m cpu time

  abbrev drift : ℤ
  drift = drift_after (m.drift charge.pid) charge.v t.exact

  abbrev told : Machine
  told = with_drift (with_runtime exactly charge.pid charge.v) charge.pid drift

  -- the task of which it is told
  told_itself : entity_at told cpu charge.pid ≡ option_map (told_in charge.v) (entity_at exactly cpu charge.pid)
  told_itself =
      ap (λ v. entity_by (m.policy charge.pid) (put m.drift charge.pid drift charge.pid) (place_at m cpu charge.pid)
      (m.nice charge.pid) v) (put-same exactly.runtime charge.pid (Some charge.v))
      ∙ ap (λ d. entity_by (m.policy charge.pid) d (place_at m cpu charge.pid) (m.nice charge.pid) (Some charge.v))
      (put-same m.drift charge.pid drift)
      ∙ told_by (m.policy charge.pid) (place_at m cpu charge.pid) (m.nice charge.pid) (m.drift charge.pid) charge.v
      t.exact
      ∙ ap (λ v. option_map (told_in charge.v)
      (entity_by (m.policy charge.pid) (m.drift charge.pid) (place_at m cpu charge.pid) (m.nice charge.pid) v))
      (sym t.charged)

  -- any other, at any processor
  told_other : (d q : ℕ) → q ≢ charge.pid → entity_at told d q ≡ entity_at exactly d q
  told_other d q ne =
      ap (λ v. entity_by (m.policy q) (put m.drift charge.pid drift q) (place_at m d q) (m.nice q) v)
      (put-other exactly.runtime charge.pid (Some charge.v) q ne)
      ∙ ap (λ x. entity_by (m.policy q) x (place_at m d q) (m.nice q) (exactly.runtime q))
      (put-other m.drift charge.pid drift q ne)

  -- the task of which it is told stands at no other processor
  told_away : (d : ℕ) → d ≢ cpu → entity_at told d charge.pid ≡ entity_at exactly d charge.pid
  told_away d ne =
      let none = no_place m d charge.pid (λ other k. ne (a.one_place charge.pid other Run d cpu k t.runs).1) in
      ap (λ p. entity_by (m.policy charge.pid) (told.drift charge.pid) p (m.nice charge.pid) (told.runtime charge.pid))
      none
      ∙ ap (λ p. entity_by (m.policy charge.pid) (m.drift charge.pid) p (m.nice charge.pid) (exactly.runtime
      charge.pid))
      (sym none)

  told_here : (q : ℕ) → (q ≡ charge.pid) ⊎ (q ≢ charge.pid)
      → entity_at told cpu q ≡ (told_part (Some charge) (charged_part (part_of m cpu) time)).tasks q
  told_here q (inl e) =
      ap (entity_at told cpu) e ∙ told_itself
      ∙ ap (option_map (told_in charge.v)) (charged_here m cpu time charge.pid)
      ∙ sym (put-same (charged_part (part_of m cpu) time).tasks charge.pid
      (option_map (told_in charge.v) ((charged_part (part_of m cpu) time).tasks charge.pid)))
      ∙ ap (λ p. (told_part (Some charge) (charged_part (part_of m cpu) time)).tasks p) (sym e)
  told_here q (inr ne) =
      told_other cpu q ne ∙ charged_here m cpu time q
      ∙ sym (put-other (charged_part (part_of m cpu) time).tasks charge.pid
      (option_map (told_in charge.v) ((charged_part (part_of m cpu) time).tasks charge.pid)) q ne)

  told_there : (d : ℕ) → d ≢ cpu → (q : ℕ) → (q ≡ charge.pid) ⊎ (q ≢ charge.pid)
      → entity_at told d q ≡ entity_at m d q
  told_there d ne q (inl e) = ap (entity_at told d) e ∙ told_away d ne ∙ ap (entity_at exactly d) (sym e)
      ∙ charged_away m a cpu time d ne q
  told_there d ne q (inr other) = told_other d q other ∙ charged_away m a cpu time d ne q

-- a charge in the machine, exact or as told, is one in the part, and other parts stay
charge_parts : (m : Machine) → IsApart m → (bound time : ℕ) (charge : Option ChargeLine) (cpu : ℕ) (told : Machine)
    → ChargesAs bound charge cpu m (charged m cpu time) told
    → (part_of told cpu ≡ told_part charge (charged_part (part_of m cpu) time))
    × ((d : ℕ) → d ≢ cpu → part_of told d ≡ part_of m d)
charge_parts m a bound time None cpu told c = (
  ap (λ (x : Machine). part_of x cpu) c
      ∙ same_part (part_of (charged m cpu time) cpu) (charged_part (part_of m cpu) time)
      (charged_here m cpu time) refl (put-same m.mark cpu time),
  (λ d ne. ap (λ (x : Machine). part_of x d) c
      ∙ same_part (part_of (charged m cpu time) d) (part_of m d) (charged_away m a cpu time d ne) refl
      (put-other m.mark cpu time d ne)),
)
charge_parts m a bound time (Some charge) cpu after c = (
  ap (λ (x : Machine). part_of x cpu) c.1
      ∙ same_part (part_of (told m a bound time charge cpu c.0) cpu)
      (told_part (Some charge) (charged_part (part_of m cpu) time))
      (λ q. told_here m a bound time charge cpu c.0 q (same_or_not q charge.pid)) refl (put-same m.mark cpu time),
  (λ d ne. ap (λ (x : Machine). part_of x d) c.1
      ∙ same_part (part_of (told m a bound time charge cpu c.0) d) (part_of m d)
      (λ q. told_there m a bound time charge cpu c.0 d ne q (same_or_not q charge.pid)) refl
      (put-other m.mark cpu time d ne)),
)

-- a charge that is told in the machine is right in the part
told_right : (m : Machine) → IsApart m → (bound time : ℕ) (charge : Option ChargeLine) (cpu : ℕ) (told : Machine)
    → ChargesAs bound charge cpu m (charged m cpu time) told
    → (pid : ℕ) → ¬ IsWrongCharge bound (part_of m cpu) time charge pid
told_right m a bound time None cpu told c pid h = h
told_right m a bound time (Some charge) cpu told c pid h =
    let s = values_of m a Run cpu charge.pid c.0.runs in
    let here : charge_of_run s.0 ≡ Some c.0.exact =
    sym (exact_here s.0 s.1 s.2) ∙ c.0.charged in
    h.0 (record {
      task = s.0;
      stands = s.2;
      runs = s.1;
      rises = subst (λ v. v ≤ℤ charge.v) (same_some (m.runtime charge.pid) c.0.own s.0.runtime c.0.runtime s.3.runtime)
          c.0.rises;
      within = subst (λ x. IsWithin bound (drift_after x charge.v (s.0.runtime +ℤ pos (cost_in (part_of m cpu) time
          s.0))))
          s.3.drift
          (subst (λ x. IsWithin bound (drift_after (m.drift charge.pid) charge.v x))
          (some_same c.0.exact (s.0.runtime +ℤ pos (cost_in (part_of m cpu) time s.0)) (sym here)) c.0.within);
    })
  where
    charge_of_run : Entity → Option ℤ
    charge_of_run s = Some (s.runtime +ℤ pos (cost_in (part_of m cpu) time s))

    exact_here : (s : Entity) → s.place ≡ Run → entity_at m cpu charge.pid ≡ Some s
        → (charged m cpu time).runtime charge.pid ≡ charge_of_run s
    exact_here s runs e =
        (stands_as (charged m cpu time) cpu charge.pid (charged_in (part_of m cpu) time s)
        (charged_here m cpu time charge.pid ∙ ap (option_map (charged_in (part_of m cpu) time)) e)).runtime
        ∙ ap (λ place. Some (runtime_after place (cost_in (part_of m cpu) time s) s.runtime)) runs

-- and one that isn't wrong in the part can be told in the machine
charge_exists : (m : Machine) → IsApart m → (bound time : ℕ) (charge : Option ChargeLine) (cpu : ℕ)
    → ((pid : ℕ) → ¬ IsWrongCharge bound (part_of m cpu) time charge pid)
    → (told : Machine) × ChargesAs bound charge cpu m (charged m cpu time) told
charge_exists m a bound time None cpu h = (charged m cpu time, refl)
charge_exists m a bound time (Some charge) cpu h =
    let t = is_told bound (part_of m cpu) time charge h in
    let k = stands_as m cpu charge.pid t.task t.stands in
    let exact : ℤ = t.task.runtime +ℤ pos (cost_in (part_of m cpu) time t.task) in
    let runs : Stands m Run cpu charge.pid = subst (λ x. Stands m x cpu charge.pid) t.runs k.stands in
    let here = stands_as (charged m cpu time) cpu charge.pid (charged_in (part_of m cpu) time t.task)
    (charged_here m cpu time charge.pid ∙ ap (option_map (charged_in (part_of m cpu) time)) t.stands) in
    let is : IsTold bound charge cpu m (charged m cpu time) = record {
      runs = runs;
      own = t.task.runtime;
      runtime = k.runtime;
      rises = t.rises;
      exact = exact;
      charged = here.runtime
          ∙ ap (λ place. Some (runtime_after place (cost_in (part_of m cpu) time t.task) t.task.runtime)) t.runs;
      within = subst (λ x. IsWithin bound (drift_after x charge.v exact)) (sym k.drift) t.within;
    } in
    (told m a bound time charge cpu is, (is, refl))

-- every task of a machine in order has values
have_values : (m : Machine) → IsApart m → (cpu : ℕ) → HaveValues m cpu
have_values m a cpu place pid h = values_of m a place cpu pid h

floor_here : (m : Machine) (cpu : ℕ) (f : ℤ) → part_of (with_floor m cpu f) cpu ≡ record (part_of m cpu) { floor = f }
floor_here m cpu f = same_part (part_of (with_floor m cpu f) cpu) (record (part_of m cpu) { floor = f }) (λ pid. refl)
    (put-same m.floor cpu f) refl

floor_away : (m : Machine) (cpu : ℕ) (f : ℤ) (d : ℕ) → d ≢ cpu → part_of (with_floor m cpu f) d ≡ part_of m d
floor_away m cpu f d ne = same_part (part_of (with_floor m cpu f) d) (part_of m d) (λ pid. refl)
    (put-other m.floor cpu f d ne) refl

-- a lift of the machine is one of the part
pub lifted_here : (m : Machine) → IsApart m → (bound time : ℕ) (charge : Option ChargeLine) (cpu : ℕ) (after : Machine)
    → IsLiftedAt bound time charge cpu m after
    → ((pid : ℕ) → ¬ IsOutOfRange (part_of m cpu) time pid)
    × IsLiftedPart time charge (part_of m cpu) (part_of after cpu)
    × ((d : ℕ) → d ≢ cpu → part_of after d ≡ part_of m d)
    × ((pid : ℕ) → ¬ IsWrongCharge bound (part_of m cpu) time charge pid)
lifted_here m a bound time charge cpu after l =
    let p = charge_parts m a bound time charge cpu l.told l.charges in (
      not_out m cpu time l.can_charge,
      record {
        floor = l.floor;
        raised = subst (λ p. IsRaisedHere p l.floor) p.0
            (raised_here l.told cpu l.floor
            (have_values l.told (told_apart bound time charge cpu m l.told l.charges a) cpu) l.raised);
        result = ap (λ x. part_of x cpu) l.result ∙ floor_here l.told cpu l.floor
            ∙ ap (λ (x : Part). record x { floor = l.floor }) p.0;
      },
      (λ d ne. ap (λ x. part_of x d) l.result ∙ floor_away l.told cpu l.floor d ne ∙ p.1 d ne),
      told_right m a bound time charge cpu l.told l.charges,
    )

-- a lift of the part is one of the machine
pub lift_exists : (m : Machine) → IsApart m → (bound time : ℕ) (charge : Option ChargeLine) (cpu : ℕ) (p : Part)
    → ((pid : ℕ) → ¬ IsOutOfRange (part_of m cpu) time pid)
    → ((pid : ℕ) → ¬ IsWrongCharge bound (part_of m cpu) time charge pid)
    → IsLiftedPart time charge (part_of m cpu) p
    → (after : Machine) × IsLiftedAt bound time charge cpu m after × (part_of after cpu ≡ p)
    × ((d : ℕ) → d ≢ cpu → part_of after d ≡ part_of m d)
lift_exists m a bound time charge cpu p h right l =
    let t = charge_exists m a bound time charge cpu right in
    let q = charge_parts m a bound time charge cpu t.0 t.1 in (
      with_floor t.0 cpu l.floor,
      record {
        can_charge = can_charge m a cpu time h;
        told = t.0;
        charges = t.1;
        floor = l.floor;
        raised = raised_in t.0 cpu l.floor (have_values t.0 (told_apart bound time charge cpu m t.0 t.1 a) cpu)
            (subst (λ p. IsRaisedHere p l.floor) (sym q.0) l.raised);
        result = refl;
      },
      floor_here t.0 cpu l.floor ∙ ap (λ (x : Part). record x { floor = l.floor }) q.0 ∙ sym l.result,
      (λ d ne. floor_away t.0 cpu l.floor d ne ∙ q.1 d ne),
    )
