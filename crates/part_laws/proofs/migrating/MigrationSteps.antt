-- A step of the machine by a migration, and the steps of the parts at its two ends.
use Rattle.std.proofs.Common.{◌≡◌, ◌≢◌, ℕ, cond, Option, None, ℤ, [], ◌∷◌, refl, sym, ap, ◌∙◌, subst}
use Rattle.std.proofs.lemmas.Bool.{eq-eqb, ne_eqb}
use Rattle.cfs_model.specs.Knobs.{KnobsView}
use Rattle.cfs_model.specs.Machine.{Machine}
use Rattle.cfs_model.specs.Claimed.{Claimed}
use Rattle.cfs_model.specs.Touch.{touched}
use Rattle.cfs_model.specs.Lifted.{IsLiftedAt, IsLifted}
use Rattle.cfs_model.specs.Reniced.{home_of, IsReniced}
use Rattle.cfs_model.specs.Step.{Changes, IsMigration, IsStep}
use Rattle.cfs_model.specs.Order.{IsInOrder}
use Rattle.replay_model.specs.Record.{ClaimInRange, ChargeInRange}
use Rattle.replay_model.specs.Part.{Part, part_of, IsLiftedPart}
use Rattle.replay_model.specs.Deeds.{reniced, left_ticket, came_ticket}
use Rattle.replay_model.specs.AfterDeed.{after_deed}
use Rattle.replay_model.specs.QueueTests.{IsOutOfRange, IsWrongCharge, IsStrangeNice}
use Rattle.replay_model.specs.StepAt.{deed_at, claim_for, nice_for, charge_for, step_at}
use Rattle.part_laws.specs.TouchedParts.{MovesBetween, RestStays}
use Rattle.part_laws.specs.Migrations.{PartsMigrate, MachineMigrates}
use Rattle.cfs_model.proofs.KeptOrder.{IsApart, lifted_apart}
use Rattle.cfs_model.proofs.StepOrder.{apart_of, step_in_order}
use Rattle.cfs_model.proofs.Range.{lifted_range, change_range}
use Rattle.cfs_model.proofs.Renice.{reniced_apart, reniced_range}
use Rattle.replay_model.proofs.Clear.{IsClear, clear_of, stands_of, none_of}
use Rattle.part_laws.proofs.stepping.PartLift.{lifted_here, lift_exists}
use Rattle.part_laws.proofs.stepping.PartRenice.{reniced_here, renice_exists}
use Rattle.part_laws.proofs.migrating.PartMigration.{migration_parts, leave_clear, arrive_clear, tickets_equal}
use Rattle.part_laws.proofs.migrating.PartMigration.{migration_exists}
use Rattle.cfs_model.specs.declared.act.Act.{Act}
use Rattle.cfs_model.specs.declared.act.Act.TheVariants.{Shift}
use Rattle.cfs_model.specs.declared.charge_line.ChargeLine.{ChargeLine}
use Rattle.cfs_model.specs.declared.nice_line.NiceLine.{NiceLine}
use Rattle.replay_model.specs.declared.step.Deed.TheVariants.{Leave, Arrive}
use Rattle.cfs_model.specs.declared.policy.Policy.{Policy}

-- what a migration is at its two ends
pub leave_deed : (act : Act) (policy : Policy) (orig dest pid : ℕ) (nice : ℤ) → act ≡ Shift orig dest pid nice
    → deed_at orig policy act ≡ Leave pid nice dest
leave_deed act policy orig dest pid nice e = ap (deed_at orig policy) e
    ∙ ap (λ b. cond b (Leave pid nice dest) (Arrive pid nice orig policy)) (eq-eqb orig orig refl)

pub arrive_deed : (act : Act) (policy : Policy) (orig dest pid : ℕ) (nice : ℤ) → act ≡ Shift orig dest pid nice
    → orig ≢ dest
    → deed_at dest policy act ≡ Arrive pid nice orig policy
arrive_deed act policy orig dest pid nice e ne = ap (deed_at dest policy) e
    ∙ ap (λ b. cond b (Leave pid nice dest) (Arrive pid nice orig policy)) (ne_eqb orig dest ne)

-- a lift at both ends, end by end
pub record LiftsBoth (bound time : ℕ) (charge : Option ChargeLine) (orig dest : ℕ) (before lifted : Machine)
    : Type 0 where
  pub orig_range : (pid : ℕ) → ¬ IsOutOfRange (part_of before orig) time pid
  pub orig_told : (pid : ℕ) → ¬ IsWrongCharge bound (part_of before orig) time charge pid
  pub orig_lift : IsLiftedPart time charge (part_of before orig) (part_of lifted orig)
  pub dest_range : (pid : ℕ) → ¬ IsOutOfRange (part_of before dest) time pid
  pub dest_lift : IsLiftedPart time None (part_of before dest) (part_of lifted dest)
  pub others : RestStays before lifted orig dest

both_lifted : (bound time : ℕ) (charge : Option ChargeLine) (orig dest : ℕ) (before lifted : Machine)
    → IsApart before → orig ≢ dest → IsLifted bound time charge (orig ∷ dest ∷ []) before lifted
    → LiftsBoth bound time charge orig dest before lifted
both_lifted bound time charge orig dest before lifted a ne l =
    let between = l.0 in
    let second : IsLiftedAt bound time None dest between lifted =
    subst (λ x. IsLiftedAt bound time None dest between x) (sym l.2.2) l.2.1 in
    let first = lifted_here before a bound time charge orig between l.1 in
    let apart = lifted_apart bound time charge (orig ∷ []) before between (between, l.1, refl) a in
    let then = lifted_here between apart bound time None dest lifted second in
    let at_orig : part_of lifted orig ≡ part_of between orig = then.2 orig ne in
    let at_dest : part_of between dest ≡ part_of before dest = first.2 dest (λ e. ne (sym e)) in
    record {
      orig_range = first.0;
      orig_told = first.3;
      orig_lift = subst (λ p. IsLiftedPart time charge (part_of before orig) p) (sym at_orig) first.1;
      dest_range = subst (λ p. (pid : ℕ) → ¬ IsOutOfRange p time pid) at_dest then.0;
      dest_lift = subst (λ p. IsLiftedPart time None p (part_of lifted dest)) at_dest then.1;
      others = λ d no_orig no_dest. then.2 d no_dest ∙ first.2 d no_orig;
    }

-- the change of a nice value at the two ends
leave_nice : (act : Act) (policy : Policy) (orig dest pid : ℕ) (nice : ℤ) (change : Option NiceLine)
    → act ≡ Shift orig dest pid nice → nice_for (deed_at orig policy act) change ≡ change
leave_nice act policy orig dest pid nice change e = ap (λ d. nice_for d change) (leave_deed act policy orig dest pid
    nice e)

arrive_nice : (act : Act) (policy : Policy) (orig dest pid : ℕ) (nice : ℤ) (change : Option NiceLine)
    → act ≡ Shift orig dest pid nice → orig ≢ dest → nice_for (deed_at dest policy act) change ≡ None
arrive_nice act policy orig dest pid nice change e ne =
    ap (λ d. nice_for d change) (arrive_deed act policy orig dest pid nice e ne)

-- and the told charge
leave_charge : (act : Act) (policy : Policy) (orig dest pid : ℕ) (nice : ℤ) (charge : Option ChargeLine)
    → act ≡ Shift orig dest pid nice → charge_for (deed_at orig policy act) charge ≡ charge
leave_charge act policy orig dest pid nice charge e =
    ap (λ d. charge_for d charge) (leave_deed act policy orig dest pid nice e)

arrive_charge : (act : Act) (policy : Policy) (orig dest pid : ℕ) (nice : ℤ) (charge : Option ChargeLine)
    → act ≡ Shift orig dest pid nice → orig ≢ dest → charge_for (deed_at dest policy act) charge ≡ None
arrive_charge act policy orig dest pid nice charge e ne =
    ap (λ d. charge_for d charge) (arrive_deed act policy orig dest pid nice e ne)

pub parts_migrate : PartsMigrate
parts_migrate knobs before after event orig dest pid nice o e s =
    let act = event.entry.act in
    let time = event.entry.time in
    let charge = event.charge in
    let lifted_order = lifted_apart knobs.drift time charge (touched act) before s.lifted s.is_lifted (apart_of
    before o)
    in
    let r : IsReniced orig event.nice s.lifted s.found = subst (λ x. IsReniced x event.nice s.lifted s.found)
    (ap home_of e) s.is_reniced in
    let n = reniced_here s.lifted lifted_order orig event.nice s.found r in
    let a = reniced_apart orig event.nice s.lifted s.found r lifted_order in
    let m : IsMigration s.found orig dest pid nice event.claim event.policy after = subst
    (λ x. Changes knobs s.found x event.claim event.policy after) e s.changes in
    let l = both_lifted knobs.drift time charge orig dest before s.lifted (apart_of before o) m.differ
    (subst (λ x. IsLifted knobs.drift time charge (touched x) before s.lifted) e s.is_lifted) in
    let p = migration_parts s.found a orig dest pid nice event.claim event.policy after m in
    let leave = leave_deed act event.policy orig dest pid nice e in
    let arrive = arrive_deed act event.policy orig dest pid nice e m.differ in
    let left_nice = leave_nice act event.policy orig dest pid nice event.nice e in
    let came_nice = arrive_nice act event.policy orig dest pid nice event.nice e m.differ in
    let left_charge = leave_charge act event.policy orig dest pid nice charge e in
    let came_charge = arrive_charge act event.policy orig dest pid nice charge e m.differ in (
      m.differ,
      record {
        leave = record {
          found = part_of s.found orig;
          passes = record {
            in_range = l.orig_range;
            told = subst (λ x. (q : ℕ) → ¬ IsWrongCharge knobs.drift (part_of before orig) time x q) (sym left_charge)
                l.orig_told;
            is_found = record {
              lifted = part_of s.lifted orig;
              is_lifted = subst (λ x. IsLiftedPart time x (part_of before orig) (part_of s.lifted orig))
                  (sym left_charge) l.orig_lift;
              is_reniced = n.0 ∙ ap (λ x. reniced x (part_of s.lifted orig)) (sym left_nice);
            };
            none = none_of knobs orig (part_of s.found orig) (step_at orig event)
                (subst (λ x. (q : ℕ) → ¬ IsStrangeNice (part_of s.found orig) x q) (sym left_nice) n.2)
                (subst (λ d. IsClear knobs orig (part_of s.found orig) d (claim_for d event.claim)) (sym leave)
                (leave_clear knobs s.found a orig dest pid nice event.claim event.policy after m));
          };
          result = p.0 ∙ ap (λ d. after_deed (part_of s.found orig) d (claim_for d event.claim)) (sym leave);
        };
        arrive = record {
          found = part_of s.found dest;
          passes = record {
            in_range = l.dest_range;
            told = subst (λ x. (q : ℕ) → ¬ IsWrongCharge knobs.drift (part_of before dest) time x q) (sym came_charge)
                (λ q h. h);
            is_found = record {
              lifted = part_of s.lifted dest;
              is_lifted = subst (λ x. IsLiftedPart time x (part_of before dest) (part_of s.lifted dest))
                  (sym came_charge) l.dest_lift;
              is_reniced = n.1 dest (λ same. m.differ (sym same))
                  ∙ ap (λ x. reniced x (part_of s.lifted dest)) (sym came_nice);
            };
            none = none_of knobs dest (part_of s.found dest) (step_at dest event)
                (subst (λ x. (q : ℕ) → ¬ IsStrangeNice (part_of s.found dest) x q) (sym came_nice) (λ q h. h))
                (subst (λ d. IsClear knobs dest (part_of s.found dest) d (claim_for d event.claim)) (sym arrive)
                (arrive_clear knobs s.found a orig dest pid nice event.claim event.policy after m));
          };
          result = p.1 ∙ ap (λ d. after_deed (part_of s.found dest) d (claim_for d event.claim)) (sym arrive);
        };
        tickets = tickets_equal s.found a orig dest pid event.entry.line nice event.claim event.policy after m;
      },
      (λ d ne other. p.2 d ne other ∙ n.1 d ne ∙ l.others d ne other),
    )

-- a migration to its own processor is no step of the part
not_home : (knobs : KnobsView) (before : Machine) (event : Claimed) (orig dest pid : ℕ) (nice : ℤ) (left came : Part)
    → event.entry.act ≡ Shift orig dest pid nice
    → MovesBetween knobs before event orig dest pid nice left came → orig ≢ dest
not_home knobs before event orig dest pid nice left came e s same =
    (subst (λ d. IsClear knobs orig s.leave.found d (claim_for d event.claim))
    (leave_deed event.entry.act event.policy orig dest pid nice e)
    (clear_of knobs orig s.leave.found (step_at orig event) s.leave.passes.none)).home pid (sym same, refl)

-- what is told of a migration by its ends
module _ (knobs : KnobsView) (before : Machine) (event : Claimed) (orig dest pid : ℕ) (nice : ℤ) (left came : Part)
    (o : IsInOrder before) (range : ClaimInRange event) (charges : ChargeInRange event)
    (e : event.entry.act ≡ Shift orig dest pid nice)
    (ne : orig ≢ dest) (s : MovesBetween knobs before event orig dest pid nice left came) where
  -- the machine's step, and the parts after it
  abbrev Migrates : Type 0
  Migrates =
      (after : Machine) × IsStep knobs before event after × IsInOrder after × (part_of after orig ≡ left)
      × (part_of after dest ≡ came) × RestStays before after orig dest

  -- from the machine's own change to the machine after
  after_change : (lifted found : Machine) → IsLifted knobs.drift event.entry.time event.charge (orig ∷ dest ∷ [])
      before lifted
      → IsReniced orig event.nice lifted found → IsApart found → part_of found orig ≡ s.leave.found
      → part_of found dest ≡ s.arrive.found → RestStays before found orig dest → (after : Machine)
      → IsMigration found orig dest pid nice event.claim event.policy after → Migrates
  after_change lifted found both r a here there rest after m =
      let act = event.entry.act in
      let time = event.entry.time in
      let leave = leave_deed act event.policy orig dest pid nice e in
      let arrive = arrive_deed act event.policy orig dest pid nice e ne in
      let p = migration_parts found a orig dest pid nice event.claim event.policy after m in
      let charge = event.charge in
      let is_lifted : IsLifted knobs.drift time charge (touched act) before lifted = subst
      (λ x. IsLifted knobs.drift time charge (touched x) before lifted) (sym e) both in
      let is_reniced : IsReniced (home_of act) event.nice lifted found = subst
      (λ x. IsReniced (home_of x) event.nice lifted found) (sym e) r in
      let changes : Changes knobs found act event.claim event.policy after = subst
      (λ x. Changes knobs found x event.claim event.policy after) (sym e) m in
      let step : IsStep knobs before event after = record {
        lifted = lifted;
        is_lifted = is_lifted;
        found = found;
        is_reniced = is_reniced;
        changes = changes;
        in_range = change_range knobs found act event.claim event.policy after changes range
            (reniced_range orig event.nice lifted found r
            (lifted_range knobs.drift time charge (touched act) before lifted is_lifted charges o.in_range));
      } in (
        after,
        step,
        step_in_order knobs before event after o step,
        p.0 ∙ ap (λ x. after_deed x (Leave pid nice dest) None) here
            ∙ ap (λ d. after_deed s.leave.found d (claim_for d event.claim)) (sym leave) ∙ sym s.leave.result,
        p.1 ∙ ap (λ x. after_deed x (Arrive pid nice orig event.policy) event.claim) there
            ∙ ap (λ d. after_deed s.arrive.found d (claim_for d event.claim)) (sym arrive) ∙ sym s.arrive.result,
        (λ d no_orig no_dest. p.2 d no_orig no_dest ∙ rest d no_orig no_dest),
      )

  -- from the machine as the event finds it to the machine after
  after_found : (lifted found : Machine) → IsLifted knobs.drift event.entry.time event.charge (orig ∷ dest ∷ [])
      before lifted
      → IsReniced orig event.nice lifted found → IsApart found → part_of found orig ≡ s.leave.found
      → part_of found dest ≡ s.arrive.found → RestStays before found orig dest → Migrates
  after_found lifted found both r a here there rest =
      let act = event.entry.act in
      let leave = leave_deed act event.policy orig dest pid nice e in
      let arrive = arrive_deed act event.policy orig dest pid nice e ne in
      let c = migration_exists knobs found a orig dest pid event.entry.line nice event.claim event.policy
      (subst (λ p. IsClear knobs orig p (Leave pid nice dest) None) (sym here)
      (subst (λ d. IsClear knobs orig s.leave.found d (claim_for d event.claim)) leave
      (clear_of knobs orig s.leave.found (step_at orig event) s.leave.passes.none)))
      (subst (λ p. IsClear knobs dest p (Arrive pid nice orig event.policy) event.claim) (sym there)
      (subst (λ d. IsClear knobs dest s.arrive.found d (claim_for d event.claim)) arrive
      (clear_of knobs dest s.arrive.found (step_at dest event) s.arrive.passes.none)))
      (ap (λ p. left_ticket p event.entry.line pid) here ∙ s.tickets
      ∙ ap (λ p. came_ticket p event.entry.line pid nice event.policy event.claim) (sym there)) in
      after_change lifted found both r a here there rest c.0 c.1

  -- from a machine lifted at both ends to the machine after
  after_lift : (lifted : Machine) → IsLifted knobs.drift event.entry.time event.charge (orig ∷ dest ∷ []) before lifted
      → part_of lifted orig ≡ s.leave.passes.is_found.lifted
      → part_of lifted dest ≡ s.arrive.passes.is_found.lifted → RestStays before lifted orig dest → Migrates
  after_lift lifted both here there rest =
      let act = event.entry.act in
      let left_nice = leave_nice act event.policy orig dest pid nice event.nice e in
      let came_nice = arrive_nice act event.policy orig dest pid nice event.nice e ne in
      let a = lifted_apart knobs.drift event.entry.time event.charge (orig ∷ dest ∷ []) before lifted both
      (apart_of before o) in
      let leaves = s.leave.passes.is_found in
      let arrives = s.arrive.passes.is_found in
      let n = renice_exists lifted a orig event.nice s.leave.found
      (leaves.is_reniced ∙ ap (λ x. reniced x leaves.lifted) left_nice ∙ ap (reniced event.nice) (sym here))
      (subst (λ x. (q : ℕ) → ¬ IsStrangeNice s.leave.found x q) left_nice
      (stands_of knobs orig s.leave.found (step_at orig event) s.leave.passes.none)) in
      after_found lifted n.0 both n.1 (reniced_apart orig event.nice lifted n.0 n.1 a) n.2
      (n.3 dest (λ same. ne (sym same)) ∙ there
      ∙ sym (arrives.is_reniced ∙ ap (λ x. reniced x arrives.lifted) came_nice))
      (λ d no_orig no_dest. n.3 d no_orig ∙ rest d no_orig no_dest)

pub machine_migrates : MachineMigrates
machine_migrates knobs before event orig dest pid nice left came o r c e s =
    let time = event.entry.time in
    let charge = event.charge in
    let ne = not_home knobs before event orig dest pid nice left came e s in
    let left_charge = leave_charge event.entry.act event.policy orig dest pid nice charge e in
    let came_charge = arrive_charge event.entry.act event.policy orig dest pid nice charge e ne in
    let leaves = s.leave.passes.is_found in
    let arrives = s.arrive.passes.is_found in
    let first = lift_exists before
    (apart_of before o) knobs.drift time charge orig leaves.lifted s.leave.passes.in_range
    (subst (λ x. (pid : ℕ) → ¬ IsWrongCharge knobs.drift (part_of before orig) time x pid) left_charge
    s.leave.passes.told)
    (subst (λ x. IsLiftedPart time x (part_of before orig) leaves.lifted) left_charge leaves.is_lifted) in
    let apart = lifted_apart knobs.drift time charge (orig ∷ []) before first.0 (first.0, first.1, refl)
    (apart_of before o) in
    let at_dest : part_of first.0 dest ≡ part_of before dest = first.3 dest (λ e. ne (sym e)) in
    let then = lift_exists first.0 apart knobs.drift time None dest arrives.lifted
    (subst (λ p. (pid : ℕ) → ¬ IsOutOfRange p time pid) (sym at_dest) s.arrive.passes.in_range)
    (λ pid h. h)
    (subst (λ p. IsLiftedPart time None p arrives.lifted) (sym at_dest)
    (subst (λ x. IsLiftedPart time x (part_of before dest) arrives.lifted) came_charge arrives.is_lifted)) in
    after_lift knobs before event orig dest pid nice left came o r c e ne s then.0
    (first.0, first.1, (then.0, then.1, refl)) (then.3 orig ne ∙ first.2) then.2
    (λ d no_orig no_dest. then.3 d no_dest ∙ first.3 d no_orig)
