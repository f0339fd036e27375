-- The tests on the part as a deed finds it: that of the change of a nice value, the sixteen of the deed by name, and
-- what can be decided, a told charge among it.
use Rattle.std.proofs.Common.{◌≡◌, ◌≢◌, ℕ, Option, Some, None, ℤ, pos, negsuc, neg_ℤ, nat_abs, ◌+ℤ◌, ◌≤ℤ◌}
use Rattle.std.proofs.Common.{◌<ℤ◌, ◌⊎◌, inl, inr, suc, ◌≤◌, refl, sym, ap, ◌∙◌, subst, arith}
use Rattle.std.proofs.lemmas.Int.{ints, by_lt_z}
use Rattle.cfs_model.specs.Knobs.{KnobsView}
use Rattle.cfs_model.specs.Told.{drift_after, IsWithin}
use Rattle.replay_model.specs.Part.{Part, Entity, cost_in}
use Rattle.replay_model.specs.QueueTests.{IsToldHere, IsWrongCharge, IsStrangeNice, IsMoveHome, IsSelfSwitch}
use Rattle.replay_model.specs.QueueTests.{IsPrevNotRunning, IsStrange, IsAlready, IsMoveRunning, IsWrongPrio}
use Rattle.replay_model.specs.ClaimTests.{IsClaimMissing, IsClaimExtra, IsClaimPid, IsWrongPutBack, IsWakeOutside}
use Rattle.replay_model.specs.ClaimTests.{IsForkOutside, IsNextNotWaiting, IsIdleBesideWaiting, IsNotLeast}
use Rattle.replay_model.specs.Tests.{NoneHolds, late_tests}
use Rattle.replay_model.proofs.Options.{same_some, no_some}
use Rattle.cfs_model.specs.declared.charge_line.ChargeLine.{ChargeLine}
use Rattle.cfs_model.specs.declared.claim.Claim.{Claim}
use Rattle.cfs_model.specs.declared.claim.ClaimSort.{ClaimSort}
use Rattle.cfs_model.specs.declared.claim.ClaimSort.TheVariants.{At, Pass}
use Rattle.cfs_model.specs.declared.task.Place.{Place}
use Rattle.cfs_model.specs.declared.task.Place.TheVariants.{Run, Wait, Rest}
use Rattle.replay_model.specs.declared.step.Deed.{Deed}
use Rattle.replay_model.specs.declared.step.Step.{Step}

-- none of the tests of a deed holds
pub record IsClear (knobs : KnobsView) (cpu : ℕ) (part : Part) (deed : Deed) (claim : Option Claim) : Type 0 where
  pub home : (pid : ℕ) → ¬ IsMoveHome cpu deed pid
  pub self : (pid : ℕ) → ¬ IsSelfSwitch deed pid
  pub prev : (pid : ℕ) → ¬ IsPrevNotRunning part deed pid
  pub strange : (pid : ℕ) → ¬ IsStrange part deed pid
  pub already : (pid : ℕ) → ¬ IsAlready part deed pid
  pub running : (pid : ℕ) → ¬ IsMoveRunning part deed pid
  pub prio : (pid : ℕ) → ¬ IsWrongPrio part deed pid
  pub missing : (pid : ℕ) → ¬ IsClaimMissing part deed claim pid
  pub extra : (pid : ℕ) → ¬ IsClaimExtra part deed claim pid
  pub other : (pid : ℕ) → ¬ IsClaimPid part deed claim pid
  pub put_back : (pid : ℕ) → ¬ IsWrongPutBack part deed claim pid
  pub wake : (pid : ℕ) → ¬ IsWakeOutside knobs.credit part deed claim pid
  pub fork : (pid : ℕ) → ¬ IsForkOutside knobs.debit part deed claim pid
  pub next : (pid : ℕ) → ¬ IsNextNotWaiting part deed pid
  pub beside : (pid : ℕ) → ¬ IsIdleBesideWaiting part deed pid
  pub least : (pid : ℕ) → ¬ IsNotLeast knobs.granularity part deed pid

pub clear_of : (knobs : KnobsView) (cpu : ℕ) (part : Part) (step : Step) → NoneHolds (late_tests knobs cpu part step)
    → IsClear knobs cpu part step.deed step.claim
clear_of knobs cpu part step h =
    let h0 = h.1 in let h3 = h0.1.1.1 in let h7 = h3.1.1.1.1 in let h11 = h7.1.1.1.1 in
    record {
      home = h0.0;
      self = h0.1.0;
      prev = h0.1.1.0;
      strange = h3.0;
      already = h3.1.0;
      running = h3.1.1.0;
      prio = h3.1.1.1.0;
      missing = h7.0;
      extra = h7.1.0;
      other = h7.1.1.0;
      put_back = h7.1.1.1.0;
      wake = h11.0;
      fork = h11.1.0;
      next = h11.1.1.0;
      beside = h11.1.1.1.0;
      least = h11.1.1.1.1.0;
    }

-- the task whose nice value changes stands here
pub stands_of : (knobs : KnobsView) (cpu : ℕ) (part : Part) (step : Step) → NoneHolds (late_tests knobs cpu part step)
    → (pid : ℕ) → ¬ IsStrangeNice part step.nice pid
stands_of knobs cpu part step h = h.0

pub none_of : (knobs : KnobsView) (cpu : ℕ) (part : Part) (step : Step)
    → ((pid : ℕ) → ¬ IsStrangeNice part step.nice pid) → IsClear knobs cpu part step.deed step.claim
    → NoneHolds (late_tests knobs cpu part step)
none_of knobs cpu part step stands c = (
  stands,
  (
    c.home,
    (
      c.self,
      (
        c.prev,
        (
          c.strange,
          (
            c.already,
            (
              c.running,
              (
                c.prio,
                (
                  c.missing,
                  (
                    c.extra,
                    (
                      c.other,
                      (
                        c.put_back,
                        (c.wake, (c.fork, (c.next, (c.beside, (c.least, tt))))),
                      ),
                    ),
                  ),
                ),
              ),
            ),
          ),
        ),
      ),
    ),
  ),
)

pub place_or : (o : Option Place) (place : Place) → (o ≡ Some place) ⊎ (o ≢ Some place)
place_or None place = inr (λ e. cc)
place_or (Some Run) Run = inl refl
place_or (Some Run) Wait = inr (λ e. cc)
place_or (Some Run) Rest = inr (λ e. cc)
place_or (Some Wait) Run = inr (λ e. cc)
place_or (Some Wait) Wait = inl refl
place_or (Some Wait) Rest = inr (λ e. cc)
place_or (Some Rest) Run = inr (λ e. cc)
place_or (Some Rest) Wait = inr (λ e. cc)
place_or (Some Rest) Rest = inl refl

pub is_at : (sort : ClaimSort) → (sort ≢ At → ⊥) → sort ≡ At
is_at At h = refl
is_at Pass h = absurd (h (λ e. cc))

pub same_z : (u v : ℤ) → (u ≢ v → ⊥) → u ≡ v
same_z u v h =
    by_lt_z u v (λ k. absurd (h (λ e. omega (arith, ints))))
    (λ k. by_lt_z v u (λ l. absurd (h (λ e. omega (arith, ints)))) (λ l. omega (arith, ints)))

below_not : (u v : ℤ) → u ≤ℤ v → v <ℤ u → ⊥
below_not u v h k = omega (arith, ints)

within_or_not : (bound : ℕ) (drift : ℤ) → IsWithin bound drift ⊎ (¬ IsWithin bound drift)
within_or_not bound drift =
    by_lt_z drift (neg_ℤ (pos bound)) (λ k. inr (λ w. below_not (neg_ℤ (pos bound)) drift w.0 k))
    (λ low. by_lt_z (pos bound) drift (λ k. inr (λ w. below_not drift (pos bound) w.1 k)) (λ high. inl (low, high)))

-- a told charge is right, or it isn't
pub told_or_not : (bound : ℕ) (part : Part) (time : ℕ) (charge : ChargeLine)
    → IsToldHere bound part time charge ⊎ (¬ IsToldHere bound part time charge)
told_or_not bound part time charge = go (part.tasks charge.pid) refl
  where
    at : (s : Entity) → part.tasks charge.pid ≡ Some s → (place : Place) → s.place ≡ place
        → IsToldHere bound part time charge ⊎ (¬ IsToldHere bound part time charge)
    at s e Wait f = inr (λ t. let k : Run ≡ Wait =
        sym t.runs ∙ ap (λ (x : Entity). x.place) (same_some (part.tasks charge.pid) t.task s t.stands e) ∙ f in cc)
    at s e Rest f = inr (λ t. let k : Run ≡ Rest =
        sym t.runs ∙ ap (λ (x : Entity). x.place) (same_some (part.tasks charge.pid) t.task s t.stands e) ∙ f in cc)
    at s e Run f =
        by_lt_z charge.v s.runtime
        (λ k. inr (λ t. below_not s.runtime charge.v
        (subst (λ (x : Entity). x.runtime ≤ℤ charge.v) (same_some (part.tasks charge.pid) t.task s t.stands e) t.rises)
        k))
        (λ rises. elim (within_or_not bound (drift_after s.drift charge.v (s.runtime +ℤ pos (cost_in part time s)))) [
          | inl within ↦ inl (record { task = s; stands = e; runs = f; rises = rises; within = within })
          | inr ne ↦ inr (λ t. ne (subst
              (λ (x : Entity). IsWithin bound (drift_after x.drift charge.v (x.runtime +ℤ pos (cost_in part time x))))
              (same_some (part.tasks charge.pid) t.task s t.stands e) t.within))
        ])

    go : (o : Option Entity) → part.tasks charge.pid ≡ o
        → IsToldHere bound part time charge ⊎ (¬ IsToldHere bound part time charge)
    go None e = inr (λ t. no_some t.task (sym e ∙ t.stands))
    go (Some s) e = at s e s.place refl

-- a charge that isn't wrong is right
pub is_told : (bound : ℕ) (part : Part) (time : ℕ) (charge : ChargeLine)
    → ((pid : ℕ) → ¬ IsWrongCharge bound part time (Some charge) pid) → IsToldHere bound part time charge
is_told bound part time charge h = elim (told_or_not bound part time charge)
    [ inl t ↦ t | inr ne ↦ absurd (h charge.pid (ne, refl)) ]

-- a drift is within a bound just where its size is
pub size_within : (bound : ℕ) (drift : ℤ) → nat_abs drift ≤ bound → IsWithin bound drift
size_within bound (pos n) h = let k : n ≤ bound = h in (omega (arith, ints), omega (arith, ints))
size_within bound (negsuc n) h = let k : suc n ≤ bound = h in (omega (arith, ints), omega (arith, ints))

pub within_size : (bound : ℕ) (drift : ℤ) → IsWithin bound drift → nat_abs drift ≤ bound
within_size bound (pos n) h = let k = h.1 in go n bound k
  where
    go : (n bound : ℕ) → pos n ≤ℤ pos bound → n ≤ bound
    go n bound k = omega (arith, ints)
within_size bound (negsuc n) h = let k = h.0 in go n bound k
  where
    go : (n bound : ℕ) → neg_ℤ (pos bound) ≤ℤ negsuc n → suc n ≤ bound
    go n bound k = omega (arith, ints)
