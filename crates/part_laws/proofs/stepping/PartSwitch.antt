-- A switch: the machine has one just where the processor's part passes the tests, and then the part switches.
use Rattle.std.proofs.Common.{◌≡◌, ◌≢◌, ℕ, zero, suc, Option, Some, None, ℤ, pos, ◌+ℤ◌, ◌<ℤ◌, inl, inr, refl, sym, ap}
use Rattle.std.proofs.Common.{◌∙◌, subst}
use Rattle.std.proofs.lemmas.Int.{by_lt_z}
use Rattle.cfs_model.specs.Knobs.{KnobsView}
use Rattle.cfs_model.specs.Machine.{Machine, Stands, with_move, without_task, without_values}
use Rattle.cfs_model.specs.Step.{IsCurrent, PrintsOwn, IsPutBack, after_prev, IsPick, after_next, IsSwitch}
use Rattle.replay_model.specs.Part.{Part, part_of, entity_at, place_in, IsIn}
use Rattle.replay_model.specs.Deeds.{part_after_prev}
use Rattle.replay_model.specs.AfterDeed.{part_after_next, after_deed}
use Rattle.replay_model.specs.QueueTests.{IsRunner, HasOtherNice, HasOtherPrio}
use Rattle.cfs_model.proofs.KeptOrder.{IsApart, same_sets}
use Rattle.cfs_model.proofs.Moves.{put-other, same_or_not, move_placed, leave_gone}
use Rattle.cfs_model.proofs.StepOrder.{alone, gone_same, prev_apart}
use Rattle.replay_model.proofs.PartFacts.{stands_as, values_of, is_in, task_in, stands_at}
use Rattle.replay_model.proofs.Clear.{IsClear, place_or, is_at, same_z}
use Rattle.part_laws.proofs.stepping.PartMoves.{KeepsRest, gone_part, none_there, elsewhere, goes_here}
use Rattle.cfs_model.specs.declared.act.Way.{Way}
use Rattle.cfs_model.specs.declared.act.Way.TheVariants.{Stays, Sleeps, Ends}
use Rattle.cfs_model.specs.declared.claim.Claim.{Claim}
use Rattle.cfs_model.specs.declared.claim.ClaimSort.TheVariants.{At}
use Rattle.cfs_model.specs.declared.task.Place.{Place}
use Rattle.cfs_model.specs.declared.task.Place.TheVariants.{Run, Wait, Rest}
use Rattle.replay_model.specs.declared.step.Deed.TheVariants.{Switch}

-- the parts after the previous task was taken off
pub prev_part : (m : Machine) → IsApart m → (cpu prev : ℕ) (way : Way) → IsCurrent m cpu prev
    → (part_of (after_prev m cpu prev way) cpu ≡ part_after_prev (part_of m cpu) prev way)
    × ((d : ℕ) → d ≢ cpu → part_of (after_prev m cpu prev way) d ≡ part_of m d)
prev_part m a cpu zero way h = (refl, (λ d ne. refl))
prev_part m a cpu (suc n) Stays h =
    goes_here m (with_move m (suc n) Run cpu Wait cpu) a Run cpu (suc n) Wait h
    (move_placed m (suc n) Run cpu Wait cpu (alone m a Run cpu (suc n) h)) refl refl refl refl refl refl
prev_part m a cpu (suc n) Sleeps h =
    goes_here m (with_move m (suc n) Run cpu Rest cpu) a Run cpu (suc n) Rest h
    (move_placed m (suc n) Run cpu Rest cpu (alone m a Run cpu (suc n) h)) refl refl refl refl refl refl
prev_part m a cpu (suc n) Ends h =
    let between = without_task m Run cpu (suc n) in
    let after = without_values between (suc n) in
    let g = gone_same m between after (suc n) (same_sets between after refl refl refl)
    (leave_gone m (suc n) Run cpu (alone m a Run cpu (suc n) h)) in
    let keeps : KeepsRest m after
    (suc n) = record {
      runtimes = put-other m.runtime (suc n) None;
      nices = put-other m.nice (suc n) None;
      policies = λ q _. refl;
      drifts = λ q _. refl;
      floors = refl;
      marks = refl;
    } in (
      gone_part m after (suc n) g keeps cpu,
      (λ d ne. gone_part m after (suc n) g keeps d ∙ none_there m d (suc n) (elsewhere m a Run cpu (suc n) h d ne)),
    )

-- the parts after the next task began to run
next_part : (granularity : ℕ) (m : Machine) → IsApart m → (cpu next : ℕ) → IsPick granularity m cpu next
    → (part_of (after_next m cpu next) cpu ≡ part_after_next (part_of m cpu) next)
    × ((d : ℕ) → d ≢ cpu → part_of (after_next m cpu next) d ≡ part_of m d)
next_part granularity m a cpu zero h = (refl, (λ d ne. refl))
next_part granularity m a cpu (suc n) h =
    goes_here m (with_move m (suc n) Wait cpu Run cpu) a Wait cpu (suc n) Run h.2
    (move_placed m (suc n) Wait cpu Run cpu (alone m a Wait cpu (suc n) h.2)) refl refl refl refl refl refl

-- a switch of the machine is one of the part, and other parts stay
pub switch_part : (knobs : KnobsView) (m : Machine) → IsApart m
    → (cpu prev : ℕ) (pn : ℤ) (way : Way) (next : ℕ) (nn : ℤ) (claim : Option Claim) (after : Machine)
    → IsSwitch knobs m cpu prev pn way next nn claim after
    → (part_of after cpu ≡ after_deed (part_of m cpu) (Switch prev pn way next nn) claim)
    × ((d : ℕ) → d ≢ cpu → part_of after d ≡ part_of m d)
switch_part knobs m a cpu prev pn way next nn claim after s =
    let between = after_prev m cpu prev way in
    let p = prev_part m a cpu prev way s.current in
    let n = next_part knobs.granularity between (prev_apart m cpu prev way a s.current).0 cpu next s.pick in (
      ap (λ x. part_of x cpu) s.result ∙ n.0 ∙ ap (λ x. part_after_next x next) p.0,
      (λ d ne. ap (λ x. part_of x d) s.result ∙ n.1 d ne ∙ p.1 d ne),
    )

current_of : (m : Machine) → IsApart m → (cpu prev : ℕ) → ((¬ IsRunner (part_of m cpu) prev) → ⊥) → IsCurrent m cpu prev
current_of m a cpu zero h = λ q k. h (λ r. r q (is_in m a Run cpu q k))
current_of m a cpu (suc n) h = elim
    (place_or (place_in (part_of m cpu) (suc n)) Run) [ inl e ↦ stands_at m Run cpu (suc n) e | inr ne ↦ absurd (h ne) ]

pub own_nice : (m : Machine) → IsApart m → (place : Place) (cpu pid : ℕ) (nice : ℤ) → Stands m place cpu pid
    → (¬ HasOtherNice (part_of m cpu) pid nice) → m.nice pid ≡ Some nice
own_nice m a place cpu pid nice k h =
    let s = values_of m a place cpu pid k in
    s.3.nice ∙ ap Some (same_z s.0.nice nice (λ ne. h (record { task = s.0; stands = s.2; other = ne })))

prints_own : (m : Machine) → IsApart m → (place : Place) (cpu pid : ℕ) (nice : ℤ)
    → ((n : ℕ) → pid ≡ suc n → Stands m place cpu pid) → (¬ HasOtherPrio (part_of m cpu) pid nice)
    → PrintsOwn m pid nice
prints_own m a place cpu zero nice s h = tt
prints_own m a place cpu (suc n) nice s h = own_nice m a place cpu (suc n) nice (s n refl) h

stands_current : (m : Machine) (cpu prev : ℕ) → IsCurrent m cpu prev → (n : ℕ) → prev ≡ suc n → Stands m Run cpu prev
stands_current m cpu zero h n e = absurd cc
stands_current m cpu (suc k) h n e = h

stands_next : (m : Machine) (cpu prev : ℕ) (pn : ℤ) (way : Way) (next : ℕ) (nn : ℤ) (claim : Option Claim)
    (knobs : KnobsView)
    → IsClear knobs cpu (part_of m cpu) (Switch prev pn way next nn) claim → (n : ℕ) → next ≡ suc n
    → Stands m Wait cpu next
stands_next m cpu prev pn way zero nn claim knobs c n e = absurd cc
stands_next m cpu prev pn way (suc k) nn claim knobs c n e =
    elim (place_or (place_in (part_of m cpu) (suc k)) Wait)
    [ inl f ↦ stands_at m Wait cpu (suc k) f | inr ne ↦ absurd (c.next (suc k) (ne, refl)) ]

put_back_of : (knobs : KnobsView) (m : Machine) → IsApart m
    → (cpu prev : ℕ) (pn : ℤ) (way : Way) (next : ℕ) (nn : ℤ) (claim : Option Claim)
    → IsClear knobs cpu (part_of m cpu) (Switch prev pn way next nn) claim → IsCurrent m cpu prev
    → IsPutBack m prev way claim
put_back_of knobs m a cpu zero pn way next nn None c h = refl
put_back_of knobs m a cpu zero pn way next nn (Some claim) c h = absurd (c.extra claim.pid (refl, refl))
put_back_of knobs m a cpu (suc n) pn Stays next nn None c h = absurd (c.missing (suc n) (refl, (λ x. x)))
put_back_of knobs m a cpu (suc n) pn Stays next nn (Some claim) c h =
    let s = values_of m a Run cpu (suc n) h in
    let sort : claim.sort ≡ At = is_at claim.sort (λ ne. c.missing (suc n) (refl, ne)) in
    let pid : claim.pid ≡ suc n = elim
    (same_or_not claim.pid (suc n)) [ inl e ↦ e | inr ne ↦ absurd (c.other claim.pid ((suc n, refl, ne), refl)) ] in
    let v : claim.v ≡ s.0.runtime = same_z claim.v s.0.runtime (λ ne. c.put_back (suc n) ((s.0, s.2, ne), refl)) in
    (s.0.runtime, s.3.runtime, (sort, pid, v))
put_back_of knobs m a cpu (suc n) pn Sleeps next nn None c h = refl
put_back_of knobs m a cpu (suc n) pn Sleeps next nn (Some claim) c h = absurd (c.extra claim.pid (refl, refl))
put_back_of knobs m a cpu (suc n) pn Ends next nn None c h = refl
put_back_of knobs m a cpu (suc n) pn Ends next nn (Some claim) c h = absurd (c.extra claim.pid (refl, refl))

-- a part without its previous task has the others as they were
pub prev_others : (p : Part) (prev : ℕ) (way : Way) (pid : ℕ) → pid ≢ prev
    → (part_after_prev p prev way).tasks pid ≡ p.tasks pid
prev_others p zero way pid ne = refl
prev_others p (suc n) Stays pid ne = put-other p.tasks (suc n) _ pid ne
prev_others p (suc n) Sleeps pid ne = put-other p.tasks (suc n) _ pid ne
prev_others p (suc n) Ends pid ne = put-other p.tasks (suc n) None pid ne

pick_of : (knobs : KnobsView) (m between : Machine) → IsApart between
    → (cpu prev : ℕ) (pn : ℤ) (way : Way) (next : ℕ) (nn : ℤ) (claim : Option Claim)
    → part_of between cpu ≡ part_after_prev (part_of m cpu) prev way → prev ≢ next
    → IsClear knobs cpu (part_of m cpu) (Switch prev pn way next nn) claim → IsPick knobs.granularity between cpu next
pick_of knobs m between a cpu prev pn way zero nn claim e ne c =
    λ o k. c.beside 0 ((o, subst (λ x. IsIn x Wait o) e (is_in between a Wait cpu o k)), refl)
pick_of knobs m between a cpu prev pn way (suc n) nn claim e ne c =
    let here : IsIn (part_of m cpu) Wait (suc n) =
    elim (place_or (place_in (part_of m cpu) (suc n)) Wait)
    [ inl f ↦ f | inr other ↦ absurd (c.next (suc n) (other, refl)) ] in
    let s = task_in (part_of m cpu) Wait (suc n) here in
    let after : entity_at between cpu (suc n) ≡ Some s.0 = ap (λ x. x.tasks (suc n)) e
    ∙ prev_others (part_of m cpu) prev way (suc n) (λ f. ne (sym f)) ∙ s.1 in
    let t = stands_as between cpu (suc n) s.0 after in (
      s.0.runtime,
      t.runtime,
      subst (λ x. Stands between x cpu (suc n)) s.2 t.stands,
      (λ o w k f.
          let u = values_of between a Wait cpu o k in
          let same : u.0.runtime ≡ w = some_same u.0.runtime w (sym u.3.runtime ∙ f) in
          by_lt_z (w +ℤ pos knobs.granularity) s.0.runtime
          (λ lt. absurd (c.least (suc n) (
            (
              s.0,
              u.0,
              o,
              s.1,
              sym (ap (λ x. x.tasks o) e)
                  ∙ u.2,
              u.1,
              subst (λ x. (x +ℤ pos knobs.granularity) <ℤ s.0.runtime) (sym same) lt,
            ),
            refl,
          )))
          (λ le. le)),
    )
  where
    some_same : (u v : ℤ) → Some u ≡ Some v → u ≡ v
    some_same u v e = cc

-- a part that passes the tests of a switch lets the machine switch
pub switch_exists : (knobs : KnobsView) (m : Machine) → IsApart m
    → (cpu prev : ℕ) (pn : ℤ) (way : Way) (next : ℕ) (nn : ℤ) (claim : Option Claim)
    → IsClear knobs cpu (part_of m cpu) (Switch prev pn way next nn) claim
    → IsSwitch knobs m cpu prev pn way next nn claim (after_next (after_prev m cpu prev way) cpu next)
switch_exists knobs m a cpu prev pn way next nn claim c =
    let differ : prev ≢ next = λ e. c.self prev (e, refl) in
    let current = current_of m a cpu prev (λ h. c.prev prev (h, refl)) in
    let prev_own : ¬ HasOtherPrio (part_of m cpu) prev pn = λ h. c.prio prev (inl (h, refl)) in
    record {
      differ = differ;
      current = current;
      prev_prio = prints_own m a Run cpu prev pn (stands_current m cpu prev current) prev_own;
      next_prio = prints_own m a Wait cpu next nn (stands_next m cpu prev pn way next nn claim knobs c)
          (λ h. c.prio next (inr (prev_own, h, refl)));
      put_back = put_back_of knobs m a cpu prev pn way next nn claim c current;
      pick = pick_of knobs m (after_prev m cpu prev way)
          (prev_apart m cpu prev way a current).0 cpu prev pn way next nn claim
          (prev_part m a cpu prev way current).0 differ c;
      result = refl;
    }
