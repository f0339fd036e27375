-- The tallies of one processor's replay along a run: of each pid they grow by what the run gives it at the events that
-- touch the processor.
use Rattle.std.proofs.Common.{◌≡◌, ℕ, zero, suc, ◌+◌, nat_eq, Bool, true, false, ◌||◌, cond, Option, Some, None}
use Rattle.std.proofs.Common.{is_some}
use Rattle.std.proofs.Common.{option_map, inl, inr, List, [], ◌∷◌, refl, sym, ap, ◌∙◌, subst, true≢false, arith}
use Rattle.std.specs.List.{list_any}
use Rattle.cfs_model.specs.Knobs.{KnobsView}
use Rattle.cfs_model.specs.Machine.{Machine}
use Rattle.cfs_model.specs.Claimed.{Claimed}
use Rattle.cfs_model.specs.Touch.{touched}
use Rattle.cfs_model.specs.Reniced.{home_of}
use Rattle.cfs_model.specs.Run.{AreSteps}
use Rattle.cfs_model.specs.Order.{IsInOrder}
use Rattle.replay_model.specs.Part.{Part, Entity, charged_in, charged_part, part_of, IsLiftedPart}
use Rattle.replay_model.specs.Found.{IsFound}
use Rattle.replay_model.specs.Cut.{touches, steps_at}
use Rattle.replay_model.specs.StepAt.{deed_at, charge_for, step_at}
use Rattle.replay_model.specs.Noted.{charged_tallies, tallied}
use Rattle.replay_model.specs.Page.{ReplayStateView, PassesStep, IsReplay}
use Rattle.replay_model.specs.Summary.{picks, ran_at, cost_as_told, charged_at}
use Rattle.part_laws.specs.TouchedParts.{PartStep}
use Rattle.cfs_model.proofs.KeptOrder.{IsApart}
use Rattle.cfs_model.proofs.StepOrder.{apart_of, step_in_order}
use Rattle.replay_model.proofs.Clear.{clear_of}
use Rattle.replay_model.proofs.PartFacts.{told_some}
use Rattle.replay_model.proofs.Replayed.{first_passes}
use Rattle.part_laws.proofs.one_page.OneLift.{step_same_part}
use Rattle.part_laws.proofs.stepping.PartRenice.{reniced_some}
use Rattle.part_laws.proofs.Touching.{steps_at_cpu}
use Rattle.replay_laws.proofs.following.Follow.{touched_steps, untouched_steps}
use Rattle.tally_laws.proofs.TalliesSaid.{said, has_tally}
use Rattle.tally_laws.proofs.TalliesCharged.{time_of, charge_to, Covers, charged_ran, charged_charged, charged_picks}
use Rattle.tally_laws.proofs.TalliesCharged.{charged_has}
use Rattle.tally_laws.proofs.TalliesOfDeeds.{picks_of, tallied_ran, tallied_charged, tallied_picks, deed_covers}
use Rattle.tally_laws.proofs.TalliesOfDeeds.{picked_has}
use Rattle.tally_laws.proofs.TalliesInMachine.{time_is, charge_is}
use Rattle.cfs_model.specs.declared.act.Act.{Act}
use Rattle.cfs_model.specs.declared.act.Act.TheVariants.{Switch, Wake, Born, Shift}
use Rattle.cfs_model.specs.declared.charge_line.ChargeLine.{ChargeLine}
use Rattle.replay_model.specs.declared.page.Tally.{Tally}
use Rattle.replay_model.specs.declared.step.Deed.TheVariants.{Leave, Arrive}
use Rattle.replay_model.specs.declared.step.Step.{Step}
use Rattle.cfs_model.specs.declared.policy.Policy.{Policy}

-- an amount that an event gives at a processor that it touches, from the machine before it
abbrev pub Amount : Type 0
Amount = Machine → Claimed → ℕ → ℕ

-- those of a pid: how long it ran, what it was charged, and that it was picked
abbrev pub ran_by : ℕ → Amount
ran_by pid m event cpu = ran_at m event.entry.time pid cpu

abbrev pub charged_by : ℕ → Amount
charged_by pid m event cpu = charged_at m event pid cpu

abbrev pub picked_by : ℕ → Amount
picked_by pid m event cpu = cond (picks pid event.entry.act) 1 0

-- what events give at one processor
abbrev pub amount_at : Amount → ℕ → Machine → List Claimed → List Machine → ℕ
amount_at amount cpu m [] states = 0
amount_at amount cpu m (event ∷ events) [] = 0
amount_at amount cpu m (event ∷ events) (after ∷ states) =
    cond (touches cpu event) (amount m event cpu) 0 + amount_at amount cpu after events states

-- a deed picks whom its event picks
picks_same : (cpu pid : ℕ) (policy : Policy) (act : Act) → picks_of (deed_at cpu policy act) pid
    ≡ cond (picks pid act) 1 0
picks_same cpu pid policy (Switch here prev pn way zero nn) = refl
picks_same cpu pid policy (Switch here prev pn way (suc n) nn) = refl
picks_same cpu pid policy (Wake here task nice) = refl
picks_same cpu pid policy (Born here task nice) = refl
picks_same cpu pid policy (Shift orig dest task nice) = go (nat_eq orig cpu)
  where
    go : (b : Bool) → picks_of (cond b (Leave task nice dest) (Arrive task nice orig policy)) pid ≡ 0
    go true = refl
    go false = refl

-- the charge of a step is the one told at its processor
pub charge_there : (act : Act) (policy : Policy) (charge : Option ChargeLine) (cpu : ℕ)
    → list_any (λ other. nat_eq other cpu) (touched act) ≡ true
    → charge_for (deed_at cpu policy act) charge ≡ cond (nat_eq (home_of act) cpu) charge None
charge_there act policy charge cpu t = at act t
  where
    alone : (b : Bool) → (b || false) ≡ true → charge ≡ cond b charge None
    alone true h = refl
    alone false h = absurd (true≢false (sym h))

    at : (act : Act) → list_any (λ other. nat_eq other cpu) (touched act) ≡ true
        → charge_for (deed_at cpu policy act) charge ≡ cond (nat_eq (home_of act) cpu) charge None
    at (Switch here prev pn way next nn) h = alone (nat_eq here cpu) h
    at (Wake here task nice) h = alone (nat_eq here cpu) h
    at (Born here task nice) h = alone (nat_eq here cpu) h
    at (Shift orig dest task nice) h = go (nat_eq orig cpu)
      where
        go : (b : Bool) → charge_for (cond b (Leave task nice dest) (Arrive task nice orig policy)) charge
            ≡ cond b charge None
        go true = refl
        go false = refl

-- what a step that passes makes of the tallies
record Grows (cpu : ℕ) (m : Machine) (event : Claimed) (s next : ReplayStateView) : Type 0 where
  ran : (pid : ℕ) → said (λ t. t.ran) next.page.tallies pid
      ≡ said (λ t. t.ran) s.page.tallies pid + ran_by pid m event cpu
  charged : (pid : ℕ) → said (λ t. t.charged) next.page.tallies pid
      ≡ said (λ t. t.charged) s.page.tallies pid + charged_by pid m event cpu
  picks : (pid : ℕ) → said (λ t. t.picks) next.page.tallies pid
      ≡ said (λ t. t.picks) s.page.tallies pid + picked_by pid m event cpu
  covers : Covers next.part next.page.tallies

-- the charge and the lift take nobody away
lifted_covers : (time : ℕ) (charge : Option ChargeLine) (part lifted : Part) (tallies : List Tally)
    → IsLiftedPart time charge part lifted → Covers part tallies
    → Covers lifted (charged_tallies part time charge tallies)
lifted_covers time charge part lifted tallies l covers pid s e =
    charged_has part time charge tallies pid
    ∙ go (part.tasks pid) refl
    (sym (told_some charge (charged_part part time) pid)
    ∙ ap (λ (p : Part). is_some (p.tasks pid)) (sym l.result) ∙ ap is_some e)
  where
    go : (o : Option Entity) → part.tasks pid ≡ o → is_some (option_map (charged_in part time) o) ≡ true
        → has_tally tallies pid ≡ true
    go None h k = absurd (true≢false (sym k))
    go (Some t) h k = covers pid t h

-- nor does a change of a nice value
found_covers : (step : Step) (part found : Part) (tallies : List Tally) → IsFound step part found
    → Covers part tallies → Covers found (charged_tallies part step.time step.charge tallies)
found_covers step part found tallies f covers pid s e =
    go (f.lifted.tasks pid) refl
    (sym (ap (λ (p : Part). is_some (p.tasks pid)) f.is_reniced ∙ reniced_some step.nice f.lifted pid) ∙ ap is_some e)
  where
    go : (o : Option Entity) → f.lifted.tasks pid ≡ o → is_some (f.lifted.tasks pid) ≡ true
        → has_tally (charged_tallies part step.time step.charge tallies) pid ≡ true
    go None h k = absurd (true≢false (sym k ∙ ap is_some h))
    go (Some t) h k = lifted_covers step.time step.charge part f.lifted tallies f.is_lifted covers pid t h

module _ (knobs : KnobsView) (cpu : ℕ) (m : Machine) (apart : IsApart m) (event : Claimed) (s next : ReplayStateView)
    (same : part_of m cpu ≡ s.part) (covers : Covers s.part s.page.tallies)
    (touch : touches cpu event ≡ true) (p : PassesStep knobs cpu s (step_at cpu event) next) where
  -- the charge that is told here
  abbrev charge : Option ChargeLine
  charge = charge_for (deed_at cpu event.policy event.entry.act) event.charge

  tallies_are : next.page.tallies
      ≡ tallied (deed_at cpu event.policy event.entry.act)
      (charged_tallies s.part event.entry.time charge s.page.tallies)
  tallies_are = ap (λ page. page.tallies) p.page

  found : Covers p.found (charged_tallies s.part event.entry.time charge s.page.tallies)
  found = found_covers (step_at cpu event) s.part p.found s.page.tallies p.passes.is_found covers

  grows : Grows cpu m event s next
  grows =
      let deed = deed_at cpu event.policy event.entry.act in
      let now = event.entry.time in
      let after = charged_tallies s.part now charge s.page.tallies in
      record {
        ran = λ pid.
            let a = ap (λ ts. said (λ t. t.ran) ts pid) tallies_are in
            let b = tallied_ran deed after pid in
            let c = charged_ran s.part now charge s.page.tallies covers pid in
            let d : time_of s.part now (s.part.tasks pid) ≡ ran_at m now pid cpu =
            ap (λ q. time_of q now (q.tasks pid)) (sym same) ∙ time_is m apart cpu now pid in
            omega arith;
        charged = λ pid.
            let a = ap (λ ts. said (λ t. t.charged) ts pid) tallies_are in
            let b = tallied_charged deed after pid in
            let c = charged_charged s.part now charge s.page.tallies covers pid in
            let d : charge_to s.part now charge pid (s.part.tasks pid) ≡ charged_at m event pid cpu =
            ap (λ q. charge_to q now charge pid (q.tasks pid)) (sym same) ∙ charge_is m apart cpu now pid charge
            ∙ ap (λ c. cond (m.running cpu pid) (cost_as_told m now c pid cpu) 0)
            (charge_there event.entry.act event.policy event.charge cpu touch) in
            omega arith;
        picks = λ pid.
            let a = ap (λ ts. said (λ t. t.picks) ts pid) tallies_are in
            let b = tallied_picks deed after pid
            (picked_has p.found deed after found
            (clear_of knobs cpu p.found (step_at cpu event) p.passes.none).next pid) in
            let c = charged_picks s.part now charge s.page.tallies covers pid in
            let d = picks_same cpu pid event.policy event.entry.act in
            omega arith;
        covers = λ pid x e. ap (λ ts. has_tally ts pid) tallies_are
            ∙ deed_covers p.found deed (step_at cpu event).claim after found pid x
            (ap (λ q. q.tasks pid) (sym p.part) ∙ e);
      }

-- what the replay of a processor's steps among a run's events makes of the tallies
pub record AreAddends (cpu : ℕ) (m : Machine) (events : List Claimed) (states : List Machine) (s last : ReplayStateView)
    : Type 0 where
  pub ran : (pid : ℕ) → said (λ t. t.ran) last.page.tallies pid
      ≡ said (λ t. t.ran) s.page.tallies pid + amount_at (ran_by pid) cpu m events states
  pub charged : (pid : ℕ) → said (λ t. t.charged) last.page.tallies pid
      ≡ said (λ t. t.charged) s.page.tallies pid + amount_at (charged_by pid) cpu m events states
  pub picks : (pid : ℕ) → said (λ t. t.picks) last.page.tallies pid
      ≡ said (λ t. t.picks) s.page.tallies pid + amount_at (picked_by pid) cpu m events states

told_none : (cpu : ℕ) (m : Machine) (s last : ReplayStateView) → last ≡ s → AreAddends cpu m [] [] s last
told_none cpu m s last e = record {
  ran = λ pid. let k = ap (λ x. said (λ t. t.ran) x.page.tallies pid) e in omega arith;
  charged = λ pid. let k = ap (λ x. said (λ t. t.charged) x.page.tallies pid) e in omega arith;
  picks = λ pid. let k = ap (λ x. said (λ t. t.picks) x.page.tallies pid) e in omega arith;
}

-- the cut of an event that touches the processor, and of one that doesn't
addend_here : (amount : Amount) (cpu : ℕ) (m : Machine) (event : Claimed) (events : List Claimed) (after : Machine)
    (states : List Machine) → touches cpu event ≡ true
    → amount_at amount cpu m (event ∷ events) (after ∷ states)
    ≡ amount m event cpu + amount_at amount cpu after events states
addend_here amount cpu m event events after states t =
    ap (λ b. cond b (amount m event cpu) 0 + amount_at amount cpu after events states) t

addend_away : (amount : Amount) (cpu : ℕ) (m : Machine) (event : Claimed) (events : List Claimed) (after : Machine)
    (states : List Machine) → touches cpu event ≡ false
    → amount_at amount cpu m (event ∷ events) (after ∷ states) ≡ amount_at amount cpu after events states
addend_away amount cpu m event events after states t =
    let e = ap (λ b. cond b (amount m event cpu) 0 + amount_at amount cpu after events states) t in omega arith

told_here : (cpu : ℕ) (m : Machine) (event : Claimed) (events : List Claimed) (after : Machine) (states : List Machine)
    (s next last : ReplayStateView) → touches cpu event ≡ true → Grows cpu m event s next
    → AreAddends cpu after events states next last → AreAddends cpu m (event ∷ events) (after ∷ states) s last
told_here cpu m event events after states s next last t g h = record {
  ran = λ pid. let a = h.ran pid in let b = g.ran pid in
      let c = addend_here (ran_by pid) cpu m event events after states t in omega arith;
  charged = λ pid. let a = h.charged pid in let b = g.charged pid in
      let c = addend_here (charged_by pid) cpu m event events after states t in omega arith;
  picks = λ pid. let a = h.picks pid in let b = g.picks pid in
      let c = addend_here (picked_by pid) cpu m event events after states t in omega arith;
}

told_away : (cpu : ℕ) (m : Machine) (event : Claimed) (events : List Claimed) (after : Machine) (states : List Machine)
    (s last : ReplayStateView) → touches cpu event ≡ false
    → AreAddends cpu after events states s last → AreAddends cpu m (event ∷ events) (after ∷ states) s last
told_away cpu m event events after states s last t h = record {
  ran = λ pid. let a = h.ran pid in
      let c = addend_away (ran_by pid) cpu m event events after states t in omega arith;
  charged = λ pid. let a = h.charged pid in
      let c = addend_away (charged_by pid) cpu m event events after states t in omega arith;
  picks = λ pid. let a = h.picks pid in
      let c = addend_away (picked_by pid) cpu m event events after states t in omega arith;
}

pub told : (knobs : KnobsView) (cpu : ℕ) (m : Machine) (s : ReplayStateView) (events : List Claimed)
    (states : List Machine) (last : ReplayStateView)
    → IsInOrder m → part_of m cpu ≡ s.part → s.page.fault ≡ None → Covers s.part s.page.tallies
    → AreSteps knobs m events states → IsReplay knobs cpu s (steps_at cpu events) last → last.page.fault ≡ None
    → AreAddends cpu m events states s last
told knobs cpu m s [] [] last o same none covers steps r end = told_none cpu m s last r
told knobs cpu m s [] (after ∷ states) last o same none covers steps r end = absurd steps
told knobs cpu m s (event ∷ events) [] last o same none covers steps r end = absurd steps
told knobs cpu m s (event ∷ events) (after ∷ states) last o same none covers steps r end =
    let ordered = step_in_order knobs m event after o steps.0 in
    elim (steps_at_cpu knobs m event after o steps.0 cpu) [
      | inl h ↦ (let t = subst (λ xs. IsReplay knobs cpu s xs last) (touched_steps cpu event events h.0) r in
          let p = first_passes knobs cpu s (step_at cpu event) t.0 (steps_at cpu events) last none t.1 t.2 end in
          let mine = subst (λ q. PartStep knobs cpu q (step_at cpu event) (part_of after cpu)) same h.1 in
          let g = grows knobs cpu m (apart_of m o) event s t.0 same covers h.0 p.0 in
          told_here cpu m event events after states s t.0 last h.0 g
          (told knobs cpu after t.0 events states last ordered
          (sym (step_same_part knobs cpu s (step_at cpu event) (part_of after cpu) t.0 mine p.0)) p.1 g.covers
          steps.1 t.2 end))
      | inr h ↦ told_away cpu m event events after states s last h.0
          (told knobs cpu after s events states last ordered (h.1 ∙ same) none covers steps.1
          (subst (λ xs. IsReplay knobs cpu s xs last) (untouched_steps cpu event events h.0) r) end)
    ]
