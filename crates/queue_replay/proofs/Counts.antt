-- The tallies after a charge: the runner's alone has grown.
use Rattle.std.proofs.Common.{◌≡◌, ℕ, ◌-◌, eqb, List, [], ◌∷◌, map, Option, Some, None, option_map, refl, sym, ap, ◌∙◌}
use Rattle.std.proofs.Common.{◌≢◌, ◌+◌, ℤ, pos, nat_abs, ◌+ℤ◌, ◌-ℤ◌, ◌⊎◌, inl, inr, arith}
use Rattle.std.proofs.lemmas.Int.{ints}
use Rattle.std.proofs.lemmas.Option.{same_Some}
use Rattle.std.proofs.lemmas.Bool.{eq-eqb, ne_eqb, cond-true, cond-false, cases_eq}
use Rattle.replay_model.specs.Noted.{told_cost, charged_tally, charged_tallies, tallies_after_run}
use Rattle.replay_model.specs.Part.{Part, Entity, cost_in, runtime_after, charged_in, charged_part, told_in, NobodyIn}
use Rattle.replay_model.specs.Part.{IsLiftedPart}
use Rattle.replay_model.specs.declared.page.Tally.{Tally}
use Rattle.cfs_model.specs.declared.task.Place.{Place}
use Rattle.cfs_model.specs.declared.task.Place.TheVariants.{Run, Wait, Rest}
use Rattle.runqueue.specs.declared.sched_entity.SchedEntity.{SchedEntity}
use Rattle.queue_replay.specs.Stretches.{ran_tally, stretch_between, stretched}
use Rattle.runqueue.specs.Queue.{IsTheRunner}
use Rattle.runqueue.specs.Tasks.{entity_of}
use Rattle.cfs_model.specs.Machine.{put}
use Rattle.cfs_model.specs.declared.charge_line.ChargeLine.{ChargeLine}
use Rattle.cfs_model.proofs.Moves.{put-other}
use Rattle.runqueue.proofs.Parts.{put-at}
use Rattle.replay_model.proofs.PartFacts.{place_lifted}

map_same : {X : Type 0} (f g : X → X) → ((x : X) → f x ≡ g x) → (xs : List X) → map f xs ≡ map g xs
map_same f g e [] = refl
map_same f g e (x ∷ xs) = ap (λ y. y ∷ map f xs) (e x) ∙ ap (λ l. g x ∷ l) (map_same f g e xs)

map_none : {X : Type 0} (f : X → X) → ((x : X) → f x ≡ x) → (xs : List X) → map f xs ≡ xs
map_none f e [] = refl
map_none f e (x ∷ xs) = ap (λ y. y ∷ map f xs) (e x) ∙ ap (λ l. x ∷ l) (map_none f e xs)

-- a tally of one who doesn't run stays
unrun : (part : Part) (time : ℕ) (charge : Option ChargeLine) (o : Option Entity) (tally : Tally)
    → (option_map (λ (s : Entity). s.place) o ≡ Some Run → ⊥)
    → charged_tally part time charge o tally ≡ tally
unrun part time charge None tally ne = refl
unrun part time charge (Some s) tally ne = go s.place refl
  where
    cost : ℕ
    cost = told_cost charge part time tally.pid s

    go : (p : Place) → s.place ≡ p → charged_tally part time charge (Some s) tally ≡ tally
    go Run e = absurd (ne (ap Some e))
    go Wait e = ap (λ q. tallies_after_run q (time - part.mark) cost tally) e
    go Rest e = ap (λ q. tallies_after_run q (time - part.mark) cost tally) e

one_tally : (part : Part) (time : ℕ) (charge : Option ChargeLine) (t : SchedEntity) → IsTheRunner part (Some t)
    → (tally : Tally)
    → charged_tally part time charge (part.tasks tally.pid) tally ≡ ran_tally t.pid (time - part.mark)
    (told_cost charge part time t.pid (entity_of t)) tally
one_tally part time charge t ran tally =
    elim (cases_eq tally.pid t.pid) [
      | inl same ↦ ap (λ o. charged_tally part time charge o tally) (ap part.tasks same ∙ ran.0)
          ∙ ap (λ p. tallies_after_run p (time - part.mark) (told_cost charge part time tally.pid (entity_of t)) tally)
          ran.1
          ∙ ap (λ (n : ℕ). record tally {
            ran = tally.ran + (time - part.mark);
            charged = tally.charged + told_cost charge part time n (entity_of t);
          }) same
          ∙ sym (cond-true (eqb tally.pid t.pid) _ tally (eq-eqb _ _ same))
      | inr other ↦ unrun part time charge (part.tasks tally.pid) tally (λ h. other (ran.2 tally.pid h))
          ∙ sym (cond-false (eqb tally.pid t.pid) _ tally (ne_eqb _ _ other))
    ]

-- who runs after the lift is who ran before it, and its virtual runtime rose by what it was charged
rose_by : (own : ℤ) (cost : ℕ) → nat_abs ((own +ℤ pos cost) -ℤ own) ≡ cost
rose_by own cost = ap nat_abs (over own cost)
  where
    over : (own : ℤ) (cost : ℕ) → ((own +ℤ pos cost) -ℤ own) ≡ pos cost
    over own cost = omega (arith, ints)

lifted_runner : (part lifted : Part) (time : ℕ) (charge : Option ChargeLine) (t u : SchedEntity)
    → IsTheRunner part (Some t) → IsLiftedPart time charge part lifted → IsTheRunner lifted (Some u)
    → (u.pid ≡ t.pid) × (nat_abs (u.v -ℤ t.v) ≡ told_cost charge part time t.pid (entity_of t))
lifted_runner part lifted time None t u ran l now =
    let at : lifted.tasks t.pid ≡ Some (charged_in part time (entity_of t)) =
    ap (λ (p : Part). p.tasks t.pid) l.result ∙ ap (option_map (charged_in part time)) ran.0 in
    let pid : u.pid ≡ t.pid = sym (now.2 t.pid (ap (option_map (λ (s : Entity). s.place)) at ∙ ap Some ran.1)) in
    let same : entity_of u ≡ charged_in part time (entity_of t) = same_Some (entity_of u)
    (charged_in part time (entity_of t)) (sym now.0 ∙ ap lifted.tasks pid ∙ at) in (
      pid,
      ap (λ (s : Entity). nat_abs (s.runtime -ℤ t.v)) same
          ∙ ap (λ p. nat_abs (runtime_after p (cost_in part time (entity_of t)) t.v -ℤ t.v)) ran.1
          ∙ rose_by t.v (cost_in part time (entity_of t)),
    )
lifted_runner part lifted time (Some charge) t u ran l now = go (cases_eq charge.pid t.pid)
  where
    exactly : Part
    exactly = charged_part part time

    told : Option Entity
    told = option_map (told_in charge.v) (exactly.tasks charge.pid)

    stood : exactly.tasks t.pid ≡ Some (charged_in part time (entity_of t))
    stood = ap (option_map (charged_in part time)) ran.0

    at : lifted.tasks t.pid ≡ put exactly.tasks charge.pid told t.pid
    at = ap (λ (p : Part). p.tasks t.pid) l.result

    who : (s : Entity) → lifted.tasks t.pid ≡ Some s → s.place ≡ Run → (u.pid ≡ t.pid) × (entity_of u ≡ s)
    who s e runs =
        let pid : u.pid ≡ t.pid = sym (now.2 t.pid (ap (option_map (λ (x : Entity). x.place)) e ∙ ap Some runs)) in
        (pid, same_Some (entity_of u) s (sym now.0 ∙ ap lifted.tasks pid ∙ e))

    go : (charge.pid ≡ t.pid) ⊎ (charge.pid ≢ t.pid)
        → (u.pid ≡ t.pid) × (nat_abs (u.v -ℤ t.v) ≡ told_cost (Some charge) part time t.pid (entity_of t))
    go (inl same) =
        let w = who (told_in charge.v (charged_in part time (entity_of t)))
        (at ∙ put-at exactly.tasks charge.pid told t.pid (sym same)
        ∙ ap (λ p. option_map (told_in charge.v) (exactly.tasks p)) same ∙ ap (option_map (told_in charge.v)) stood)
        ran.1 in (
          w.0,
          ap (λ (s : Entity). nat_abs (s.runtime -ℤ t.v)) w.1
              ∙ sym (cond-true (eqb charge.pid t.pid) _ (cost_in part time (entity_of t)) (eq-eqb _ _ same)),
        )
    go (inr other) =
        let w = who (charged_in part time (entity_of t))
        (at ∙ put-other exactly.tasks charge.pid told t.pid (λ e. other (sym e)) ∙ stood) ran.1 in (
          w.0,
          ap (λ (s : Entity). nat_abs (s.runtime -ℤ t.v)) w.1
              ∙ ap (λ p. nat_abs (runtime_after p (cost_in part time (entity_of t)) t.v -ℤ t.v)) ran.1
              ∙ rose_by t.v (cost_in part time (entity_of t))
              ∙ sym (cond-false (eqb charge.pid t.pid) _ (cost_in part time (entity_of t)) (ne_eqb _ _ other)),
        )

-- where somebody runs before the lift, somebody does after it
still_runs : (part lifted : Part) (time : ℕ) (charge : Option ChargeLine) (t : SchedEntity)
    → IsTheRunner part (Some t) → IsLiftedPart time charge part lifted → NobodyIn lifted Run → ⊥
still_runs part lifted time charge t ran l nobody =
    nobody t.pid (place_lifted time charge part lifted l t.pid
    ∙ ap (option_map (λ (s : Entity). s.place)) ran.0 ∙ ap Some ran.1)

-- the tallies after the charge
pub charged_same : (part lifted : Part) (time : ℕ) (charge : Option ChargeLine) (before after : Option SchedEntity)
    → IsTheRunner part before → IsLiftedPart time charge part lifted → IsTheRunner lifted after
    → (tallies : List Tally)
    → charged_tallies part time charge tallies
    ≡ stretched (stretch_between before after (time - part.mark)) tallies
charged_same part lifted time charge None after nobody l now tallies =
    map_none (λ tally. charged_tally part time charge (part.tasks tally.pid) tally)
    (λ tally. unrun part time charge (part.tasks tally.pid) tally (nobody tally.pid)) tallies
charged_same part lifted time charge (Some t) None ran l nobody tallies =
    absurd (still_runs part lifted time charge t ran l nobody)
charged_same part lifted time charge (Some t) (Some u) ran l now tallies =
    map_same (λ tally. charged_tally part time charge (part.tasks tally.pid) tally)
    (ran_tally t.pid (time - part.mark) (nat_abs (u.v -ℤ t.v)))
    (λ tally. one_tally part time charge t ran tally
    ∙ ap (λ n. ran_tally t.pid (time - part.mark) n tally) (sym (lifted_runner part lifted time charge t u ran l
    now).1))
    tallies
