-- What a task is charged for at a processor, read off the processor's part or off the machine.
use Rattle.std.proofs.Common.{◌≡◌, ℕ, ◌-◌, nat_eq, Bool, true, false, cond, Option, Some, None, nat_abs, ◌-ℤ◌, refl}
use Rattle.std.proofs.Common.{sym, ap, ◌∙◌, true≢false}
use Rattle.std.specs.Option.{option_map_or}
use Rattle.cfs_model.specs.Machine.{Machine, pairs_of, Stands}
use Rattle.cfs_model.specs.Lifted.{cost_at}
use Rattle.replay_model.specs.Part.{Entity, entity_at, part_of, cost_in}
use Rattle.replay_model.specs.Noted.{told_cost}
use Rattle.replay_model.specs.Summary.{ran_at, exact_cost, cost_as_told}
use Rattle.cfs_model.proofs.KeptOrder.{IsApart}
use Rattle.replay_model.proofs.PartFacts.{StandsAs, stands_as, values_of}
use Rattle.tally_laws.proofs.TalliesCharged.{of_runner, time_of, charge_to}
use Rattle.cfs_model.specs.declared.charge_line.ChargeLine.{ChargeLine}
use Rattle.cfs_model.specs.declared.task.Place.{Place}
use Rattle.cfs_model.specs.declared.task.Place.TheVariants.{Run, Wait, Rest}

-- who doesn't run is charged nothing
of_other : (place : Place) (amount : ℕ) → (place ≡ Run → ⊥) → of_runner place amount ≡ 0
of_other Run amount ne = absurd (ne refl)
of_other Wait amount ne = refl
of_other Rest amount ne = refl

module _ (m : Machine) (apart : IsApart m) (cpu time pid : ℕ) where
  not_running : m.running cpu pid ≡ false → (s : Entity) → entity_at m cpu pid ≡ Some s → s.place ≡ Run → ⊥
  not_running e s h run =
      let stands : Stands m Run cpu pid =
      ap (λ place. pairs_of m place cpu pid) (sym run) ∙ (stands_as m cpu pid s h).stands in
      true≢false (sym stands ∙ e)

  pub time_is : time_of (part_of m cpu) time (entity_at m cpu pid) ≡ ran_at m time pid cpu
  time_is = go (m.running cpu pid) refl
    where
      rest : (o : Option Entity) → entity_at m cpu pid ≡ o → m.running cpu pid ≡ false
          → time_of (part_of m cpu) time o ≡ 0
      rest None h e = refl
      rest (Some s) h e = of_other s.place (time - m.mark cpu) (not_running e s h)

      go : (b : Bool) → m.running cpu pid ≡ b
          → time_of (part_of m cpu) time (entity_at m cpu pid) ≡ cond (m.running cpu pid) (time - m.mark cpu) 0
      go true e =
          let s = values_of m apart Run cpu pid e in
          ap (time_of (part_of m cpu) time) s.2 ∙ ap (λ place. of_runner place (time - m.mark cpu)) s.1
          ∙ ap (λ b. cond b (time - m.mark cpu) 0) (sym e)
      go false e = rest (entity_at m cpu pid) refl e ∙ ap (λ b. cond b (time - m.mark cpu) 0) (sym e)

  exact_is : (s : Entity) → StandsAs m cpu pid s → cost_in (part_of m cpu) time s ≡ exact_cost m time pid cpu
  exact_is s k =
      sym (ap (λ o. option_map_or (λ nice. cost_at m cpu time nice (m.policy pid)) o 0) k.nice
      ∙ ap (cost_at m cpu time s.nice) k.policy)

  -- what is told of a task costs the same in the part and in the machine
  cost_is : (charge : Option ChargeLine) (s : Entity) → StandsAs m cpu pid s
      → told_cost charge (part_of m cpu) time pid s ≡ cost_as_told m time charge pid cpu
  cost_is None s k = exact_is s k
  cost_is (Some charge) s k =
      ap (λ n. cond (nat_eq charge.pid pid) (nat_abs (charge.v -ℤ s.runtime)) n) (exact_is s k)
      ∙ ap (λ o. cond (nat_eq charge.pid pid) (option_map_or (λ v. nat_abs (charge.v -ℤ v)) o 0)
      (exact_cost m time pid cpu)) (sym k.runtime)

  pub charge_is : (charge : Option ChargeLine)
      → charge_to (part_of m cpu) time charge pid (entity_at m cpu pid)
      ≡ cond (m.running cpu pid) (cost_as_told m time charge pid cpu) 0
  charge_is charge = go (m.running cpu pid) refl
    where
      cost : ℕ
      cost = cost_as_told m time charge pid cpu

      rest : (o : Option Entity) → entity_at m cpu pid ≡ o → m.running cpu pid ≡ false
          → charge_to (part_of m cpu) time charge pid o ≡ 0
      rest None h e = refl
      rest (Some s) h e = of_other s.place (told_cost charge (part_of m cpu) time pid s) (not_running e s h)

      go : (b : Bool) → m.running cpu pid ≡ b
          → charge_to (part_of m cpu) time charge pid (entity_at m cpu pid) ≡ cond (m.running cpu pid) cost 0
      go true e =
          let s = values_of m apart Run cpu pid e in
          ap (charge_to (part_of m cpu) time charge pid) s.2
          ∙ ap (λ place. of_runner place (told_cost charge (part_of m cpu) time pid s.0)) s.1
          ∙ cost_is charge s.0 s.3
          ∙ ap (λ b. cond b cost 0) (sym e)
      go false e = rest (entity_at m cpu pid) refl e ∙ ap (λ b. cond b cost 0) (sym e)
