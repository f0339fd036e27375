-- `==` of places, and of policies, answers whether they are the same.
use Rattle.std.proofs.Common.{◌≡◌, Decides, refl}
use Rattle.cfs_model.specs.declared.task.Place.{Place}
use Rattle.cfs_model.specs.declared.task.Place.TheVariants.{Run, Wait, Rest}
use Rattle.cfs_model.specs.declared.policy.Policy.{Policy}
use Rattle.cfs_model.specs.declared.policy.Policy.TheVariants.{Normal, Idle}
use Rattle.cfs_model.specs.contracts.policy.PolicyPartialEq.TheImpl as policy_eq
use Rattle.cfs_model.specs.contracts.task.PlacePartialEq.TheImpl as place_eq

pub place_decides : (a b : Place) → Decides ((place_eq.ghosts).eq a b) (a ≡ b)
place_decides Run Run = (λ _. refl, λ _. refl)
place_decides Wait Wait = (λ _. refl, λ _. refl)
place_decides Rest Rest = (λ _. refl, λ _. refl)
place_decides a b = (λ h. cc, λ h. cc)

pub policies_decide : (a b : Policy) → Decides ((policy_eq.ghosts).eq a b) (a ≡ b)
policies_decide Normal Normal = (λ _. refl, λ _. refl)
policies_decide Idle Idle = (λ _. refl, λ _. refl)
policies_decide a b = (λ h. cc, λ h. cc)
