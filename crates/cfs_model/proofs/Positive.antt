-- Each of the forty weights is above 0: the table is tested, weight by weight.
use Rattle.std.proofs.Common.{◌≡◌, ℕ, ◌<◌, get_or, nat_lt, Bool, true, false, refl, sym}
use Rattle.std.proofs.lemmas.List.Folds.{list_all_at}
use Rattle.std.proofs.lemmas.Bool.{ltb-true}
use Rattle.cfs_model.specs.Nice.{weights}

-- a test that isn't false
not_false : (b : Bool) → (b ≡ false → true ≡ false) → b ≡ true
not_false true h = refl
not_false false h = sym (h refl)

pub weight_at-positive : (i : ℕ) → i < 40 → 0 < get_or weights i 0
weight_at-positive i h =
    ltb-true 0 (get_or weights i 0) (not_false _ (λ e. list_all_at (λ w. nat_lt 0 w) weights i 0 h e))
