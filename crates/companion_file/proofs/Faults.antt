-- The first test that fails gives the cause.
use Rattle.std.proofs.Common.{◌≡◌, true, false, Some, None, refl}
use Rattle.std.specs.Prelude.{unwrap_or}
use Rattle.companion_file.specs.declared.fault.CompanionCause.TheVariants.{Order, NumberRange, TwiceNamed, TwiceRunning}
use Rattle.companion_file.specs.declared.fault.CompanionCause.TheVariants.{LineOrder, NoTask}
use Rattle.companion_file.specs.Shape.{Shape}
use Rattle.companion_file.specs.Earlier.{Said}
use Rattle.companion_file.specs.Tests.{is_in_turn, is_in_limits, is_next, is_new, is_alone, is_above, is_known}
use Rattle.companion_file.specs.Tests.{fault_of}

module _ (said : Said) (x : Shape) where
  pub fault_turn : is_in_turn said x ≡ false → fault_of said x ≡ Some Order
  fault_turn turn = rw turn refl

  pub fault_limits : is_in_turn said x ≡ true → is_in_limits (unwrap_or said.cpus 0) x ≡ false
      → fault_of said x ≡ Some NumberRange
  fault_limits turn limits = rw (turn, limits) refl

  pub fault_next : is_in_turn said x ≡ true → is_in_limits (unwrap_or said.cpus 0) x ≡ true → is_next said x ≡ false
      → fault_of said x ≡ Some Order
  fault_next turn limits next = rw (turn, limits, next) refl

  pub fault_new : is_in_turn said x ≡ true → is_in_limits (unwrap_or said.cpus 0) x ≡ true → is_next said x ≡ true
      → is_new said x ≡ false → fault_of said x ≡ Some TwiceNamed
  fault_new turn limits next new = rw (turn, limits, next, new) refl

  pub fault_alone : is_in_turn said x ≡ true → is_in_limits (unwrap_or said.cpus 0) x ≡ true → is_next said x ≡ true
      → is_new said x ≡ true → is_alone said x ≡ false → fault_of said x ≡ Some TwiceRunning
  fault_alone turn limits next new alone = rw (turn, limits, next, new, alone) refl

  pub fault_above : is_in_turn said x ≡ true → is_in_limits (unwrap_or said.cpus 0) x ≡ true → is_next said x ≡ true
      → is_new said x ≡ true → is_alone said x ≡ true → is_above said x ≡ false → fault_of said x ≡ Some LineOrder
  fault_above turn limits next new alone above = rw (turn, limits, next, new, alone, above) refl

  pub fault_known : is_in_turn said x ≡ true → is_in_limits (unwrap_or said.cpus 0) x ≡ true → is_next said x ≡ true
      → is_new said x ≡ true → is_alone said x ≡ true → is_above said x ≡ true → is_known said x ≡ false
      → fault_of said x ≡ Some NoTask
  fault_known turn limits next new alone above known = rw (turn, limits, next, new, alone, above, known) refl

  pub no_fault : is_in_turn said x ≡ true → is_in_limits (unwrap_or said.cpus 0) x ≡ true → is_next said x ≡ true
      → is_new said x ≡ true → is_alone said x ≡ true → is_above said x ≡ true → is_known said x ≡ true
      → fault_of said x ≡ None
  no_fault turn limits next new alone above known = rw (turn, limits, next, new, alone, above, known) refl
