use Rattle.std.proofs.Common.{◌≡◌, ℕ, zero, suc, ◌<◌, ◌∷◌, [], get_or, refl, arith}
use Rattle.ftrace_line.proofs.Remembered.{zero_read}
use Rattle.ftrace_line.proofs.clock.Clock.zero.Goals as goal

pub invariant_of-result : goal.invariant_of-result
invariant_of-result c = record {
  few = omega arith;
  masked = first_two;
  unbroken = refl;
  read = zero_read;
}
  where
    first_two : (index : ℕ) → index < 2
        → get_or {A = ℕ} (255 ∷ 255 ∷ 0 ∷ 0 ∷ 0 ∷ 0 ∷ 0 ∷ 0 ∷ 0 ∷ 0 ∷ 0 ∷ 0 ∷ 0 ∷ 0 ∷ 0 ∷ 0 ∷ []) index 0 ≡ 255
    first_two zero lt = refl
    first_two (suc zero) lt = refl
    first_two (suc (suc index)) lt = absurd (omega arith)
