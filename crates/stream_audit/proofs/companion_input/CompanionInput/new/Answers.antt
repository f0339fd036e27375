use Rattle.std.proofs.Common.{refl}
use Rattle.stream_audit.proofs.Companion.{nothing_read}
use Rattle.stream_audit.proofs.companion_input.CompanionInput.new.Goals as goal

pub returns-clause-at : goal.returns-clause-at
returns-clause-at c = λ gave. nothing_read gave _ c.new.ensures c.new-2.ensures refl
