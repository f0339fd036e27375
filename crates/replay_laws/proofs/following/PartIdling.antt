-- A processor idles in the machine just where its part does.
use Rattle.std.proofs.Common.{ℕ}
use Rattle.cfs_model.specs.Machine.{Machine}
use Rattle.cfs_model.specs.Idling.{Idles}
use Rattle.replay_model.specs.Part.{part_of}
use Rattle.replay_model.specs.PartWords.{PartIdles}
use Rattle.cfs_model.proofs.KeptOrder.{IsApart}
use Rattle.replay_model.proofs.PartFacts.{is_in, stands_at}
use Rattle.cfs_model.specs.declared.task.Place.TheVariants.{Run, Wait}

pub idles_in_part : (m : Machine) → IsApart m → (cpu : ℕ) → Idles m cpu → PartIdles (part_of m cpu)
idles_in_part m a cpu i = record {
  nobody_runs = λ pid h. i.nobody_runs pid
      (stands_at m Run cpu pid h);
  pid = i.pid;
  waits = is_in m a Wait cpu i.pid i.waits;
}

pub idles_in_machine : (m : Machine) → IsApart m → (cpu : ℕ) → PartIdles (part_of m cpu) → Idles m cpu
idles_in_machine m a cpu i = record {
  nobody_runs = λ pid h. i.nobody_runs pid
      (is_in m a Run cpu pid h);
  pid = i.pid;
  waits = stands_at m Wait cpu i.pid i.waits;
}
