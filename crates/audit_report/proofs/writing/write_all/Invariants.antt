-- What is gone from the rest was taken, and no write has failed.
use Rattle.std.proofs.Common.{◌≡◌, List, ℕ, ◌++◌, length}
use Rattle.std.specs.Io.KnownBytes.{Appends}
use Rattle.audit_report.proofs.writing.write_all.Given as goal

abbrev pub invariant-loop-rest : goal.invariant-loop-rest
invariant-loop-rest g l =
    let sink = g.S.Sink in
    record {
      done : List ℕ;
      split : l.initial.rest ≡ done ++ l.rest;
      taken : Appends (sink.taken l.initial.out) (sink.taken l.out) done;
      heard : sink.has_failed l.out ≡ sink.has_failed l.initial.out;
    }

abbrev pub decreases-loop-rest : goal.decreases-loop-rest
decreases-loop-rest g l = length l.rest
