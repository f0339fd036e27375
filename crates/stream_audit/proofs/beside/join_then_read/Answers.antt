use Rattle.std.proofs.Common.{◌∙◌}
use Rattle.audit_input.specs.declared.fault.Fault.TheVariants.{ReadTrace}
use Rattle.stream_audit.proofs.BothRead.{none_failed}
use Rattle.stream_audit.proofs.ReadBeside.{on_ok}
use Rattle.stream_audit.proofs.UnderWay.{if_err}
use Rattle.stream_audit.proofs.beside.join_then_read.Goals as goal

pub returns-clause-joined : goal.returns-clause-joined
returns-clause-joined g c =
    let join = c.join_next-joined.ensures in
    record {
      joins = join.joins;
      starts = join.starts;
      aim = join.aim;
      within = join.within;
      some = join.some;
      fed = join.fed;
      bounded = join.bounded;
      cut_short = join.cut_short;
    }

pub returns-clause-read : goal.returns-clause-read
returns-clause-read g c =
    let read = c.read_some.ensures in
    record {
      read = read.read;
      end = read.end;
      ended = read.ended;
      counted = read.counted;
      read_on = read.read_on;
      bounded = read.bounded;
      heard = on_ok _ _ c.read_some.result (λ same. same ∙ c.requires.unfailed) read.heard;
      cut_short = if_err _ _ c.read_some.result
          (λ fault cut. none_failed fault ReadTrace _ _ _ c.requires.unfailed cut) read.cut_short;
      never_fewer = read.never_fewer;
      told = read.told;
      wanted = read.wanted;
    }
