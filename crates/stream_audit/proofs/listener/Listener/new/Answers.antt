use Rattle.std.proofs.Common.{refl}
use Rattle.stream_audit.proofs.UnderWay.{none_heard}
use Rattle.stream_audit.proofs.listener.Listener.new.Goals as goal

pub returns-clause-under_way : goal.returns-clause-under_way
returns-clause-under_way c = λ trace gave.
    none_heard c.args.aim trace gave _ (c.new.ensures.coming trace gave) c.new.ensures.none refl
