use Rattle.std.proofs.Common.{rules}
use Rattle.std.proofs.lemmas.Bool.Decides.{Decides-at}
use Rattle.processor_stream.specs.Stream.{stream_view}
use Rattle.processor_stream.proofs.Same.{is_same_decides}
use Rattle.processor_stream.proofs.stream_eq.StreamPartialEq.eq.Goals as goal

pub returns-then-self-other-4-clause-exact : goal.returns-then-self-other-4-clause-exact
returns-then-self-other-4-clause-exact c =
    Decides-at _ _ (search rules) (is_same_decides (stream_view c.args.self.now) (stream_view c.args.other.now))

pub returns-else-self-other-4-clause-exact : goal.returns-else-self-other-4-clause-exact
returns-else-self-other-4-clause-exact c =
    Decides-at _ _ (search rules) (is_same_decides (stream_view c.args.self.now) (stream_view c.args.other.now))
