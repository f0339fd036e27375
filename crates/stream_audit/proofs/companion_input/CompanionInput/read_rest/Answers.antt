use Rattle.std.proofs.Common.{◌∙◌}
use Rattle.stream_audit.proofs.Companion.{says_more, says_nothing}
use Rattle.stream_audit.proofs.companion_input.CompanionInput.read_rest.Goals as goal

pub loop-self-init : goal.loop-self-init
loop-self-init g c = record {
  fed = c.requires;
  read = λ gave said edge at. says_nothing gave (g.C.Feed.left c.args.feed.now) c.args.self.now said edge at;
}

pub loop-self-preserved : goal.loop-self-preserved
loop-self-preserved g c =
    let before = c.loop-self.invariant in
    let next = c.in_ok-self.ensures in
    record {
      fed = record {
        counted = next.counted;
        ended = next.ended;
        heard = next.heard ∙ before.fed.heard;
      };
      read = λ gave said edge at. says_more gave _ _ c.args.self.now c.loop-self.self _ said edge
          c.loop-self-test.true (next.passed gave) next.end
          (before.read gave said edge at);
    }
