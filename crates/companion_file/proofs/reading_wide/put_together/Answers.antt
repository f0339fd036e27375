use Rattle.std.proofs.Common.{rules, ◌≡◌, ◌∷◌}
use Rattle.companion_file.proofs.Piecewise.{one_less}
use Rattle.companion_file.proofs.reading_wide.put_together.Goals as goal

pub loop-later-preserved : goal.loop-later-preserved
loop-later-preserved c lines apart =
    let left = c.loop-later.invariant lines apart in
    let parts : c.loop-later.later-iterator.rest.items ≡ c.in-Some.later ∷ c.next.new.self.rest.items = search rules in
    one_less c.args.draft.now c.loop-later.draft c.put_behind.new.self c.in-Some.later lines c.next.new.self.rest.items
    c.in_ok-put_behind.ensures.0 c.in_ok-put_behind.ensures.1 (rw parts at left)
