use Rattle.std.proofs.Common.{◌≡◌, ℕ, ◌<◌, get_or, true}
use Rattle.cfs_model.specs.declared.idle_line.IdleLine.{IdleLine}
use Rattle.window_joining.specs.News.{is_named_by}
use Rattle.window_joining.proofs.strays.stray_idle.Given as goal

abbrev pub invariant-loop-idle : goal.invariant-loop-idle
invariant-loop-idle l =
    (k : ℕ) (d : IdleLine) → k < l.idle-index → is_named_by l.event (get_or l.idles k d) ≡ true
