use Rattle.std.proofs.Common.{get_or, refl}
use Rattle.ftrace_line.proofs.Remembered.{clock_stands}
use Rattle.ftrace_line.proofs.recent_clocks.RecentClocks.other_seconds_at.Goals as goal

pub returns-then-text-width-eq46 : goal.returns-then-text-width-eq46
returns-then-text-width-eq46 c =
    let clock = get_or c.args.self.now.clocks c.args.place c.index-self-place.result in
    clock_stands c.args.text.now clock.bytes clock.width clock.seconds (c.if-stands_before.ensures refl) clock.unbroken
    clock.read
