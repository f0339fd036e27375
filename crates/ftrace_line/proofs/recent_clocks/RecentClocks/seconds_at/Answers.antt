use Rattle.std.proofs.Common.{◌≡◌, take, get_or, Some, refl, subst}
use Rattle.text_parts.specs.Unbroken.{IsUnbroken}
use Rattle.ftrace_line.specs.Clock.{seconds_in}
use Rattle.ftrace_line.proofs.Remembered.{clock_stands}
use Rattle.ftrace_line.proofs.recent_clocks.RecentClocks.seconds_at.Goals as goal

pub returns-then-text-width-eq46 : goal.returns-then-text-width-eq46
returns-then-text-width-eq46 c =
    let clock = get_or c.args.self.now.clocks c.place_of-place.result c.index-self-place.result in
    let same = c.if-clock-width.true in
    clock_stands c.args.text.now clock.bytes c.args.self.now.width clock.seconds
    (subst (λ n. take n c.args.text.now ≡ take n clock.bytes) same (c.if-stands_before.ensures refl))
    (subst (λ n. IsUnbroken (take n clock.bytes)) same clock.unbroken)
    (subst (λ n. seconds_in (take n clock.bytes) ≡ Some clock.seconds) same clock.read)
