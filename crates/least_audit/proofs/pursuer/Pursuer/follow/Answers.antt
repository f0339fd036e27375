use Rattle.std.proofs.Common.{◌≡◌, if◌then◌else◌, nat_lt, Some, refl, subst}
use Rattle.cfs_model.specs.Knobs.{value_at}
use Rattle.queue_replay.specs.Windowed.{windowed_view}
use Rattle.least_audit.specs.Pursuit.{IsFirstWaiting}
use Rattle.least_audit.specs.Rises.{rise_at}
use Rattle.least_audit.specs.declared.rise.Rise.{Rise}
use Rattle.least_audit.proofs.pursuer.Pursuer.follow.Goals as goal

pub returns : goal.returns
returns c =
    let rise : Rise = record {
      step = c.args.step.now;
      since = c.idled_since-since.result;
      over = c.first_waiting-over.result;
    } in
    let old = c.args.self.now.rises in
    record {
      through = c.in_ok-go_through.ensures.through;
      rise = rise;
      of_step = refl;
      since = c.idled_since-since.ensures;
      over = subst (λ p. IsFirstWaiting p c.first_waiting-over.result) c.runqueue.ensures c.first_waiting-over.ensures;
      noted = λ which.
          subst (λ b. rise_at c.with-self.result which
          ≡ (if nat_lt (value_at b which) (value_at (windowed_view c.go_through.new.self).needs which) then Some rise
          else rise_at old which)) c.needs-before.ensures
          (subst (λ a. rise_at c.with-self.result which
          ≡ (if nat_lt (value_at c.needs-before.result which) (value_at a which) then Some rise else rise_at old which))
          c.needs.ensures (c.with-self.ensures which));
    }
