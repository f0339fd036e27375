-- Where a field is missing the reading ends there: the fields before it are handed over one by one.
use Rattle.std.proofs.Common.{◌≡◌, true, false, eqb, length, refl, rules}
use Rattle.sched_event.specs.Reading.{switch_at}
use Rattle.sched_event.proofs.switch.switch_fields.Goals as goal

pub returns-in_err-prev_name : goal.returns-in_err-prev_name
unfolding switch_at
returns-in_err-prev_name c = rw (c.from_residual.ensures, c.in_err-prev_name.ensures) refl

pub returns-in_err-prev : goal.returns-in_err-prev
unfolding switch_at
returns-in_err-prev c =
    rw (c.from_residual-in_err-prev.ensures, c.in_ok-prev_name.ensures, c.in_err-prev.ensures) refl

pub returns-in_err-prev_prio : goal.returns-in_err-prev_prio
unfolding switch_at
returns-in_err-prev_prio c =
    rw (
      c.from_residual-in_err-prev_prio.ensures,
      c.in_ok-prev_name.ensures,
      c.in_ok-prev.ensures,
      c.in_err-prev_prio.ensures,
    ) refl

pub returns-in_err-prev_state : goal.returns-in_err-prev_state
unfolding switch_at
returns-in_err-prev_state c =
    rw (
      c.from_residual-in_err-prev_state.ensures,
      c.in_ok-prev_name.ensures,
      c.in_ok-prev.ensures,
      c.in_ok-prev_prio.ensures,
      c.in_err-prev_state.ensures,
    ) refl

pub returns-in_err-next_name : goal.returns-in_err-next_name
unfolding switch_at
returns-in_err-next_name c =
    rw (
      c.from_residual-in_err-next_name.ensures,
      c.in_ok-prev_name.ensures,
      c.in_ok-prev.ensures,
      c.in_ok-prev_prio.ensures,
      c.in_ok-prev_state.ensures,
      c.in_err-next_name.ensures,
    ) refl

pub returns-in_err-next : goal.returns-in_err-next
unfolding switch_at
returns-in_err-next c =
    rw (
      c.from_residual-in_err-next.ensures,
      c.in_ok-prev_name.ensures,
      c.in_ok-prev.ensures,
      c.in_ok-prev_prio.ensures,
      c.in_ok-prev_state.ensures,
      c.in_ok-next_name.ensures,
      c.in_err-next.ensures,
    ) refl

pub returns-in_err-next_prio : goal.returns-in_err-next_prio
unfolding switch_at
returns-in_err-next_prio c =
    rw (
      c.from_residual-in_err-next_prio.ensures,
      c.in_ok-prev_name.ensures,
      c.in_ok-prev.ensures,
      c.in_ok-prev_prio.ensures,
      c.in_ok-prev_state.ensures,
      c.in_ok-next_name.ensures,
      c.in_ok-next.ensures,
      c.in_err-next_prio.ensures,
    ) refl

pub returns-then-not-is_empty : goal.returns-then-not-is_empty
unfolding switch_at
returns-then-not-is_empty c =
    let more : eqb (length c.in_ok-next_prio.rest.now) 0 ≡ false = search rules in
    rw (
      c.in_ok-prev_name.ensures,
      c.in_ok-prev.ensures,
      c.in_ok-prev_prio.ensures,
      c.in_ok-prev_state.ensures,
      c.in_ok-next_name.ensures,
      c.in_ok-next.ensures,
      c.in_ok-next_prio.ensures,
      more,
    ) refl

pub returns : goal.returns
unfolding switch_at
returns c =
    let end : eqb (length c.in_ok-next_prio.rest.now) 0 ≡ true = search rules in
    rw (
      c.in_ok-prev_name.ensures,
      c.in_ok-prev.ensures,
      c.in_ok-prev_prio.ensures,
      c.in_ok-prev_state.ensures,
      c.in_ok-next_name.ensures,
      c.in_ok-next.ensures,
      c.in_ok-next_prio.ensures,
      end,
    ) refl
