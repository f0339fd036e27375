use Rattle.std.proofs.Common.{refl, [], ◌∷◌}
use Rattle.sched_event.proofs.UsualFields.{switch_stands}
use Rattle.sched_event.proofs.usual.switch_front.Goals as goal

pub prio-requires : goal.prio-requires
prio-requires c = record { end = 32; more = 112 ∷ []; no_digit = refl; parts = refl }

pub prio-requires-2 : goal.prio-requires-2
prio-requires-2 c = record { end = 10; more = []; no_digit = refl; parts = refl }

pub returns : goal.returns
returns c =
    switch_stands c.args.text.now _ c.in_ok-next_prio.rest.now (record {
      after1 = c.in_ok-prev_name.rest.now;
      after2 = c.in_ok-prev.rest.now;
      after3 = c.in_ok-prev_prio.rest.now;
      after4 = c.in_ok-prev_state.rest.now;
      after5 = c.in_ok-next_name.rest.now;
      after6 = c.in_ok-next.rest.now;
      prev_short = c.in_ok-prev_name.ensures.name;
      prev_name = c.in_ok-prev_name.ensures.field;
      prev = c.in_ok-prev.ensures;
      prev_prio = c.in_ok-prev_prio.ensures;
      state_form = c.in_ok-prev_state.ensures.state;
      prev_state = c.in_ok-prev_state.ensures.field;
      next_short = c.in_ok-next_name.ensures.name;
      next_name = c.in_ok-next_name.ensures.field;
      next = c.in_ok-next.ensures;
      next_prio = c.in_ok-next_prio.ensures;
    })
