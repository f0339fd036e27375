use Rattle.std.proofs.Common.{[], ◌∷◌, ◌++◌, refl, sym, ap, ◌∙◌}
use Rattle.companion_file.specs.Earlier.{is_taken}
use Rattle.companion_file.proofs.Policies.{taken_kept, start_named}
use Rattle.companion_file.proofs.draft.Draft.add_from_start.Goals as goal

pub invariant_of-self-2 : goal.invariant_of-self-2
invariant_of-self-2 c =
    let order = rw (← c.self.view_is) at c.requires.order in
    let task = rw (← c.self.view_is) at c.requires.task in
    let idle = c.args.idle in
    let tasks = c.self.inside.tasks.items in
    let named = start_named c.self.inside.idles.items idle tasks c.args.index c.index_mut.result.now order.policies_kept
    order.pids_rise c.requires.start task c.index_mut.ensures.value in
    record {
      few = c.self.invariant.few;
      known = λ cpu h. c.self.invariant.known cpu h ∙ sym (ap (λ ts. is_taken ts cpu) named
          ∙ taken_kept (c.self.inside.idles.items ++ idle ∷ []) tasks cpu);
    }

pub returns : goal.returns
returns c =
    let order = rw (← c.self.view_is) at c.requires.order in
    let task = rw (← c.self.view_is) at c.requires.task in
    let named = start_named c.self.inside.idles.items c.args.idle c.self.inside.tasks.items c.args.index
    c.index_mut.result.now order.policies_kept order.pids_rise c.requires.start task c.index_mut.ensures.value in
    rw (← c.self.view_is, c.in_ok-push.ensures.items, ← named) refl
