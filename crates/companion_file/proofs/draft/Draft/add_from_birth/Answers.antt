use Rattle.std.proofs.Common.{refl, ◌∙◌}
use Rattle.companion_file.proofs.Policies.{birth_named}
use Rattle.companion_file.proofs.draft.Draft.add_from_birth.Goals as goal

pub returns : goal.returns
returns c =
    let order = rw (← c.self.view_is) at c.requires.order in
    let named = birth_named c.self.inside.idles.items c.args.idle c.self.inside.tasks.items c.requires.birth
    ∙ order.policies_kept in
    rw (← c.self.view_is, c.in_ok-push.ensures.items, named) refl
