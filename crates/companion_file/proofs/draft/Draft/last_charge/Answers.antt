use Rattle.companion_file.proofs.Lasts.{last_is}
use Rattle.companion_file.proofs.draft.Draft.last_charge.Goals as goal

pub returns : goal.returns
returns c = rw (← c.self.view_is, c.copied.ensures, c.last.ensures.value, c.deref.ensures.value)
    (last_is c.self.inside.charges.items)
