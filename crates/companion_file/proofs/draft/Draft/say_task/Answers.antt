use Rattle.std.proofs.Common.{sym, ◌∙◌}
use Rattle.std.proofs.lemmas.Bool.{eqb-true}
use Rattle.std.proofs.lemmas.List.{nil_from_length}
use Rattle.companion_file.proofs.draft.Draft.say_task.Goals as goal

pub add_task-requires-clause-first : goal.add_task-requires-clause-first
add_task-requires-clause-first c =
    let idles = c.self.inside.idles in
    rw (← c.self.view_is) (nil_from_length idles.items (sym idles.ok.0
    ∙ eqb-true idles.len 0 (sym c.is_empty.ensures ∙ c.if-not-is_empty.false)))
