use Rattle.std.proofs.Common.{◌≡◌, true, sym, subst, ◌∙◌}
use Rattle.companion_file.specs.Earlier.{Said, has_all_floors}
use Rattle.companion_file.specs.Draft.{KeepsOrder}
use Rattle.companion_file.proofs.Finishing.{in_order}
use Rattle.companion_file.proofs.draft.Draft.finish.Goals as goal

pub new-requires-clause-in_order : goal.new-requires-clause-in_order
new-requires-clause-in_order c =
    let said : Said = record {
      version = c.self.inside.version;
      cpus = c.self.inside.cpus;
      start = c.self.inside.start;
      floors = c.self.inside.floors.items;
      tasks = c.self.inside.tasks.items;
      claims = c.self.inside.claims.items;
      nices = c.self.inside.nices.items;
      idles = c.self.inside.idles.items;
      charges = c.self.inside.charges.items;
    } in
    let order : KeepsOrder said = subst KeepsOrder (sym c.self.view_is) c.requires.order in
    let whole : has_all_floors said ≡ true = subst (λ (s : Said). has_all_floors s ≡ true) (sym c.self.view_is)
    (sym c.has_all_floors.ensures ∙ c.if-not-has_all_floors.false) in
    rw (
      c.from_vec.ensures,
      c.from_vec-2.ensures,
      c.from_vec-3.ensures,
      c.from_vec-4.ensures,
      c.from_vec-5.ensures,
      c.from_vec-6.ensures,
    )
    (in_order said c.in_ok-cpus.field-0 c.in_ok-start.field-0 order c.in_ok-cpus.was c.in_ok-start.was whole)

pub new-requires-clause-spans_told : goal.new-requires-clause-spans_told
new-requires-clause-spans_told c = rw c.from_vec-5.ensures (rw (← c.self.view_is) at c.requires.spans)
