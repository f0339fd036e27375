use Rattle.std.proofs.Common.{arith, false, sym, ap, ◌∙◌}
use Rattle.std.specs.Option.{option_map, unwrap_or}
use Rattle.ticket_book.specs.Alive.{lives_in}
use Rattle.ticket_book.proofs.alive.Alive.has.Goals as goal

pub returns-in-Some : goal.returns-in-Some
unfolding lives_in
returns-in-Some c =
    sym (ap (λ o. unwrap_or (option_map (λ x. x.now) o) false) c.in-Some.is)
    ∙ c.get.ensures.lookup.4 (omega arith) false ∙ ap (λ lives. lives_in lives c.args.pid) c.deref.ensures.value

pub returns-in-None : goal.returns-in-None
unfolding lives_in
returns-in-None c =
    sym (ap (λ o. unwrap_or (option_map (λ x. x.now) o) false) c.in-None.is)
    ∙ c.get.ensures.lookup.4 (omega arith) false ∙ ap (λ lives. lives_in lives c.args.pid) c.deref.ensures.value
