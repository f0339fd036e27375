-- An event with which no task begins, ends or migrates: pages without a fault say nothing against it, and who is alive
-- stays so.
use Rattle.std.proofs.Common.{◌≡◌, ℕ, zero, suc, ◌+◌, ◌<◌, Bool, true, false, Option, Some, None, List, [], ◌∷◌, length}
use Rattle.std.proofs.Common.{map, get_or, is_some, refl, sym, ap, ◌∙◌, subst, true≢false, below_more, arith}
use Rattle.std.proofs.lemmas.Option.{none-some}
use Rattle.cfs_model.specs.Claimed.{Claimed}
use Rattle.cfs_model.specs.Lives.{begun_by}
use Rattle.cfs_model.specs.declared.act.Act.{Act}
use Rattle.cfs_model.specs.declared.act.Act.TheVariants.{Switch, Wake, Born, Shift}
use Rattle.replay_laws.specs.Telling.{IdlesBefore, FailsHere}
use Rattle.replay_model.specs.Noted.{PageView}
use Rattle.replay_model.specs.Roll.{BirthIsNew, roll_after}
use Rattle.replay_model.specs.Summary.{born_by}
use Rattle.replay_model.specs.Tickets.{TicketsAgree}
use Rattle.replay_model.specs.declared.page.Tally.{Tally}
use Rattle.ticket_book.specs.Naming.{with_named}
use Rattle.ticket_book.specs.Told.{Allow, view_at}
use Rattle.ticket_book.specs.Walk.{IsPlain, NoneFaulty}
use Rattle.replay_model.specs.declared.page.StepFault.{StepFault}
use Rattle.ticket_book.proofs.Living.{by_lives, put_any}
use Rattle.ticket_book.proofs.Views.{view_here}

-- along a list of pages, one more without a fault
pub one_faultless : {P : Type 0} (page_of : P → PageView) (pages : List P) (k : ℕ) (page : P) → k < length pages
    → page ≡ get_or pages k page → is_some (page_of page).fault ≡ false → NoneFaulty (map page_of pages) k
    → NoneFaulty (map page_of pages) (k + 1)
one_faultless page_of pages k page h e none before =
    below_more _ _ before (ap (λ view. view.fault) (view_here page_of pages k page h e)
    ∙ nothing (page_of page).fault none)
  where
    nothing : (fault : Option StepFault) → is_some fault ≡ false → fault ≡ None
    nothing None h = refl
    nothing (Some fault) h = absurd (true≢false h)

none_at : (pages : List PageView) → NoneFaulty pages (length pages) → (cpu : ℕ) → (view_at pages cpu).fault ≡ None
none_at [] none cpu = refl
none_at (page ∷ pages) none zero = none 0 (omega arith)
none_at (page ∷ pages) none (suc cpu) = none_at pages (λ other lt. none (suc other) (omega arith)) cpu

tickets_agree : (pages : ℕ → PageView) (line : ℕ) (act : Act) → IsPlain act → TicketsAgree pages line act
tickets_agree pages line (Switch cpu prev pn way next nn) plain = tt
tickets_agree pages line (Wake cpu pid nice) plain = tt
tickets_agree pages line (Born cpu pid nice) plain = tt
tickets_agree pages line (Shift orig dest pid nice) plain = absurd (true≢false plain.stays)

birth_is_new : (alive : ℕ → Bool) (act : Act) → IsPlain act → BirthIsNew alive act
birth_is_new alive (Switch cpu prev pn way next nn) plain = tt
birth_is_new alive (Wake cpu pid nice) plain = tt
birth_is_new alive (Born cpu pid nice) plain = absurd (none-some pid (sym plain.begun))
birth_is_new alive (Shift orig dest pid nice) plain = tt

pub plain_allowed : (pages : List PageView) (cpus : ℕ) (alive : ℕ → Bool) (event : Claimed)
    → IsPlain event.entry.act → NoneFaulty pages (length pages) → Allow (view_at pages) cpus alive event
plain_allowed pages cpus alive event plain none = record {
  no_idling = λ cpu lt idles. subst (IdlesBefore event) (none_at pages none cpu) idles;
  act = record {
    no_fault = λ cpu at fails. subst (FailsHere event) (none_at pages none cpu) fails;
    tickets = tickets_agree (view_at pages) event.entry.line event.entry.act plain;
    birth = birth_is_new alive event.entry.act plain;
  };
}

pub plain_roll : (alive : ℕ → Bool) (act : Act) → IsPlain act → (pid : ℕ) → alive pid ≡ roll_after alive act pid
plain_roll alive act plain pid = sym (ap (λ o. put_any alive o true pid) plain.begun)
    ∙ sym (ap (λ o. put_any (put_any alive (begun_by act) true) o false pid) plain.ended) ∙ by_lives alive act pid

pub none_named : (act : Act) → IsPlain act → (rows : List Tally) → rows ≡ with_named (born_by act) rows
none_named (Switch cpu prev pn way next nn) plain rows = refl
none_named (Wake cpu pid nice) plain rows = refl
none_named (Born cpu pid nice) plain rows = absurd (none-some pid (sym plain.begun))
none_named (Shift orig dest pid nice) plain rows = refl
