-- `==` of tickets answers whether they are the same.
use Rattle.std.proofs.Common.{◌≡◌, Bool, true, false, not, Decides, Option, Some, None, refl, sym, ap, ◌∙◌, true≢false}
use Rattle.std.specs.Bool.{OnFalse, OnTrue}
use Rattle.std.proofs.lemmas.Bool.{OnFalse_from, OnTrue_from}
use Rattle.std.specs.Option.{option_eq}
use Rattle.std.proofs.lemmas.Bool.Decides.{Decides-eqb, Decides-int_eq, Decides-and, Decides-like}
use Rattle.cfs_model.proofs.Deciding.{place_decides, policies_decide}
use Rattle.replay_model.specs.declared.page.Ticket.{Ticket}
use Rattle.replay_model.specs.contracts.page.TicketPartialEq.TheImpl as ticket_eq

ticket_decides : (a b : Ticket) → Decides ((ticket_eq.ghosts).eq a b) (a ≡ b)
ticket_decides a b =
    Decides-like _
    (λ h i. record {
      line = h.0 i;
      pid = h.1.0 i;
      nice = h.1.1.0 i;
      policy = h.1.1.1.0 i;
      place = h.1.1.1.1.0 i;
      offset =
          h.1.1.1.1.1 i;
    })
    (λ e. (cc, (cc, (cc, (cc, (cc, cc))))))
    (Decides-and _ _ (Decides-eqb a.line b.line) (Decides-and _ _ (Decides-eqb a.pid b.pid)
    (Decides-and _ _ (Decides-int_eq a.nice b.nice) (Decides-and _ _ (policies_decide a.policy b.policy)
    (Decides-and _ _ (place_decides a.place b.place) (Decides-int_eq a.offset b.offset))))))

pub tickets_decide : (a b : Option Ticket) → Decides (option_eq (ticket_eq.ghosts).eq a b) (a ≡ b)
tickets_decide None None = (λ _. refl, λ _. refl)
tickets_decide (Some a) (Some b) = Decides-like _ (λ h. cc) (λ e. cc) (ticket_decides a b)
tickets_decide a b = (λ h. cc, λ h. cc)

-- so a test that they aren't answers both ways
pub not_on_true : (b r : Bool) (P : Type 0) → Decides b P → r ≡ not b → OnTrue r (P → ⊥)
not_on_true b r P d e = OnTrue_from r (P → ⊥) (λ t p. true≢false (sym t ∙ e ∙ ap not (d.1 p)))

pub on_false : (b r : Bool) (P : Type 0) → Decides b P → r ≡ not b → OnFalse r P
on_false true r P d e = OnFalse_from r P (λ _. d.0 refl)
on_false false r P d e = OnFalse_from r P (λ f. absurd (true≢false (sym e ∙ f)))
