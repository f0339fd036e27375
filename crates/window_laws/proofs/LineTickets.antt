-- The tickets of lines on pages: those of other lines before them don't hide one, and where pages have the same, they
-- agree alike.
use Rattle.std.proofs.Common.{◌≡◌, ℕ, ◌<◌, ◌≤◌, cond, Some, List, [], ◌∷◌, ◌++◌, refl, ap, ◌∙◌, arith}
use Rattle.std.proofs.lemmas.Bool.{ne_eqb}
use Rattle.std.specs.List.{AllByRecursion}
use Rattle.cfs_model.specs.Claimed.{Claimed}
use Rattle.cfs_model.specs.Touch.{touched}
use Rattle.replay_model.specs.Noted.{PageView}
use Rattle.replay_model.specs.Tickets.{ticket_at, TicketsAgree}
use Rattle.replay_laws.proofs.composing.PagesCompose.{agree_at}
use Rattle.replay_model.specs.declared.page.Ticket.{Ticket}

pub ticket_later : (n line : ℕ) (xs ys : List Ticket) → AllByRecursion (λ (t : Ticket). t.line ≤ line) xs → line < n
    → ticket_at n (xs ++ ys) ≡ ticket_at n ys
ticket_later n line [] ys h k = refl
ticket_later n line (t ∷ xs) ys h k =
    ap (λ b. cond b (Some t) (ticket_at n (xs ++ ys)))
    (ne_eqb t.line n (λ e. (let a : t.line ≤ line = h.0 in absurd (omega arith))))
    ∙ ticket_later n line xs ys h.1 k

pub agree_all : (cpus : ℕ) (pages ends : ℕ → PageView) (Is : ℕ → Type 0) (events : List Claimed)
    → AllByRecursion (λ (event : Claimed). AllByRecursion (λ (c : ℕ). c < cpus) (touched event.entry.act)) events
    → AllByRecursion (λ (event : Claimed). Is event.entry.line) events
    → ((line : ℕ) → Is line → (cpu : ℕ) → cpu < cpus
    → ticket_at line (pages cpu).left ≡ ticket_at line (ends cpu).left)
    → ((line : ℕ) → Is line → (cpu : ℕ) → cpu < cpus
    → ticket_at line (pages cpu).came ≡ ticket_at line (ends cpu).came)
    → AllByRecursion (λ (event : Claimed). TicketsAgree pages event.entry.line event.entry.act) events
    → AllByRecursion (λ (event : Claimed). TicketsAgree ends event.entry.line event.entry.act) events
agree_all cpus pages ends Is [] within is l c a = tt
agree_all cpus pages ends Is (event ∷ events) within is l c a = (
  agree_at cpus pages ends event.entry.line event.entry.act within.0 (l event.entry.line is.0)
      (c event.entry.line is.0) a.0,
  agree_all cpus pages ends Is events within.1 is.1 l c a.1,
)
