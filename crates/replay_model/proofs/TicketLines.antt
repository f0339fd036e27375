-- The ticket of a line on a page is the one of that line's step: lines rise. A step that fails changes no ticket.
use Rattle.std.proofs.Common.{◌≡◌, ◌≢◌, ℕ, ◌<◌, ◌≤◌, nat_eq, cond, Option, Some, None, option_map, option_to_list, inl}
use Rattle.std.proofs.Common.{inr, List, [], ◌∷◌, ◌++◌, append_assoc, refl, sym, ap, ◌∙◌, subst, arith}
use Rattle.std.proofs.lemmas.Bool.{eq-eqb, ne_eqb}
use Rattle.std.specs.List.{AllByRecursion}
use Rattle.cfs_model.specs.Knobs.{KnobsView}
use Rattle.replay_model.specs.Part.{Part}
use Rattle.replay_model.specs.Noted.{PageView, left_by, came_by, noted}
use Rattle.replay_model.specs.Page.{ReplayStateView, PassesStep, IsReplayStep, IsReplay}
use Rattle.replay_model.specs.Tickets.{ticket_at}
use Rattle.replay_model.specs.declared.page.StepFault.{StepFault}
use Rattle.replay_model.specs.declared.page.Ticket.{Ticket}
use Rattle.replay_model.specs.declared.step.Deed.{Deed}
use Rattle.replay_model.specs.declared.step.Deed.TheVariants.{Switch, Wake, Born, Leave, Arrive}
use Rattle.replay_model.specs.declared.step.Step.{Step}

no_ticket : (n : ℕ) (ts : List Ticket) → AllByRecursion (λ (t : Ticket). t.line ≢ n) ts → ticket_at n ts ≡ None
no_ticket n [] h = refl
no_ticket n (t ∷ ts) h = ap (λ b. cond b (Some t) (ticket_at n ts)) (ne_eqb t.line n h.0) ∙ no_ticket n ts h.1

ticket_later : (n : ℕ) (xs ys : List Ticket) → AllByRecursion (λ (t : Ticket). t.line ≢ n) xs
    → ticket_at n (xs ++ ys) ≡ ticket_at n ys
ticket_later n [] ys h = refl
ticket_later n (t ∷ xs) ys h = ap (λ b. cond b (Some t) (ticket_at n (xs ++ ys))) (ne_eqb t.line n h.0)
    ∙ ticket_later n xs ys h.1

ticket_earlier : (n : ℕ) (xs ys : List Ticket) → AllByRecursion (λ (t : Ticket). t.line ≢ n) ys
    → ticket_at n (xs ++ ys) ≡ ticket_at n xs
ticket_earlier n [] ys h = no_ticket n ys h
ticket_earlier n (t ∷ xs) ys h = ap (λ rest. cond (nat_eq t.line n) (Some t) rest) (ticket_earlier n xs ys h)

pub all_append : (P : Ticket → Type 0) (xs ys : List Ticket) → AllByRecursion P xs → AllByRecursion P ys
    → AllByRecursion P (xs ++ ys)
all_append P [] ys h k = k
all_append P (x ∷ xs) ys h k = (h.0, all_append P xs ys h.1 k)

pub all_map : (P Q : Ticket → Type 0) → ((t : Ticket) → P t → Q t) → (xs : List Ticket) → AllByRecursion P xs
    → AllByRecursion Q xs
all_map P Q f [] h = tt
all_map P Q f (x ∷ xs) h = (f x h.0, all_map P Q f xs h.1)

-- one of the two lists of tickets on a page
pub record IsTickets (tickets : PageView → List Ticket) (by : Part → Step → List Ticket) : Type 0 where
  pub grows : (page : PageView) (part found : Part) (step : Step)
      → tickets (noted page part found step) ≡ tickets page ++ by found step
  pub lines : (found : Part) (step : Step) → AllByRecursion (λ (t : Ticket). t.line ≡ step.line) (by found step)
  pub keeps : (page : PageView) (fault : Option StepFault) → tickets (record page { fault = fault }) ≡ tickets page

module _ (tickets : PageView → List Ticket) (by : Part → Step → List Ticket) (is : IsTickets tickets by) where
  -- what later steps add, whose lines are these
  pub more_tickets : (Is : ℕ → Type 0) (knobs : KnobsView) (cpu : ℕ) (s : ReplayStateView) (steps : List Step)
      (end : ReplayStateView)
      → IsReplay knobs cpu s steps end → AllByRecursion (λ (step : Step). Is step.line) steps
      → (more : List Ticket) × (tickets end.page ≡ tickets s.page ++ more)
      × AllByRecursion (λ (t : Ticket). Is t.line) more
  more_tickets Is knobs cpu s [] end r h = ([], ap (λ x. tickets x.page) r ∙ sym (append_none (tickets s.page)), tt)
    where
      append_none : (xs : List Ticket) → xs ++ [] ≡ xs
      append_none [] = refl
      append_none (x ∷ xs) = ap (λ rest. x ∷ rest) (append_none xs)
  more_tickets Is knobs cpu s (step ∷ steps) end r h = go s.page.fault r.1
      (more_tickets Is knobs cpu r.0 steps end r.2 h.1)
    where
      go : (o : Option StepFault) → IsReplayStep knobs cpu o s step r.0
          → (more : List Ticket) × (tickets end.page ≡ tickets r.0.page ++ more)
          × AllByRecursion (λ (t : Ticket). Is t.line) more
          → (more : List Ticket) × (tickets end.page ≡ tickets s.page ++ more)
          × AllByRecursion (λ (t : Ticket). Is t.line) more
      go (Some fault) same rest = (rest.0, rest.1 ∙ ap (λ x. tickets x.page ++ rest.0) same, rest.2)
      go None (inr f) rest =
          (rest.0, rest.1 ∙ ap (λ xs. xs ++ rest.0) (ap (λ x. tickets x.page) f.result ∙ is.keeps s.page _), rest.2)
      go None (inl p) rest =
          let mine = by p.found step in (
            mine ++ rest.0,
            rest.1 ∙ ap (λ xs. xs ++ rest.0) (ap tickets p.page ∙ is.grows s.page s.part p.found step)
                ∙ append_assoc (tickets s.page) mine rest.0,
            all_append (λ t. Is t.line) mine rest.0
                (all_map (λ t. t.line ≡ step.line) (λ t. Is t.line) (λ t e. subst Is (sym e) h.0) mine
                (is.lines p.found step)) rest.2,
          )

  -- the ticket of an earlier line stays
  pub ticket_kept : (n : ℕ) (knobs : KnobsView) (cpu : ℕ) (s : ReplayStateView) (steps : List Step)
      (end : ReplayStateView) → IsReplay knobs cpu s steps end → AllByRecursion (λ (step : Step). n < step.line) steps
      → ticket_at n (tickets end.page) ≡ ticket_at n (tickets s.page)
  ticket_kept n knobs cpu s steps end r h =
      let more = more_tickets (λ line. n < line) knobs cpu s steps end r h in
      ap (ticket_at n) more.1
      ∙ ticket_earlier n (tickets s.page) more.0
      (all_map (λ t. n < t.line) (λ t. t.line ≢ n) (λ t a k. absurd (omega arith)) more.0 more.2)

  -- the ticket of a step's line on the page at the end
  pub ticket_found : (knobs : KnobsView) (cpu : ℕ) (s : ReplayStateView) (step : Step) (next : ReplayStateView)
      (steps : List Step) (end : ReplayStateView) (p : PassesStep knobs cpu s step next)
      → IsReplay knobs cpu next steps end
      → AllByRecursion (λ (t : Ticket). t.line < step.line) (tickets s.page)
      → AllByRecursion (λ (x : Step). step.line < x.line) steps
      → ticket_at step.line (tickets end.page) ≡ ticket_at step.line (by p.found step)
  ticket_found knobs cpu s step next steps end p r low high =
      ticket_kept step.line knobs cpu next steps end r high
      ∙ ap (ticket_at step.line) (ap tickets p.page ∙ is.grows s.page s.part p.found step)
      ∙ ticket_later step.line (tickets s.page) (by p.found step)
      (all_map (λ t. t.line < step.line) (λ t. t.line ≢ step.line) (λ t a k. absurd (omega arith)) (tickets s.page) low)

  -- the lines on a page after a step
  pub lines_up_to : (n : ℕ) (page : PageView) (part found : Part) (step : Step)
      → AllByRecursion (λ (t : Ticket). t.line ≤ n) (tickets page) → n ≤ step.line
      → AllByRecursion (λ (t : Ticket). t.line ≤ step.line) (tickets (noted page part found step))
  lines_up_to n page part found step h k =
      subst (AllByRecursion (λ t. t.line ≤ step.line)) (sym (is.grows page part found step))
      (all_append (λ t. t.line ≤ step.line) (tickets page) (by found step)
      (all_map (λ t. t.line ≤ n) (λ t. t.line ≤ step.line) (λ t a. omega arith) (tickets page) h)
      (all_map (λ t. t.line ≡ step.line) (λ t. t.line ≤ step.line) (λ t a. omega arith) (by found step)
      (is.lines found step)))

-- the tickets that left
abbrev pub left_of : Part → Step → List Ticket
left_of found step = left_by found step step.deed

abbrev pub came_of : Part → Step → List Ticket
came_of found step = came_by found step step.deed

one_line : {A : Type 0} (f : A → Ticket) (n : ℕ) → ((a : A) → (f a).line ≡ n) → (o : Option A)
    → AllByRecursion (λ (t : Ticket). t.line ≡ n) (option_to_list (option_map f o))
one_line f n h None = tt
one_line f n h (Some a) = (h a, tt)

left_lines : (found : Part) (step : Step) (deed : Deed)
    → AllByRecursion (λ (t : Ticket). t.line ≡ step.line) (left_by found step deed)
left_lines found step (Switch prev pn way next nn) = tt
left_lines found step (Wake pid nice) = tt
left_lines found step (Born pid nice policy) = tt
left_lines found step (Leave pid nice dest) = one_line _ step.line (λ a. refl) (found.tasks pid)
left_lines found step (Arrive pid nice orig policy) = tt

came_lines : (found : Part) (step : Step) (deed : Deed)
    → AllByRecursion (λ (t : Ticket). t.line ≡ step.line) (came_by found step deed)
came_lines found step (Switch prev pn way next nn) = tt
came_lines found step (Wake pid nice) = tt
came_lines found step (Born pid nice policy) = tt
came_lines found step (Leave pid nice dest) = tt
came_lines found step (Arrive pid nice orig policy) = one_line _ step.line (λ a. refl) step.claim

pub left_tickets : IsTickets (λ page. page.left) left_of
left_tickets = record {
  grows = λ page part found step. refl;
  lines = λ found step. left_lines found step step.deed;
  keeps = λ page fault. refl;
}

pub came_tickets : IsTickets (λ page. page.came) came_of
came_tickets = record {
  grows = λ page part found step. refl;
  lines = λ found step. came_lines found step step.deed;
  keeps = λ page fault. refl;
}

-- the only ticket of a line is the line's
pub only_ticket : {A : Type 0} (f : A → Ticket) (n : ℕ) → ((a : A) → (f a).line ≡ n) → (o : Option A)
    → ticket_at n (option_to_list (option_map f o)) ≡ option_map f o
only_ticket f n h None = refl
only_ticket f n h (Some a) = ap (λ b. cond b (Some (f a)) None) (eq-eqb (f a).line n (h a))
