-- The pages that auditors leave suffice: the least line of a fault on the pages only falls, so a line that was told is
-- never before it, and in the end it is the least of all.
use Rattle.std.proofs.Common.{◌≡◌, ℕ, zero, suc, ◌<◌, ◌≤◌, nat_lt, if◌then◌else◌, Bool, true, false, IsSome, List, []}
use Rattle.std.proofs.Common.{◌∷◌, length, set, Option, Some, None, refl, sym, ap, ◌∙◌, subst, arith, inl, inr, ◌⊎◌}
use Rattle.std.specs.Prelude.{slice_get}
use Rattle.std.proofs.lemmas.Bool.{cases_lt, false≢true}
use Rattle.std.proofs.lemmas.List.{get_or-set_same, get_or-set_other, length-replicate, length-set}
use Rattle.std.proofs.lemmas.Option.{none-some, same_Some}
use Rattle.cfs_model.proofs.Moves.{put-same, put-other, same_or_not}
use Rattle.cfs_model.specs.Machine.{put}
use Rattle.cfs_model.specs.Knobs.{KnobsView}
use Rattle.replay_model.specs.declared.page.StepFault.{StepFault}
use Rattle.queue_replay.specs.Made.{reached_at}
use Rattle.queue_replay.specs.Replay.{ReplayView}
use Rattle.queue_replay.specs.declared.tag.Reached.TheVariants.{Stopped, Done}
use Rattle.sched_record.specs.Record.{RecordView}
use Rattle.ticket_book.specs.Book.{line_of_fault, least_line, no_fault, page_at}
use Rattle.ticket_book.specs.Core.{ask, post, AreCoreSteps, AreLeft, Core, CoreStep, MayPost, start_core}
use Rattle.ticket_book.specs.Remade.{AreRemade, AreRemadeBelow, IsLeastFault, ReachesEnough, Suffices}
use Rattle.ticket_book.specs.Whole.{IsOwnPageOf}
use Rattle.ticket_book.proofs.Gathering.{whole_reaches}
use Rattle.ticket_book.proofs.BookSlots.{least_of_empty, least_put, least_within, no_page_there}

-- a page that was posted: its own auditor's, as far as it may stop with this least line
record IsKept (knobs : KnobsView) (r : RecordView) (cpu least : ℕ) (page : ReplayView) : Type 0 where
  own : IsOwnPageOf knobs r cpu page
  far : IsSome page.page.fault ⊎ (length page.stream.steps ≤ page.made)
      ⊎ ((least < no_fault) × (least ≤ page.page.line))

-- what each state of the core keeps
record KeepsCore (knobs : KnobsView) (r : RecordView) (core : Core) : Type 0 where
  count : length core.slots ≡ r.cpus
  each : (cpu : ℕ) (page : ReplayView) → page_at core.slots cpu ≡ Some page
      → IsKept knobs r cpu (least_line core.slots) page
  told : (cpu : ℕ) → least_line core.slots ≤ core.told cpu
  at_most : (cpu : ℕ) → core.told cpu ≤ no_fault

-- a page that may stop with a least line may with each lesser one
kept_lower : (knobs : KnobsView) (r : RecordView) (cpu least lower : ℕ) (page : ReplayView) → lower ≤ least
    → IsKept knobs r cpu least page → IsKept knobs r cpu lower page
kept_lower knobs r cpu least lower page le k = record {
  own = k.own;
  far = elim k.far [
    | inl some ↦ inl some
    | inr (inl all) ↦ inr (inl all)
    | inr (inr h) ↦ (let some = h.0 in let past = h.1 in
        inr (inr (omega (arith, le, some), omega (arith, le, past))))
  ];
}

kept_start : (knobs : KnobsView) (r : RecordView) → KeepsCore knobs r (start_core r)
kept_start knobs r =
    let empty : Option ReplayView = None in
    let none = least_of_empty r.cpus in
    record {
      count = length-replicate r.cpus empty;
      each = λ cpu page e. absurd (none-some page (sym (no_page_there r.cpus cpu) ∙ e));
      told = λ cpu. omega (arith, none);
      at_most = λ cpu. omega arith;
    }

-- a slot within a book that has no page
empty_at : (slots : List (Option ReplayView)) (cpu : ℕ) → cpu < length slots → page_at slots cpu ≡ None
    → slice_get slots cpu ≡ Some None
empty_at [] cpu h e = absurd (omega arith)
empty_at (slot ∷ slots) zero h e = ap Some e
empty_at (slot ∷ slots) (suc cpu) h e = empty_at slots cpu (omega arith) e

module _ (knobs : KnobsView) (r : RecordView) (core : Core) (k : KeepsCore knobs r core) where
  kept_ask : (cpu : ℕ) → KeepsCore knobs r (record core { told = put core.told cpu (least_line core.slots) })
  kept_ask cpu = record {
    count = k.count;
    each = k.each;
    told = λ other. elim (same_or_not other cpu) [
      | inl e ↦ (let is = ap (put core.told cpu (least_line core.slots)) e
          ∙ put-same core.told cpu (least_line core.slots) in
          omega (arith, is))
      | inr ne ↦ (let is = put-other core.told cpu (least_line core.slots) other ne in let low = k.told other in
          omega (arith, is, low))
    ];
    at_most = λ other. elim (same_or_not other cpu) [
      | inl e ↦ (let is = ap (put core.told cpu (least_line core.slots)) e
          ∙ put-same core.told cpu (least_line core.slots) in
          let most = least_within core.slots in omega (arith, is, most))
      | inr ne ↦ (let is = put-other core.told cpu (least_line core.slots) other ne in let most = k.at_most other in
          omega (arith, is, most))
    ];
  }

  kept_post : (cpu : ℕ) (page : ReplayView) → cpu < r.cpus → page_at core.slots cpu ≡ None
      → MayPost knobs r cpu (core.told cpu) page
      → KeepsCore knobs r (record core { slots = set core.slots cpu (Some page) })
  kept_post cpu page h empty may = record {
    count = length-set core.slots cpu (Some page) ∙ k.count;
    each = each_more;
    told = λ other. (let low = k.told other in omega (arith, lower, low));
    at_most = k.at_most;
  }
    where
      within : cpu < length core.slots
      within = subst (λ n. cpu < n) (sym k.count) h

      lower : least_line (set core.slots cpu (Some page)) ≤ least_line core.slots
      lower = let is = least_put core.slots cpu page (empty_at core.slots cpu within empty) in omega (arith, is)

      fresh : IsKept knobs r cpu (least_line core.slots) page
      fresh = record {
        own = may.own;
        far = elim may.far [
          | inl some ↦ inl some
          | inr (inl all) ↦ inr (inl all)
          | inr (inr t) ↦ (let low = k.told cpu in let most = k.at_most cpu in let past = t.1 in
              inr (inr (
                elim (cases_lt (least_line core.slots) no_fault) [
                  | inl lt ↦ lt
                  | inr ge ↦ absurd (t.0 (omega (arith, ge, low, most)))
                ],
                omega (arith, low, past),
              )))
        ];
      }

      each_more : (other : ℕ) (p : ReplayView) → page_at (set core.slots cpu (Some page)) other ≡ Some p
          → IsKept knobs r other (least_line (set core.slots cpu (Some page))) p
      each_more other p e = elim (same_or_not other cpu) [
        | inl same ↦ (let here : page_at (set core.slots cpu (Some page)) other ≡ Some page =
            ap (page_at (set core.slots cpu (Some page))) same
            ∙ get_or-set_same core.slots cpu (Some page) None within in
            let is : page ≡ p = same_Some page p (sym here ∙ e) in
            subst (λ (q : ReplayView). IsKept knobs r other (least_line (set core.slots cpu (Some page))) q) is
            (subst (λ n. IsKept knobs r n (least_line (set core.slots cpu (Some page))) page) (sym same)
            (kept_lower knobs r cpu (least_line core.slots)
            (least_line (set core.slots cpu (Some page))) page lower fresh)))
        | inr ne ↦ kept_lower knobs r other (least_line core.slots)
            (least_line (set core.slots cpu (Some page))) p lower
            (k.each other p (sym (get_or-set_other core.slots cpu other (Some page) None ne) ∙ e))
      ]

kept_steps : (knobs : KnobsView) (r : RecordView) (core : Core) (steps : List CoreStep) (after : Core)
    → KeepsCore knobs r core → AreCoreSteps knobs r core steps after → KeepsCore knobs r after
kept_steps knobs r core [] after k s = subst (KeepsCore knobs r) (sym s) k
kept_steps knobs r core (ask cpu ∷ steps) after k s = kept_steps knobs r s.0 steps after
    (subst (KeepsCore knobs r) (sym s.1.2) (kept_ask knobs r core k cpu)) s.2
kept_steps knobs r core (post cpu page ∷ steps) after k s = kept_steps knobs r s.0 steps after
    (subst (KeepsCore knobs r) (sym s.1.3) (kept_post knobs r core k cpu page s.1.0 s.1.1 s.1.2)) s.2

-- the least line is a page's, and no page's is lesser
record IsAttained (slots : List (Option ReplayView)) : Type 0 where
  cpu : ℕ
  page : ReplayView
  within : cpu < length slots
  stands : page_at slots cpu ≡ Some page
  line : line_of_fault page.page.fault ≡ least_line slots

attained_later : (slot : Option ReplayView) (slots : List (Option ReplayView))
    → least_line slots ≡ least_line (slot ∷ slots)
    → IsAttained slots → IsAttained (slot ∷ slots)
attained_later slot slots e a = record {
  cpu = suc a.cpu;
  page = a.page;
  within = (let w = a.within in omega (arith, w));
  stands = a.stands;
  line = a.line ∙ e;
}

attained : (slots : List (Option ReplayView)) → least_line slots < no_fault → IsAttained slots
attained [] h = absurd (omega arith)
attained (None ∷ slots) h =
    let most = least_within slots in
    attained_later None slots (omega (arith, most)) (attained slots (omega (arith, most, h)))
attained (Some page ∷ slots) h = elim (cases_lt (least_line slots) (line_of_fault page.page.fault)) [
  | inl lt ↦ attained_later (Some page) slots (omega (arith, lt)) (attained slots (omega (arith, lt, h)))
  | inr ge ↦ record { cpu = 0; page = page; within = omega arith; stands = refl; line = omega (arith, ge) }
]

at_least : (slots : List (Option ReplayView)) (cpu : ℕ) (page : ReplayView) → page_at slots cpu ≡ Some page
    → least_line slots ≤ line_of_fault page.page.fault
at_least [] cpu page e = absurd (none-some page e)
at_least (None ∷ slots) zero page e = absurd (none-some page e)
at_least (Some p ∷ slots) zero page e =
    let is : line_of_fault p.page.fault ≡ line_of_fault page.page.fault =
    ap (λ (q : ReplayView). line_of_fault q.page.fault) (same_Some p page e) in
    omega (arith, is)
at_least (None ∷ slots) (suc cpu) page e = let low = at_least slots cpu page e in omega (arith, low)
at_least (Some p ∷ slots) (suc cpu) page e = let low = at_least slots cpu page e in omega (arith, low)

-- where a page of the core has a fault, the least line is that of the record's own pages
faulted : (o : Option StepFault) → line_of_fault o < no_fault → (fault : StepFault) × (o ≡ Some fault)
faulted None h = absurd (omega arith)
faulted (Some fault) h = (fault, refl)

module _ (knobs : KnobsView) (r : RecordView) (core : Core) (k : KeepsCore knobs r core) where
  least_line_is : least_line core.slots < no_fault → IsLeastFault knobs r core.slots (least_line core.slots)
  least_line_is h =
      let a = attained core.slots h in
      let line = a.line in
      let f = faulted a.page.page.fault (omega (arith, line, h)) in
      let own = (k.each a.cpu a.page a.stands).own in
      record {
        cpu = a.cpu;
        within = subst (λ n. a.cpu < n) k.count a.within;
        there = record {
          page = a.page;
          stands = a.stands;
          own = own;
          fault = f.0;
          is_fault = f.1;
          at_line = ap line_of_fault (sym f.1) ∙ line;
        };
        least = λ other lesser w g.
            (let low = at_least core.slots other g.page g.stands in
            let is : line_of_fault g.page.page.fault ≡ lesser = ap line_of_fault g.is_fault ∙ g.at_line in
            omega (arith, low, is));
      }

  reaches : (o : Option StepFault) (line made steps : ℕ)
      → IsSome o ⊎ (steps ≤ made) ⊎ ((least_line core.slots < no_fault) × (least_line core.slots ≤ line))
      → ReachesEnough knobs r core.slots (reached_at o line made steps)
  reaches (Some fault) line made steps h = tt
  reaches None line made steps (inl some) = absurd (false≢true some)
  reaches None line made steps (inr (inl all)) = whole_reaches knobs r core.slots None line made steps (inr all)
  reaches None line made steps (inr (inr h)) = go (nat_lt made steps)
    where
      go : (b : Bool) → ReachesEnough knobs r core.slots (if b then Stopped line else Done)
      go true = (least_line core.slots, least_line_is h.0, h.1)
      go false = tt

  left_suffices : (cpu : ℕ) (slot : Option ReplayView) → page_at core.slots cpu ≡ slot → IsSome slot
      → Suffices knobs r core.slots cpu slot
  left_suffices cpu None e some = absurd (false≢true some)
  left_suffices cpu (Some page) e some =
      let kept = k.each cpu page e in
      record {
        own = kept.own;
        enough = reaches page.page.fault page.page.line page.made (length page.stream.steps) kept.far;
      }

-- where each page suffices none is made again
pub none_remade : (knobs : KnobsView) (r : RecordView) (slots : List (Option ReplayView)) (cpus count : ℕ)
    → ((cpu : ℕ) → cpu < cpus → Suffices knobs r slots cpu (page_at slots cpu))
    → AreRemadeBelow knobs r slots cpus count → count ≡ 0
none_remade knobs r slots zero count all h = h
none_remade knobs r slots (suc cpu) count all (inl h) =
    none_remade knobs r slots cpu count (λ c k. all c (omega arith)) h.1
none_remade knobs r slots (suc cpu) count all (inr h) = absurd (h.0 (all cpu (omega arith)))

-- of the pages that the auditors leave none is made again
pub nothing_remade : (knobs : KnobsView) (r : RecordView) (slots : List (Option ReplayView)) (count : ℕ)
    → AreRemade knobs r slots count → AreLeft knobs r slots → count ≡ 0
nothing_remade knobs r slots count remade left =
    let kept = kept_steps knobs r (start_core r) left.steps left.core (kept_start knobs r) left.are_steps in
    none_remade knobs r left.core.slots r.cpus count
    (λ cpu h. left_suffices knobs r left.core kept cpu (page_at left.core.slots cpu) refl (left.complete cpu h))
    (subst (λ ps. AreRemade knobs r ps count) (sym left.are_slots) remade)
