-- The whole pages of all processors are left where each is posted in turn, from a new book on.
use Rattle.std.proofs.Common.{◌≡◌, ℕ, zero, suc, ◌+◌, ◌-◌, ◌<◌, ◌≤◌, inl, inr, IsSome, List, [], ◌∷◌, length, set}
use Rattle.std.proofs.Common.{Option, Some, None, refl, sym, ap, ◌∙◌, subst, arith}
use Rattle.std.proofs.lemmas.List.{ext_get_or, get_or-set_same, get_or-set_other, length-replicate, length-set}
use Rattle.cfs_model.proofs.Moves.{same_or_not}
use Rattle.cfs_model.specs.Knobs.{KnobsView}
use Rattle.replay_model.specs.Cut.{StreamView}
use Rattle.queue_replay.specs.Replay.{ReplayView}
use Rattle.sched_record.specs.Record.{RecordView}
use Rattle.ticket_book.specs.Book.{page_at}
use Rattle.ticket_book.specs.Core.{post, AreCoreSteps, AreLeft, Core, CoreStep, MayPost, start_core}
use Rattle.ticket_book.specs.Left.{AreWhole, WholePagesAreLeft}
use Rattle.ticket_book.specs.Whole.{IsWholePageOf}
use Rattle.ticket_book.proofs.BookSlots.{no_page_there}

-- a whole page may be posted, whatever was told
may_post : (knobs : KnobsView) (r : RecordView) (cpu told : ℕ) (page : ReplayView) → IsWholePageOf knobs r cpu page
    → MayPost knobs r cpu told page
may_post knobs r cpu told page w = record {
  own = record { stream = w.stream; knobs_are = w.knobs_are };
  is_page = w.is_page;
  far = elim w.whole [
    | inl some ↦ inl some
    | inr all ↦ inr (inl (subst (λ (s : StreamView). length s.steps ≤ page.made) (sym w.stream) all))
  ];
}

-- from this core on some steps lead to these slots
record LeadsTo (knobs : KnobsView) (r : RecordView) (core : Core) (slots : List (Option ReplayView)) : Type 0 where
  steps : List CoreStep
  after : Core
  are_steps : AreCoreSteps knobs r core steps after
  are_slots : after.slots ≡ slots

-- all but the last so many processors have posted
record HavePosted (r : RecordView) (slots now : List (Option ReplayView)) (left : ℕ) : Type 0 where
  count : length now ≡ r.cpus
  posted : (cpu : ℕ) → cpu + left < r.cpus → page_at now cpu ≡ page_at slots cpu
  empty : (cpu : ℕ) → r.cpus ≤ cpu + left → page_at now cpu ≡ None

module _ (knobs : KnobsView) (r : RecordView) (slots : List (Option ReplayView)) (all : AreWhole knobs r slots) where
  abbrev nothing : Option ReplayView
  nothing = None

  -- one more posts
  one_more : (now : List (Option ReplayView)) (left cpu : ℕ) (page : ReplayView) → cpu + suc left ≡ r.cpus
      → page_at slots cpu ≡ Some page → HavePosted r slots now (suc left)
      → HavePosted r slots (set now cpu (Some page)) left
  one_more now left cpu page at here have = record {
    count = length-set now cpu (Some page) ∙ have.count;
    posted = λ other h. elim (same_or_not other cpu) [
      | inl same ↦ (
          let within : cpu < length now = let n = have.count in omega (arith, n, at) in
          ap (page_at (set now cpu (Some page))) same ∙ get_or-set_same now cpu (Some page) nothing within
          ∙ sym (ap (page_at slots) same ∙ here))
      | inr not ↦ get_or-set_other now cpu other (Some page) nothing not
          ∙ have.posted other (omega (arith, h, at, not))
    ];
    empty = λ other h.
        (get_or-set_other now cpu other (Some page) nothing (λ same. absurd (omega (arith, h, at, same)))
        ∙ have.empty other (omega (arith, h)));
  }

  -- the others post in turn
  leads : (left : ℕ) (core : Core) → left ≤ r.cpus → HavePosted r slots core.slots left
      → LeadsTo knobs r core slots
  leads zero core few have = record {
    steps = [];
    after = core;
    are_steps = refl;
    are_slots = ext_get_or nothing core.slots slots (have.count ∙ sym all.one_each)
        (λ cpu h. have.posted cpu (let n = have.count in omega (arith, n, h)));
  }
  leads (suc left) core few have =
      let cpu : ℕ = r.cpus - suc left in
      let at : cpu + suc left ≡ r.cpus = omega (arith, few) in
      let whole = all.whole cpu (omega (arith, at)) in
      let next : Core = record core { slots = set core.slots cpu (Some whole.0) } in
      let rest = leads left next (omega (arith, few)) (one_more core.slots left cpu whole.0 at whole.1 have) in
      record {
        steps = post cpu whole.0 ∷ rest.steps;
        after = rest.after;
        are_steps = (
          next,
          (
            omega (arith, at),
            have.empty cpu (omega (arith, at)),
            may_post knobs r cpu (core.told cpu) whole.0 whole.2,
            refl,
          ),
          rest.are_steps,
        );
        are_slots = rest.are_slots;
      }

  at_first : HavePosted r slots (start_core r).slots r.cpus
  at_first = record {
    count = length-replicate r.cpus nothing;
    posted = λ cpu h. absurd (omega (arith, h));
    empty = λ cpu h. no_page_there r.cpus cpu;
  }

  some_at : (slot : Option ReplayView) (page : ReplayView) → slot ≡ Some page → IsSome slot
  some_at slot page e = subst IsSome (sym e) refl

  left : AreLeft knobs r slots
  left =
      let found = leads r.cpus (start_core r) (omega arith) at_first in
      record {
        steps = found.steps;
        core = found.after;
        are_steps = found.are_steps;
        complete = λ cpu h.
            (let w = all.whole cpu h in
            some_at (page_at found.after.slots cpu) w.0 (ap (λ ps. page_at ps cpu) found.are_slots ∙ w.1));
        are_slots = found.are_slots;
      }

pub whole_pages_left : WholePagesAreLeft
whole_pages_left knobs r slots all = left knobs r slots all
