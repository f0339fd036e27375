-- Pages are gathered processor by processor, each from its slot in the book where it suffices there, else made again.
-- The slots of later processors are as they were. A page of the book that has a fault suffices, so it is among those
-- gathered: a page that stopped at the least line of a fault on the book's suffices beside them.
use Rattle.std.proofs.Common.{◌≡◌, ◌≢◌, ℕ, zero, suc, ◌+◌, ◌<◌, ◌≤◌, nat_lt, if◌then◌else◌, Bool, true, false, IsSome}
use Rattle.std.proofs.Common.{List, [], ◌∷◌, ◌++◌, length, Option, Some, None, refl, sym, ap, ◌∙◌, subst, arith}
use Rattle.std.proofs.Common.{add-one, inl, inr, ◌⊎◌}
use Rattle.std.specs.Prelude.{slice_get}
use Rattle.std.proofs.lemmas.Bool.{cases_lt, false≢true, le-ltb, ltb-false}
use Rattle.std.proofs.lemmas.List.{length_push}
use Rattle.std.proofs.lemmas.Option.{same_Some, slice_get_within}
use Rattle.cfs_model.specs.Knobs.{KnobsView}
use Rattle.replay_laws.specs.Sufficing.{HasFaultBy}
use Rattle.replay_model.specs.Cut.{StreamView}
use Rattle.replay_model.specs.Page.{IsPageOf}
use Rattle.replay_model.specs.declared.page.StepFault.{StepFault}
use Rattle.queue_replay.specs.Made.{reached_at, reached_of}
use Rattle.queue_replay.specs.Replay.{ReplayView}
use Rattle.queue_replay.specs.declared.tag.Reached.{Reached}
use Rattle.queue_replay.specs.declared.tag.Reached.TheVariants.{Stopped, Done, Faulted}
use Rattle.sched_record.specs.Record.{RecordView}
use Rattle.ticket_book.specs.Book.{page_at}
use Rattle.ticket_book.specs.Own.{IsToldOwn}
use Rattle.ticket_book.specs.Relying.{IsEnough, IsLeastFaultLine, IsReliable}
use Rattle.ticket_book.specs.Remade.{AreRemadeBelow, HasFaultAt, IsLeastFault, ReachesEnough, Suffices, SufficesFor}
use Rattle.ticket_book.specs.Told.{pages_of, view_at}
use Rattle.ticket_book.specs.Whole.{AreSufficient, IsWholePageOf, SufficesBeside}

module _ (knobs : KnobsView) (r : RecordView) (slots : List (Option ReplayView)) where
  -- what the code tests is what the definition says, where the least line is the one that was found
  enough_reaches : (least : Option ℕ) (reached : Reached) → IsLeastFaultLine knobs r slots r.cpus least
      → IsEnough least reached
      → ReachesEnough knobs r slots reached
  enough_reaches least Done is h = tt
  enough_reaches least (Faulted line) is h = tt
  enough_reaches None (Stopped line) is h = absurd h
  enough_reaches (Some least) (Stopped line) is h = (least, is, h)

  reaches_enough : (least : Option ℕ) (reached : Reached) → IsLeastFaultLine knobs r slots r.cpus least
      → ReachesEnough knobs r slots reached → IsEnough least reached
  reaches_enough least Done is h = tt
  reaches_enough least (Faulted line) is h = tt
  reaches_enough None (Stopped line) is h = is h.1.cpu h.0 h.1.within h.1.there
  reaches_enough (Some least) (Stopped line) is h =
      let first = is.least h.1.cpu h.0 h.1.within h.1.there in
      let past = h.2 in
      omega (arith, first, past)

  pub reliable_suffices : (own : Bool) (least : Option ℕ) (cpu : ℕ) (page : ReplayView)
      → IsLeastFaultLine knobs r slots r.cpus least → IsToldOwn knobs r cpu (Some page) own
      → IsReliable own least (Some page)
      → SufficesFor knobs r slots cpu page
  reliable_suffices own least cpu page is told h = record {
    own = told.0 h.0;
    enough = enough_reaches least (reached_of page.page page.made (length page.stream.steps)) is h.1;
  }

  pub suffices_reliable : (own : Bool) (least : Option ℕ) (cpu : ℕ) (slot : Option ReplayView)
      → IsLeastFaultLine knobs r slots r.cpus least → IsToldOwn knobs r cpu slot own
      → Suffices knobs r slots cpu slot
      → IsReliable own least slot
  suffices_reliable own least cpu None is told h = h
  suffices_reliable own least cpu (Some page) is told h =
      (told.1 h.own, reaches_enough least (reached_of page.page page.made (length page.stream.steps)) is h.enough)

  -- a whole page suffices
  pub whole_reaches : (o : Option StepFault) (line made steps : ℕ) → IsSome o ⊎ (steps ≤ made)
      → ReachesEnough knobs r slots (reached_at o line made steps)
  whole_reaches (Some fault) line made steps h = tt
  whole_reaches None line made steps (inl some) = absurd (false≢true some)
  whole_reaches None line made steps (inr all) =
      subst (λ (b : Bool). ReachesEnough knobs r slots (if b then Stopped line else Done))
      (sym (le-ltb made steps all)) tt

  pub whole_suffices : (cpu : ℕ) (page : ReplayView) → IsWholePageOf knobs r cpu page
      → SufficesFor knobs r slots cpu page
  whole_suffices cpu page w = record {
    own = record { stream = w.stream; knobs_are = w.knobs_are };
    enough = whole_reaches page.page.fault page.page.line page.made (length page.stream.steps)
        (subst (λ (s : StreamView). IsSome page.page.fault ⊎ (length s.steps ≤ page.made)) (sym w.stream) w.whole);
  }

  -- how a page suffices
  reaches_how : (o : Option StepFault) (line made steps : ℕ)
      → ReachesEnough knobs r slots (reached_at o line made steps)
      → IsSome o ⊎ (steps ≤ made) ⊎ ((least : ℕ) × IsLeastFault knobs r slots least × (least ≤ line))
  reaches_how (Some fault) line made steps h = inl refl
  reaches_how None line made steps h = go (nat_lt made steps) refl h
    where
      none : Option StepFault
      none = None

      go : (b : Bool) → nat_lt made steps ≡ b → ReachesEnough knobs r slots (if b then Stopped line else Done)
          → IsSome none ⊎ (steps ≤ made) ⊎ ((least : ℕ) × IsLeastFault knobs r slots least × (least ≤ line))
      go true e h = inr (inr h)
      go false e h = inr (inl (ltb-false made steps e))

  -- a page of the book with a fault suffices
  fault_suffices : (cpu line : ℕ) (slot : Option ReplayView) → (f : HasFaultAt knobs r cpu slot line)
      → SufficesFor knobs r slots cpu f.page
  fault_suffices cpu line slot f = record {
    own = f.own;
    enough = subst (λ o. ReachesEnough knobs r slots
        (reached_at o f.page.page.line f.page.made (length f.page.stream.steps)))
        (sym f.is_fault) tt;
  }

-- a page that was gathered: it suffices, and is the page of the steps made
pub record IsGathered (knobs : KnobsView) (r : RecordView) (slots : List (Option ReplayView)) (cpu : ℕ)
    (page : ReplayView)
    : Type 0 where
  pub suffices : SufficesFor knobs r slots cpu page
  pub is_page : IsPageOf page.stream page.knobs page.made page.page

-- so many processors have their page, of what is left of a book's slots; and so many of the pages were made again
pub record AreGathered (knobs : KnobsView) (r : RecordView) (slots left : List (Option ReplayView))
    (pages : List ReplayView) (cpu remade : ℕ)
    : Type 0 where
  pub count : length pages ≡ cpu
  pub each : (other : ℕ) (page : ReplayView) → slice_get pages other ≡ Some page → IsGathered knobs r slots other page
  -- those of the book that suffice
  pub kept : (other : ℕ) (page : ReplayView) → other < cpu → page_at slots other ≡ Some page
      → SufficesFor knobs r slots other page → slice_get pages other ≡ Some page
  pub left_are : (other : ℕ) → cpu ≤ other → page_at left other ≡ page_at slots other
  pub remade_are : AreRemadeBelow knobs r slots cpu remade
  pub few : remade ≤ cpu

pub none_gathered : (knobs : KnobsView) (r : RecordView) (slots : List (Option ReplayView))
    → AreGathered knobs r slots slots [] 0 0
none_gathered knobs r slots = record {
  count = refl;
  each = λ other page e. absurd cc;
  kept = λ other page h e s. absurd (omega arith);
  left_are = λ other le. refl;
  remade_are = refl;
  few = omega arith;
}

pub push_before : {X : Type 0} (xs : List X) (x : X) (i : ℕ) → i < length xs
    → slice_get (xs ++ x ∷ []) i ≡ slice_get xs i
push_before [] x i h = absurd (omega arith)
push_before (y ∷ ys) x zero h = refl
push_before (y ∷ ys) x (suc i) h = push_before ys x i (omega arith)

pub push_last : {X : Type 0} (xs : List X) (x : X) → slice_get (xs ++ x ∷ []) (length xs) ≡ Some x
push_last [] x = refl
push_last (y ∷ ys) x = push_last ys x

-- one more page, of the next processor
module _ (knobs : KnobsView) (r : RecordView) (slots left after : List (Option ReplayView)) (pages : List ReplayView)
    (cpu remade : ℕ) (page : ReplayView)
    (gathered : AreGathered knobs r slots left pages cpu remade) (is : IsGathered knobs r slots cpu page)
    (others : (other : ℕ) → other ≢ cpu → page_at after other ≡ page_at left other) where
  each_more : (other : ℕ) (p : ReplayView) → slice_get (pages ++ page ∷ []) other ≡ Some p
      → IsGathered knobs r slots other p
  each_more other p e = go (cases_lt other (length pages))
    where
      go : (other < length pages) ⊎ (length pages ≤ other) → IsGathered knobs r slots other p
      go (inl lt) = gathered.each other p (sym (push_before pages page other lt) ∙ e)
      go (inr ge) =
          let count = gathered.count in
          let pushed = length_push pages page in
          let within = slice_get_within (pages ++ page ∷ []) other p e in
          let last : length pages ≡ other = omega (arith, ge, pushed, within) in
          let same : page ≡ p = same_Some page p (sym (push_last pages page) ∙ ap (slice_get (pages ++ page ∷ [])) last
          ∙ e) in
          subst (λ (q : ReplayView). IsGathered knobs r slots other q) same
          (subst (λ n. IsGathered knobs r slots n page) (sym count ∙ last) is)

  -- the page that stands at the processor's slot, if it suffices, is the one gathered
  abbrev KeepsPage : Type 0
  KeepsPage = (p : ReplayView) → page_at slots cpu ≡ Some p → SufficesFor knobs r slots cpu p → p ≡ page

  kept_more : KeepsPage → (other : ℕ) (p : ReplayView) → other < cpu + 1 → page_at slots other ≡ Some p
      → SufficesFor knobs r slots other p → slice_get (pages ++ page ∷ []) other ≡ Some p
  kept_more keeps other p h e s = go (cases_lt other cpu)
    where
      go : (other < cpu) ⊎ (cpu ≤ other) → slice_get (pages ++ page ∷ []) other ≡ Some p
      go (inl lt) = push_before pages page other (let count = gathered.count in omega (arith, lt, count))
          ∙ gathered.kept other p lt e s
      go (inr ge) =
          let here : other ≡ cpu = omega (arith, ge, h) in
          let same : p ≡ page = keeps p (ap (page_at slots) (sym here) ∙ e)
          (subst (λ n. SufficesFor knobs r slots n p) here s) in
          ap (slice_get (pages ++ page ∷ [])) (here ∙ sym gathered.count) ∙ push_last pages page ∙ ap Some (sym same)

  left_more : (other : ℕ) → cpu + 1 ≤ other → page_at after other ≡ page_at slots other
  left_more other le = others other (omega arith) ∙ gathered.left_are other (omega arith)

  more : (count : ℕ) → KeepsPage → AreRemadeBelow knobs r slots (suc cpu) count → count ≤ cpu + 1
      → AreGathered knobs r slots after (pages ++ page ∷ []) (cpu + 1) count
  more count keeps below few = record {
    count = length_push pages page ∙ ap (λ n. n + 1) gathered.count;
    each = each_more;
    kept = kept_more keeps;
    left_are = left_more;
    remade_are = subst (λ n. AreRemadeBelow knobs r slots n count) (sym (add-one cpu)) below;
    few = few;
  }

  -- the slot's own, which suffices
  pub gathered_one : page_at left cpu ≡ Some page
      → AreGathered knobs r slots after (pages ++ page ∷ []) (cpu + 1) remade
  gathered_one here =
      let stands : page_at slots cpu ≡ Some page = sym (gathered.left_are cpu (omega arith)) ∙ here in
      let suffices : Suffices knobs r slots cpu (page_at slots cpu) =
      subst (Suffices knobs r slots cpu) (sym stands) is.suffices in
      more remade (λ p e s. same_Some p page (sym e ∙ stands)) (inl (suffices, gathered.remade_are))
      (let few = gathered.few in omega (arith, few))

  -- one that was made again
  pub made_one : ¬ Suffices knobs r slots cpu (page_at left cpu)
      → AreGathered knobs r slots after (pages ++ page ∷ []) (cpu + 1) (remade + 1)
  made_one lacks =
      let short : ¬ Suffices knobs r slots cpu (page_at slots cpu) =
      subst (λ slot. ¬ Suffices knobs r slots cpu slot) (gathered.left_are cpu (omega arith)) lacks in
      more (remade + 1) (λ p e s. absurd (short (subst (Suffices knobs r slots cpu) (sym e) s)))
      (inr (short, (remade, add-one remade, gathered.remade_are))) (let few = gathered.few in omega (arith, few))

-- the page at a slot of a list
view_is : (pages : List ReplayView) (cpu : ℕ) (page : ReplayView) → slice_get pages cpu ≡ Some page
    → view_at (pages_of pages) cpu ≡ page.page
view_is [] cpu page e = absurd cc
view_is (p ∷ pages) zero page e = ap (λ (q : ReplayView). q.page) (same_Some p page e)
view_is (p ∷ pages) (suc cpu) page e = view_is pages cpu page e

-- the pages of all processors suffice beside each other
pub all_gathered : (knobs : KnobsView) (r : RecordView) (slots left : List (Option ReplayView))
    (pages : List ReplayView)
    (remade : ℕ) → AreGathered knobs r slots left pages r.cpus remade → AreSufficient knobs r pages
all_gathered knobs r slots left pages remade g = record {
  count = g.count;
  each = λ cpu page e. beside cpu page (g.each cpu page e);
}
  where
    faulted : (line least : ℕ) → IsLeastFault knobs r slots least → least ≤ line
        → HasFaultBy (view_at (pages_of pages)) (length pages) line
    faulted line least first past =
        let f = first.there in
        let there = g.kept first.cpu f.page first.within f.stands
        (fault_suffices knobs r slots first.cpu least (page_at slots first.cpu) f) in
        record {
          cpu = first.cpu;
          within = subst (λ n. first.cpu < n) (sym g.count) first.within;
          fault = f.fault;
          is_fault = ap (λ p. p.fault) (view_is pages first.cpu f.page there) ∙ f.is_fault;
          by = (let at = f.at_line in omega (arith, at, past));
        }

    beside : (cpu : ℕ) (page : ReplayView) → IsGathered knobs r slots cpu page → SufficesBeside knobs r pages cpu page
    beside cpu page h = record {
      stream = h.suffices.own.stream;
      knobs_are = h.suffices.own.knobs_are;
      is_page = h.is_page;
      enough = elim (reaches_how knobs r slots page.page.fault page.page.line page.made (length page.stream.steps)
          h.suffices.enough) [
            | inl some ↦ inl some
            | inr (inl all) ↦ inr (inl (subst
                (λ (s : StreamView). length s.steps ≤ page.made) h.suffices.own.stream all))
            | inr (inr past) ↦ inr (inr (faulted page.page.line past.0 past.1 past.2))
          ];
    }
