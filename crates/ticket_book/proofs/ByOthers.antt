-- The pages of all processors by other settings, page after page.
use Rattle.std.proofs.Common.{◌≡◌, ℕ, ◌+◌, ◌<◌, ◌≤◌, Option, Some, None, List, [], ◌∷◌, ◌++◌, length, map}
use Rattle.std.proofs.Common.{◌⊎◌, inl, inr, refl, sym, ap, ◌∙◌, subst, arith}
use Rattle.std.specs.Prelude.{slice_get}
use Rattle.std.proofs.lemmas.Bool.{cases_lt}
use Rattle.std.proofs.lemmas.List.{length_push, map-append}
use Rattle.std.proofs.lemmas.Option.{same_Some, slice_get_within}
use Rattle.cfs_model.specs.Knobs.{KnobsView}
use Rattle.queue_replay.specs.Replay.{ReplayView}
use Rattle.replay_model.specs.Noted.{PageView}
use Rattle.replay_laws.specs.Closing.{PagesTellFault, PagesTellRun}
use Rattle.replay_laws.specs.FirstFaults.{FaultIsFirstBad}
use Rattle.replay_model.specs.declared.first_fault.FirstFault.{FirstFault}
use Rattle.sched_record.specs.Record.{RecordView, IsRecordInOrder}
use Rattle.ticket_book.proofs.Gathering.{push_before, push_last}
use Rattle.ticket_book.proofs.Verdicts.{all_suffice, fault_is_verdict, in_record}
use Rattle.ticket_book.specs.Faultless.{IsFaultOf}
use Rattle.ticket_book.specs.SaidEvents.{events_of}
use Rattle.ticket_book.specs.PageBy.{by_view, page_view, replay_by, shown_by}
use Rattle.ticket_book.specs.Told.{Tell, pages_of, view_at}
use Rattle.ticket_book.specs.Whole.{AreSufficient, IsWholePageOf}
use Rattle.ticket_book.specs.declared.page_by.PageBy.{PageBy}

-- what is shown is the page of the replay
shown_is : (knobs : KnobsView) (kept : ReplayView) (remade : Option ReplayView)
    → shown_by kept remade ≡ (replay_by knobs kept remade).page
shown_is knobs kept None = refl
shown_is knobs kept (Some page) = refl

pub views_are : (knobs : KnobsView) (all : List PageBy) → map page_view all ≡ pages_of (map (by_view knobs) all)
views_are knobs [] = refl
views_are knobs (by ∷ all) =
    ap (λ (p : PageView). p ∷ map page_view all) (shown_is knobs by.kept.now by.remade)
    ∙ ap (λ ps. (by_view knobs by).page ∷ ps) (views_are knobs all)

-- so many pages are made by these settings, each whole
pub record AreMade (knobs : KnobsView) (r : RecordView) (pages : List ReplayView) (count : ℕ) : Type 0 where
  pub count_is : length pages ≡ count
  pub each : (cpu : ℕ) (page : ReplayView) → slice_get pages cpu ≡ Some page → IsWholePageOf knobs r cpu page

pub none_made : (knobs : KnobsView) (r : RecordView) → AreMade knobs r [] 0
none_made knobs r = record { count_is = refl; each = λ cpu page e. absurd cc }

pub one_made : (knobs : KnobsView) (r : RecordView) (all : List PageBy) (by : PageBy) (cpu : ℕ)
    → AreMade knobs r (map (by_view knobs) all) cpu → IsWholePageOf knobs r cpu (by_view knobs by)
    → AreMade knobs r (map (by_view knobs) (all ++ by ∷ [])) (cpu + 1)
one_made knobs r all by cpu made is =
    subst (λ pages. AreMade knobs r pages (cpu + 1)) (sym (map-append (by_view knobs) all (by ∷ []))) (record {
      count_is = length_push pages page ∙ ap (λ n. n + 1) made.count_is;
      each = λ other p e. go other p e (cases_lt other (length pages));
    })
  where
    pages : List ReplayView
    pages = map (by_view knobs) all

    page : ReplayView
    page = by_view knobs by

    go : (other : ℕ) (p : ReplayView) → slice_get (pages ++ page ∷ []) other ≡ Some p
        → (other < length pages) ⊎ (length pages ≤ other) → IsWholePageOf knobs r other p
    go other p e (inl lt) = made.each other p (sym (push_before pages page other lt) ∙ e)
    go other p e (inr ge) =
        let pushed = length_push pages page in
        let within = slice_get_within (pages ++ page ∷ []) other p e in
        let last : length pages ≡ other = omega (arith, ge, pushed, within) in
        let same : page ≡ p = same_Some page p (sym (push_last pages page) ∙ ap (slice_get (pages ++ page ∷ [])) last
        ∙ e) in
        subst (λ (q : ReplayView). IsWholePageOf knobs r other q) same
        (subst (λ n. IsWholePageOf knobs r n page) (sym made.count_is ∙ last) is)

pub all_made : (knobs : KnobsView) (r : RecordView) (pages : List ReplayView) → AreMade knobs r pages r.cpus
    → AreSufficient knobs r pages
all_made knobs r pages made = record {
  count = made.count_is;
  each = λ cpu page e. (let whole = made.each cpu page e in record {
    stream = whole.stream;
    knobs_are = whole.knobs_are;
    is_page = whole.is_page;
    enough = elim whole.whole [ inl fault ↦ inl fault | inr all ↦ inr (inl all) ];
  });
}

-- what the pages tell is the first fault, or that there is none
pub fault_of : PagesTellRun → PagesTellFault → FaultIsFirstBad → (knobs : KnobsView) (r : RecordView)
    (pages : List ReplayView) → AreSufficient knobs r pages → IsRecordInOrder r → (answer : Option FirstFault)
    → Tell (view_at (pages_of pages)) (length pages) r.tasks (events_of r) answer → IsFaultOf knobs r answer
fault_of runs faults first_bad knobs r pages sufficient o None nothing =
    runs knobs r.start r.floors r.tasks (events_of r) (length pages) (view_at (pages_of pages))
    (in_record knobs r pages sufficient o) (all_suffice knobs r pages sufficient) nothing
fault_of runs faults first_bad knobs r pages sufficient o (Some fault) tell =
    fault_is_verdict knobs r pages sufficient faults first_bad o fault tell
