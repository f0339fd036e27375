-- The pages of a crew's book are the record's own: the book begins with none, and one that is posted is.
use Rattle.std.proofs.Common.{◌≡◌, ◌≢◌, ℕ, ◌<◌, ◌⊎◌, inl, inr, List, length, set, replicate, Option, Some, None, sym}
use Rattle.std.proofs.Common.{ap, ◌∙◌, subst}
use Rattle.std.proofs.lemmas.Bool.{cases_eq}
use Rattle.std.proofs.lemmas.List.{get_or-set_same, get_or-set_other}
use Rattle.std.proofs.lemmas.Option.{none-some, same_Some, slice_get_within}
use Rattle.cfs_model.specs.Knobs.{KnobsView}
use Rattle.replay_model.specs.Cut.{StreamView}
use Rattle.queue_replay.specs.Replay.{ReplayView}
use Rattle.sched_record.specs.Record.{RecordView}
use Rattle.sched_record.specs.Stream.{cut_of}
use Rattle.ticket_book.specs.Book.{page_at, post_refusal}
use Rattle.ticket_book.specs.Own.{AreOwn}
use Rattle.ticket_book.specs.Whole.{IsOwnPageOf}
use Rattle.ticket_book.proofs.BookSlots.{no_page_there, room}
use Rattle.audit_crew.specs.Own.{AreTaken, IsOwnReplay}

pub none_own : (knobs : KnobsView) (r : RecordView) (cpus : ℕ) → AreOwn knobs r (replicate cpus None)
none_own knobs r cpus cpu page e = absurd (none-some page (sym (no_page_there cpus cpu) ∙ e))

-- a page that isn't refused
pub own_put : (knobs : KnobsView) (r : RecordView) (slots : List (Option ReplayView)) (page : ReplayView)
    → AreOwn knobs r slots → IsOwnReplay knobs r page → None ≡ post_refusal slots page.stream.cpu
    → AreOwn knobs r (set slots page.stream.cpu (Some page))
own_put knobs r slots page own is room_for other p e = go (cases_eq other cpu)
  where
    cpu : ℕ
    cpu = page.stream.cpu

    within : cpu < length slots
    within = slice_get_within slots cpu None (room slots cpu room_for)

    go : (other ≡ cpu) ⊎ (other ≢ cpu) → IsOwnPageOf knobs r other p
    go (inl same) =
        let here : page_at (set slots cpu (Some page)) other ≡ Some page =
        ap (page_at (set slots cpu (Some page))) same ∙ get_or-set_same slots cpu (Some page) None within in
        subst (λ (q : ReplayView). IsOwnPageOf knobs r other q) (same_Some page p (sym here ∙ e))
        (subst (λ (n : ℕ). IsOwnPageOf knobs r n page) (sym same) is)
    go (inr not) = own other p (sym (get_or-set_other slots cpu other (Some page) None not) ∙ e)

-- the pages of a replay's stream, by its settings
pub own_taken : (knobs : KnobsView) (r : RecordView) (replay : ReplayView) → IsOwnReplay knobs r replay
    → AreTaken (IsOwnReplay knobs r) replay.stream replay.knobs
own_taken knobs r replay own page stream settings = record {
  stream = stream ∙ own.stream ∙ ap (λ (s : StreamView). cut_of r s.cpu) (sym stream);
  knobs_are = settings ∙ own.knobs_are;
}

-- a replay of the stream that the record deals to a processor
pub dealt_own : (knobs : KnobsView) (r : RecordView) (cpu : ℕ) (replay : ReplayView) → replay.stream ≡ cut_of r cpu
    → replay.knobs ≡ knobs → IsOwnReplay knobs r replay
dealt_own knobs r cpu replay stream settings = record {
  stream = stream ∙ ap (cut_of r) (sym (ap (λ (s : StreamView). s.cpu) stream));
  knobs_are = settings;
}
