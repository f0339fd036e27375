-- The first thing that sufficing pages say against an event is what is wrong with it. Their first fault isn't on a line
-- before the event's, so a page that stopped at that fault's line or past it is the whole page of the record up to
-- where it stopped, with the event.
use Rattle.std.proofs.Common.{◌≡◌, ℕ, ◌<◌, ◌≤◌, nat_le, Bool, true, false, Option, Some, None, is_some, ℤ, inl, inr}
use Rattle.std.proofs.Common.{List, ◌∷◌, ◌++◌, length, refl, ap, subst, arith}
use Rattle.std.proofs.lemmas.Bool.{cases_lt, leb-true}
use Rattle.cfs_model.specs.Knobs.{KnobsView}
use Rattle.cfs_model.specs.Claimed.{Claimed}
use Rattle.replay_model.specs.Cut.{steps_at}
use Rattle.replay_model.specs.Noted.{PageView}
use Rattle.replay_model.specs.Record.{IsRecord}
use Rattle.replay_laws.specs.Sufficing.{HasFaultBy, IsWholePage, SufficesAmong}
use Rattle.replay_laws.specs.Closing.{PagesTellFault}
use Rattle.replay_laws.specs.Telling.{SayNothing}
use Rattle.replay_laws.proofs.telling.Fronts.{AtFront, at_front, front_of}
use Rattle.replay_laws.proofs.telling.FrontFaults.{not_before}
use Rattle.replay_laws.proofs.telling.FrontRun.{front_run, whole_by_fault}
use Rattle.replay_laws.proofs.telling.PagesTell.{cause_told}
use Rattle.replay_laws.proofs.telling.Stops.{stops_past}
use Rattle.replay_laws.proofs.telling.WholeReplay.{WholeReplay, whole_replay}
use Rattle.cfs_model.specs.declared.task.Task.{Task}
use Rattle.replay_model.specs.declared.page.StepFault.{StepFault}

-- the record up to where a page goes, and its replay
record GoesTo (knobs : KnobsView) (start : ℕ) (floors : List ℤ) (tasks : List Task) (before : List Claimed)
    (event : Claimed) (cpus cpu : ℕ) (page : PageView) : Type 0 where
  rest : List Claimed
  kept : IsRecord start floors tasks (before ++ event ∷ rest) cpus
  replay : cpu < cpus → WholeReplay knobs start floors tasks (before ++ event ∷ rest) cpu page

module _ (knobs : KnobsView) (start : ℕ) (floors : List ℤ) (tasks : List Task) (before rest : List Claimed)
    (event : Claimed) (cpus : ℕ) (pages : ℕ → PageView)
    (r : IsRecord start floors tasks (before ++ event ∷ rest) cpus)
    (enough : (cpu : ℕ) → cpu < cpus → SufficesAmong knobs start floors tasks (before ++ event ∷ rest) cpus pages cpu)
    (say : SayNothing pages cpus tasks before) where
  abbrev Whole : ℕ → Type 0
  Whole cpu = IsWholePage knobs start floors tasks (before ++ event ∷ rest) cpu (pages cpu)

  abbrev Goes : ℕ → Type 0
  Goes cpu = GoesTo knobs start floors tasks before event cpus cpu (pages cpu)

  by_whole : (cpu : ℕ) → Whole cpu → Goes cpu
  by_whole cpu w = record {
    rest = rest;
    kept = r;
    replay = λ k. whole_replay knobs start floors tasks (before ++ event ∷ rest) cpu (pages cpu) w;
  }

  -- the pages say nothing against the events before this one, so no fault on them is of a line before it
  not_past : (line : ℕ) → HasFaultBy pages cpus line → event.entry.line ≤ line
  not_past line by =
      let at = at_front knobs start floors tasks before (event ∷ rest) cpus by.cpu (pages by.cpu) r
      (λ k. whole_by_fault knobs start floors tasks (before ++ event ∷ rest) cpus pages by.cpu by.fault
      (enough by.cpu k)
      by.is_fault) (say.no_fault by.cpu) in
      let from = not_before knobs start floors tasks before rest event cpus by.cpu (pages by.cpu) by.fault r by.within
      at
      by.is_fault in
      let to = by.by in
      omega (arith, from, to)

  by_stop : (cpu : ℕ) → SufficesAmong knobs start floors tasks (before ++ event ∷ rest) cpus pages cpu
      → event.entry.line ≤ (pages cpu).line → Goes cpu
  by_stop cpu w past = go (pages cpu).fault refl
      (nat_le (length (steps_at cpu (before ++ event ∷ rest))) w.made) refl
    where
      go : (o : Option StepFault) → (pages cpu).fault ≡ o → (b : Bool)
          → nat_le (length (steps_at cpu (before ++ event ∷ rest))) w.made ≡ b → Goes cpu
      go (Some fault) f b all = by_whole cpu
          (record { made = w.made; is_page = w.is_page; whole = inl (ap is_some f) })
      go None f true all = by_whole cpu
          (record { made = w.made; is_page = w.is_page; whole = inr (leb-true _ _ all) })
      go None f false short =
          let s = stops_past knobs start floors tasks before rest event cpus cpu w.made (pages cpu) r w.is_page f short
          past in
          record { rest = s.rest; kept = s.kept; replay = λ k. s.replay }

  by_page : (cpu : ℕ) → SufficesAmong knobs start floors tasks (before ++ event ∷ rest) cpus pages cpu → Goes cpu
  by_page cpu w = elim w.enough [
    | inl some ↦ by_whole cpu (record { made = w.made; is_page = w.is_page; whole = inl some })
    | inr (inl all) ↦ by_whole cpu (record { made = w.made; is_page = w.is_page; whole = inr all })
    | inr (inr by) ↦ by_stop cpu w (not_past (pages cpu).line by)
  ]

  each_goes : (cpu : ℕ) → Goes cpu
  each_goes cpu = elim (cases_lt cpu cpus) [
    | inl k ↦ by_page cpu (enough cpu k)
    | inr k ↦ record { rest = rest; kept = r; replay = λ h. absurd (omega arith) }
  ]

  fronts : (cpu : ℕ) → AtFront knobs start floors tasks before (event ∷ (each_goes cpu).rest) cpus cpu (pages cpu)
  fronts cpu = front_of knobs start floors tasks before (event ∷ (each_goes cpu).rest) cpus cpu (pages cpu)
      (each_goes cpu).kept
      (each_goes cpu).replay (say.no_fault cpu)

pub pages_tell_fault : PagesTellFault
pages_tell_fault knobs start floors tasks events before rest event cpus pages cause r enough e say c =
    let all = subst (λ xs. IsRecord start floors tasks xs cpus) e r in
    let each : (cpu : ℕ) → cpu < cpus
    → SufficesAmong knobs start floors tasks (before ++ event ∷ rest) cpus pages cpu = λ cpu k.
    subst (λ xs. SufficesAmong knobs start floors tasks xs cpus pages cpu) e (enough cpu k) in
    let to = each_goes knobs start floors tasks before rest event cpus pages all each say in
    let at = fronts knobs start floors tasks before rest event cpus pages all each say in
    let run = front_run knobs start floors tasks before (λ cpu. event ∷ (to cpu).rest) cpus pages (λ cpu. (to cpu).kept)
    at say in
    let f = cause_told knobs start floors tasks before (λ cpu. (to cpu).rest) event cpus pages (λ cpu. (to cpu).kept) at
    run cause c in
    record { before = before; event = event; rest = rest; whole = e; line_is = refl; why = f.0; ends = f.1 }
