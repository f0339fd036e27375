-- Behind the last window: the tallies kept add up to the run's summary, and none of their sums is too great.
use Rattle.std.proofs.Common.{◌≡◌, ℕ, List, [], ◌∷◌, zero, suc, length, get_or, refl, sym, ap, ◌∙◌, subst, All}
use Rattle.std.proofs.Math.Path.{fun_ext}
use Rattle.std.proofs.lemmas.List.{get_or-map}
use Rattle.cfs_model.specs.Claimed.{Claimed}
use Rattle.cfs_model.specs.Start.{start_machine}
use Rattle.replay_model.specs.Noted.{PageView, new_tally}
use Rattle.replay_model.specs.Roll.{named, roll_of}
use Rattle.replay_model.specs.Summary.{SummaryView, tally_of, tasks_of_run}
use Rattle.replay_model.specs.declared.page.Tally.{Tally}
use Rattle.tally_laws.specs.Tallying.{TalliesBounded}
use Rattle.tally_laws.specs.Totals.{summary_by, tallies_below, total_of}
use Rattle.ticket_book.specs.Tallying.{FitsTally}
use Rattle.ticket_book.specs.Told.{view_at}
use Rattle.ticket_book.proofs.Extent.{bounds_fit}
use Rattle.window_laws.specs.WindowEnds.{SoFarTellsSummary}
use Rattle.window_audit.specs.Audit.{Beginning, IsSummaryOf, IsWhole}
use Rattle.window_audit.specs.States.{state_at}
use Rattle.window_audit.specs.declared.audit.WindowAudit.{WindowAudit}
use Rattle.window_audit.specs.declared.member.Member.{Member}
use Rattle.window_audit.proofs.Passing.{pages_of}

-- a page is that of where its replay stands, and behind the last there is none
pub page_anywhere : (members : List Member) (cpu : ℕ) → view_at (pages_of members) cpu ≡ (state_at members cpu).page
page_anywhere [] cpu = refl
page_anywhere (m ∷ members) zero = refl
page_anywhere (m ∷ members) (suc cpu) = page_anywhere members cpu

module _ (of : Beginning) (events : List Claimed) (audit : WindowAudit) (whole : IsWhole of events audit)
    (tells : SoFarTellsSummary) (bounded : TalliesBounded) where
  abbrev pub tallies : List Tally
  tallies = tallies_below (view_at (pages_of audit.members.items)) (length audit.members.items)

  same : tallies_below (λ cpu. (state_at audit.members.items cpu).page) of.cpus ≡ tallies
  same =
      ap (λ (f : ℕ → PageView). tallies_below f of.cpus)
      (fun_ext (λ cpu. sym (page_anywhere audit.members.items cpu)))
      ∙ ap (tallies_below (view_at (pages_of audit.members.items))) (sym whole.audit_is.count)

  -- the summary by the tallies kept
  pub summed : IsSummaryOf of events (summary_by tallies of.tasks events)
  summed =
      subst (λ ts. IsSummaryOf of events (summary_by ts of.tasks events)) same
      (tells of.knobs of.start of.floors of.tasks events of.cpus (state_at audit.members.items)
      (roll_of (named of.tasks) events) whole.is_record whole.audit_is.run)

  -- each sum is what the task did in the run, which isn't too much
  pub sums_fit : All (λ pid. FitsTally (total_of tallies pid)) (tasks_of_run of.tasks events)
  sums_fit k d lt =
      let pids = tasks_of_run of.tasks events in
      let pid = get_or pids k d in
      let run = summed.run in
      let did : ℕ → Tally = tally_of (start_machine of.start of.floors of.tasks) events run.states in
      let one = get_or-map (total_of tallies) pids k d (new_tally 0) lt in
      let other = get_or-map did pids k d (new_tally 0) lt in
      let all = ap (λ (s : SummaryView). get_or s.tallies k (new_tally 0)) summed.is in
      subst FitsTally (sym (sym one ∙ all ∙ other))
      (bounds_fit (did pid) (length events) whole.last of.knobs.drift whole.few_events whole.last_fits whole.drift
      (bounded of.knobs of.start of.floors of.tasks events whole.last pid whole.is_record.is_start whole.times run))
