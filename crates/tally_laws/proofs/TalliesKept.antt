-- What each step keeps of a page's tallies, a replay keeps: that no pid has two of them, and of which pids they are.
use Rattle.std.proofs.Common.{◌≡◌, ◌≢◌, ℕ, zero, suc, ◌<◌, nat_eq, nat_le, Bool, true, false, ◌||◌, cond, Option, Some}
use Rattle.std.proofs.Common.{None, inl, inr, List, [], ◌∷◌, AllPairs, length, take, refl, sym, ap, ◌∙◌, subst, arith}
use Rattle.std.specs.List.{AllByRecursion, slice_index_or}
use Rattle.std.proofs.lemmas.Bool.{eqb-false}
use Rattle.cfs_model.specs.Knobs.{KnobsView}
use Rattle.replay_model.specs.Part.{Part}
use Rattle.replay_model.specs.Cut.{StreamView, cut}
use Rattle.replay_model.specs.Noted.{PageView, charged_tallies, tallied}
use Rattle.replay_model.specs.Page.{ReplayStateView, IsReplayStep, IsReplay, end_page}
use Rattle.tally_laws.specs.Tallying.{TalliesOnce}
use Rattle.replay_laws.proofs.composing.CutReplays.{end_tallies}
use Rattle.tally_laws.proofs.TalliesSaid.{has_tally, Once}
use Rattle.tally_laws.proofs.TalliesCharged.{charged_once}
use Rattle.tally_laws.proofs.TalliesOfDeeds.{tallied_once}
use Rattle.tally_laws.proofs.TalliesAtStart.{tallies_at_start}
use Rattle.cfs_model.specs.declared.charge_line.ChargeLine.{ChargeLine}
use Rattle.replay_model.specs.declared.page.StepFault.{StepFault}
use Rattle.replay_model.specs.declared.page.Tally.{Tally}
use Rattle.replay_model.specs.declared.step.Deed.{Deed}
use Rattle.replay_model.specs.declared.step.Step.{Step}

-- what a charge, and each deed of a kind, keep of tallies
pub record Keeps (P : List Tally → Type 0) (Is : Deed → Type 0) : Type 0 where
  pub charge : (part : Part) (time : ℕ) (charge : Option ChargeLine) (tallies : List Tally) → P tallies
      → P (charged_tallies part time charge tallies)
  pub deed : (deed : Deed) (tallies : List Tally) → Is deed → P tallies → P (tallied deed tallies)

module _ (P : List Tally → Type 0) (Is : Deed → Type 0) (k : Keeps P Is) (knobs : KnobsView) (cpu : ℕ) where
  step_keeps : (o : Option StepFault) (s : ReplayStateView) (step : Step) (next : ReplayStateView) → Is step.deed
      → IsReplayStep knobs cpu o s step next → P s.page.tallies → P next.page.tallies
  step_keeps (Some fault) s step next is r h = subst (λ x. P x.page.tallies) (sym r) h
  step_keeps None s step next is (inl p) h = subst (λ (page : PageView). P page.tallies) (sym p.page)
      (k.deed step.deed (charged_tallies s.part step.time step.charge s.page.tallies) is
      (k.charge s.part step.time step.charge s.page.tallies h))
  step_keeps None s step next is (inr f) h = subst (λ x. P x.page.tallies) (sym f.result) h

  pub replay_keeps : (s : ReplayStateView) (steps : List Step) (last : ReplayStateView)
      → AllByRecursion (λ (step : Step). Is step.deed) steps
      → IsReplay knobs cpu s steps last → P s.page.tallies → P last.page.tallies
  replay_keeps s [] last are r h = subst (λ x. P x.page.tallies) (sym r) h
  replay_keeps s (step ∷ steps) last are r h =
      replay_keeps r.0 steps last are.1 r.2 (step_keeps s.page.fault s step r.0 are.0 r.1 h)

-- the tallies of a page are those of its replay
pub page_tallies : (slack : ℕ) (b : Bool) (stream : StreamView) (end : ReplayStateView)
    (page : PageView) → page ≡ cond b (end_page slack stream end.since end.page.fault end.page) end.page
    → page.tallies ≡ end.page.tallies
page_tallies slack true stream end page e =
    ap (λ p. p.tallies) e ∙ end_tallies slack stream end.since end.page.fault end.page
page_tallies slack false stream end page e = ap (λ p. p.tallies) e

any_deed : (steps : List Step) → AllByRecursion (λ (step : Step). Unit {0}) steps
any_deed [] = tt
any_deed (step ∷ steps) = (tt, any_deed steps)

pub once_kept : (knobs : KnobsView) (cpu : ℕ) (s : ReplayStateView) (steps : List Step) (last : ReplayStateView)
    → IsReplay knobs cpu s steps last → Once s.page.tallies → Once last.page.tallies
once_kept knobs cpu s steps last r once =
    replay_keeps Once (λ deed. Unit {0})
    (record { charge = charged_once; deed = λ deed tallies is h. tallied_once deed tallies h }) knobs cpu s steps last
    (any_deed steps) r once

-- by index
other_pid : (pid : ℕ) (tallies : List Tally) → has_tally tallies pid ≡ false → (k : ℕ) (d : Tally) → k < length tallies
    → pid ≢ (slice_index_or tallies k d).pid
other_pid pid [] none k d h = absurd (omega arith)
other_pid pid (tally ∷ tallies) none zero d h = λ e. eqb-false tally.pid pid (first (nat_eq tally.pid pid) none) (sym e)
  where
    first : (b : Bool) → (b || has_tally tallies pid) ≡ false → b ≡ false
    first true h = h
    first false h = refl
other_pid pid (tally ∷ tallies) none (suc k) d h =
    other_pid pid tallies (rest (nat_eq tally.pid pid) none) k d (omega arith)
  where
    rest : (b : Bool) → (b || has_tally tallies pid) ≡ false → has_tally tallies pid ≡ false
    rest true h = absurd cc
    rest false h = h

pub pairs_differ : (tallies : List Tally) → Once tallies
    → AllPairs (λ (tally other : Tally). tally.pid ≢ other.pid) tallies
pairs_differ [] once i j d below within = absurd (omega arith)
pairs_differ (tally ∷ tallies) once zero zero d below within = absurd (omega arith)
pairs_differ (tally ∷ tallies) once zero (suc j) d below within =
    other_pid tally.pid tallies once.0 j d (omega arith)
pairs_differ (tally ∷ tallies) once (suc i) zero d below within = absurd (omega arith)
pairs_differ (tally ∷ tallies) once (suc i) (suc j) d below within =
    pairs_differ tallies once.1 i j d (omega arith) (omega arith)

pub tallies_once : TalliesOnce
tallies_once knobs start floors tasks events cpu made page s p =
    let stream = cut start floors tasks events cpu in
    pairs_differ page.tallies
    (subst Once (sym (page_tallies knobs.slack (nat_le (length stream.steps) made) stream p.end page p.result))
    (once_kept knobs cpu p.start (take made stream.steps) p.end p.replay
    (tallies_at_start start floors tasks events cpu p.start s p.is_start).once))
