-- A first fault is at the first bad line, a run has none, and there is at most one: of two, the events before one and
-- itself would be a run, as a prefix of those before the other.
use Rattle.std.proofs.Common.{◌≡◌, ℕ, ◌⊎◌, inl, inr, List, [], ◌∷◌, ◌++◌, append_assoc, refl, sym, ap, ◌∙◌, subst}
use Rattle.cfs_model.specs.Knobs.{KnobsView}
use Rattle.cfs_model.specs.Machine.{Machine}
use Rattle.cfs_model.specs.Start.{start_machine}
use Rattle.cfs_model.specs.Claimed.{Claimed}
use Rattle.cfs_model.specs.Run.{IsRun}
use Rattle.replay_model.specs.Cause.{IsCause}
use Rattle.replay_laws.specs.FirstFaults.{FaultIsFirstBad, RunHasNoFault, OneFirstFault}
use Rattle.cfs_model.proofs.Prefix.{run_prefix}
use Rattle.cfs_model.proofs.StartOrder.{start_in_order}
use Rattle.replay_laws.proofs.one_cause.OneCause.{one_cause}

pub fault_is_first_bad : FaultIsFirstBad
fault_is_first_bad knobs start floors tasks events line cause f = record {
  before = f.before;
  event = f.event;
  rest = f.rest;
  whole = f.whole;
  line_is = f.line_is;
  runs = f.why.run;
  ends = f.ends;
}

-- a run's events up to one are a run
run_up_to : (knobs : KnobsView) (start : ℕ) (first : Machine) (before rest : List Claimed) (event : Claimed)
    → IsRun knobs start first (before ++ event ∷ rest) → IsRun knobs start first (before ++ event ∷ [])
run_up_to knobs start first before rest event run =
    run_prefix knobs start first (before ++ event ∷ []) rest
    (subst (IsRun knobs start first) (sym (append_assoc before (event ∷ []) rest)) run)

pub run_has_no_fault : RunHasNoFault
run_has_no_fault knobs start floors tasks events line cause run f =
    let first = start_machine start floors tasks in
    f.ends (run_up_to knobs start first f.before f.rest f.event (subst (IsRun knobs start first) f.whole run))

-- where a list is cut twice: at one place, or the first events and the event of one cut are among the other's first
abbrev HasBefore : List Claimed → Claimed → List Claimed → Type 0
HasBefore before event other = (more : List Claimed) × (other ≡ before ++ event ∷ more)

first_events : (x y : Claimed) (xs ys : List Claimed) → x ∷ xs ≡ y ∷ ys → x ≡ y
first_events x y xs ys e = cc

tails : (x y : Claimed) (xs ys : List Claimed) → x ∷ xs ≡ y ∷ ys → xs ≡ ys
tails x y xs ys e = cc

cut_twice : (before other rest more : List Claimed) (event that : Claimed)
    → before ++ event ∷ rest ≡ other ++ that ∷ more
    → ((before ≡ other) × (event ≡ that)) ⊎ HasBefore before event other ⊎ HasBefore other that before
cut_twice [] [] rest more event that e = inl (refl, first_events event that rest more e)
cut_twice [] (y ∷ other) rest more event that e =
    inr (inl (other, ap (λ x. x ∷ other) (sym (first_events event y rest (other ++ that ∷ more) e))))
cut_twice (x ∷ before) [] rest more event that e =
    inr (inr (before, ap (λ y. y ∷ before) (first_events x that (before ++ event ∷ rest) more e)))
cut_twice (x ∷ before) (y ∷ other) rest more event that e =
    let head = first_events x y (before ++ event ∷ rest) (other ++ that ∷ more) e in
    elim (cut_twice before other rest more event that
    (tails x y (before ++ event ∷ rest) (other ++ that ∷ more) e)) [
      | inl h ↦ inl (ap (λ z. z ∷ before) head ∙ ap (λ zs. y ∷ zs) h.0, h.1)
      | inr h ↦ elim h [
        | inl k ↦ inr (inl (k.0, ap (λ z. z ∷ other) (sym head) ∙ ap (λ zs. x ∷ zs) k.1))
        | inr k ↦ inr (inr (k.0, ap (λ z. z ∷ before) head ∙ ap (λ zs. y ∷ zs) k.1))
      ]
    ]

pub one_first_fault : OneFirstFault
one_first_fault knobs start floors tasks events line other cause why s f g =
    let first = start_machine start floors tasks in
    elim (cut_twice f.before g.before f.rest g.rest f.event g.event (sym f.whole ∙ g.whole)) [
      | inl h ↦ (
        sym f.line_is ∙ ap (λ (x : Claimed). x.entry.line) h.1 ∙ g.line_is,
        one_cause knobs start first g.before g.event cause why (start_in_order start floors tasks s)
            (subst (λ x. IsCause knobs start first g.before x cause) h.1
            (subst (λ xs. IsCause knobs start first xs f.event cause) h.0 f.why)) g.why,
      )
      | inr h ↦ elim h [
        | inl k ↦ absurd (f.ends (run_up_to knobs start first f.before k.0 f.event
            (subst (IsRun knobs start first) k.1 g.why.run)))
        | inr k ↦ absurd (g.ends (run_up_to knobs start first g.before k.0 g.event
            (subst (IsRun knobs start first) k.1 f.why.run)))
      ]
    ]
