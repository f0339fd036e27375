-- Policies change with births alone, and there as the companion names them: the machine's map and the
-- one that goes along the entries change alike.
use Rattle.std.proofs.Common.{◌≡◌, ℕ, suc, zero, ◌<◌, true, false, cond, ℤ, inl, inr, List, [], ◌∷◌, ◌++◌, Option}
use Rattle.std.proofs.Common.{AllPairs, None, refl, sym, ap, ◌∙◌, suc-le-suc, arith}
use Rattle.std.proofs.lemmas.Bool.{lt-ltb, le-ltb}
use Rattle.std.proofs.lemmas.List.Elements.{recursion_from_All}
use Rattle.std.specs.List.{AllByRecursion}
use Rattle.cfs_model.specs.Laws.{PoliciesAreTold, MoverKeepsPolicy}
use Rattle.cfs_model.specs.Knobs.{KnobsView}
use Rattle.cfs_model.specs.Machine.{Machine, pairs_of, put_pair, without_task, put}
use Rattle.cfs_model.specs.Start.{policies_at_start, start_machine}
use Rattle.cfs_model.specs.Claimed.{Claimed, named_policy, policies_after, policies_before, policy_in, with_claim}
use Rattle.cfs_model.specs.Claimed.{claimed, policy_told, nice_at, charge_at}
use Rattle.cfs_model.specs.Touch.{touched}
use Rattle.cfs_model.specs.Lifted.{charged, IsLifted}
use Rattle.cfs_model.specs.Reniced.{home_of, IsReniced}
use Rattle.cfs_model.specs.Step.{after_prev, after_next, Changes, IsStep}
use Rattle.cfs_model.specs.Run.{AreSteps, last_of}
use Rattle.cfs_model.proofs.Renice.{reniced_is}
use Rattle.cfs_model.proofs.ToldCharge.{told_is}
use Rattle.cfs_model.proofs.StepOrder.{policy-with_pairs}
use Rattle.cfs_model.specs.declared.act.Act.{Act}
use Rattle.cfs_model.specs.declared.act.Act.TheVariants.{Switch, Wake, Born, Shift}
use Rattle.cfs_model.specs.declared.act.Entry.{Entry}
use Rattle.cfs_model.specs.declared.act.Way.{Way}
use Rattle.cfs_model.specs.declared.act.Way.TheVariants.{Stays, Sleeps, Ends}
use Rattle.cfs_model.specs.declared.charge_line.ChargeLine.{ChargeLine}
use Rattle.cfs_model.specs.declared.claim.Claim.{Claim}
use Rattle.cfs_model.specs.declared.idle_line.IdleLine.{IdleLine}
use Rattle.cfs_model.specs.declared.nice_line.NiceLine.{NiceLine}
use Rattle.cfs_model.specs.declared.policy.Policy.{Policy}

-- neither a lift nor a change of a nice value changes a policy
lifted_policies : (bound time : ℕ) (charge : Option ChargeLine) (cpus : List ℕ) (m after : Machine)
    → IsLifted bound time charge cpus m after → after.policy ≡ m.policy
lifted_policies bound time charge [] m after l = ap (λ (x : Machine). x.policy) l
lifted_policies bound time charge (cpu ∷ cpus) m after l =
    lifted_policies bound time None cpus l.0 after l.2 ∙ ap (λ (x : Machine). x.policy) l.1.result
    ∙ ap (λ (x : Machine). x.policy) (told_is bound charge cpu m (charged m cpu time) l.1.told l.1.charges)

found_policies : (bound time cpu : ℕ) (charge : Option ChargeLine) (cpus : List ℕ) (change : Option NiceLine)
    (m lifted found : Machine)
    → IsLifted bound time charge cpus m lifted → IsReniced cpu change lifted found → found.policy ≡ m.policy
found_policies bound time cpu charge cpus change m lifted found l r =
    ap (λ (x : Machine). x.policy) (reniced_is cpu change lifted found r)
    ∙ lifted_policies bound time charge cpus m lifted l

policy-after_prev : (m : Machine) (cpu prev : ℕ) (way : Way) → (after_prev m cpu prev way).policy ≡ m.policy
policy-after_prev m cpu zero way = refl
policy-after_prev m cpu (suc n) Stays = refl
policy-after_prev m cpu (suc n) Sleeps = refl
policy-after_prev m cpu (suc n) Ends = refl

policy-after_next : (m : Machine) (cpu next : ℕ) → (after_next m cpu next).policy ≡ m.policy
policy-after_next m cpu zero = refl
policy-after_next m cpu (suc n) = refl

-- a policy that is told of a birth is the one named on its line
abbrev IsNamedAt : List IdleLine → ℕ → Act → Policy → Type 0
IsNamedAt idles line act policy = (cpu pid : ℕ) (nice : ℤ) → act ≡ Born cpu pid nice → policy
    ≡ named_policy idles line pid

-- an event's own change makes of the policies what its act does
change_policies : (idles : List IdleLine) (line : ℕ) (knobs : KnobsView) (m : Machine) (act : Act) (claim : Option
    Claim)
    (policy : Policy) (after : Machine) → IsNamedAt idles line act policy → Changes knobs m act claim policy after
    → after.policy ≡ policies_after idles m.policy line act
change_policies idles line knobs m (Switch cpu prev prev_nice way next next_nice) claim policy after named s =
    ap (λ (x : Machine). x.policy) s.result ∙ policy-after_next (after_prev m cpu prev way) cpu next
    ∙ policy-after_prev m cpu prev way
change_policies idles line knobs m (Wake cpu pid nice) claim policy after named (inl s) =
    ap (λ (x : Machine). x.policy) s.result
change_policies idles line knobs m (Wake cpu pid nice) claim policy after named (inr s) =
    ap (λ (x : Machine). x.policy) s.result
change_policies idles line knobs m (Born cpu pid nice) claim policy after named s =
    ap (λ (x : Machine). x.policy) s.result ∙ ap (put m.policy pid) (named cpu pid nice refl)
change_policies idles line knobs m (Shift orig dest pid nice) claim policy after named s =
    let left = without_task m s.place orig pid in
    ap (λ (x : Machine). x.policy) s.result
    ∙ policy-with_pairs left s.place (put_pair (pairs_of left s.place) dest pid true)
    ∙ policy-with_pairs m s.place (put_pair (pairs_of m s.place) orig pid false)

step_policies : (idles : List IdleLine) (knobs : KnobsView) (m : Machine) (event : Claimed) (after : Machine)
    → IsNamedAt idles event.entry.line event.entry.act event.policy → IsStep knobs m event after
    → after.policy ≡ policies_after idles m.policy event.entry.line event.entry.act
step_policies idles knobs m event after named s =
    change_policies idles event.entry.line knobs s.found event.entry.act event.claim event.policy after named s.changes
    ∙ ap (λ policies. policies_after idles policies event.entry.line event.entry.act)
    (found_policies knobs.drift event.entry.time (home_of event.entry.act) event.charge (touched event.entry.act)
    event.nice m s.lifted s.found s.is_lifted s.is_reniced)

-- along the entries of a run, whose lines are below the next one's
run_policies : (knobs : KnobsView) (claims : List Claim) (nices : List NiceLine) (charges : List ChargeLine)
    (idles : List IdleLine)
    (policy : Entry → Policy) → ((e : Entry) → IsNamedAt idles e.line e.act (policy e))
    → (entry : Entry) (rest before : List Entry) (m : Machine) (states : List Machine)
    → AllByRecursion (λ (e : Entry). e.line < entry.line) before
    → AreSteps knobs m (claimed claims nices charges policy before) states
    → (last_of m states).policy ≡ policies_before idles m.policy (before ++ entry ∷ rest) entry.line
run_policies knobs claims nices charges idles policy named entry rest [] m [] below steps =
    ap (λ b. cond b (policies_before idles (policies_after idles m.policy entry.line entry.act) rest entry.line)
    m.policy)
    (sym (le-ltb entry.line entry.line (omega arith)))
run_policies knobs claims nices charges idles policy named entry rest [] m (n ∷ states) below steps = absurd steps
run_policies knobs claims nices charges idles policy named entry rest (e ∷ before) m [] below steps = absurd steps
run_policies knobs claims nices charges idles policy named entry rest (e ∷ before) m (n ∷ states) below steps =
    run_policies knobs claims nices charges idles policy named entry rest before n states below.1 steps.1
    ∙ ap (λ policies. policies_before idles policies (before ++ entry ∷ rest) entry.line)
    (step_policies idles knobs m (with_claim claims nices charges policy e) n (named e) steps.0)
    ∙ ap (λ b. cond b (policies_before idles (policies_after idles m.policy e.line e.act) (before ++ entry ∷ rest)
    entry.line)
    m.policy) (sym (lt-ltb e.line entry.line below.0))

-- the policies told of a record's entries are those named, at births
told_named : (idles : List IdleLine) (policies : ℕ → Policy) (entries : List Entry) (e : Entry)
    → IsNamedAt idles e.line e.act (policy_in idles policies entries e)
told_named idles policies entries e cpu pid nice born = go e.act born
  where
    go : (act : Act) → act ≡ Born cpu pid nice
        → policy_told idles (policies_before idles policies entries) e.line act ≡ named_policy idles e.line pid
    go act born = ap (policy_told idles (policies_before idles policies entries) e.line) born

-- the lines before an entry are below its own
lines_below : (before : List Entry) (entry : Entry) (rest : List Entry)
    → AllPairs (λ (a b : Entry). a.line < b.line) (before ++ entry ∷ rest)
    → AllByRecursion (λ (e : Entry). e.line < entry.line) before
lines_below [] entry rest h = tt
lines_below (e ∷ before) entry rest h = (
  at before (recursion_from_All (λ (u : Entry). e.line < u.line) (before ++ entry ∷ rest)
      (λ k d within. h 0 (suc k) d (omega arith) (suc-le-suc within))),
  lines_below before entry rest (λ i j d low within. h (suc i) (suc j) d (suc-le-suc low) (suc-le-suc within)),
)
  where
    at : (es : List Entry) → AllByRecursion (λ (u : Entry). e.line < u.line) (es ++ entry ∷ rest) → e.line < entry.line
    at [] k = k.0
    at (x ∷ es) k = at es k.1

pub policies_are_told : PoliciesAreTold
policies_are_told knobs start floors tasks claims nices charges idles before rest entry rise run =
    let entries = before ++ entry ∷ rest in
    run_policies knobs claims nices charges idles (policy_in idles (policies_at_start tasks) entries)
    (told_named idles (policies_at_start tasks) entries) entry rest before (start_machine start floors tasks) run.states
    (lines_below before entry rest rise) run.steps

pub mover_keeps_policy : MoverKeepsPolicy
mover_keeps_policy knobs start floors tasks claims nices charges idles before rest entry orig dest pid nice lifted
    found rise
    run
    moves lift renice =
    let entries = before ++ entry ∷ rest in
    let policies = policies_before idles (policies_at_start tasks) entries in
    ap (λ f. f pid) (found_policies knobs.drift entry.time (home_of entry.act) (charge_at charges entry.line)
    (touched entry.act)
    (nice_at nices entry.line)
    (last_of (start_machine start floors tasks) run.states) lifted found lift renice
    ∙ policies_are_told knobs start floors tasks claims nices charges idles before rest entry rise run)
    ∙ sym (ap (policy_told idles policies entry.line) moves)
