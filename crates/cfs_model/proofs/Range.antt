-- A lift and an event's own change keep every value in range, where the claim is: a charge is bounded by the lift's own
-- condition, a raised floor is a floor or a virtual runtime, and any other new value is the claim's.
use Rattle.std.proofs.Common.{◌≡◌, ◌≢◌, ℕ, zero, suc, Bool, true, false, cond, Option, Some, None, option_map}
use Rattle.std.proofs.Common.{option_and_then, IfSome, ℤ, pos, ◌+ℤ◌, ◌-ℤ◌, ◌≤ℤ◌, ◌⊎◌, inl, inr, List, [], ◌∷◌, refl}
use Rattle.std.proofs.Common.{sym, ap, ◌∙◌, subst, arith}
use Rattle.std.proofs.lemmas.Int.{ints, clamps}
use Rattle.std.specs.Int.{int_max}
use Rattle.cfs_model.specs.Charge.{IsInRange}
use Rattle.cfs_model.specs.Limits.{greatest_runtime}
use Rattle.cfs_model.specs.Knobs.{KnobsView}
use Rattle.cfs_model.specs.Machine.{Machine, pairs_of, AreValuesInRange, put, put_pair, without_task, with_move}
use Rattle.cfs_model.specs.Claimed.{ClaimSays}
use Rattle.cfs_model.specs.Lifted.{cost_at, charged, charged_runtime, CanCharge, IsRaised, IsLiftedAt, IsLifted}
use Rattle.cfs_model.specs.Step.{after_prev, after_next, Changes}
use Rattle.cfs_model.proofs.Moves.{put-same, put-other, same_or_not}
use Rattle.cfs_model.proofs.ToldCharge.{told_is, told_range}
use Rattle.cfs_model.proofs.StepOrder.{runtime-with_pairs}
use Rattle.cfs_model.proofs.FloorsRise.{same_floors}
use Rattle.cfs_model.specs.declared.act.Act.{Act}
use Rattle.cfs_model.specs.declared.act.Act.TheVariants.{Switch, Wake, Born, Shift}
use Rattle.cfs_model.specs.declared.act.Way.{Way}
use Rattle.cfs_model.specs.declared.act.Way.TheVariants.{Stays, Sleeps, Ends}
use Rattle.cfs_model.specs.declared.charge_line.ChargeLine.{ChargeLine}
use Rattle.cfs_model.specs.declared.claim.Claim.{Claim}
use Rattle.cfs_model.specs.declared.claim.ClaimSort.{ClaimSort}
use Rattle.cfs_model.specs.declared.policy.Policy.{Policy}

sum_range : (u : ℤ) (cost : ℕ) → IsInRange u → (u +ℤ pos cost) ≤ℤ pos greatest_runtime → IsInRange (u +ℤ pos cost)
sum_range u cost h k = let low = h.0 in (omega (arith, ints), k)

max_range : (u v : ℤ) → IsInRange u → IsInRange v → IsInRange (int_max u v)
max_range u v h k =
    let a = h.0 in let b = h.1 in let c = k.0 in let d = k.1 in
    (omega (arith, ints, clamps), omega (arith, ints, clamps))

some_is : (u v : ℤ) → Some u ≡ Some v → u ≡ v
some_is u v e = cc

charged_range : (m : Machine) (cpu time : ℕ) → CanCharge m cpu time → AreValuesInRange m → (pid : ℕ) (v : ℤ)
    → (charged m cpu time).runtime pid ≡ Some v → IsInRange v
charged_range m cpu time can r pid v e = go (m.running cpu pid) refl e
  where
    here : (n o : Option ℤ) → m.nice pid ≡ n → m.runtime pid ≡ o → m.running cpu pid ≡ true
        → option_and_then (λ nice. option_map (λ u. u +ℤ pos (cost_at m cpu time nice (m.policy pid))) o) n ≡ Some v
        → IsInRange v
    here None o f g h k = absurd cc
    here (Some nice) None f g h k = absurd cc
    here (Some nice) (Some u) f g h k = subst IsInRange (some_is (u +ℤ pos (cost_at m cpu time nice (m.policy pid)))
        v k)
        (sum_range u (cost_at m cpu time nice (m.policy pid)) (r.runtimes pid u g) (can pid nice u h f g).1)

    go : (b : Bool) → m.running cpu pid ≡ b → cond b (charged_runtime m cpu time pid) (m.runtime pid) ≡ Some v
        → IsInRange v
    go true h k = here (m.nice pid) (m.runtime pid) refl refl h k
    go false h k = r.runtimes pid v k

raised_range : (m : Machine) (cpu : ℕ) (f : ℤ) → IsRaised m cpu f → ((pid : ℕ) (v : ℤ) → m.runtime pid ≡ Some v
    → IsInRange v) → IsInRange (m.floor cpu) → IsInRange f
raised_range m cpu f (inl a) r h = subst IsInRange (sym a.1) h
raised_range m cpu f (inr a) r h = subst IsInRange (sym a.2) (max_range (m.floor cpu) a.0 h (r a.1.pid a.0 a.1.runtime))

lifted_at_range : (bound time : ℕ) (charge : Option ChargeLine) (cpu : ℕ) (m after : Machine)
    → IsLiftedAt bound time charge cpu m after → IfSome charge (λ c. IsInRange c.v) → AreValuesInRange m
    → AreValuesInRange after
lifted_at_range bound time charge cpu m after l t r =
    let within = told_range bound charge cpu m (charged m cpu time) l.told l.charges t
    (charged_range m cpu time l.can_charge r) in
    subst AreValuesInRange (sym l.result) (record {
      runtimes = within;
      floors = λ c. go c (same_or_not c cpu) (raised_range l.told cpu l.floor l.raised within
          (subst IsInRange (sym (floor_is cpu)) (r.floors cpu)));
    })
  where
    floor_is : (c : ℕ) → l.told.floor c ≡ m.floor c
    floor_is c = ap (λ (x : Machine). x.floor c) (told_is bound charge cpu m (charged m cpu time) l.told l.charges)

    go : (c : ℕ) → (c ≡ cpu) ⊎ (c ≢ cpu) → IsInRange l.floor → IsInRange (put l.told.floor cpu l.floor c)
    go c (inl e) h = subst IsInRange (sym (ap (put l.told.floor cpu l.floor) e ∙ put-same l.told.floor cpu l.floor)) h
    go c (inr ne) h = subst IsInRange (sym (put-other l.told.floor cpu l.floor c ne ∙ floor_is c)) (r.floors c)

-- a lift keeps the range, where the told charge is in it
pub lifted_range : (bound time : ℕ) (charge : Option ChargeLine) (cpus : List ℕ) (m after : Machine)
    → IsLifted bound time charge cpus m after → IfSome charge (λ c. IsInRange c.v) → AreValuesInRange m
    → AreValuesInRange after
lifted_range bound time charge [] m after l t r = subst AreValuesInRange (sym l) r
lifted_range bound time charge (cpu ∷ cpus) m after l t r =
    lifted_range bound time None cpus l.0 after l.2 tt (lifted_at_range bound time charge cpu m l.0 l.1 t r)

said_range : (claim : Option Claim) (sort : ClaimSort) (pid : ℕ) (v : ℤ) → ClaimSays claim sort pid v
    → IfSome claim (λ k. IsInRange k.v) → IsInRange v
said_range None sort pid v s r = absurd s
said_range (Some claim) sort pid v s r = subst IsInRange s.2 r

-- a map with one value put
put_range : (f : ℕ → Option ℤ) (pid : ℕ) (o : Option ℤ) → ((q : ℕ) (v : ℤ) → f q ≡ Some v → IsInRange v)
    → ((v : ℤ) → o ≡ Some v → IsInRange v)
    → (q : ℕ) (v : ℤ) → put f pid o q ≡ Some v → IsInRange v
put_range f pid o r h q v e = go (same_or_not q pid)
  where
    go : (q ≡ pid) ⊎ (q ≢ pid) → IsInRange v
    go (inl s) = h v (sym (ap (put f pid o) s ∙ put-same f pid o) ∙ e)
    go (inr ne) = r q v (sym (put-other f pid o q ne) ∙ e)

prev_range : (m : Machine) (cpu prev : ℕ) (way : Way) → ((q : ℕ) (v : ℤ) → m.runtime q ≡ Some v → IsInRange v)
    → (q : ℕ) (v : ℤ) → (after_prev m cpu prev way).runtime q ≡ Some v → IsInRange v
prev_range m cpu zero way r = r
prev_range m cpu (suc n) Stays r = r
prev_range m cpu (suc n) Sleeps r = r
prev_range m cpu (suc n) Ends r = put_range m.runtime (suc n) None r (λ v e. absurd cc)

next_range : (m : Machine) (cpu next : ℕ) → ((q : ℕ) (v : ℤ) → m.runtime q ≡ Some v → IsInRange v) → (q : ℕ) (v : ℤ)
    → (after_next m cpu next).runtime q ≡ Some v → IsInRange v
next_range m cpu zero r = r
next_range m cpu (suc n) r = r

placed_range : (f : ℕ → Option ℤ) (pid : ℕ) (w : ℤ) → ((q : ℕ) (v : ℤ) → f q ≡ Some v → IsInRange v) → IsInRange w
    → (q : ℕ) (v : ℤ) → put f pid (Some w) q ≡ Some v → IsInRange v
placed_range f pid w r h = put_range f pid (Some w) r (λ v e. subst IsInRange (some_is w v e) h)

runtimes_range : (knobs : KnobsView) (m : Machine) (act : Act) (claim : Option Claim) (policy : Policy) (after :
    Machine)
    → Changes knobs m act claim policy after
    → IfSome claim (λ k. IsInRange k.v) → ((q : ℕ) (v : ℤ) → m.runtime q ≡ Some v → IsInRange v) → (q : ℕ) (v : ℤ)
    → after.runtime q ≡ Some v → IsInRange v
runtimes_range knobs m (Switch cpu prev prev_nice way next next_nice) claim policy after s c r =
    subst (λ (x : Machine). (q : ℕ) (v : ℤ) → x.runtime q ≡ Some v → IsInRange v) (sym s.result)
    (next_range (after_prev m cpu prev way) cpu next (prev_range m cpu prev way r))
runtimes_range knobs m (Wake cpu pid nice) claim policy after (inl s) c r =
    subst (λ (x : Machine). (q : ℕ) (v : ℤ) → x.runtime q ≡ Some v → IsInRange v) (sym s.result) r
runtimes_range knobs m (Wake cpu pid nice) claim policy after (inr s) c r =
    subst (λ (x : Machine). (q : ℕ) (v : ℤ) → x.runtime q ≡ Some v → IsInRange v) (sym s.result)
    (placed_range m.runtime pid s.placed r (said_range claim _ pid s.placed s.claimed c))
runtimes_range knobs m (Born cpu pid nice) claim policy after s c r =
    subst (λ (x : Machine). (q : ℕ) (v : ℤ) → x.runtime q ≡ Some v → IsInRange v) (sym s.result)
    (placed_range m.runtime pid s.placed r (said_range claim _ pid s.placed s.claimed c))
runtimes_range knobs m (Shift orig dest pid nice) claim policy after s c r =
    let left = without_task m s.place orig pid in
    subst (λ (x : Machine). (q : ℕ) (v : ℤ) → x.runtime q ≡ Some v → IsInRange v) (sym s.result)
    (placed_range (with_move m pid s.place orig s.place dest).runtime pid ((s.own -ℤ m.floor orig) +ℤ m.floor dest)
    (subst (λ f. (q : ℕ) (v : ℤ) → f q ≡ Some v → IsInRange v)
    (sym (runtime-with_pairs left s.place (put_pair (pairs_of left s.place) dest pid true)
    ∙ runtime-with_pairs m s.place (put_pair (pairs_of m s.place) orig pid false))) r)
    (said_range claim s.sort pid ((s.own -ℤ m.floor orig) +ℤ m.floor dest) s.claimed c))

-- an event's own change keeps the range, where its claim is in range
pub change_range : (knobs : KnobsView) (m : Machine) (act : Act) (claim : Option Claim) (policy : Policy) (after :
    Machine)
    → Changes knobs m act claim policy after
    → IfSome claim (λ k. IsInRange k.v) → AreValuesInRange m → AreValuesInRange after
change_range knobs m act claim policy after s c r = record {
  runtimes = runtimes_range knobs m act claim policy after s c r.runtimes;
  floors = λ cpu. subst (λ f. IsInRange (f cpu)) (sym (same_floors knobs m act claim policy after s)) (r.floors cpu);
}
