-- What a told charge changes: the virtual runtime and the drift of the task that runs, and nothing else. So it keeps
-- the order and the range of a machine, is one whatever the bound, and is none where no charge is told.
use Rattle.std.proofs.Common.{◌≡◌, ◌≢◌, ℕ, ◌≤◌, Option, Some, None, IfSome, is_some, ℤ, ◌⊎◌, inl, inr}
use Rattle.std.proofs.Common.{sym, ap, ◌∙◌, subst, arith}
use Rattle.std.proofs.lemmas.Int.{ints}
use Rattle.cfs_model.specs.Charge.{IsInRange}
use Rattle.cfs_model.specs.Machine.{Machine, pairs_of, put, with_floor, with_runtime, with_drift}
use Rattle.cfs_model.specs.Told.{drift_after, IsWithin, ChargesAs}
use Rattle.cfs_model.specs.Lifted.{charged, IsRaised, IsLiftedAt}
use Rattle.cfs_model.proofs.Moves.{put-same, put-other, same_or_not}
use Rattle.cfs_model.specs.declared.charge_line.ChargeLine.{ChargeLine}
use Rattle.cfs_model.specs.declared.task.Place.{Place}
use Rattle.cfs_model.specs.declared.task.Place.TheVariants.{Run, Wait, Rest}

-- all but virtual runtimes and drifts is as it is when charged exactly
pub told_is : (bound : ℕ) (charge : Option ChargeLine) (cpu : ℕ) (before exactly told : Machine)
    → ChargesAs bound charge cpu before exactly told
    → told ≡ record exactly { runtime = told.runtime; drift = told.drift }
told_is bound None cpu before exactly told c =
    c ∙ ap (λ (m : Machine). record exactly { runtime = m.runtime; drift = m.drift }) (sym c)
told_is bound (Some charge) cpu before exactly told c =
    c.1 ∙ ap (λ (m : Machine). record exactly { runtime = m.runtime; drift = m.drift }) (sym c.1)

-- the same pids have a virtual runtime
pub told_keys : (bound : ℕ) (charge : Option ChargeLine) (cpu : ℕ) (before exactly told : Machine)
    → ChargesAs bound charge cpu before exactly told → (pid : ℕ)
    → is_some (told.runtime pid) ≡ is_some (exactly.runtime pid)
told_keys bound None cpu before exactly told c pid = ap (λ (m : Machine). is_some (m.runtime pid)) c
told_keys bound (Some charge) cpu before exactly told c pid =
    ap (λ (m : Machine). is_some (m.runtime pid)) c.1 ∙ go (same_or_not pid charge.pid)
  where
    go : (pid ≡ charge.pid) ⊎ (pid ≢ charge.pid)
        → is_some (put exactly.runtime charge.pid (Some charge.v) pid) ≡ is_some (exactly.runtime pid)
    go (inl e) =
        ap is_some (ap (put exactly.runtime charge.pid (Some charge.v)) e
        ∙ put-same exactly.runtime charge.pid (Some charge.v))
        ∙ sym (ap (λ p. is_some (exactly.runtime p)) e ∙ ap is_some c.0.charged)
    go (inr ne) = ap is_some (put-other exactly.runtime charge.pid (Some charge.v) pid ne)

one_value : (o : Option ℤ) (v w : ℤ) → o ≡ Some v → o ≡ Some w → v ≡ w
one_value o v w p q = cc

-- there is one machine as told, whatever the bounds
pub one_told : (bound other : ℕ) (charge : Option ChargeLine) (cpu : ℕ) (before exactly told also : Machine)
    → ChargesAs bound charge cpu before exactly told → ChargesAs other charge cpu before exactly also → told ≡ also
one_told bound other None cpu before exactly told also a b = a ∙ sym b
one_told bound other (Some charge) cpu before exactly told also a b =
    a.1
    ∙ ap (λ exact. with_drift (with_runtime exactly charge.pid charge.v) charge.pid
    (drift_after (before.drift charge.pid) charge.v exact))
    (one_value (exactly.runtime charge.pid) a.0.exact b.0.exact a.0.charged b.0.charged)
    ∙ sym b.1

within_more : (bound more : ℕ) (drift : ℤ) → bound ≤ more → IsWithin bound drift → IsWithin more drift
within_more bound more drift h w = let low = w.0 in let high = w.1 in (omega (arith, ints), omega (arith, ints))

-- a greater bound keeps what is told
pub told_more : (bound more : ℕ) (charge : Option ChargeLine) (cpu : ℕ) (before exactly told : Machine) → bound ≤ more
    → ChargesAs bound charge cpu before exactly told → ChargesAs more charge cpu before exactly told
told_more bound more None cpu before exactly told h c = c
told_more bound more (Some charge) cpu before exactly told h c = (
  record {
    runs = c.0.runs;
    own = c.0.own;
    runtime = c.0.runtime;
    rises = c.0.rises;
    exact = c.0.exact;
    charged = c.0.charged;
    within = within_more bound more (drift_after (before.drift charge.pid) charge.v c.0.exact) h c.0.within;
  },
  c.1,
)

some_is : (u v : ℤ) → Some u ≡ Some v → u ≡ v
some_is u v e = cc

-- what is told keeps the range, where the told value is in it
pub told_range : (bound : ℕ) (charge : Option ChargeLine) (cpu : ℕ) (before exactly told : Machine)
    → ChargesAs bound charge cpu before exactly told → IfSome charge (λ c. IsInRange c.v)
    → ((pid : ℕ) (v : ℤ) → exactly.runtime pid ≡ Some v → IsInRange v)
    → (pid : ℕ) (v : ℤ) → told.runtime pid ≡ Some v → IsInRange v
told_range bound None cpu before exactly told c h r pid v e =
    r pid v (ap (λ (m : Machine). m.runtime pid) (sym c) ∙ e)
told_range bound (Some charge) cpu before exactly told c h r pid v e =
    go (same_or_not pid charge.pid) (ap (λ (m : Machine). m.runtime pid) (sym c.1) ∙ e)
  where
    go : (pid ≡ charge.pid) ⊎ (pid ≢ charge.pid) → put exactly.runtime charge.pid (Some charge.v) pid ≡ Some v
        → IsInRange v
    go (inl s) k = subst IsInRange (some_is charge.v v
        (sym (ap (put exactly.runtime charge.pid (Some charge.v)) s
        ∙ put-same exactly.runtime charge.pid (Some charge.v)) ∙ k)) h
    go (inr ne) k = r pid v (sym (put-other exactly.runtime charge.pid (Some charge.v) pid ne) ∙ k)

-- neither what is told nor a lift changes who stands where
told_pairs : (bound : ℕ) (charge : Option ChargeLine) (cpu : ℕ) (before exactly told : Machine)
    → ChargesAs bound charge cpu before exactly told → (r : Place) → pairs_of told r ≡ pairs_of exactly r
told_pairs bound charge cpu before exactly told c Run =
    ap (λ (m : Machine). m.running) (told_is bound charge cpu before exactly told c)
told_pairs bound charge cpu before exactly told c Wait =
    ap (λ (m : Machine). m.waiting) (told_is bound charge cpu before exactly told c)
told_pairs bound charge cpu before exactly told c Rest =
    ap (λ (m : Machine). m.resting) (told_is bound charge cpu before exactly told c)

pub charged_pairs : (bound time : ℕ) (charge : Option ChargeLine) (cpu : ℕ) (m told : Machine)
    → ChargesAs bound charge cpu m (charged m cpu time) told → (r : Place) → pairs_of told r ≡ pairs_of m r
charged_pairs bound time charge cpu m told c Run = told_pairs bound charge cpu m (charged m cpu time) told c Run
charged_pairs bound time charge cpu m told c Wait = told_pairs bound charge cpu m (charged m cpu time) told c Wait
charged_pairs bound time charge cpu m told c Rest = told_pairs bound charge cpu m (charged m cpu time) told c Rest

pub lifted_pairs : (bound time : ℕ) (charge : Option ChargeLine) (cpu : ℕ) (m after : Machine)
    → IsLiftedAt bound time charge cpu m after → (r : Place) → pairs_of after r ≡ pairs_of m r
lifted_pairs bound time charge cpu m after l Run =
    ap (λ (x : Machine). x.running) l.result ∙ charged_pairs bound time charge cpu m l.told l.charges Run
lifted_pairs bound time charge cpu m after l Wait =
    ap (λ (x : Machine). x.waiting) l.result ∙ charged_pairs bound time charge cpu m l.told l.charges Wait
lifted_pairs bound time charge cpu m after l Rest =
    ap (λ (x : Machine). x.resting) l.result ∙ charged_pairs bound time charge cpu m l.told l.charges Rest

-- where nothing is told, a lifted processor is charged exactly
pub untold_is : (bound time cpu : ℕ) (before after : Machine) (l : IsLiftedAt bound time None cpu before after)
    → after ≡ with_floor (charged before cpu time) cpu l.floor
untold_is bound time cpu before after l = l.result ∙ ap (λ m. with_floor m cpu l.floor) l.charges

pub untold_raised : (bound time cpu : ℕ) (before after : Machine) (l : IsLiftedAt bound time None cpu before after)
    → IsRaised (charged before cpu time) cpu l.floor
untold_raised bound time cpu before after l = subst (λ m. IsRaised m cpu l.floor) l.charges l.raised
