-- A change of a nice value changes that of one task that stands: all else is as it was, so the order and the range are
-- kept.
use Rattle.std.proofs.Common.{◌≡◌, ◌≢◌, ℕ, Option, Some, None, ◌⊎◌, inl, inr, is_some, sym, ap, ◌∙◌, subst}
use Rattle.cfs_model.specs.Machine.{Machine, AreValuesInRange, with_nice}
use Rattle.cfs_model.specs.Reniced.{IsReniced}
use Rattle.cfs_model.proofs.Moves.{put-same, put-other, same_or_not}
use Rattle.cfs_model.proofs.KeptOrder.{IsApart, same_sets, apart_values}
use Rattle.cfs_model.specs.declared.nice_line.NiceLine.{NiceLine}

-- all but the nice values is as it was
pub reniced_is : (cpu : ℕ) (change : Option NiceLine) (m after : Machine) → IsReniced cpu change m after
    → after ≡ record m { nice = after.nice }
reniced_is cpu None m after r = r ∙ ap (λ f. record m { nice = f }) (ap (λ (x : Machine). x.nice) (sym r))
reniced_is cpu (Some change) m after r = r.1 ∙ ap (λ f. record m { nice = f }) (ap (λ (x : Machine). x.nice) (sym r.1))

-- there is one machine after a change
pub one_reniced : (cpu : ℕ) (change : Option NiceLine) (m after other : Machine) → IsReniced cpu change m after
    → IsReniced cpu change m other → after ≡ other
one_reniced cpu None m after other a b = a ∙ sym b
one_reniced cpu (Some change) m after other a b = a.1 ∙ sym b.1

-- the same pids have a nice value
pub reniced_keys : (cpu : ℕ) (change : Option NiceLine) (m after : Machine) → IsReniced cpu change m after → IsApart m
    → (pid : ℕ) → is_some (after.nice pid) ≡ is_some (m.nice pid)
reniced_keys cpu None m after r a pid = ap (λ (x : Machine). is_some (x.nice pid)) r
reniced_keys cpu (Some change) m after r a pid = ap (λ (x : Machine). is_some (x.nice pid)) r.1
    ∙ go (same_or_not pid change.pid)
  where
    go : (pid ≡ change.pid) ⊎ (pid ≢ change.pid)
        → is_some ((with_nice m change.pid change.nice).nice pid) ≡ is_some (m.nice pid)
    go (inl e) =
        ap is_some (ap (with_nice m change.pid change.nice).nice e ∙ put-same m.nice change.pid (Some change.nice))
        ∙ sym (ap (λ p. is_some (m.nice p)) e ∙ (a.nices change.pid).1 (r.0.0, cpu, r.0.1))
    go (inr ne) = ap is_some (put-other m.nice change.pid (Some change.nice) pid ne)

-- a change keeps the order
pub reniced_apart : (cpu : ℕ) (change : Option NiceLine) (m after : Machine) → IsReniced cpu change m after → IsApart m
    → IsApart after
reniced_apart cpu change m after r a =
    let is = reniced_is cpu change m after r in
    apart_values m after
    (same_sets m after (ap (λ (x : Machine). x.running) is) (ap (λ (x : Machine). x.waiting) is)
    (ap (λ (x : Machine). x.resting) is))
    (λ pid. ap (λ (x : Machine). is_some (x.runtime pid)) is) (reniced_keys cpu change m after r a) a

-- and the range
pub reniced_range : (cpu : ℕ) (change : Option NiceLine) (m after : Machine) → IsReniced cpu change m after
    → AreValuesInRange m → AreValuesInRange after
reniced_range cpu change m after r range = subst AreValuesInRange (sym (reniced_is cpu change m after r))
    (record { runtimes = range.runtimes; floors = range.floors })
