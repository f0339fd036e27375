-- By one step more what is needed of a setting rises, or stays as it was.
use Rattle.std.proofs.Common.{◌≡◌, ℕ, zero, suc, ◌+◌, ◌<◌, ◌≤◌, max, [], ◌∷◌, ◌++◌, append_assoc}
use Rattle.std.proofs.Common.{refl, sym, ap, ◌∙◌, subst, arith}
use Rattle.std.proofs.Math.Nat.{zero-max}
use Rattle.cfs_model.specs.Knobs.{KnobsView, value_at}
use Rattle.cfs_model.specs.Least.{larger}
use Rattle.cfs_model.specs.declared.setting.Setting.{Setting}
use Rattle.cfs_model.specs.declared.setting.Setting.TheVariants.{Granularity, Credit, Debit, Slack, Drift}
use Rattle.replay_model.specs.Needs.{only_slack}
use Rattle.replay_model.specs.Page.{ReplayStateView}
use Rattle.cfs_model.proofs.LeastSettings.{larger_nothing, larger_of_three, same_settings}
use Rattle.window_laws.proofs.NeedsAppended.{needs_append}
use Rattle.need_laws.specs.Rising.{RisesByNext, StaysByNext}

-- the value of the larger of two
pub larger_at : (one other : KnobsView) (which : Setting)
    → value_at (larger one other) which ≡ max (value_at one which) (value_at other which)
larger_at one other Granularity = refl
larger_at one other Credit = refl
larger_at one other Debit = refl
larger_at one other Slack = refl
larger_at one other Drift = refl

pub no_slack_at : (which : Setting) → value_at (only_slack 0) which ≡ 0
no_slack_at Granularity = refl
no_slack_at Credit = refl
no_slack_at Debit = refl
no_slack_at Slack = refl
no_slack_at Drift = refl

-- nothing more is the same
pub larger_none : (needs : KnobsView) → larger needs (only_slack 0) ≡ needs
larger_none needs = sym (larger_nothing needs) ∙ same_settings (larger (only_slack 0) needs) needs each
  where
    each : (which : Setting) → value_at (larger (only_slack 0) needs) which ≡ value_at needs which
    each Granularity = zero-max needs.granularity
    each Credit = zero-max needs.credit
    each Debit = zero-max needs.debit
    each Slack = zero-max needs.slack
    each Drift = zero-max needs.drift

-- the numbers of a rise
record Rise (a h m : ℕ) : Type 0 where
  bound : ℕ
  above : max h m ≡ bound + 1
  had : a ≤ bound
  here : h ≤ bound
  more : m ≡ bound + 1

rise_of : (a h m : ℕ) → max a h < max (max a h) m → Rise a h m
rise_of a h zero k = absurd (omega arith)
rise_of a h (suc m) k = record {
  bound = m;
  above = omega arith;
  had = omega arith;
  here = omega arith;
  more = omega arith;
}

stay_none : (a h m : ℕ) → max (max a h) m ≤ max a h → h ≤ a → max h m ≤ a
stay_none a h m k l = omega arith

stay_some : (a h m bound : ℕ) → max (max a h) m ≤ max a h → h ≡ bound + 1 → a ≤ bound → max h m ≡ bound + 1
stay_some a h m bound k e l = omega arith

pub rises_by_next : RisesByNext
rises_by_next knobs cpu from mid ends steps step had here more which p q k =
    let n = rise_of (value_at had which) (value_at here which) (value_at more which)
    (subst (λ x. max (value_at had which) (value_at here which) < x)
    (larger_at (larger had here) more which ∙ ap (λ x. max x (value_at more which)) (larger_at had here which))
    (subst (λ x. x < value_at (larger (larger had here) more) which) (larger_at had here which) k)) in
    let own : value_at q.1 which ≡ value_at more which =
    sym (ap (λ x. value_at x which) q.5 ∙ larger_at q.1 q.2 which
    ∙ ap (λ (x : KnobsView). max (value_at q.1 which) (value_at x which)) q.4.1
    ∙ ap (max (value_at q.1 which)) (no_slack_at which) ∙ max_zero (value_at q.1 which)) in
    record {
      bound = n.bound;
      above = larger_at here more which ∙ n.above;
      enough = n.had;
      reaches = record {
        front = steps;
        back = [];
        whole = refl;
        mid = mid;
        next = q.0;
        before = here;
        here = q.1;
        later = q.2;
        passes_before = p;
        passes = q.3;
        passes_later = q.4;
        needs_are = ap (larger here) q.5;
        within = n.here;
        above = (let m = n.more in omega (arith, own, m));
      };
      since_is = refl;
      left_is = ap (λ (s : ReplayStateView). s.part) q.4.0;
    }
  where
    max_zero : (n : ℕ) → max n 0 ≡ n
    max_zero n = omega arith

pub stays_by_next : StaysByNext
stays_by_next knobs cpu from mid ends steps step had here more which q k = (
  (λ none. subst (λ x. x ≤ value_at had which) (sym (larger_at here more which))
      (stay_none (value_at had which) (value_at here which) (value_at more which) least none)),
  (λ earlier since left r. record {
    bound = r.bound;
    above = larger_at here more which
        ∙ stay_some (value_at had which) (value_at here which) (value_at more which) r.bound least r.above r.enough;
    enough = r.enough;
    reaches = record {
      front = r.reaches.front;
      back = r.reaches.back ++ step ∷ [];
      whole = ap (λ xs. xs ++ step ∷ []) r.reaches.whole
          ∙ append_assoc r.reaches.front (earlier ∷ r.reaches.back) (step ∷ []);
      mid = r.reaches.mid;
      next = r.reaches.next;
      before = r.reaches.before;
      here = r.reaches.here;
      later = larger r.reaches.later more;
      passes_before = r.reaches.passes_before;
      passes = r.reaches.passes;
      passes_later = needs_append knobs cpu r.reaches.next mid ends r.reaches.back (step ∷ []) r.reaches.later more
          r.reaches.passes_later q;
      needs_are = ap (λ x. larger x more) r.reaches.needs_are
          ∙ larger_of_three r.reaches.before (larger r.reaches.here r.reaches.later) more
          ∙ ap (larger r.reaches.before) (larger_of_three r.reaches.here r.reaches.later more);
      within = r.reaches.within;
      above = r.reaches.above;
    };
    since_is = r.since_is;
    left_is = r.left_is;
  }),
)
  where
    least : max (max (value_at had which) (value_at here which)) (value_at more which)
        ≤ max (value_at had which) (value_at here which)
    least = subst (λ x. x ≤ max (value_at had which) (value_at here which))
        (larger_at (larger had here) more which ∙ ap (λ x. max x (value_at more which)) (larger_at had here which))
        (subst (λ x. value_at (larger (larger had here) more) which ≤ x) (larger_at had here which) k)
