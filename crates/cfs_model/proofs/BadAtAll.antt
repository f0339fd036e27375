-- What is no run at the greatest settings is none at any in range, since more generous settings keep a run.
use Rattle.std.proofs.Common.{ℕ, ◌≤◌, [], ◌∷◌, ◌++◌, arith}
use Rattle.cfs_model.specs.Knobs.{KnobsView, AreInRange, value_at}
use Rattle.cfs_model.specs.Least.{AtMost, greatest_settings}
use Rattle.cfs_model.specs.declared.setting.Setting.TheVariants.{Granularity, Credit, Debit, Slack, Drift}
use Rattle.cfs_model.specs.Laws.{GreatestTellBadAtAll}
use Rattle.cfs_model.proofs.MoreGenerous.{run_more}

within_greatest : (knobs : KnobsView) → AreInRange knobs → AtMost knobs greatest_settings
within_greatest knobs range Granularity = range.0
within_greatest knobs range Credit = range.1.0
within_greatest knobs range Debit = range.1.1.0
within_greatest knobs range Slack = range.1.1.1.0
within_greatest knobs range Drift = range.1.1.1.1.0

-- the greatest settings bound the range
pub at_most_greatest : (knobs : KnobsView) → AtMost knobs greatest_settings → AreInRange knobs
at_most_greatest knobs most = (most Granularity, (most Credit, (most Debit, (most Slack, (most Drift, tt)))))

at_most_itself : (n : ℕ) → n ≤ n
at_most_itself n = omega arith

pub bad_at_all : GreatestTellBadAtAll
bad_at_all start first events line bad = record {
  before = bad.before;
  event = bad.event;
  rest = bad.rest;
  whole = bad.whole;
  line_is = bad.line_is;
  runs = (
    greatest_settings,
    at_most_greatest greatest_settings (λ which. at_most_itself (value_at greatest_settings which)),
    bad.runs,
  );
  ends = λ knobs range run. bad.ends (run_more knobs greatest_settings start first
      (bad.before ++ bad.event ∷ []) (within_greatest knobs range) run);
}
