-- Settings but for a nanosecond less of one.
use Rattle.std.proofs.Common.{ℕ, ◌<◌, ◌≤◌, ◌-◌, min, arith}
use Rattle.cfs_model.specs.Knobs.{KnobsView, value_at}
use Rattle.cfs_model.specs.Least.{AtMost, lesser}
use Rattle.cfs_model.specs.declared.setting.Setting.{Setting}
use Rattle.cfs_model.specs.declared.setting.Setting.TheVariants.{Granularity, Credit, Debit, Slack, Drift}
use Rattle.least_places.specs.Place.{one_less}

fewer : (n : ℕ) → 0 < n → n - 1 < n
fewer n h = omega arith

-- there is less of the setting
pub is_less : (knobs : KnobsView) (which : Setting) → 0 < value_at knobs which
    → value_at (one_less knobs which) which < value_at knobs which
is_less knobs Granularity some = fewer knobs.granularity some
is_less knobs Credit some = fewer knobs.credit some
is_less knobs Debit some = fewer knobs.debit some
is_less knobs Slack some = fewer knobs.slack some
is_less knobs Drift some = fewer knobs.drift some

each_at_most : (less more : KnobsView) → less.granularity ≤ more.granularity → less.credit ≤ more.credit
    → less.debit ≤ more.debit → less.slack ≤ more.slack → less.drift ≤ more.drift → AtMost less more
each_at_most less more g c d s t Granularity = g
each_at_most less more g c d s t Credit = c
each_at_most less more g c d s t Debit = d
each_at_most less more g c d s t Slack = s
each_at_most less more g c d s t Drift = t

below : (a b : ℕ) → a < b → min a b ≤ b - 1
below a b h = omega arith

right : (a b : ℕ) → min a b ≤ b
right a b = omega arith

-- the lesser of these settings and of others with less of the one is at most them
pub lesser_at_most : (other knobs : KnobsView) (which : Setting) → value_at other which < value_at knobs which
    → AtMost (lesser other knobs) (one_less knobs which)
lesser_at_most other knobs Granularity h =
    each_at_most (lesser other knobs) (one_less knobs Granularity) (below other.granularity knobs.granularity h)
    (right other.credit knobs.credit) (right other.debit knobs.debit) (right other.slack knobs.slack)
    (right other.drift knobs.drift)
lesser_at_most other knobs Credit h =
    each_at_most (lesser other knobs) (one_less knobs Credit) (right other.granularity knobs.granularity)
    (below other.credit knobs.credit h) (right other.debit knobs.debit) (right other.slack knobs.slack)
    (right other.drift knobs.drift)
lesser_at_most other knobs Debit h =
    each_at_most (lesser other knobs) (one_less knobs Debit) (right other.granularity knobs.granularity)
    (right other.credit knobs.credit) (below other.debit knobs.debit h) (right other.slack knobs.slack)
    (right other.drift knobs.drift)
lesser_at_most other knobs Slack h =
    each_at_most (lesser other knobs) (one_less knobs Slack) (right other.granularity knobs.granularity)
    (right other.credit knobs.credit) (right other.debit knobs.debit) (below other.slack knobs.slack h)
    (right other.drift knobs.drift)
lesser_at_most other knobs Drift h =
    each_at_most (lesser other knobs) (one_less knobs Drift) (right other.granularity knobs.granularity)
    (right other.credit knobs.credit) (right other.debit knobs.debit) (right other.slack knobs.slack)
    (below other.drift knobs.drift h)
