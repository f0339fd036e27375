-- Until when the pages' processors could idle (this project's profile).
use Rattle.std.specs.Prelude.{◌≡◌, ℕ, ◌<◌, ◌≤◌, true, List, length, nat_lt, Bool, false, Option, Some, None}
use Rattle.std.specs.Prelude.{option_and_then, ⊤}
use Rattle.replay_model.specs.Noted.{PageView}
use Rattle.ticket_book.specs.Told.{view_at}

-- until when the processor could idle, where its page's fault is that it idled for longer
abbrev pub deadline_on : PageView → Option ℕ
deadline_on page = option_and_then (λ fault. fault.deadline) page.fault

-- the deadline is before this time
abbrev pub is_past : ℕ → Option ℕ → Bool
is_past time None = false
is_past time (Some deadline) = nat_lt deadline time

-- a deadline isn't before the first
abbrev pub IsFrom : Option ℕ → Option ℕ → Type 0
IsFrom first None = ⊤
IsFrom None (Some deadline) = ⊥
IsFrom (Some first) (Some deadline) = first ≤ deadline

-- of the first so many processors none has an earlier deadline
abbrev pub NoneFirst : List PageView → Option ℕ → ℕ → Type 0
NoneFirst pages first count = (cpu : ℕ) → cpu < count → IsFrom first (deadline_on (view_at pages cpu))

-- of the first so many processors none has its deadline before this time
abbrev pub NoneLate : List PageView → ℕ → ℕ → Type 0
NoneLate pages time count = (cpu : ℕ) → cpu < count → is_past time (deadline_on (view_at pages cpu)) ≡ false

-- this is the lowest processor that has
pub record IsFirstLate (pages : List PageView) (time cpu : ℕ) : Type 0 where
  pub within : cpu < length pages
  pub late : is_past time (deadline_on (view_at pages cpu)) ≡ true
  pub lowest : NoneLate pages time cpu
